-- The clauses of chains: a chain's own, and those of the chains that go on from it.
use Rattle.std.proofs.Common.{◌≡◌, ℕ, zero, suc, ◌+◌, ◌-◌, ◌<◌, ◌≤◌, Bool, true, false, not, ◌&&◌, if◌then◌else◌, nat_lt, List, [], ◌∷◌, ◌++◌, map, flat_map, length, drop, get_or, refl, sym, ap, ◌∙◌, arith, le-leb, leb-true}
use Rattle.std.specs.Prelude.{All}
use Rattle.std.proofs.lemmas.List.Elements.{All-append}
use Rattle.std.proofs.lemmas.Grind.{flat_map-append}
use Rattle.std.proofs.lemmas.List.Sums.{sum_by_push}
use Rattle.rail_base.specs.declared.station.Station.{Station}
use Rattle.rail_base.specs.declared.station.TrainNo.{TrainNo}
use Rattle.rail_base.specs.declared.route.Route.{Route}
use Rattle.rail_base.specs.declared.route.RouteNo.{RouteNo}
use Rattle.rail_base.specs.declared.plan.Command.{Command}
use Rattle.rail_base.specs.Numbering.{one_to}
use Rattle.rail_base.specs.Routes.{IsRoute}
use Rattle.rail_spec.specs.Plans.{route_at, exits, length_mm}
use Rattle.clause_spec.specs.Clauses.{onward, chain_length, clearing}
use Rattle.plan_encoding.specs.Families.{waiting}
use Rattle.plan_encoding.specs.Waiting.{waits_over}
use Rattle.std.proofs.Common.{cond, ◌||◌, ◌==◌, eqb, eqb-true, ap₂, subst, filter}
use Rattle.std.specs.List.{list_any}
use Rattle.rail_base.specs.Members.{In}
use Rattle.rail_base.proofs.Lists.{in_filter_back}
use Rattle.rail_base.specs.declared.route.Start.{Start}
use Rattle.rail_base.specs.declared.route.Start.TheVariants as start
use Rattle.rail_base.specs.declared.route.Finish.{Finish}
use Rattle.rail_base.specs.declared.route.Finish.TheVariants as finish
use Rattle.rail_spec.specs.Plans.{goes_on, is_start, route_numbers}
use Rattle.plan_encoding.specs.Tables.{going_on}
use Rattle.std.proofs.Common.{Vec, Global, inl}
use Rattle.std.specs.Prelude.{Result, Ok, Err, IfOk}
use Rattle.std.specs.declared.alloc.AllocError.{AllocError}
use Rattle.live_clause_spec.specs.Listed.{live_chains, live_onward, live_wait_clause, live_waits}
use Rattle.plan_encoding.specs.declared.encoder.Encoder.{Encoder}
use Rattle.plan_encoding.specs.Encoders.{HasCommands, IsCommand}
use Rattle.plan_encoding.proofs.Tabled.{filter_both, route_known}
use Rattle.plan_encoding.proofs.Emission.{Next}
use Rattle.std.proofs.lemmas.List.{drop_more}

pub one_longer : (table : List Route) (before : List RouteNo) (w : RouteNo) → chain_length table (before ++ w ∷ []) ≡ chain_length table before + length_mm (route_at table w)
one_longer table before w = sum_by_push (λ v. length_mm (route_at table v)) before w

module _ (live : Command → Bool) (table : List Route) (t : TrainNo) (bound : ℕ) (before : List RouteNo) (w : RouteNo) where
  stop_at : (more : ℕ) → (not (exits (route_at table w)) && nat_lt (chain_length table (before ++ w ∷ [])) bound) ≡ false → live_chains live table t more bound before w ≡ []
  stop_at zero h = refl
  stop_at (suc more) h = ap (λ b. if b then (before ++ w ∷ [], w) ∷ flat_map (live_chains live table t more bound (before ++ w ∷ [])) (live_onward live table t (before ++ w ∷ []) w) else []) h

  pub stop_exit : (more : ℕ) → exits (route_at table w) ≡ true → live_chains live table t more bound before w ≡ []
  stop_exit more h = stop_at more (ap (λ b. not b && nat_lt (chain_length table (before ++ w ∷ [])) bound) h)

  pub stop_long : (more : ℕ) → bound ≤ chain_length table before + length_mm (route_at table w) → live_chains live table t more bound before w ≡ []
  stop_long more h = stop_at more (go (not (exits (route_at table w))) (nat_lt (chain_length table (before ++ w ∷ [])) bound) refl)
    where
      go : (a b : Bool) → nat_lt (chain_length table (before ++ w ∷ [])) bound ≡ b → (a && b) ≡ false
      go true true p = let k = leb-true _ _ p in let l = one_longer table before w in absurd (omega arith)
      go true false p = refl
      go false b p = refl

  pub go_on : (more : ℕ) → 1 ≤ more → exits (route_at table w) ≡ false → chain_length table before + length_mm (route_at table w) < bound
      → live_chains live table t more bound before w ≡ (before ++ w ∷ [], w) ∷ flat_map (live_chains live table t (more - 1) bound (before ++ w ∷ [])) (live_onward live table t (before ++ w ∷ []) w)
  go_on zero p x l = absurd (omega arith)
  go_on (suc more) p x l =
      ap (λ b. if b then (before ++ w ∷ [], w) ∷ flat_map (live_chains live table t more bound (before ++ w ∷ [])) (live_onward live table t (before ++ w ∷ []) w) else []) (yes_both x (le-leb _ _ (let k = one_longer table before w in omega arith)))
      ∙ ap (λ m. (before ++ w ∷ [], w) ∷ flat_map (live_chains live table t m bound (before ++ w ∷ [])) (live_onward live table t (before ++ w ∷ []) w)) (back more)
    where
      back : (m : ℕ) → m ≡ suc m - 1
      back m = omega arith

      yes_both : {a b : Bool} → a ≡ false → b ≡ true → (not a && b) ≡ true
      yes_both p q = grind arith

module _ (live : Command → Bool) (d : Station) (table : List Route) (n : ℕ) (e c : Command) where
  -- what is said of a chain, and then of those that go on from it
  pub next_chain : (bound more : ℕ) (before chain ws : List RouteNo) (w : RouteNo) → 1 ≤ more → exits (route_at table w) ≡ false → chain_length table before + length_mm (route_at table w) < bound → chain ≡ before ++ w ∷ [] → ws ≡ live_onward live table e.train chain w
      → Next (waits_over live d table n e c (live_chains live table e.train more bound before w)) (map (waiting e c chain ws) (one_to (n - 1))) (waits_over live d table n e c (flat_map (live_chains live table e.train (more - 1) bound (before ++ w ∷ [])) ws))
  next_chain bound more before chain ws w p x l is all = record {
    is =
        ap (waits_over live d table n e c) (go_on live table e.train bound before w more p x l ∙ (ap (λ vs. (before ++ w ∷ [], w) ∷ flat_map (live_chains live table e.train (more - 1) bound (before ++ w ∷ [])) vs) (sym (all ∙ ap (λ ch. live_onward live table e.train ch w) is)) ∙ ap (λ ch. (ch, w) ∷ flat_map (live_chains live table e.train (more - 1) bound (before ++ w ∷ [])) ws) (sym is)))
        ∙ ap (λ vs. map (waiting e c chain vs) (one_to (n - 1)) ++ waits_over live d table n e c (flat_map (live_chains live table e.train (more - 1) bound (before ++ w ∷ [])) ws)) (sym all);
  }

  -- what is said of the chains that go on with one route, and then of the others
  pub next_further : (bound more : ℕ) (long chain ws : List RouteNo) (i : ℕ) (other : RouteNo) → chain ≡ long → i < length ws
      → Next (waits_over live d table n e c (flat_map (live_chains live table e.train more bound long) (drop i ws))) (waits_over live d table n e c (live_chains live table e.train more bound chain (get_or ws i other))) (waits_over live d table n e c (flat_map (live_chains live table e.train more bound long) (drop (i + 1) ws)))
  next_further bound more long chain ws i other is h = record {
    is =
        ap (λ vs. waits_over live d table n e c (flat_map (live_chains live table e.train more bound long) vs)) (drop_more ws i other h)
        ∙ (flat_map-append (λ ch. map (live_wait_clause live d table n e c ch) (one_to (n - 1))) (live_chains live table e.train more bound long (get_or ws i other)) (flat_map (live_chains live table e.train more bound long) (drop (i + 1) ws))
        ∙ ap (λ ch. waits_over live d table n e c (live_chains live table e.train more bound ch (get_or ws i other)) ++ waits_over live d table n e c (flat_map (live_chains live table e.train more bound long) (drop (i + 1) ws))) (sym is));
  }

-- one more route of the train's commands
pub all_longer : (f : Encoder) (t : TrainNo) (before : List RouteNo) (w : RouteNo) → HasCommands f t before → IsCommand f (record { train = t; route = w }) → HasCommands f t (before ++ w ∷ [])
all_longer f t before w h k = All-append (λ r. IsCommand f (record { train = t; route = r })) before (w ∷ []) h one
  where
    one : (i : ℕ) (x : RouteNo) → i < 1 → IsCommand f (record { train = t; route = get_or (w ∷ []) i x })
    one zero x l = k
    one (suc i) x l = absurd (omega arith)

-- routes of commands are in the table
pub in_table : (f : Encoder) (t : TrainNo) (rs : List RouteNo) → HasCommands f t rs → All (IsRoute f.interlocking.now.routes) rs
in_table f t rs h = λ i x l. (h i x l).route

module _ (live : Command → Bool) (d : Station) (table : List Route) where
  -- with one step a chain has no clause
  pub no_waits : (ps : List (Command × Command)) → flat_map (live_waits live d table 1) ps ≡ []
  no_waits [] = refl
  no_waits (p ∷ ps) = ap (λ xs. xs ++ flat_map (live_waits live d table 1) ps) (none p.0 p.1 (live_chains live table p.0.train (length table) (clearing d table 1 p.0 p.1) [] p.0.route)) ∙ no_waits ps
    where
      none : (e c : Command) (chs : List (List RouteNo × RouteNo)) → waits_over live d table 1 e c chs ≡ []
      none e c [] = refl
      none e c (x ∷ chs) = none e c chs

  -- nor has any where the first command's route exits
  pub no_waits_for : (n : ℕ) (e : Command) (rivals : List Command) → exits (route_at table e.route) ≡ true → flat_map (live_waits live d table n) (map (λ c. (e, c)) rivals) ≡ []
  no_waits_for n e [] h = refl
  no_waits_for n e (c ∷ cs) h =
      ap (λ xs. xs ++ flat_map (live_waits live d table n) (map (λ c. (e, c)) cs)) (ap (waits_over live d table n e c) (stop_exit live table e.train (clearing d table n e c) [] e.route (length table) h))
      ∙ no_waits_for n e cs h

  -- nor where there is no rival
  pub no_waits_of_none : (n : ℕ) (e : Command) (rivals : List Command) → (length rivals == 0) ≡ true → flat_map (live_waits live d table n) (map (λ c. (e, c)) rivals) ≡ []
  no_waits_of_none n e [] h = refl
  no_waits_of_none n e (c ∷ cs) h = let l = eqb-true (suc (length cs)) 0 h in absurd (omega arith)

-- ---- with which routes a chain goes on

abbrev no_routes : List RouteNo
no_routes = []

-- routes that go on from one place start at one place
one_start : (f : Finish) (s t v : Start) → goes_on f s ≡ true → goes_on f t ≡ true → is_start v s ≡ is_start v t
one_start (finish.Signal a) (start.Signal b) (start.Signal c) (start.Signal q) h k = let e = eqb-true a.0 b.0 h in let f = eqb-true a.0 c.0 k in ap (λ m. eqb q.0 m) (sym e ∙ f)
one_start (finish.Signal a) (start.Signal b) (start.Signal c) (start.Boundary q) h k = refl
one_start (finish.Signal a) (start.Boundary b) t v h k = absurd (cc)
one_start (finish.Signal a) (start.Signal b) (start.Boundary c) v h k = absurd (cc)
one_start (finish.Exit m) s t v h k = absurd (cc)
one_start (finish.DeadEnd m) s t v h k = absurd (cc)

module _ (table : List Route) (chain : List RouteNo) (last : RouteNo) where
  abbrev goes : RouteNo → Bool
  goes w = goes_on (route_at table last).finish (route_at table w).start

  abbrev met : RouteNo → Bool
  met w = list_any (λ v. is_start (route_at table v).start (route_at table w).start) chain

  one_met : (w x : RouteNo) → goes w ≡ true → goes x ≡ true → met w ≡ met x
  one_met w x h k = go chain
    where
      go : (vs : List RouteNo) → list_any (λ v. is_start (route_at table v).start (route_at table w).start) vs ≡ list_any (λ v. is_start (route_at table v).start (route_at table x).start) vs
      go [] = refl
      go (v ∷ vs) = ap₂ (λ a b. a || b) (one_start (route_at table last).finish (route_at table w).start (route_at table x).start (route_at table v).start h k) (go vs)

  -- all that go on from the last route are as one of them is
  all_as_one : (x : RouteNo) → goes x ≡ true → (b : Bool) → met x ≡ b → (ws : List RouteNo) → filter (λ w. not (met w)) (filter goes ws) ≡ cond b [] (filter goes ws)
  all_as_one x k b e [] = sides b
    where
      sides : (b : Bool) → no_routes ≡ cond b no_routes no_routes
      sides true = refl
      sides false = refl
  all_as_one x k b e (w ∷ ws) = go (goes w) refl (all_as_one x k b e ws)
    where
      here : (b : Bool) → met w ≡ b → filter (λ w. not (met w)) (filter goes ws) ≡ cond b [] (filter goes ws) → cond (not (met w)) (w ∷ filter (λ w. not (met w)) (filter goes ws)) (filter (λ w. not (met w)) (filter goes ws)) ≡ cond b [] (w ∷ filter goes ws)
      here true f r = ap (λ m. cond (not m) (w ∷ filter (λ w. not (met w)) (filter goes ws)) (filter (λ w. not (met w)) (filter goes ws))) f ∙ r
      here false f r = ap (λ m. cond (not m) (w ∷ filter (λ w. not (met w)) (filter goes ws)) (filter (λ w. not (met w)) (filter goes ws))) f ∙ ap (λ vs. w ∷ vs) r

      go : (g : Bool) → goes w ≡ g → filter (λ w. not (met w)) (filter goes ws) ≡ cond b [] (filter goes ws) → filter (λ w. not (met w)) (cond g (w ∷ filter goes ws) (filter goes ws)) ≡ cond b [] (cond g (w ∷ filter goes ws) (filter goes ws))
      go true h r = here b (one_met w x h k ∙ e) r
      go false h r = r

  -- none goes on
  pub onward_none : going_on table last ≡ [] → onward table chain last ≡ []
  onward_none e = sym (filter_both goes (λ w. not (met w)) (route_numbers table)) ∙ ap (filter (λ w. not (met w))) e

  -- all go on, or none does, as the first of them
  pub onward_is : (row : List RouteNo) (x : RouteNo) (b : Bool) → row ≡ going_on table last → In x row → b ≡ met x → onward table chain last ≡ cond b [] row
  onward_is row x b e m f =
      let k = (in_filter_back goes (route_numbers table) x (subst (λ rs. In x rs) e m)).1 in
      sym (filter_both goes (λ w. not (met w)) (route_numbers table)) ∙ (all_as_one x k b (sym f) (route_numbers table) ∙ ap (cond b []) (sym e))

-- the first of a list is in it
pub first_in : {X : Type 0} (xs : List X) (x : X) → (0 < length xs) × ((d : X) → x ≡ get_or xs 0 d) → In x xs
first_in [] x h = absurd (let l = h.0 in omega arith)
first_in (y ∷ ys) x h = inl (sym (h.1 x))

pub none_within : {X : Type 0} (xs : List X) → length xs ≤ 0 → xs ≡ []
none_within [] h = refl
none_within (x ∷ xs) h = absurd (omega arith)

-- the first route that goes on is one of the table
pub first_known : (table : List Route) (row : List RouteNo) (x last : RouteNo) → row ≡ going_on table last → (0 < length row) × ((d : RouteNo) → x ≡ get_or row 0 d) → IsRoute table x
first_known table row x last e h = route_known table x (in_filter_back (goes table [] last) (route_numbers table) x (subst (λ rs. In x rs) e (first_in row x h))).0

-- a list that is another one's copy
pub taken : (r : Result (Vec RouteNo Global) AllocError) (row all : List RouteNo) → IfOk r (λ v. v.items ≡ row) → row ≡ all → IfOk r (λ v. v.items ≡ all)
taken (Ok v) row all h e = h ∙ e
taken (Err x) row all h e = tt
