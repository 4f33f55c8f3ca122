-- The clauses of normal plans, and the commands that can keep one from a step.
use Rattle.live_clause_spec.specs.Variables.{live_numbered}
use Rattle.std.proofs.Common.{◌≡◌, ℕ, zero, suc, ◌+◌, ◌-◌, ◌≤◌, ◌⊎◌, inl, inr, Bool, true, false, cond, not, ◌&&◌, ◌==◌, if◌then◌else◌, List, [], ◌∷◌, ◌++◌, map, filter, flat_map, length, refl, sym, ap, ap₂, subst, ◌∙◌, arith, eq-eqb, eqb-true}
use Rattle.std.specs.Prelude.{All}
use Rattle.std.proofs.lemmas.List.{map-append}
use Rattle.sat_clause.specs.declared.lit.Lit.{Lit}
use Rattle.rail_base.specs.declared.station.Station.{Station}
use Rattle.rail_base.specs.declared.route.Route.{Route}
use Rattle.rail_base.specs.declared.route.RouteNo.{RouteNo}
use Rattle.rail_base.specs.declared.plan.Command.{Command}
use Rattle.rail_base.specs.Members.{In}
use Rattle.rail_base.specs.Numbering.{one_to}
use Rattle.rail_base.specs.Stations.{trains}
use Rattle.rail_base.proofs.Members.{false_unless}
use Rattle.rail_base.proofs.Lists.{in_append, in_map_back, in_filter_back}
use Rattle.rail_spec.specs.Plans.{all_commands, commands_of, goes_on, is_train, route_at, route_numbers}
use Rattle.clause_spec.specs.Variables.{Given, Literal, if_given, no, numbered}
use Rattle.clause_spec.specs.Clauses.{leading_to}
use Rattle.command_set.proofs.Lists.{filter_parts}
use Rattle.normal_clause_spec.specs.Variables.{is_in, is_not_in, normal_numbered, of_base}
use Rattle.normal_clause_spec.specs.Clauses.{can_keep, exactly, keepers, kept, leaders, normal_clauses, not_before}
use Rattle.route_keepers.specs.Keepers.{keepers_of}
use Rattle.plan_encoding.specs.declared.encoder.Encoder.{Encoder}
use Rattle.clause_spec.proofs.Places.{command_from, train_in}
use Rattle.plan_encoding.proofs.Over.{if_given_as, no_as, of_design}
use Rattle.plan_encoding.specs.Encoders.{among, commands, IsCommand, over, station, table, written}
use Rattle.plan_encoding.specs.Normal.{all_exact, all_kept, before_it, commands_on, new_clause, normal_written}
use Rattle.plan_encoding.proofs.Tabled.{all_by_members, command_known}

-- ---- clauses of a command and a step

module _ (d : Station) (routes : List Route) (n : ℕ) where
  -- literals of the base keep their numbers
  based : (ls : List Literal) → map (normal_numbered d routes n) (map of_base ls) ≡ map (numbered d routes n) ls
  based [] = refl
  based (l ∷ ls) = ap (λ ms. numbered d routes n l ∷ ms) (based ls)

  pub not_before_is : (c : Command) (i : ℕ) → 1 ≤ i → (i ≡ 1 → ⊥) → not_before d routes n c (i - 1) ≡ (is_not_in c i ∷ of_base (no (Given c (i - 1))) ∷ []) ∷ []
  not_before_is c zero a b = absurd (omega arith)
  not_before_is c (suc zero) a b = absurd (b refl)
  not_before_is c (suc (suc i)) a b =
      let e : suc (suc i) - 1 ≡ suc i = omega arith in
      ap (not_before d routes n c) e ∙ sym (ap (λ m. (is_not_in c (suc (suc i)) ∷ of_base (no (Given c m)) ∷ []) ∷ []) e)

-- the literals of the clause that a command given by a step, and not by the one before, is given in it
pub new_is : (f : Encoder) → commands f ≡ all_commands (station f) (table f) → (c : Command) (i : ℕ) → IsCommand f c → (start one two all : List Lit) (a z : Lit) → start ≡ [] → one ≡ start ++ a ∷ [] → two ≡ one ++ written f (if_given c (i - 1)) → all ≡ two ++ z ∷ []
    → a ≡ among f live_numbered (no (Given c i)) → z ≡ over f normal_numbered (is_in c i) → all ≡ normal_written f (new_clause c i)
new_is f every c i known start one two all a z s e g h j k =
    let m = of_design f c known in
    h ∙ (ap (λ xs. xs ++ z ∷ []) (g ∙ ap (λ xs. xs ++ written f (if_given c (i - 1))) (e ∙ ap (λ xs. xs ++ a ∷ []) s))
    ∙ (ap₂ (λ x y. x ∷ written f (if_given c (i - 1)) ++ y ∷ []) (j ∙ no_as f every c i m) k
    ∙ (ap (λ xs. over f numbered (no (Given c i)) ∷ xs ++ over f normal_numbered (is_in c i) ∷ []) (if_given_as f every c (i - 1) m)
    ∙ sym (ap (λ xs. over f numbered (no (Given c i)) ∷ xs) (map-append (over f normal_numbered) (map of_base (if_given c (i - 1))) (is_in c i ∷ []) ∙ ap (λ xs. xs ++ over f normal_numbered (is_in c i) ∷ []) (based (station f) (table f) f.steps.count (if_given c (i - 1))))))))

-- ---- keepers

module _ (routes : List Route) (c : Command) where
  abbrev keeps : Command → Bool
  keeps e = not (is_train e.train c.train) && can_keep routes c.route e.route

  abbrev made : ℕ → RouteNo → Command
  made t r = record { train = record { 0 = t }; route = r }

  -- the commands of a train that can keep this one from a section, by the routes of its row: none of its own train
  abbrev pub keepers_on : List RouteNo → ℕ → List Command
  keepers_on row t = if t == c.train.0 then [] else commands_on (record { 0 = t }) row

  pub keepers_own : (row : List RouteNo) (t : ℕ) → t ≡ c.train.0 → keepers_on row t ≡ []
  keepers_own row t h = ap (λ (b : Bool). if b then [] else commands_on (record { 0 = t }) row) (eq-eqb t c.train.0 h)

  pub keepers_others : (row : List RouteNo) (t : ℕ) → (t ≡ c.train.0 → ⊥) → keepers_on row t ≡ commands_on (record { 0 = t }) row
  keepers_others row t h = ap (λ (b : Bool). if b then [] else commands_on (record { 0 = t }) row) (false_unless (t == c.train.0) (λ e. h (eqb-true t c.train.0 e)))

  own : (t : ℕ) → (t == c.train.0) ≡ true → (rs : List RouteNo) → filter keeps (map (made t) rs) ≡ []
  own t e [] = refl
  own t e (r ∷ rs) = ap (λ b. cond (not b && can_keep routes c.route r) (made t r ∷ filter keeps (map (made t) rs)) (filter keeps (map (made t) rs))) e ∙ own t e rs

  others : (t : ℕ) → (t == c.train.0) ≡ false → (rs : List RouteNo) → filter keeps (map (made t) rs) ≡ map (made t) (filter (can_keep routes c.route) rs)
  others t e [] = refl
  others t e (r ∷ rs) =
      ap (λ b. cond (not b && can_keep routes c.route r) (made t r ∷ filter keeps (map (made t) rs)) (filter keeps (map (made t) rs))) e
      ∙ (ap (λ cs. cond (can_keep routes c.route r) (made t r ∷ cs) cs) (others t e rs) ∙ join (can_keep routes c.route r))
    where
      join : (b : Bool) → cond b (made t r ∷ map (made t) (filter (can_keep routes c.route) rs)) (map (made t) (filter (can_keep routes c.route) rs)) ≡ map (made t) (cond b (r ∷ filter (can_keep routes c.route) rs) (filter (can_keep routes c.route) rs))
      join true = refl
      join false = refl

  of_train : (t : ℕ) (b : Bool) → (t == c.train.0) ≡ b → filter keeps (commands_of routes (record { 0 = t })) ≡ (if b then [] else commands_on (record { 0 = t }) (keepers_of routes c.route))
  of_train t true e = own t e (route_numbers routes)
  of_train t false e = others t e (route_numbers routes)

  -- they stand train by train
  pub keepers_by_trains : (d : Station) (n : ℕ) (row : List RouteNo) → row ≡ keepers_of routes c.route → keepers d routes n c ≡ flat_map (keepers_on row) (one_to (length d.trains))
  keepers_by_trains d n row is = filter_parts keeps (commands_of routes) (trains d) ∙ (go (one_to (length d.trains)) ∙ ap (λ r. flat_map (keepers_on r) (one_to (length d.trains))) (sym is))
    where
      go : (ts : List ℕ) → flat_map (λ t. filter keeps (commands_of routes t)) (map (λ n. record { 0 = n }) ts) ≡ flat_map (keepers_on (keepers_of routes c.route)) ts
      go [] = refl
      go (t ∷ ts) = ap (λ cs. cs ++ flat_map (λ t. filter keeps (commands_of routes t)) (map (λ n. record { 0 = n }) ts)) (of_train t (t == c.train.0) refl) ∙ ap (λ cs. keepers_on (keepers_of routes c.route) t ++ cs) (go ts)

-- ---- the commands of which one is given in the step before

-- they are commands of the encoder
pub known_before : (f : Encoder) → commands f ≡ all_commands (station f) (table f) → (c : Command) → IsCommand f c → (cs : List Command) → cs ≡ before_it f c → All (IsCommand f) cs
known_before f every c known cs is = subst (λ (xs : List Command). All (IsCommand f) xs) (sym is) (all_by_members (IsCommand f) (before_it f c) (λ e m. command_known f e (subst (λ (xs : List Command). In e xs) (sym every) (go e (in_append e (over f leaders c) (over f keepers c) m)))))
  where
    go : (e : Command) → In e (over f leaders c) ⊎ In e (over f keepers c) → In e (all_commands (station f) (table f))
    go e (inl m) =
        let led : RouteNo → Command = λ w. record { train = c.train; route = w } in
        let back = in_map_back led (leading_to (table f) (route_at (table f) c.route).start) e m in
        let kept = in_filter_back (λ (q : RouteNo). goes_on (route_at (table f) q).finish (route_at (table f) c.route).start) (route_numbers (table f)) back.0 back.1 in
        subst (λ (x : Command). In x (all_commands (station f) (table f))) back.2 (command_from (station f) (table f) c.train back.0 (train_in (station f) c.train known.train.0 known.train.1) kept.0)
    go e (inr m) = (in_filter_back (keeps (table f) c) (all_commands (station f) (table f)) e m).0

-- the clauses of all commands of the encoder are all of normal plans
pub normal_are : (f : Encoder) → commands f ≡ all_commands (station f) (table f) → all_exact f ++ all_kept f ≡ over f normal_clauses
normal_are f every = ap (λ (cs : List Command). flat_map (over f exactly) cs ++ flat_map (over f kept) cs) every
