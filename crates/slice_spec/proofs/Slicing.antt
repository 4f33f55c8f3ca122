-- The run of a slice is that of the plan, up to its horizons.
use Rattle.std.proofs.Common.{◌≡◌, ℕ, zero, suc, ◌+◌, ◌-◌, ◌≤◌, ◌<◌, ◌⊎◌, inl, inr, Bool, true, false, cond, not, ◌&&◌, ◌||◌, if◌then◌else◌, nat_le, ◌==◌, List, [], ◌∷◌, ◌++◌, map, filter, length, take, drop, Option, None, refl, sym, ap, ap₂, subst, ◌∙◌, arith, leb-true, leb-false, le-leb, eqb-true, eq-eqb, true≢false, length-take}
use Rattle.rail_base.specs.declared.station.Station.{Station}
use Rattle.rail_base.specs.declared.station.TrainNo.{TrainNo}
use Rattle.rail_base.specs.declared.route.Route.{Route}
use Rattle.rail_base.specs.declared.route.RouteNo.{RouteNo}
use Rattle.rail_base.specs.declared.plan.Command.{Command}
use Rattle.rail_base.specs.declared.plan.Violation.{Violation}
use Rattle.rail_base.specs.declared.state.TrainState.{TrainState}
use Rattle.cone_spec.specs.declared.ConeTrain.{ConeTrain}
use Rattle.cone_spec.specs.declared.Cone.{Cone}
use Rattle.rail_base.specs.Numbering.{one_to, count_from, before_first}
use Rattle.rail_spec.specs.Plans.{route_at, is_train, is_route, is_command, commands, path, preceding, precedes, is_well_formed, has_command, all_commands}
use Rattle.rail_base.specs.Stations.{trains, horizon}
use Rattle.rail_spec.specs.Feasible.{is_of, names_only}
use Rattle.rail_spec.specs.Dispatches.{state_of, pasts_at, state_at, is_granted, has_cleared}
use Rattle.rail_base.proofs.Members.{In, and_left, and_right, and_both, list_all_at, list_any_gives, list_any_from, in_filter}
use Rattle.rail_spec.specs.Dispatches.{of_plan}
use Rattle.cone_spec.specs.Cones.{unnamed, first_named, named, free_path, has_route, of_cone, is_pair}
use Rattle.cone_spec.specs.Cones as cone
use Rattle.slice_spec.specs.Holders.{holder_for, count_at, next_at, holder_at, is_the, is_holder, IsClosedFamily, grants_reach}
use Rattle.slice_spec.specs.Slices.{past_last, is_next, slice_train, names, is_slice_pair, slice_pairs, slice_with}
use Rattle.rail_laws.proofs.Running.{idle_at_first, granted_on_path}
use Rattle.cone_spec.proofs.Agreement.{Meeting, Agree, before_first-append, before_first-in}
use Rattle.slice_spec.proofs.Reaching.{Reaches, reaching}
use Rattle.cone_spec.proofs.Saying.{has_in, in_has, in_trains, is_of_in_all, is_command_same, is_command_self}
use Rattle.cone_spec.proofs.Naming.{listed_waits, waits_listed}
use Rattle.cone_spec.proofs.Fitting.{in_take}
use Rattle.rail_base.proofs.Lists.{in_map, in_flat_map, in_filter_back, in_map_back, in_flat_map_back, length-map}
use Rattle.rail_laws.proofs.Standing.{in_path}

-- ---- lists

pub take_prefix : {X : Type 0} (i : ℕ) (xs : List X) → xs ≡ take i xs ++ drop (length (take i xs)) xs
take_prefix zero xs = refl
take_prefix (suc i) [] = refl
take_prefix (suc i) (x ∷ xs) = ap (λ ys. x ∷ ys) (take_prefix i xs)

pub take_less : {X : Type 0} (i j : ℕ) (xs : List X) → i ≤ j → take i (take j xs) ≡ take i xs
take_less zero j xs h = refl
take_less (suc i) zero xs h = absurd (omega arith)
take_less (suc i) (suc j) [] h = refl
take_less (suc i) (suc j) (x ∷ xs) h = ap (λ ys. x ∷ ys) (take_less i j xs (omega arith))

pub in_trains_back : (d : Station) (t : TrainNo) → In t (trains d) → (1 ≤ t.0) × (t.0 ≤ length d.trains)
in_trains_back d t m = let k = in_map_back (λ n. record { 0 = n }) (one_to (length d.trains)) t m in let e : k.0 ≡ t.0 = ap (λ (t : TrainNo). t.0) k.2 in let g = go 1 (length d.trains) k.0 k.1 e in let a = g.0 in let b = g.1 in (omega arith, omega arith)
  where
    use_count : (a n i : ℕ) → In i (count_from a n) → (a ≤ i) × (i < a + n)
    use_count a zero i m = absurd m
    use_count a (suc n) i (inl e) = (omega arith, omega arith)
    use_count a (suc n) i (inr m) = let k = use_count (a + 1) n i m in let x = k.0 in let y = k.1 in (omega arith, omega arith)

    go : (a n i : ℕ) → In i (count_from a n) → i ≡ t.0 → (a ≤ t.0) × (t.0 < a + n)
    go a n i m e = let k = use_count a n i m in let x = k.0 in let y = k.1 in (omega arith, omega arith)

-- the trains of a slice, by number
named_case : (f : TrainNo → ConeTrain) (g : TrainNo → Bool) → ((u : TrainNo) → (f u).train ≡ u) → (ts : List TrainNo) (t : TrainNo)
    → ((first_named t (map f (filter g ts)) ≡ f t) × In t ts × (g t ≡ true)) ⊎ ((first_named t (map f (filter g ts)) ≡ unnamed t) × (In t ts → g t ≡ false))
named_case f g same [] t = inr (refl, λ m. absurd m)
named_case f g same (u ∷ us) t = go (g u) refl (named_case f g same us t)
  where
    Case : ConeTrain → Type 0
    Case c = ((c ≡ f t) × In t (u ∷ us) × (g t ≡ true)) ⊎ ((c ≡ unnamed t) × (In t (u ∷ us) → g t ≡ false))

    later : ConeTrain
    later = first_named t (map f (filter g us))

    skip : is_train u t ≡ false → ((first_named t (map f (filter g us)) ≡ f t) × In t us × (g t ≡ true)) ⊎ ((first_named t (map f (filter g us)) ≡ unnamed t) × (In t us → g t ≡ false)) → Case (first_named t (map f (filter g us)))
    skip e (inl (a, m, b)) = inl (a, inr m, b)
    skip e (inr (a, none)) = inr (a, λ m. not_here m)
      where
        not_here : In t (u ∷ us) → g t ≡ false
        not_here (inl k) = absurd (true≢false (sym (eq-eqb u.0 t.0 (ap (λ (x : TrainNo). x.0) k)) ∙ e))
        not_here (inr k) = none k

    go : (b : Bool) → g u ≡ b → ((first_named t (map f (filter g us)) ≡ f t) × In t us × (g t ≡ true)) ⊎ ((first_named t (map f (filter g us)) ≡ unnamed t) × (In t us → g t ≡ false))
        → Case (first_named t (map f (cond b (u ∷ filter g us) (filter g us))))
    go false e (inl (a, m, b)) = inl (a, inr m, b)
    go false e (inr (a, none)) = inr (a, λ m. not_here m)
      where
        not_here : In t (u ∷ us) → g t ≡ false
        not_here (inl k) = ap g (sym k) ∙ e
        not_here (inr k) = none k
    go true e rest = at (is_train (f u).train t) refl
      where
        at : (b : Bool) → is_train (f u).train t ≡ b → Case (cond b (f u) (first_named t (map f (filter g us))))
        at true s =
            let here : u ≡ t = sym (same u) ∙ ap (λ n. record { 0 = n }) (eqb-true (f u).train.0 t.0 s) in
            inl (ap f here, inl here, sym (ap g here) ∙ e)
        at false s = skip (sym (ap (λ x. is_train x t) (same u)) ∙ s) rest

-- a route of the prefix of a path is reached before the prefix ends
pub before_first_take : (r : RouteNo) (i : ℕ) (xs : List RouteNo) → In r (take i xs) → length (before_first (λ x. is_route x r) xs) < i
before_first_take r i xs m = go (before_first-append (λ x. is_route x r) (take i xs) (drop (length (take i xs)) xs))
  where
    within : length (before_first (λ x. is_route x r) (take i xs)) < length (take i xs)
    within = before_first-in (λ x. is_route x r) (take i xs) r m (eq-eqb r.0 r.0 refl)

    go : (before_first (λ x. is_route x r) (take i xs ++ drop (length (take i xs)) xs) ≡ before_first (λ x. is_route x r) (take i xs)) ⊎ ((length (take i xs) ≤ length (before_first (λ x. is_route x r) (take i xs ++ drop (length (take i xs)) xs))) × (length (take i xs) ≤ length (before_first (λ x. is_route x r) (take i xs))))
        → length (before_first (λ x. is_route x r) xs) < i
    go (inl e) =
        let same : length (before_first (λ x. is_route x r) xs) ≡ length (before_first (λ x. is_route x r) (take i xs)) = ap (λ ys. length (before_first (λ x. is_route x r) ys)) (take_prefix i xs) ∙ ap length e in
        let l = length-take i xs in
        let w = within in
        omega arith
    go (inr (a, b)) = let w = within in absurd (omega arith)

module _ (d : Station) (routes : List Route) (n : ℕ) (plan : List (List Command)) (last : ℕ) (v : Violation) (h upto : TrainNo → ℕ) where
  -- a plan that is well formed, gives every train a command, and of which the horizons are closed
  pub record Failed : Type 0 where
    pub names : names_only d routes plan ≡ true
    pub formed : is_well_formed d routes n plan ≡ true
    pub given : (t : TrainNo) → 1 ≤ t.0 → t.0 ≤ length d.trains → 1 ≤ length (path plan t)
    pub in_time : last ≤ horizon d
    pub closed : IsClosedFamily d routes plan last h v
    -- of each train so many commands are named that those granted, the next one and the holders are among them
    pub granted_in : (t : TrainNo) → count_at d routes plan (h t) t ≤ upto t
    pub next_in : (t : TrainNo) → 1 ≤ h t → count_at d routes plan (h t) t < length (path plan t) → count_at d routes plan (h t) t + 1 ≤ upto t
    pub some_in : (t : TrainNo) → 1 ≤ t.0 → t.0 ≤ length d.trains → 1 ≤ h t → 1 ≤ upto t
    pub holders_in : (t : TrainNo) → past_last (λ r. is_holder d routes plan last h (record { train = t; route = r })) (path plan t) ≤ upto t

  abbrev pub slice : Cone
  slice = slice_with d routes plan last h upto v

  module _ (failed : Failed) where
    -- ---- the trains of the slice

    pub within_last : (t : TrainNo) → 1 ≤ t.0 → t.0 ≤ length d.trains → h t ≤ last
    within_last t a b = leb-true _ _ (list_all_at (λ t. nat_le (h t) last) (trains d) t failed.closed.soon (in_trains d t a b))

    pub count_first : (t : TrainNo) → count_at d routes plan 0 t ≡ 0
    count_first t = ap (λ (s : TrainState). s.granted) (idle_at_first d routes (of_plan routes plan) t)

    -- a train with no horizon and no holder is as if it weren't named
    pub nothing : (t : TrainNo) → 1 ≤ t.0 → t.0 ≤ length d.trains → names upto t ≡ false → slice_train d routes plan last h upto t ≡ unnamed t
    nothing t in_a in_b e =
        let none : upto t ≡ 0 = let z = leb-false 1 (upto t) e in omega arith in
        let still = no_horizon (h t) refl none in
        build (h t) (count_at d routes plan (h t) t) (upto t) (holder_at d routes plan last h t) still
        (ap (λ i. count_at d routes plan i t) still ∙ count_first t) none (no_holder still)
      where
        build : (a b c : ℕ) (o : Option Command) → a ≡ 0 → b ≡ 0 → c ≡ 0 → o ≡ None → record { train = t; horizon = a; free = b; path = take c (path plan t); holder = o } ≡ unnamed t
        build a b c o ea eb ec eo =
            ap₂ (λ a b. record { train = t; horizon = a; free = b; path = take c (path plan t); holder = o }) ea eb
            ∙ ap₂ (λ c o. record { train = t; horizon = 0; free = 0; path = take c (path plan t); holder = o }) ec eo

        no_horizon : (a : ℕ) → h t ≡ a → upto t ≡ 0 → h t ≡ 0
        no_horizon zero e z = e
        no_horizon (suc a) e z = let on = failed.some_in t in_a in_b (omega arith) in absurd (omega arith)

        no_holder : h t ≡ 0 → holder_at d routes plan last h t ≡ None
        no_holder z =
            let off : nat_le 1 (h t) ≡ false = ap (nat_le 1) z in
            ap (λ b. if b && (count_at d routes plan (h t - 1) t == count_at d routes plan (h t) t) then holder_for d routes plan last t (next_at d routes plan (h t) t) else None) off

    pub named_slice : (t : TrainNo) → 1 ≤ t.0 → t.0 ≤ length d.trains → named slice t ≡ slice_train d routes plan last h upto t
    named_slice t a b = go (named_case (slice_train d routes plan last h upto) (names upto) (λ u. refl) (trains d) t)
      where
        go : ((named slice t ≡ slice_train d routes plan last h upto t) × In t (trains d) × (names upto t ≡ true)) ⊎ ((named slice t ≡ unnamed t) × (In t (trains d) → names upto t ≡ false)) → named slice t ≡ slice_train d routes plan last h upto t
        go (inl (e, m, g)) = e
        go (inr (e, none)) = e ∙ sym (nothing t a b (none (in_trains d t a b)))

    pub in_design_or_not : (t : TrainNo) → ((1 ≤ t.0) × (t.0 ≤ length d.trains)) ⊎ (named slice t ≡ unnamed t)
    in_design_or_not t = go (named_case (slice_train d routes plan last h upto) (names upto) (λ u. refl) (trains d) t)
      where
        go : ((named slice t ≡ slice_train d routes plan last h upto t) × In t (trains d) × (names upto t ≡ true)) ⊎ ((named slice t ≡ unnamed t) × (In t (trains d) → names upto t ≡ false)) → ((1 ≤ t.0) × (t.0 ≤ length d.trains)) ⊎ (named slice t ≡ unnamed t)
        go (inl (e, m, g)) = inl (in_trains_back d t m)
        go (inr (e, none)) = inr e

    -- ---- their free commands

    pub enough : (t : TrainNo) → count_at d routes plan (h t) t ≤ upto t
    enough t = failed.granted_in t

    pub free_slice : (t : TrainNo) → 1 ≤ t.0 → t.0 ≤ length d.trains → free_path slice t ≡ take (count_at d routes plan (h t) t) (path plan t)
    free_slice t a b =
        ap (λ (c : ConeTrain). take c.free c.path) (named_slice t a b) ∙ take_less (count_at d routes plan (h t) t) (upto t) (path plan t) (enough t)

    pub count_within : (k : ℕ) (t : TrainNo) → count_at d routes plan k t ≤ length (path plan t)
    count_within k t = granted_on_path d routes (of_plan routes plan) k t

    pub free_count : (t : TrainNo) → 1 ≤ t.0 → t.0 ≤ length d.trains → length (free_path slice t) ≡ count_at d routes plan (h t) t
    free_count t a b =
        let e : length (free_path slice t) ≡ length (take (count_at d routes plan (h t) t) (path plan t)) = ap length (free_slice t a b) in
        let l = length-take (count_at d routes plan (h t) t) (path plan t) in
        let w = count_within (h t) t in
        omega arith

    pub horizon_slice : (t : TrainNo) → 1 ≤ t.0 → t.0 ≤ length d.trains → (named slice t).horizon ≡ h t
    horizon_slice t a b = ap (λ (c : ConeTrain). c.horizon) (named_slice t a b)

    pub prefix_slice : (t : TrainNo) → path plan t ≡ free_path slice t ++ drop (length (free_path slice t)) (path plan t)
    prefix_slice t = go (in_design_or_not t)
      where
        go : ((1 ≤ t.0) × (t.0 ≤ length d.trains)) ⊎ (named slice t ≡ unnamed t) → path plan t ≡ free_path slice t ++ drop (length (free_path slice t)) (path plan t)
        go (inl (a, b)) = subst (λ xs. path plan t ≡ xs ++ drop (length xs) (path plan t)) (sym (free_slice t a b)) (take_prefix (count_at d routes plan (h t) t) (path plan t))
        go (inr e) = subst (λ (c : ConeTrain). path plan t ≡ take c.free c.path ++ drop (length (take c.free c.path)) (path plan t)) (sym e) refl

    -- ---- the pairs

    pub command_in_design : (c : Command) → In c (commands plan) → (1 ≤ c.train.0) × (c.train.0 ≤ length d.trains)
    command_in_design c m =
        let o = list_all_at (is_of d routes) (commands plan) c failed.names m in
        let ab = and_left (nat_le 1 c.train.0 && nat_le c.train.0 (length d.trains)) _ (and_left (nat_le 1 c.train.0 && nat_le c.train.0 (length d.trains) && nat_le 1 c.route.0) _ o) in
        (leb-true _ _ (and_left (nat_le 1 c.train.0) _ ab), leb-true _ _ (and_right (nat_le 1 c.train.0) _ ab))

    pub listed_in : (e c : Command) → is_slice_pair d routes plan last h e c ≡ true → cone.has_pair slice e c ≡ true
    listed_in e c l = list_any_from (is_pair e c) (slice_pairs d routes plan last h) (e, c)
        (in_flat_map (λ e. map (λ c. (e, c)) (filter (is_slice_pair d routes plan last h e) (all_commands d routes))) (all_commands d routes) e (e, c) (in_all_of e (and_left (has_command plan e) _ ab))
        (in_map (λ c. (e, c)) (filter (is_slice_pair d routes plan last h e) (all_commands d routes)) c (in_filter (is_slice_pair d routes plan last h e) (all_commands d routes) c (in_all_of c (and_right (has_command plan e) _ ab)) l)))
        (and_both _ _ (is_command_self e) (is_command_self c))
      where
        ab : (has_command plan e && has_command plan c) ≡ true
        ab = and_left (has_command plan e && has_command plan c) _ (and_left (has_command plan e && has_command plan c && precedes routes plan e c) _ l)

        in_all_of : (x : Command) → has_command plan x ≡ true → In x (all_commands d routes)
        in_all_of x m = is_of_in_all d routes x (list_all_at (is_of d routes) (commands plan) x failed.names (has_in plan x m))

    pub pair_listed : (p : Command × Command) → In p (slice_pairs d routes plan last h) → is_slice_pair d routes plan last h p.0 p.1 ≡ true
    pair_listed p m = go (in_flat_map_back (λ e. map (λ c. (e, c)) (filter (is_slice_pair d routes plan last h e) (all_commands d routes))) (all_commands d routes) p m)
      where
        go : (e : Command) × In e (all_commands d routes) × In p (map (λ c. (e, c)) (filter (is_slice_pair d routes plan last h e) (all_commands d routes))) → is_slice_pair d routes plan last h p.0 p.1 ≡ true
        go (e, _, k) = at (in_map_back (λ c. (e, c)) (filter (is_slice_pair d routes plan last h e) (all_commands d routes)) p k)
          where
            at : (c : Command) × In c (filter (is_slice_pair d routes plan last h e) (all_commands d routes)) × ((e, c) ≡ p) → is_slice_pair d routes plan last h p.0 p.1 ≡ true
            at (c, i, same) = subst (λ (x : Command × Command). is_slice_pair d routes plan last h x.0 x.1 ≡ true) same (in_filter_back (is_slice_pair d routes plan last h e) (all_commands d routes) c i).1

    pub listed_out : (e c : Command) → cone.has_pair slice e c ≡ true → is_slice_pair d routes plan last h e c ≡ true
    listed_out e c l = go (list_any_gives (is_pair e c) (slice_pairs d routes plan last h) l)
      where
        go : (p : Command × Command) × In p (slice_pairs d routes plan last h) × (is_pair e c p ≡ true) → is_slice_pair d routes plan last h e c ≡ true
        go (p, m, t) =
            let a = is_command_same p.0 e (and_left (is_command p.0 e) _ t) in
            let b = is_command_same p.1 c (and_right (is_command p.0 e) _ t) in
            subst (λ x. is_slice_pair d routes plan last h x c ≡ true) a (subst (λ y. is_slice_pair d routes plan last h p.0 y ≡ true) b (pair_listed p m))

    -- what is listed precedes
    pub listed_precedes : (e c : Command) → is_slice_pair d routes plan last h e c ≡ true → In e (preceding routes plan c)
    listed_precedes e c l =
        let abc = and_left (has_command plan e && has_command plan c && precedes routes plan e c) _ l in
        in_filter (λ e. precedes routes plan e c) (commands plan) e (has_in plan e (and_left (has_command plan e) _ (and_left (has_command plan e && has_command plan c) _ abc))) (and_right (has_command plan e && has_command plan c) _ abc)

    -- a free command is granted by its train's horizon
    pub free_granted : (t : TrainNo) (r : RouteNo) → In r (free_path slice t) → (is_granted d routes (of_plan routes plan) (state_at d routes (of_plan routes plan) (h t)) (record { train = t; route = r }) ≡ true) × In (record { train = t; route = r }) (commands plan)
    free_granted t r m = go (in_design_or_not t)
      where
        go : ((1 ≤ t.0) × (t.0 ≤ length d.trains)) ⊎ (named slice t ≡ unnamed t) → (is_granted d routes (of_plan routes plan) (state_at d routes (of_plan routes plan) (h t)) (record { train = t; route = r }) ≡ true) × In (record { train = t; route = r }) (commands plan)
        go (inr e) = absurd (subst (λ (c : ConeTrain). In r (take c.free c.path)) e m)
        go (inl (a, b)) =
            let i = subst (In r) (free_slice t a b) m in
            let l = before_first_take r (count_at d routes plan (h t) t) (path plan t) i in
            let g = length-map (route_at routes) (before_first (λ x. is_route x r) (path plan t)) in
            (le-leb _ _ (omega arith), in_path t plan r (in_take (count_at d routes plan (h t) t) (path plan t) r i))

    pub precedes_listed : (t : TrainNo) (r : RouteNo) (e : Command) → In r (free_path slice t) → In e (preceding routes plan (record { train = t; route = r })) → is_slice_pair d routes plan last h e (record { train = t; route = r }) ≡ true
    precedes_listed t r e m i =
        let c : Command = record { train = t; route = r } in
        let g = free_granted t r m in
        let f = in_filter_back (λ e. precedes routes plan e c) (commands plan) e i in
        and_both _ _ (and_both _ _ (and_both _ _ (in_has plan e f.0) (in_has plan c g.1)) f.1) (ap (λ b. b || is_next c (next_at d routes plan (h c.train) c.train) && is_the e (holder_at d routes plan last h c.train)) g.0)

    -- ---- the two runs

    pub meeting : Meeting d routes (of_cone slice) (of_plan routes plan) (λ t. (named slice t).horizon)
    meeting = record {
      concerned = λ tick t l. le-leb tick (named slice t).horizon l;
      left = λ tick t l. not_up_to tick (named slice t).horizon l;
      always = λ tick t. refl;
      rest = λ t. drop (length (free_path slice t)) (path plan t);
      prefix = prefix_slice;
      waits_for = λ t r e m i. listed_waits d routes slice e (record { train = t; route = r }) (listed_in e (record { train = t; route = r }) (precedes_listed t r e m i));
      waits_too = λ t r e m i. listed_precedes e (record { train = t; route = r }) (listed_out e (record { train = t; route = r }) (waits_listed d routes slice e (record { train = t; route = r }) i));
    }
      where
        not_up_to : (a b : ℕ) → b < a → nat_le a b ≡ false
        not_up_to a b l = go (nat_le a b) refl
          where
            go : (t : Bool) → nat_le a b ≡ t → nat_le a b ≡ false
            go false e = e
            go true e = let m = leb-true a b e in absurd (omega arith)

    -- what precedes a granted command has released by its own train's horizon
    pub cleared_by : (c e : Command) → In c (commands plan) → In e (preceding routes plan c) → is_granted d routes (of_plan routes plan) (state_at d routes (of_plan routes plan) (h c.train)) c ≡ true → has_cleared d routes (of_plan routes plan) (pasts_at d routes (of_plan routes plan) (h e.train)) c e ≡ true
    cleared_by c e m i g =
        let one = list_all_at (grants_reach d routes plan last h) (commands plan) c failed.closed.grants m in
        list_all_at (λ e. has_cleared d routes (of_plan routes plan) (pasts_at d routes (of_plan routes plan) (h e.train)) c e) (preceding routes plan c) e (rest_of _ _ g one) i
      where
        rest_of : (a b : Bool) → a ≡ true → (not a || b) ≡ true → b ≡ true
        rest_of true b e k = k
        rest_of false b e k = absurd (true≢false (sym e))

    reaches_all : Reaches d routes (of_cone slice) (of_plan routes plan) (λ t. (named slice t).horizon)
    reaches_all = record {
      meeting = meeting;
      followed = λ t l. followed t l (in_design_or_not t);
      cleared = λ t r e m i. cleared t r e m i;
      few = λ t. few t (in_design_or_not t);
    }
      where
        followed : (t : TrainNo) → 1 ≤ (named slice t).horizon → ((1 ≤ t.0) × (t.0 ≤ length d.trains)) ⊎ (named slice t ≡ unnamed t) → (1 ≤ t.0) × (t.0 ≤ length d.trains)
        followed t l (inl x) = x
        followed t l (inr e) = let z : (named slice t).horizon ≡ 0 = ap (λ (c : ConeTrain). c.horizon) e in absurd (omega arith)

        cleared : (t : TrainNo) (r : RouteNo) (e : Command) → In r (free_path slice t) → In e ((of_cone slice).before (record { train = t; route = r })) → has_cleared d routes (of_plan routes plan) (pasts_at d routes (of_plan routes plan) (named slice e.train).horizon) (record { train = t; route = r }) e ≡ true
        cleared t r e m i =
            let c : Command = record { train = t; route = r } in
            let g = free_granted t r m in
            let before = listed_precedes e c (listed_out e c (waits_listed d routes slice e c i)) in
            let of_design = command_in_design e (in_filter_back (λ e. precedes routes plan e c) (commands plan) e before).0 in
            subst (λ k. has_cleared d routes (of_plan routes plan) (pasts_at d routes (of_plan routes plan) k) c e ≡ true) (sym (horizon_slice e.train of_design.0 of_design.1)) (cleared_by c e g.1 before g.0)

        few : (t : TrainNo) → ((1 ≤ t.0) × (t.0 ≤ length d.trains)) ⊎ (named slice t ≡ unnamed t) → (state_of (state_at d routes (of_plan routes plan) (named slice t).horizon) t).granted ≤ length (free_path slice t)
        few t (inl (a, b)) =
            let e : count_at d routes plan (named slice t).horizon t ≡ count_at d routes plan (h t) t = ap (λ i. count_at d routes plan i t) (horizon_slice t a b) in
            let f = free_count t a b in
            omega arith
        few t (inr e) =
            let z : count_at d routes plan (named slice t).horizon t ≡ 0 = ap (λ (c : ConeTrain). count_at d routes plan c.horizon t) e ∙ count_first t in
            omega arith

    -- up to its horizon each train moves in the slice's run as in the plan's
    pub slice_agrees : (k : ℕ) (t : TrainNo) → Agree d routes (of_cone slice) (of_plan routes plan) (λ t. (named slice t).horizon) k t
    slice_agrees = reaching d routes (of_cone slice) (of_plan routes plan) (λ t. (named slice t).horizon) reaches_all
