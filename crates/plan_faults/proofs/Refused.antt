-- Plans that are refused have reasons and keepers.
use Rattle.std.proofs.Common.{◌≡◌, ℕ, suc, ◌+◌, ◌-◌, ◌<◌, ◌≤◌, inl, inr, ◌⊎◌, Bool, true, false, true≢false, not, cond, ◌&&◌, ◌||◌, ◌==◌, nat_le, nat_lt, List, [], ◌∷◌, map, filter, flat_map, length, take, find, sum_by, Some, Result, Ok, Err, refl, sym, ap, subst, arith, eqb-true, leb-true, leb-false, ◌∙◌}
use Rattle.std.specs.List.{list_any}
use Rattle.rail_base.specs.declared.plan.Command.{Command}
use Rattle.rail_base.specs.declared.route.Route.{Route}
use Rattle.rail_base.specs.declared.station.SectionNo.{SectionNo}
use Rattle.rail_base.specs.declared.station.Station.{Station}
use Rattle.rail_base.specs.declared.station.TrainNo.{TrainNo}
use Rattle.rail_base.specs.Members.{In}
use Rattle.rail_base.specs.Numbering.{entry, first_of_list, one_to}
use Rattle.rail_base.specs.Routes.{exits, goes_over, has_section, length_mm, route_at, sections}
use Rattle.rail_base.specs.Stations.{train_of, trains}
use Rattle.rail_spec.specs.Plans.{can_clear, commands, is_train, path_routes, routes_given, step_of}
use Rattle.rail_plan.specs.declared.fault.PlanCode.{PlanCode}
use Rattle.rail_plan.specs.declared.fault.PlanCode.TheVariants.{P3, P4}
use Rattle.rail_plan.specs.declared.place.PlanPlace.{PlanPlace}
use Rattle.rail_plan.specs.declared.place.PlanPlace.TheVariants as place
use Rattle.rail_plan.specs.Executable.{blocked, blocked_in, blocked_sections, keeps_from}
use Rattle.rail_plan.specs.Holds.{rest_after}
use Rattle.rail_plan.specs.Reading.{Refusal, unless}
use Rattle.rail_plan.specs.WellFormed.{is_placed, may_go_on, misplaced, misplaced_in, past, placed_badly}
use Rattle.rail_base.proofs.Lists.{in_append, in_append_right, in_filter_back, in_flat_map, in_flat_map_back, in_map, in_map_back}
use Rattle.rail_base.proofs.Members.{false_unless, in_filter, or_right}
use Rattle.std.proofs.lemmas.List.Sums.{sum_by-cons}
use Rattle.plan_faults.specs.Kept.{keeper, routes_between, wanted_mm}
use Rattle.plan_faults.specs.Laws.{BlockedHasKeeper, HasKeeper, HasReason, Lacks, MisplacedHasReason}
use Rattle.plan_faults.proofs.Reasoned.{find_in, reason_there}

-- ---- which place is the first

pub refused_in : {X : Type 0} (code : PlanCode) (ps : List PlanPlace) (other : PlanCode) (p : PlanPlace) (answer : Result X (PlanCode × PlanPlace)) → unless code ps answer ≡ Err (other, p)
    → ((ps ≡ []) × (answer ≡ Err (other, p))) ⊎ ((code ≡ other) × In p ps)
refused_in code [] other p answer e = inl (refl, e)
refused_in code (q ∷ ps) other p answer e =
    let both : (code, q) ≡ (other, p) = cc in
    inr (ap (λ (x : Refusal). x.0) both, inl (ap (λ (x : Refusal). x.1) both))

not_true : (b : Bool) → not b ≡ true → b ≡ false
not_true true e = cc
not_true false e = refl

-- what any passes is found
any_found : {X : Type 0} (p : X → Bool) (xs : List X) → list_any p xs ≡ true → (x : X) × (find p xs ≡ Some x)
any_found p [] e = cc
any_found {X} p (y ∷ ys) e = go (p y) e (any_found p ys)
  where
    go : (b : Bool) → (b || list_any p ys) ≡ true → (list_any p ys ≡ true → (x : X) × (find p ys ≡ Some x)) → (x : X) × (cond b (Some y) (find p ys) ≡ Some x)
    go true k later = (y, refl)
    go false k later = later k

-- ---- what is left of a length that is not reached

left_false : (a b : Bool) → (a || b) ≡ false → a ≡ false
left_false true b e = cc
left_false false b e = refl

right_false : (a b : Bool) → (a || b) ≡ false → b ≡ false
right_false true b e = cc
right_false false b e = e

not_le : (a b : ℕ) → b < a → nat_le a b ≡ false
not_le a b h = false_unless (nat_le a b) (λ e. let l = leb-true a b e in absurd (omega arith))

rest_short : (need : ℕ) (given : List Route) → (nat_le need (sum_by length_mm given) || list_any exits given) ≡ false
    → (1 ≤ rest_after need given) × (sum_by length_mm given + rest_after need given ≡ need)
rest_short need [] h = let l = leb-false need 0 (left_false (nat_le need 0) false h) in (omega arith, omega arith)
rest_short need (r ∷ rs) h = go (exits r) h (rest_short (need - length_mm r) rs)
  where
    go : (b : Bool) → (nat_le need (sum_by length_mm (r ∷ rs)) || (b || list_any exits rs)) ≡ false
        → ((nat_le (need - length_mm r) (sum_by length_mm rs) || list_any exits rs) ≡ false
        → (1 ≤ rest_after (need - length_mm r) rs) × (sum_by length_mm rs + rest_after (need - length_mm r) rs ≡ need - length_mm r))
        → (1 ≤ cond b 0 (rest_after (need - length_mm r) rs)) × (sum_by length_mm (r ∷ rs) + cond b 0 (rest_after (need - length_mm r) rs) ≡ need)
    go true k rest = absurd (true≢false (sym (or_right (nat_le need (sum_by length_mm (r ∷ rs))) true refl) ∙ k))
    go false k rest =
        let less = leb-false need (sum_by length_mm (r ∷ rs)) (left_false (nat_le need (sum_by length_mm (r ∷ rs))) (list_any exits rs) k) in
        let whole = sum_by-cons length_mm r rs in
        let below : nat_le (need - length_mm r) (sum_by length_mm rs) ≡ false = not_le (need - length_mm r) (sum_by length_mm rs) (omega arith) in
        let none = right_false (nat_le need (sum_by length_mm (r ∷ rs))) (list_any exits rs) k in
        let later = rest (rw (below, none) refl) in
        let over = later.1 in
        (later.0, omega arith)

-- a plan that is refused
abbrev pub refused : PlanCode → PlanPlace → Result (List (List Command)) Refusal
refused code p = Err (code, p)

module _ (d : Station) (routes : List Route) (plan : List (List Command)) where
  -- ---- a command that is misplaced

  placed_back : (i : ℕ) (t : TrainNo) → In (place.Train i t) (placed_badly d routes plan) → HasReason d routes plan i t
  placed_back i t m = of_step (in_flat_map_back (λ k. map (place.Train k) (misplaced_in d routes plan k)) (one_to (length plan)) (place.Train i t) m)
    where
      of_train : (k : ℕ) → (u : TrainNo) × In u (misplaced_in d routes plan k) × (place.Train k u ≡ place.Train i t) → HasReason d routes plan i t
      of_train k (u, n, same) =
          let step : k ≡ i = cc in
          let train : u ≡ t = cc in
          let l = in_filter_back (λ t. not (is_placed d routes (take (k - 1) plan) (entry [] plan k) t)) (trains d) u n in
          subst (λ j. HasReason d routes plan j t) step (subst (λ v. HasReason d routes plan k v) train (reason_there d routes u plan k (not_true _ l.1)))

      of_step : (k : ℕ) × In k (one_to (length plan)) × In (place.Train i t) (map (place.Train k) (misplaced_in d routes plan k)) → HasReason d routes plan i t
      of_step (k, j, n) = of_train k (in_map_back (place.Train k) (misplaced_in d routes plan k) (place.Train i t) n)

  no_past : (i : ℕ) (t : TrainNo) (n : ℕ) → In (place.Train i t) (past n plan) → ⊥
  no_past i t n m = go (nat_le (length plan) n) m
    where
      go : (b : Bool) → In (place.Train i t) (cond b [] (place.Step (n + 1) ∷ [])) → ⊥
      go true k = absurd k
      go false (inl e) = cc
      go false (inr k) = absurd k

  pub misplaced_has_reason : MisplacedHasReason d routes plan
  misplaced_has_reason i t e = go (refused_in P3 (misplaced d routes 256 plan) P3 (place.Train i t) (unless P4 (blocked d routes plan) (Ok plan)) e)
    where
      later : ((blocked d routes plan ≡ []) × (Ok plan ≡ refused P3 (place.Train i t))) ⊎ ((P4 ≡ P3) × In (place.Train i t) (blocked d routes plan)) → HasReason d routes plan i t
      later (inl (none, k)) = cc
      later (inr (k, m)) = cc

      either : In (place.Train i t) (past 256 plan) ⊎ In (place.Train i t) (placed_badly d routes plan) → HasReason d routes plan i t
      either (inl m) = absurd (no_past i t 256 m)
      either (inr m) = placed_back i t m

      go : ((misplaced d routes 256 plan ≡ []) × (unless P4 (blocked d routes plan) (Ok plan) ≡ refused P3 (place.Train i t))) ⊎ ((P3 ≡ P3) × In (place.Train i t) (misplaced d routes 256 plan)) → HasReason d routes plan i t
      go (inl (none, k)) = later (refused_in P4 (blocked d routes plan) P3 (place.Train i t) (Ok plan) k)
      go (inr (k, m)) = either (in_append (place.Train i t) (past 256 plan) (placed_badly d routes plan) m)

  -- ---- a command that is kept from a section

  -- what a step gives to a train is one route at most, where no command is misplaced
  one_route : (t : TrainNo) (before given : List Route) → may_go_on (train_of d t) before given ≡ true → length given ≤ 1
  one_route t before [] e = omega arith
  one_route t before (r ∷ []) e = omega arith
  one_route t before (r ∷ q ∷ qs) e = cc

  first_own : (t : TrainNo) (c : Command) (cs : List Command) → In c cs → length (map (route_at routes) (map (λ c. c.route) cs)) ≤ 1
      → first_of_list (map (λ c. c.route) cs) ≡ Some c.route
  first_own t c [] m few = absurd m
  first_own t c (x ∷ []) (inl e) few = ap (λ (y : Command). Some y.route) e
  first_own t c (x ∷ []) (inr m) few = absurd m
  first_own t c (x ∷ y ∷ xs) m few = absurd (omega arith)

  its_train : (c : Command) (t : TrainNo) → is_train c.train t ≡ true → c ≡ record { train = t; route = c.route }
  its_train c t e =
      let number : c.train.0 ≡ t.0 = eqb-true c.train.0 t.0 e in
      let same : c.train ≡ t = ap (λ n. record { 0 = n }) number in
      ap (λ u. record { train = u; route = c.route }) same

  placed_where_none : misplaced d routes 256 plan ≡ [] → (i : ℕ) (t : TrainNo) → In i (one_to (length plan)) → In t (trains d) → is_placed d routes (take (i - 1) plan) (entry [] plan i) t ≡ true
  placed_where_none none i t m n = go (is_placed d routes (take (i - 1) plan) (entry [] plan i) t) refl
    where
      go : (b : Bool) → is_placed d routes (take (i - 1) plan) (entry [] plan i) t ≡ b → b ≡ true
      go true e = refl
      go false e =
          let here = in_filter (λ t. not (is_placed d routes (take (i - 1) plan) (entry [] plan i) t)) (trains d) t n (ap not e) in
          let there = in_flat_map (λ k. map (place.Train k) (misplaced_in d routes plan k)) (one_to (length plan)) i (place.Train i t) m (in_map (place.Train i) (misplaced_in d routes plan i) t here) in
          absurd (subst (In (place.Train i t)) none (in_append_right (place.Train i t) (past 256 plan) (placed_badly d routes plan) there))

  -- why a command keeps another from a section
  keeps_why : (e c : Command) (z : SectionNo) → keeps_from d routes plan c z e ≡ true → (step_of plan e ≡ step_of plan c) ⊎ Lacks d routes plan e c z
  keeps_why e c z h = go (not (is_train e.train c.train)) (has_section (route_at routes e.route) z) (goes_over (route_at routes e.route) z) (step_of plan e == step_of plan c) (nat_lt (step_of plan e) (step_of plan c)) (can_clear d routes plan e c z) refl refl refl h
    where
      given : List Route
      given = routes_between d routes plan e c

      wanted : ℕ
      wanted = wanted_mm d routes e z

      short : can_clear d routes plan e c z ≡ false → (1 ≤ rest_after wanted given) × (sum_by length_mm given + rest_after wanted given ≡ wanted)
      short f = rest_short wanted given f

      go : (a b o s l f : Bool) → (step_of plan e == step_of plan c) ≡ s → nat_lt (step_of plan e) (step_of plan c) ≡ l → can_clear d routes plan e c z ≡ f
          → (a && ((b && s) || (o && l && not f))) ≡ true → (step_of plan e ≡ step_of plan c) ⊎ Lacks d routes plan e c z
      go true b o true l f es el ef k = inl (eqb-true (step_of plan e) (step_of plan c) es)
      go true b true false true false es el ef k = let less = leb-true (suc (step_of plan e)) (step_of plan c) el in let s = short ef in inr (less, s.0, s.1)
      go true true true false true true es el ef k = cc
      go true false true false true true es el ef k = cc
      go true true true false false f es el ef k = cc
      go true false true false false f es el ef k = cc
      go true true false false l f es el ef k = cc
      go true false false false l f es el ef k = cc
      go false b o s l f es el ef k = cc

  pub blocked_has_keeper : BlockedHasKeeper d routes plan
  blocked_has_keeper i t z e = go (refused_in P3 (misplaced d routes 256 plan) P4 (place.Section i t z) (unless P4 (blocked d routes plan) (Ok plan)) e)
    where
      of_section : misplaced d routes 256 plan ≡ [] → In i (one_to (length plan)) → In t (trains d) → (c : Command) → In c (filter (λ c. is_train c.train t) (entry [] plan i)) → In z (blocked_sections d routes plan c) → HasKeeper d routes plan i t z
      of_section none m n c k j =
          let blocks = in_filter_back (λ z. list_any (keeps_from d routes plan c z) (commands plan)) (sections (route_at routes c.route)) z j in
          let own = in_filter_back (λ (c : Command). is_train c.train t) (entry [] plan i) c k in
          let hit = any_found (keeps_from d routes plan c z) (commands plan) blocks.1 in
          let tested = find_in (keeps_from d routes plan c z) (commands plan) hit.0 hit.1 in
          let few = one_route t (path_routes routes (take (i - 1) plan) t) (map (route_at routes) (routes_given t (entry [] plan i))) (placed_where_none none i t m n) in
          let mine : c ≡ record { train = t; route = c.route } = its_train c t own.1 in
          record {
            route = c.route;
            given = first_own t c (filter (λ c. is_train c.train t) (entry [] plan i)) k few;
            first = hit.0;
            found = subst (λ (x : Command). keeper d routes plan x z ≡ Some hit.0) mine hit.1;
            there = tested.0;
            keeps = subst (λ (x : Command). keeps_from d routes plan x z hit.0 ≡ true) mine tested.1;
            why = subst (λ (x : Command). (step_of plan hit.0 ≡ step_of plan x) ⊎ Lacks d routes plan hit.0 x z) mine (keeps_why hit.0 c z tested.1);
          }

      of_place : misplaced d routes 256 plan ≡ [] → (k : ℕ) (u : TrainNo) (c : Command) → In k (one_to (length plan)) → In u (trains d) → In c (filter (λ c. is_train c.train u) (entry [] plan k))
          → (y : SectionNo) × In y (blocked_sections d routes plan c) × (place.Section k u y ≡ place.Section i t z) → HasKeeper d routes plan i t z
      of_place none k u c m n j (y, l, same) =
          let step : k ≡ i = cc in
          let train : u ≡ t = cc in
          let section : y ≡ z = cc in
          let own : In c (filter (λ c. is_train c.train t) (entry [] plan i)) = subst (λ v. In c (filter (λ c. is_train c.train v) (entry [] plan i))) train (subst (λ h. In c (filter (λ c. is_train c.train u) (entry [] plan h))) step j) in
          of_section none (subst (λ h. In h (one_to (length plan))) step m) (subst (λ v. In v (trains d)) train n) c own (subst (λ x. In x (blocked_sections d routes plan c)) section l)

      of_command : misplaced d routes 256 plan ≡ [] → (k : ℕ) (u : TrainNo) → In k (one_to (length plan)) → In u (trains d)
          → (c : Command) × In c (filter (λ c. is_train c.train u) (entry [] plan k)) × In (place.Section i t z) (map (place.Section k u) (blocked_sections d routes plan c)) → HasKeeper d routes plan i t z
      of_command none k u m n (c, j, l) = of_place none k u c m n j (in_map_back (place.Section k u) (blocked_sections d routes plan c) (place.Section i t z) l)

      of_train : misplaced d routes 256 plan ≡ [] → (k : ℕ) → In k (one_to (length plan)) → (u : TrainNo) × In u (trains d) × In (place.Section i t z) (blocked_in d routes plan k u) → HasKeeper d routes plan i t z
      of_train none k m (u, n, j) = of_command none k u m n (in_flat_map_back (λ (c : Command). map (place.Section k u) (blocked_sections d routes plan c)) (filter (λ c. is_train c.train u) (entry [] plan k)) (place.Section i t z) j)

      of_step : misplaced d routes 256 plan ≡ [] → (k : ℕ) × In k (one_to (length plan)) × In (place.Section i t z) (flat_map (blocked_in d routes plan k) (trains d)) → HasKeeper d routes plan i t z
      of_step none (k, m, n) = of_train none k m (in_flat_map_back (blocked_in d routes plan k) (trains d) (place.Section i t z) n)

      later : misplaced d routes 256 plan ≡ [] → ((blocked d routes plan ≡ []) × (Ok plan ≡ refused P4 (place.Section i t z))) ⊎ ((P4 ≡ P4) × In (place.Section i t z) (blocked d routes plan)) → HasKeeper d routes plan i t z
      later none (inl (free, k)) = cc
      later none (inr (k, m)) = of_step none (in_flat_map_back (λ k. flat_map (blocked_in d routes plan k) (trains d)) (one_to (length plan)) (place.Section i t z) m)

      go : ((misplaced d routes 256 plan ≡ []) × (unless P4 (blocked d routes plan) (Ok plan) ≡ refused P4 (place.Section i t z))) ⊎ ((P3 ≡ P4) × In (place.Section i t z) (misplaced d routes 256 plan)) → HasKeeper d routes plan i t z
      go (inl (none, k)) = later none (refused_in P4 (blocked d routes plan) P4 (place.Section i t z) (Ok plan) k)
      go (inr (k, m)) = cc
