-- A plan is executable exactly where no command of a step is stopped after the steps before it.
use Rattle.std.proofs.Common.{◌≡◌, ℕ, zero, suc, ◌+◌, ◌≤◌, ◌<◌, inl, true, false, List, [], ◌∷◌, ◌++◌, map, filter, flat_map, length, take, get_or, refl, sym, ap, subst, ◌∙◌, arith, eq-eqb, true≢false}
use Rattle.std.specs.List.{list_all}
use Rattle.std.proofs.lemmas.List.{append_assoc, append-nil, get_or_at, get_or_default, length-append, take_at}
use Rattle.rail_base.specs.declared.station.Station.{Station}
use Rattle.rail_base.specs.declared.station.SectionNo.{SectionNo}
use Rattle.rail_base.specs.declared.station.TrainNo.{TrainNo}
use Rattle.rail_base.specs.declared.route.Route.{Route}
use Rattle.rail_base.specs.declared.plan.Command.{Command}
use Rattle.rail_base.specs.Members.{In}
use Rattle.rail_base.specs.Numbering.{one_to}
use Rattle.rail_base.specs.Stations.{trains, train_of, IsTrain}
use Rattle.rail_spec.specs.Plans.{is_train, is_path, is_executable, commands, route_at, sections, path_routes}
use Rattle.rail_spec.specs.Feasible.{is_of, names_only}
use Rattle.rail_plan.specs.declared.place.PlanPlace.{PlanPlace}
use Rattle.rail_plan.specs.declared.place.PlanPlace.TheVariants as place
use Rattle.rail_plan.specs.Ahead.{is_stopped, stopped_sections, stopped_in, stopped}
use Rattle.rail_plan.specs.Executable.{blocked_in, blocked}
use Rattle.rail_base.proofs.Members.{false_unless, in_filter, list_all_at}
use Rattle.rail_base.proofs.Lists.{in_append_right, in_filter_back, in_flat_map, in_flat_map_back, in_map_back}
use Rattle.rail_plan.proofs.Blocked.{blocked_step}
use Rattle.rail_plan.proofs.Empties.{in_one_to, in_one_to_back, in_trains, none_in, none_joined, none_kept, none_mapped}
use Rattle.rail_plan.proofs.Named.{its_train}
use Rattle.rail_plan.proofs.Standing.{executable_of_free, free_of_executable}

module _ (d : Station) (routes : List Route) where
  -- no command of the step is stopped after these steps
  abbrev pub IsFree : List (List Command) → List Command → Type 0
  IsFree before step = (g : Command) → In g step → (z : SectionNo) → In z (sections (route_at routes g.route)) → is_stopped d routes g.train z before step ≡ false

  -- nor is one of the steps after it
  abbrev pub AreFree : List (List Command) → List (List Command) → Type 0
  AreFree before [] = Unit {0}
  AreFree before (s ∷ ss) = IsFree before s × AreFree (before ++ s ∷ []) ss

  -- ---- lists of such steps

  pub free_front : (before xs ys : List (List Command)) → AreFree before (xs ++ ys) → AreFree before xs
  free_front before [] ys f = tt
  free_front before (x ∷ xs) ys f = (f.0, free_front (before ++ x ∷ []) xs ys f.1)

  pub free_back : (before xs ys : List (List Command)) → AreFree before (xs ++ ys) → AreFree (before ++ xs) ys
  free_back before [] ys f = subst (λ b. AreFree b ys) (sym (append-nil before)) f
  free_back before (x ∷ xs) ys f = subst (λ b. AreFree b ys) (append_assoc before (x ∷ []) xs) (free_back (before ++ x ∷ []) xs ys f.1)

  pub free_both : (before xs ys : List (List Command)) → AreFree before xs → AreFree (before ++ xs) ys → AreFree before (xs ++ ys)
  free_both before [] ys f g = subst (λ b. AreFree b ys) (append-nil before) g
  free_both before (x ∷ xs) ys f g = (f.0, free_both (before ++ x ∷ []) xs ys f.1 (subst (λ b. AreFree b ys) (sym (append_assoc before (x ∷ []) xs)) g))

  free_at : (before rest : List (List Command)) → AreFree before rest → (j : ℕ) → j < length rest → IsFree (before ++ take j rest) (get_or rest j [])
  free_at before [] f j l = absurd (omega arith)
  free_at before (s ∷ ss) f zero l = subst (λ b. IsFree b s) (sym (append-nil before)) f.0
  free_at before (s ∷ ss) f (suc j) l = subst (λ b. IsFree b (get_or ss j [])) (append_assoc before (s ∷ []) (take j ss)) (free_at (before ++ s ∷ []) ss f.1 j (omega arith))

  -- ---- one step

  pub free_of_stopped : (before : List (List Command)) (step : List Command) → ((g : Command) → In g step → IsTrain d g.train) → stopped d routes before step ≡ [] → IsFree before step
  free_of_stopped before step there none g m z k =
      let of_train = none_joined (stopped_in d routes before step) (trains d) g.train none (in_trains d g.train (there g m)) in
      let places = λ (c : Command). map (place.Section (length before + 1) g.train) (stopped_sections d routes before step c) in
      let of_command = none_joined places (filter (λ (c : Command). is_train c.train g.train) step) g of_train (in_filter (λ (c : Command). is_train c.train g.train) step g m (eq-eqb g.train.0 g.train.0 refl)) in
      let of_section = none_mapped (place.Section (length before + 1) g.train) (stopped_sections d routes before step g) of_command in
      false_unless (is_stopped d routes g.train z before step) (λ h. none_kept (λ y. is_stopped d routes g.train y before step) (sections (route_at routes g.route)) z of_section k h)

  pub stopped_of_free : (before : List (List Command)) (step : List Command) → IsFree before step → stopped d routes before step ≡ []
  stopped_of_free before step free = none_in (stopped d routes before step) (λ p m. of_train p (in_flat_map_back (stopped_in d routes before step) (trains d) p m))
    where
      of_section : (p : PlanPlace) (t : TrainNo) (c : Command) → In c step → (z : SectionNo) × In z (stopped_sections d routes before step c) × (place.Section (length before + 1) t z ≡ p) → ⊥
      of_section p t c k (z, l, e) =
          let both = in_filter_back (λ y. is_stopped d routes c.train y before step) (sections (route_at routes c.route)) z l in
          true≢false (sym both.1 ∙ free c k z both.0)

      of_command : (p : PlanPlace) (t : TrainNo) → (c : Command) × In c (filter (λ c. is_train c.train t) step) × In p (map (place.Section (length before + 1) t) (stopped_sections d routes before step c)) → ⊥
      of_command p t (c, k, l) = of_section p t c (in_filter_back (λ (c : Command). is_train c.train t) step c k).0 (in_map_back (place.Section (length before + 1) t) (stopped_sections d routes before step c) p l)

      of_train : (p : PlanPlace) → (t : TrainNo) × In t (trains d) × In p (stopped_in d routes before step t) → ⊥
      of_train p (t, k, l) = of_command p t (in_flat_map_back (λ c. map (place.Section (length before + 1) t) (stopped_sections d routes before step c)) (filter (λ c. is_train c.train t) step) p l)

  -- ---- plans

  module _ (plan : List (List Command)) (named : names_only d routes plan ≡ true) (paths : list_all (λ t. is_path (train_of d t) (path_routes routes plan t)) (trains d) ≡ true) where
    pub free_of_plan : is_executable d routes plan ≡ true → AreFree [] plan
    free_of_plan runs = go [] plan refl
      where
        none : blocked d routes plan ≡ []
        none = free_of_executable d routes plan runs

        its : (before : List (List Command)) (s : List Command) (ss : List (List Command)) → plan ≡ before ++ s ∷ ss → (g : Command) → In g s → IsTrain d g.train
        its before s ss e g m = its_train d routes g (list_all_at (is_of d routes) (commands plan) g named (subst (λ p. In g (commands p)) (sym e) (in_flat_map (λ z. z) (before ++ s ∷ ss) s g (in_append_right s before (s ∷ ss) (inl refl)) m)))

        here : (before : List (List Command)) (s : List Command) (ss : List (List Command)) → plan ≡ before ++ s ∷ ss → stopped d routes before s ≡ []
        here before s ss e =
            let size : length plan ≡ length before + suc (length ss) = ap length e ∙ length-append before (s ∷ ss) in
            let read : get_or plan (length before) s ≡ s = ap (λ p. get_or p (length before) s) e ∙ get_or_at before s ss s (length before) refl in
            let front : take (length before) plan ≡ before = ap (take (length before)) e ∙ take_at before (s ∷ ss) (length before) refl in
            let same = blocked_step d routes plan named paths (length before) s (omega arith) (sym read) in
            ap (λ b. stopped d routes b s) (sym front) ∙ sym same
            ∙ none_joined (λ i. flat_map (blocked_in d routes plan i) (trains d)) (one_to (length plan)) (length before + 1) none (in_one_to (length plan) (length before + 1) (omega arith) (omega arith))

        go : (before rest : List (List Command)) → plan ≡ before ++ rest → AreFree before rest
        go before [] e = tt
        go before (s ∷ ss) e = (free_of_stopped before s (its before s ss e) (here before s ss e), go (before ++ s ∷ []) ss (e ∙ sym (append_assoc before (s ∷ []) ss)))

    pub plan_of_free : AreFree [] plan → is_executable d routes plan ≡ true
    plan_of_free free = executable_of_free d routes plan named (none_in (blocked d routes plan) (λ p m. go p (in_flat_map_back (λ i. flat_map (blocked_in d routes plan i) (trains d)) (one_to (length plan)) p m)))
      where
        none : (j : ℕ) → j < length plan → flat_map (blocked_in d routes plan (j + 1)) (trains d) ≡ []
        none j l =
            let step = get_or plan j [] in
            blocked_step d routes plan named paths j step l (get_or_default plan j [] step l)
            ∙ stopped_of_free (take j plan) step (free_at [] plan free j l)

        at : (p : PlanPlace) (i : ℕ) → (1 ≤ i) × (i ≤ length plan) → In p (flat_map (blocked_in d routes plan i) (trains d)) → ⊥
        at p zero range m = let low = range.0 in absurd (omega arith)
        at p (suc j) range m =
            let high = range.1 in
            let number : suc j ≡ j + 1 = omega arith in
            subst (In p) (none j (omega arith)) (subst (λ i. In p (flat_map (blocked_in d routes plan i) (trains d))) number m)

        go : (p : PlanPlace) → (i : ℕ) × In i (one_to (length plan)) × In p (flat_map (blocked_in d routes plan i) (trains d)) → ⊥
        go p (i, k, m) = at p i (in_one_to_back (length plan) i k) m
