-- For each plan that can be carried out there is a normal one that is as good.
use Rattle.std.proofs.Common.{◌≡◌, ℕ, zero, suc, ◌+◌, ◌≤◌, ◌<◌, ◌⊎◌, inl, inr, Bool, true, false, ◌||◌, nat_lt, List, [], ◌∷◌, ◌++◌, length, refl, sym, ap, subst, ◌∙◌, arith, leb-true, le-leb, true≢false}
use Rattle.std.specs.List.{list_any, list_all}
use Rattle.std.proofs.lemmas.List.{append_assoc}
use Rattle.rail_base.specs.declared.station.Station.{Station}
use Rattle.rail_base.specs.declared.station.SectionNo.{SectionNo}
use Rattle.rail_base.specs.declared.route.Route.{Route}
use Rattle.rail_base.specs.declared.plan.Command.{Command}
use Rattle.rail_base.specs.Admitted.{IsAdmitted}
use Rattle.rail_base.specs.Members.{In}
use Rattle.rail_base.specs.Stations.{train_of, trains}
use Rattle.rail_spec.specs.Track.{routes_of}
use Rattle.rail_spec.specs.Plans.{commands, is_path, is_train, path_routes, route_at, sections, step_of}
use Rattle.rail_spec.specs.Feasible.{names_only, IsFeasible, IsRunnable}
use Rattle.rail_plan.specs.Ahead.{is_stopped}
use Rattle.rail_plan.specs.Earlier.{delay, IsAsGood}
use Rattle.rail_plan.specs.Normal.{is_held, IsNormal}
use Rattle.rail_base.proofs.Members.{below_or_not, either, false_unless, list_all_at}
use Rattle.rail_base.proofs.Lists.{in_flat_map_back}
use Rattle.rail_plan.proofs.Held.{held_by_own, held_by_stop}
use Rattle.rail_plan.proofs.Moved.{moved_delay, moved_is_as_good}
use Rattle.rail_plan.proofs.Steps.{split_at, step_is}
use Rattle.rail_plan.proofs.Trimmed.{as_good_both, as_good_itself}
use Rattle.rail_plan.proofs.WellFormed.{paths_of_formed}
use Rattle.normal_plan_spec.specs.Normal.{HasNormalPlan}
use Rattle.normal_plan_spec.proofs.Running.{good_is_feasible, order_of_good, run_alike}

-- ---- lists

-- a list that isn't empty ends with a member
ends_with : {X : Type 0} (xs : List X) → 1 ≤ length xs → (front : List X) × (x : X) × (xs ≡ front ++ x ∷ [])
ends_with [] h = absurd (omega arith)
ends_with (x ∷ []) h = ([], x, refl)
ends_with (x ∷ y ∷ ys) h = let l = ends_with (y ∷ ys) (omega arith) in (x ∷ l.0, l.1, ap (λ zs. x ∷ zs) l.2)

-- all members pass the test, or one doesn't
all_or_one : {X : Type 0} (test : X → Bool) (xs : List X) → (list_all test xs ≡ true) ⊎ ((x : X) × In x xs × (test x ≡ false))
all_or_one test [] = inl refl
all_or_one {X} test (x ∷ xs) = go (test x) refl (all_or_one test xs)
  where
    later : (y : X) × In y xs × (test y ≡ false) → (y : X) × In y (x ∷ xs) × (test y ≡ false)
    later (y, m, e) = (y, inr m, e)

    go : (b : Bool) → test x ≡ b → (list_all test xs ≡ true) ⊎ ((y : X) × In y xs × (test y ≡ false)) → (list_all test (x ∷ xs) ≡ true) ⊎ ((y : X) × In y (x ∷ xs) × (test y ≡ false))
    go false e rest = inr (x, inl refl, e)
    go true e (inl h) = inl (rw (e, h) refl)
    go true e (inr h) = inr (later h)

neither : (a b : Bool) → (a || b) ≡ false → (a ≡ false) × (b ≡ false)
neither true b h = absurd (true≢false h)
neither false b h = (refl, h)

module _ (d : Station) (routes : List Route) (n : ℕ) where
  -- ---- one command

  abbrev HasSooner : List (List Command) → Type 0
  HasSooner plan = (other : List (List Command)) × IsAsGood d routes plan other × (delay other < delay plan)

  module _ (plan : List (List Command)) (runs : IsRunnable d routes n plan) (c : Command) (free : is_held d routes plan c ≡ false) where
    named : names_only d routes plan ≡ true
    named = runs.well_formed.named

    paths : list_all (λ t. is_path (train_of d t) (path_routes routes plan t)) (trains d) ≡ true
    paths = paths_of_formed d routes plan n runs.well_formed.formed

    -- it moves to the step before
    moves : (before : List (List Command)) (last xs ys : List Command) (after : List (List Command)) → plan ≡ before ++ last ∷ (xs ++ c ∷ ys) ∷ after → In c (xs ++ c ∷ ys) → HasSooner plan
    moves before last xs ys after split m = (
      before ++ (last ++ c ∷ []) ∷ (xs ++ ys) ∷ after,
      subst (λ p. IsAsGood d routes p (before ++ (last ++ c ∷ []) ∷ (xs ++ ys) ∷ after)) (sym split)
          (moved_is_as_good before last xs ys c after d routes n (subst (IsRunnable d routes n) split runs) own clear),
      let one = moved_delay before last xs ys c after in let same = ap delay split in omega arith,
    )
      where
        own : list_any (λ (e : Command). is_train e.train c.train) last ≡ false
        own = false_unless (list_any (λ (e : Command). is_train e.train c.train) last) (λ h. true≢false (sym (held_by_own d routes plan named paths before last (xs ++ c ∷ ys) after split c m h) ∙ free))

        clear : (z : SectionNo) → In z (sections (route_at routes c.route)) → is_stopped d routes c.train z before last ≡ false
        clear z k = false_unless (is_stopped d routes c.train z before last) (λ h. true≢false (sym (held_by_stop d routes plan named paths before last (xs ++ c ∷ ys) after split c m z k h) ∙ free))

    sooner : In c (commands plan) → 2 ≤ step_of plan c → HasSooner plan
    sooner m later = in_its_step (in_flat_map_back (λ s. s) plan c m)
      where
        at : (step : List Command) → In c step → (front after : List (List Command)) → plan ≡ front ++ step ∷ after → HasSooner plan
        at step k front after split =
            let number = step_is d routes plan named paths front step after c split k in
            let e = ends_with front (omega arith) in
            let parts = split_at step c k in
            moves e.0 e.1 parts.0 parts.1 after
            (split ∙ ap (λ p. p ++ step ∷ after) e.2 ∙ append_assoc e.0 (e.1 ∷ []) (step ∷ after) ∙ ap (λ s. e.0 ++ e.1 ∷ s ∷ after) parts.2)
            (subst (In c) parts.2 k)

        in_its_step : (step : List Command) × In step plan × In c step → HasSooner plan
        in_its_step (step, l, k) = let parts = split_at plan step l in at step k parts.0 parts.1 parts.2

  -- ---- the whole plan

  -- each command of a plan is held or stands in the first step, or one isn't and doesn't
  normal_or_sooner : (plan : List (List Command)) → IsRunnable d routes n plan → IsNormal d routes plan ⊎ HasSooner plan
  normal_or_sooner plan runs = go (all_or_one (λ c. nat_lt (step_of plan c) 2 || is_held d routes plan c) (commands plan))
    where
      held : (c : Command) → 2 ≤ step_of plan c → (nat_lt (step_of plan c) 2 ≡ true) ⊎ (is_held d routes plan c ≡ true) → is_held d routes plan c ≡ true
      held c l (inl h) = let less = leb-true (suc (step_of plan c)) 2 h in absurd (omega arith)
      held c l (inr h) = h

      high : (c : Command) → nat_lt (step_of plan c) 2 ≡ false → 2 ≤ step_of plan c
      high c h = cases (below_or_not (step_of plan c) 2)
        where
          cases : (step_of plan c < 2) ⊎ (2 ≤ step_of plan c) → 2 ≤ step_of plan c
          cases (inl l) = absurd (true≢false (sym (le-leb (suc (step_of plan c)) 2 l) ∙ h))
          cases (inr l) = l

      one : (c : Command) × In c (commands plan) × ((nat_lt (step_of plan c) 2 || is_held d routes plan c) ≡ false) → HasSooner plan
      one (c, m, e) = let h = neither (nat_lt (step_of plan c) 2) (is_held d routes plan c) e in sooner plan runs c h.1 m (high c h.0)

      go : (list_all (λ c. nat_lt (step_of plan c) 2 || is_held d routes plan c) (commands plan) ≡ true) ⊎ ((c : Command) × In c (commands plan) × ((nat_lt (step_of plan c) 2 || is_held d routes plan c) ≡ false)) → IsNormal d routes plan ⊎ HasSooner plan
      go (inl h) = inl (λ c m l. held c l (either (nat_lt (step_of plan c) 2) (is_held d routes plan c) (list_all_at (λ c. nat_lt (step_of plan c) 2 || is_held d routes plan c) (commands plan) c h m)))
      go (inr h) = inr (one h)

  abbrev HasNormal : List (List Command) → Type 0
  HasNormal plan = (other : List (List Command)) × IsAsGood d routes plan other × IsNormal d routes other

  -- by the bound on how late its commands stand
  normal_below : (bound : ℕ) (plan : List (List Command)) → delay plan < bound → IsRunnable d routes n plan → HasNormal plan
  normal_below zero plan less runs = absurd (omega arith)
  normal_below (suc bound) plan less runs = go (normal_or_sooner plan runs) (normal_below bound)
    where
      by : (other : List (List Command)) → IsAsGood d routes plan other → HasNormal other → HasNormal plan
      by other good (last, as_good, normal) = (last, as_good_both d routes plan other last good as_good, normal)

      on : HasSooner plan → ((other : List (List Command)) → delay other < bound → IsRunnable d routes n other → HasNormal other) → HasNormal plan
      on (other, good, fewer) rest = by other good (rest other (omega arith) (good.runnable n runs))

      go : IsNormal d routes plan ⊎ HasSooner plan → ((other : List (List Command)) → delay other < bound → IsRunnable d routes n other → HasNormal other) → HasNormal plan
      go (inl normal) rest = (plan, as_good_itself d routes plan, normal)
      go (inr h) rest = on h rest

  pub has_normal : (plan : List (List Command)) → IsRunnable d routes n plan → HasNormal plan
  has_normal plan runs = normal_below (delay plan + 1) plan (omega arith) runs

-- ---- feasible plans

pub has_normal_plan : (d : Station) → IsAdmitted d → (n : ℕ) (plan : List (List Command)) → IsFeasible d n plan → HasNormalPlan d n plan
has_normal_plan d h n plan f = told (has_normal d (routes_of d) n plan f.runnable)
  where
    told : (other : List (List Command)) × IsAsGood d (routes_of d) plan other × IsNormal d (routes_of d) other → HasNormalPlan d n plan
    told (other, good, normal) = record {
      other = other;
      feasible = good_is_feasible d n plan other f good;
      normal = normal;
      same = order_of_good d (routes_of d) plan other good;
      run = run_alike d (routes_of d) plan other (order_of_good d (routes_of d) plan other good);
      fewer = good.fewer;
    }
