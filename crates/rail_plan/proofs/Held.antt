-- A command that can't join the step before its own is held.
use Rattle.std.proofs.Common.{◌≡◌, suc, ◌+◌, ◌-◌, ◌⊎◌, inl, inr, Bool, true, false, not, ◌&&◌, nat_lt, List, [], ◌∷◌, ◌++◌, length, refl, sym, ap, subst, ◌∙◌, arith, le-leb, true≢false}
use Rattle.std.specs.Prelude.{is_none}
use Rattle.std.specs.List.{list_any, list_all}
use Rattle.std.proofs.lemmas.List.{append_assoc, get_or_at, length-append, length_push}
use Rattle.rail_base.specs.declared.station.Station.{Station}
use Rattle.rail_base.specs.declared.station.SectionNo.{SectionNo}
use Rattle.rail_base.specs.declared.station.TrainNo.{TrainNo}
use Rattle.rail_base.specs.declared.route.Route.{Route}
use Rattle.rail_base.specs.declared.plan.Command.{Command}
use Rattle.rail_base.specs.Members.{In}
use Rattle.rail_base.specs.Numbering.{entry, first_of_list}
use Rattle.rail_base.specs.Stations.{trains, train_of}
use Rattle.rail_spec.specs.Plans.{is_train, is_path, commands, contend, route_at, path_routes, precedes, sections, has_section, goes_over, share, own_shared, step_of}
use Rattle.rail_spec.specs.Feasible.{names_only}
use Rattle.rail_plan.specs.declared.holds.Hold.{Hold}
use Rattle.rail_plan.specs.Ahead.{clears, stops, is_stopped, stopped_sections}
use Rattle.rail_plan.specs.Holds.{kept_sections, takes, AreHolds}
use Rattle.rail_plan.specs.Normal.{can_clear_by, excludes, is_held, is_in_the_way}
use Rattle.rail_plan.specs.Earlier.{can_join}
use Rattle.rail_base.proofs.Members.{and_both, and_left, and_right, either, false_unless, in_filter, is_false, list_all_at, list_any_from, list_any_gives, or_left, or_right}
use Rattle.rail_base.proofs.Lists.{in_append_right, in_filter_back, in_flat_map}
use Rattle.rail_plan.proofs.Blocked.{clears_by}
use Rattle.rail_plan.proofs.Giving.{any_less, stops_takes}
use Rattle.rail_plan.proofs.Holding.{held_sections_are, stopped_apart}
use Rattle.rail_plan.proofs.Standing.{in_own_shared, shares_it}
use Rattle.rail_plan.proofs.Steps.{step_is}

-- ---- a test of both kinds

-- an empty list has no first member
none_first_of : {X : Type 0} (xs : List X) → is_none (first_of_list xs) ≡ true → xs ≡ []
none_first_of [] h = refl
none_first_of (x ∷ xs) h = absurd (true≢false (sym h))

some_first_of : {X : Type 0} (xs : List X) → is_none (first_of_list xs) ≡ false → (x : X) × In x xs
some_first_of [] h = absurd (true≢false h)
some_first_of (x ∷ xs) h = (x, inl refl)

-- where both don't hold, the first does or the second doesn't
not_both : (a b : Bool) → (not a && b) ≡ false → (a ≡ true) ⊎ (b ≡ false)
not_both true b h = inl refl
not_both false b h = inr h

not_in : {X : Type 0} (xs : List X) (x : X) → xs ≡ [] → In x xs → ⊥
not_in xs x e m = subst (In x) e m

module _ (d : Station) (routes : List Route) (before : List (List Command)) (last : List Command) (holds : List Hold) (are : AreHolds d routes before holds) (c : Command) where
  -- a command that can join a step is for none of its trains
  pub joins_own : can_join routes holds last c ≡ true → list_any (λ (e : Command). is_train e.train c.train) last ≡ false
  joins_own h = is_false (list_any (λ (e : Command). is_train e.train c.train) last) (and_left (not (list_any (λ (e : Command). is_train e.train c.train) last)) (is_none (first_of_list (kept_sections routes holds last c))) h)

  -- and isn't stopped there
  pub joins_free : can_join routes holds last c ≡ true → (z : SectionNo) → In z (sections (route_at routes c.route)) → is_stopped d routes c.train z before last ≡ false
  joins_free h z m = false_unless (is_stopped d routes c.train z before last) (λ k. not_in (stopped_sections d routes before last c) z none (in_filter (λ y. is_stopped d routes c.train y before last) (sections (route_at routes c.route)) z m k))
    where
      none : stopped_sections d routes before last c ≡ []
      none = sym (held_sections_are d routes last before holds are c) ∙ none_first_of (kept_sections routes holds last c) (and_right (not (list_any (λ (e : Command). is_train e.train c.train) last)) (is_none (first_of_list (kept_sections routes holds last c))) h)

  -- one that can't is for one of its trains, or is stopped
  stays_out : can_join routes holds last c ≡ false → (list_any (λ (e : Command). is_train e.train c.train) last ≡ true) ⊎ ((z : SectionNo) × In z (sections (route_at routes c.route)) × (is_stopped d routes c.train z before last ≡ true))
  stays_out h = go (not_both (list_any (λ (e : Command). is_train e.train c.train) last) (is_none (first_of_list (kept_sections routes holds last c))) h)
    where
      found : (z : SectionNo) × In z (kept_sections routes holds last c) → (z : SectionNo) × In z (sections (route_at routes c.route)) × (is_stopped d routes c.train z before last ≡ true)
      found (z, m) =
          let l = in_filter_back (λ y. is_stopped d routes c.train y before last) (sections (route_at routes c.route)) z (subst (In z) (held_sections_are d routes last before holds are c) m) in
          (z, l.0, l.1)

      go : (list_any (λ (e : Command). is_train e.train c.train) last ≡ true) ⊎ (is_none (first_of_list (kept_sections routes holds last c)) ≡ false) → (list_any (λ (e : Command). is_train e.train c.train) last ≡ true) ⊎ ((z : SectionNo) × In z (sections (route_at routes c.route)) × (is_stopped d routes c.train z before last ≡ true))
      go (inl k) = inl k
      go (inr k) = inr (found (some_first_of (kept_sections routes holds last c) k))

-- ---- who stops it

-- a command e of these steps, with the step of e and those after it, does
abbrev Stopper : Station → List Route → TrainNo → SectionNo → List (List Command) → Type 0
Stopper d routes t z before = (xs : List (List Command)) × (s : List Command) × (ss : List (List Command)) × (e : Command) × (before ≡ xs ++ s ∷ ss) × In e s × (stops d routes (s ∷ ss) t z e ≡ true)

stopper : (d : Station) (routes : List Route) (t : TrainNo) (z : SectionNo) (before : List (List Command)) → is_stopped d routes t z before [] ≡ true → Stopper d routes t z before
stopper d routes t z [] h = absurd (true≢false (sym h))
stopper d routes t z (s ∷ ss) h = go (either (list_any (stops d routes (s ∷ ss) t z) s) (is_stopped d routes t z ss []) h) (stopper d routes t z ss)
  where
    here : (e : Command) × In e s × (stops d routes (s ∷ ss) t z e ≡ true) → Stopper d routes t z (s ∷ ss)
    here (e, m, k) = ([], s, ss, e, refl, m, k)

    later : Stopper d routes t z ss → Stopper d routes t z (s ∷ ss)
    later (xs, x, rest, e, split, m, k) = (s ∷ xs, x, rest, e, ap (λ ys. s ∷ ys) split, m, k)

    go : (list_any (stops d routes (s ∷ ss) t z) s ≡ true) ⊎ (is_stopped d routes t z ss [] ≡ true) → (is_stopped d routes t z ss [] ≡ true → Stopper d routes t z ss) → Stopper d routes t z (s ∷ ss)
    go (inl k) rest = here (list_any_gives (stops d routes (s ∷ ss) t z) s k)
    go (inr k) rest = later (rest k)

module _ (d : Station) (routes : List Route) (plan : List (List Command)) (named : names_only d routes plan ≡ true) (paths : list_all (λ t. is_path (train_of d t) (path_routes routes plan t)) (trains d) ≡ true)
    (before : List (List Command)) (last step : List Command) (after : List (List Command)) (split : plan ≡ before ++ last ∷ step ∷ after) (c : Command) (m : In c step) where
  own_step : step_of plan c ≡ length before + 1 + 1
  own_step = step_is d routes plan named paths (before ++ last ∷ []) step after c (split ∙ sym (append_assoc before (last ∷ []) (step ∷ after))) m ∙ ap (λ k. k + 1) (length_push before last)

  previous_is : step_of plan c - 1 ≡ length before + 1
  previous_is = let own = own_step in omega arith

  last_is : entry [] plan (step_of plan c - 1) ≡ last
  last_is =
      let number : step_of plan c - 1 ≡ suc (length before) = (let own = own_step in omega arith) in
      ap (entry [] plan) number ∙ ap (λ p. entry [] p (suc (length before))) split ∙ get_or_at before last (step ∷ after) [] (length before) refl

  -- one of the step before excludes it
  held_by_last : list_any (excludes routes c) last ≡ true → is_held d routes plan c ≡ true
  held_by_last h = or_left (list_any (excludes routes c) (entry [] plan (step_of plan c - 1))) (list_any (is_in_the_way d routes plan (step_of plan c - 1) c) (commands plan)) (ap (list_any (excludes routes c)) last_is ∙ h)

  pub held_by_own : list_any (λ (e : Command). is_train e.train c.train) last ≡ true → is_held d routes plan c ≡ true
  held_by_own h = held_by_last (any_less (λ (e : Command). is_train e.train c.train) (excludes routes c) last (λ e k l. or_left (is_train e.train c.train) (contend routes e c) l) h)

  module _ (z : SectionNo) (k : In z (sections (route_at routes c.route))) where
    -- a command of another train with the section contends with it
    contends : (e : Command) → takes routes c.train z e ≡ true → contend routes e c ≡ true
    contends e h =
        let other = not (is_train e.train c.train) in
        let has = has_section (route_at routes e.route) z in
        and_both other (share (route_at routes e.route) (route_at routes c.route)) (and_left other has h) (shares_it (route_at routes e.route) (route_at routes c.route) z (and_right other has h) k)

    held_by_contending : list_any (takes routes c.train z) last ≡ true → is_held d routes plan c ≡ true
    held_by_contending h = held_by_last (any_less (takes routes c.train z) (excludes routes c) last (λ e n l. or_right (is_train e.train c.train) (contend routes e c) (contends e l)) h)

    held_by_earlier : Stopper d routes c.train z before → is_held d routes plan c ≡ true
    held_by_earlier (xs, s, ss, e, parts, n, h) =
        or_right (list_any (excludes routes c) (entry [] plan (step_of plan c - 1))) (list_any (is_in_the_way d routes plan (step_of plan c - 1) c) (commands plan))
        (list_any_from (is_in_the_way d routes plan (step_of plan c - 1) c) (commands plan) e there
        (and_both (precedes routes plan e c) (not (list_all (can_clear_by d routes plan (step_of plan c - 1) e) (own_shared (route_at routes e.route) (route_at routes c.route)))) sooner (ap not kept)))
      where
        whole : plan ≡ xs ++ ((s ∷ ss) ++ last ∷ step ∷ after)
        whole = split ∙ ap (λ p. p ++ last ∷ step ∷ after) parts ∙ append_assoc xs (s ∷ ss) (last ∷ step ∷ after)

        size : length before ≡ length xs + suc (length ss)
        size = ap length parts ∙ length-append xs (s ∷ ss)

        there : In e (commands plan)
        there = subst (λ p. In e (commands p)) (sym whole) (in_flat_map (λ x. x) (xs ++ ((s ∷ ss) ++ last ∷ step ∷ after)) s e (in_append_right s xs ((s ∷ ss) ++ last ∷ step ∷ after) (inl refl)) n)

        its_step : step_of plan e ≡ length xs + 1
        its_step = step_is d routes plan named paths xs s (ss ++ last ∷ step ∷ after) e whole n

        sooner : precedes routes plan e c ≡ true
        sooner = and_both (contend routes e c) (nat_lt (step_of plan e) (step_of plan c)) (contends e (stops_takes d routes (s ∷ ss) c.train z e h)) (le-leb (suc (step_of plan e)) (step_of plan c) (let a = its_step in let b = own_step in let l = size in omega arith))

        uncleared : can_clear_by d routes plan (step_of plan c - 1) e z ≡ false
        uncleared =
            let number : step_of plan c - 1 ≡ length xs + suc (length ss) + 1 = (let b = own_step in let l = size in omega arith) in
            ap (λ i. can_clear_by d routes plan i e z) number ∙ clears_by d routes plan named paths xs ss s (last ∷ step ∷ after) whole e n z
            ∙ is_false (clears d routes (s ∷ ss) e z) (and_right (not (is_train e.train c.train) && goes_over (route_at routes e.route) z) (not (clears d routes (s ∷ ss) e z)) h)

        over : goes_over (route_at routes e.route) z ≡ true
        over = and_right (not (is_train e.train c.train)) (goes_over (route_at routes e.route) z) (and_left (not (is_train e.train c.train) && goes_over (route_at routes e.route) z) (not (clears d routes (s ∷ ss) e z)) h)

        kept : list_all (can_clear_by d routes plan (step_of plan c - 1) e) (own_shared (route_at routes e.route) (route_at routes c.route)) ≡ false
        kept = false_unless (list_all (can_clear_by d routes plan (step_of plan c - 1) e) (own_shared (route_at routes e.route) (route_at routes c.route))) (λ a.
            true≢false (sym (list_all_at (can_clear_by d routes plan (step_of plan c - 1) e) (own_shared (route_at routes e.route) (route_at routes c.route)) z a (in_own_shared (route_at routes e.route) (route_at routes c.route) z over k)) ∙ uncleared))

    pub held_by_stop : is_stopped d routes c.train z before last ≡ true → is_held d routes plan c ≡ true
    held_by_stop h = go (either (is_stopped d routes c.train z before []) (list_any (takes routes c.train z) last) (sym (stopped_apart d routes c.train z before last) ∙ h))
      where
        go : (is_stopped d routes c.train z before [] ≡ true) ⊎ (list_any (takes routes c.train z) last ≡ true) → is_held d routes plan c ≡ true
        go (inl l) = held_by_earlier (stopper d routes c.train z before l)
        go (inr l) = held_by_contending l

  pub held_outside : (holds : List Hold) → AreHolds d routes before holds → can_join routes holds last c ≡ false → is_held d routes plan c ≡ true
  held_outside holds are h = go (stays_out d routes before last holds are c h)
    where
      go : (list_any (λ (e : Command). is_train e.train c.train) last ≡ true) ⊎ ((z : SectionNo) × In z (sections (route_at routes c.route)) × (is_stopped d routes c.train z before last ≡ true)) → is_held d routes plan c ≡ true
      go (inl k) = held_by_own k
      go (inr (z, k, l)) = held_by_stop z k l
