-- A plan is executable exactly where no command is blocked.
use Rattle.std.proofs.Common.{◌≡◌, ℕ, suc, ◌≤◌, ◌⊎◌, inl, inr, Bool, true, false, not, ◌&&◌, ◌||◌, ◌==◌, nat_lt, List, [], map, filter, flat_map, length, refl, sym, ap, ap₂, subst, ◌∙◌, arith, leb-true, leb-false, eqb-true, eq-eqb, true≢false, Contains}
use Rattle.std.specs.List.{list_any, list_all}
use Rattle.std.proofs.lemmas.List.{get_or_default}
use Rattle.rail_base.specs.declared.station.Station.{Station}
use Rattle.rail_base.specs.declared.station.SectionNo.{SectionNo}
use Rattle.rail_base.specs.declared.station.TrainNo.{TrainNo}
use Rattle.rail_base.specs.declared.route.Route.{Route}
use Rattle.rail_base.specs.declared.plan.Command.{Command}
use Rattle.rail_base.specs.Members.{In}
use Rattle.rail_base.specs.Numbering.{entry, one_to}
use Rattle.rail_base.specs.Stations.{trains}
use Rattle.rail_base.specs.Routes.{overlaps}
use Rattle.rail_spec.specs.Plans.{is_train, commands, route_at, sections, own_sections, has_section, goes_over, own_shared, share, step_of, can_clear, may_stand, is_executable}
use Rattle.rail_spec.specs.Feasible.{is_of, names_only}
use Rattle.rail_plan.specs.declared.place.PlanPlace.{PlanPlace}
use Rattle.rail_plan.specs.declared.place.PlanPlace.TheVariants as place
use Rattle.rail_plan.specs.Executable.{keeps_from, blocked_sections, blocked_in, blocked}
use Rattle.rail_base.proofs.Members.{and_left, and_right, and_both, either, list_all_at, list_any_from, list_any_gives, in_filter, is_false, or_left, or_right}
use Rattle.rail_base.proofs.Sharing.{has_when_in, in_own, in_sections, own_goes_over}
use Rattle.rail_base.proofs.Lists.{in_map_back, in_filter_back, in_flat_map, in_flat_map_back, list_all_from, in_entry}
use Rattle.rail_base.proofs.Contained.{contains_of_in}
use Rattle.rail_plan.proofs.Named.{its_train}
use Rattle.rail_plan.proofs.Empties.{none_in, none_mapped, none_kept, none_joined, in_one_to, in_one_to_back, in_trains}

-- ---- sections

-- a route has the sections that it goes over
pub over_has : (r : Route) (z : SectionNo) → goes_over r z ≡ true → has_section r z ≡ true
over_has r z h = or_left (goes_over r z) (overlaps r z) h

pub shares_it : (r q : Route) (z : SectionNo) → has_section r z ≡ true → In z (sections q) → share r q ≡ true
shares_it r q z h m = list_any_from (has_section q) (sections r) z (in_sections r z h) (has_when_in q z m)

pub in_own_shared : (r q : Route) (z : SectionNo) → goes_over r z ≡ true → In z (sections q) → In z (own_shared r q)
in_own_shared r q z h m = in_filter (has_section q) (own_sections r) z (in_own r z h) (has_when_in q z m)

-- a section that two routes share
pub one_shared : (r q : Route) → share r q ≡ true → (z : SectionNo) × (has_section r z ≡ true) × In z (sections q)
one_shared r q h = let z = list_any_gives (has_section q) (sections r) h in (z.0, has_when_in r z.0 z.1, in_sections q z.0 z.2)

module _ (d : Station) (routes : List Route) (plan : List (List Command)) where
  -- ---- two commands

  module _ (e c : Command) where
    abbrev earlier : Route
    earlier = route_at routes e.route

    abbrev later : Route
    later = route_at routes c.route

    abbrev other : Bool
    other = not (is_train e.train c.train)

    abbrev together : SectionNo → Bool
    together z = has_section earlier z && (step_of plan e == step_of plan c)

    abbrev sooner : Bool
    sooner = nat_lt (step_of plan e) (step_of plan c)

    abbrev uncleared : SectionNo → Bool
    uncleared z = goes_over earlier z && sooner && not (can_clear d routes plan e c z)

    abbrev all_cleared : Bool
    all_cleared = list_all (can_clear d routes plan e c) (own_shared earlier later)

    -- where they share a section and may stand as they do, one of them is earlier, and e clears what it is to clear
    stand_apart : may_stand d routes plan e c ≡ true → other ≡ true → share earlier later ≡ true → (nat_lt (step_of plan c) (step_of plan e) ≡ true) ⊎ ((sooner && all_cleared) ≡ true)
    stand_apart may o s = either (nat_lt (step_of plan c) (step_of plan e)) (sooner && all_cleared)
        (sym (ap₂ (λ a b. a || not b || nat_lt (step_of plan c) (step_of plan e) || (sooner && all_cleared)) (is_false (is_train e.train c.train) o) s) ∙ may)

    -- e keeps c from no section where they may stand so
    stands_free : (z : SectionNo) → may_stand d routes plan e c ≡ true → In z (sections later) → keeps_from d routes plan c z e ≡ true → ⊥
    stands_free z may m keeps = go (either (together z) (uncleared z) (and_right other (together z || uncleared z) keeps))
      where
        apart : has_section earlier z ≡ true → (nat_lt (step_of plan c) (step_of plan e) ≡ true) ⊎ ((sooner && all_cleared) ≡ true)
        apart h = stand_apart may (and_left other (together z || uncleared z) keeps) (shares_it earlier later z h m)

        not_same : step_of plan e ≡ step_of plan c → (nat_lt (step_of plan c) (step_of plan e) ≡ true) ⊎ ((sooner && all_cleared) ≡ true) → ⊥
        not_same same (inl l) = let less = leb-true (suc (step_of plan c)) (step_of plan e) l in absurd (omega arith)
        not_same same (inr l) = let more = leb-true (suc (step_of plan e)) (step_of plan c) (and_left sooner all_cleared l) in absurd (omega arith)

        not_later : goes_over earlier z ≡ true → sooner ≡ true → can_clear d routes plan e c z ≡ false → (nat_lt (step_of plan c) (step_of plan e) ≡ true) ⊎ ((sooner && all_cleared) ≡ true) → ⊥
        not_later over f kept (inl l) =
            let less = leb-true (suc (step_of plan c)) (step_of plan e) l in
            let more = leb-true (suc (step_of plan e)) (step_of plan c) f in
            absurd (omega arith)
        not_later over f kept (inr l) =
            true≢false (sym (list_all_at (can_clear d routes plan e c) (own_shared earlier later) z (and_right sooner all_cleared l) (in_own_shared earlier later z over m)) ∙ kept)

        go : (together z ≡ true) ⊎ (uncleared z ≡ true) → ⊥
        go (inl h) =
            not_same (eqb-true (step_of plan e) (step_of plan c) (and_right (has_section earlier z) (step_of plan e == step_of plan c) h))
            (apart (and_left (has_section earlier z) (step_of plan e == step_of plan c) h))
        go (inr h) =
            let both = and_left (goes_over earlier z && sooner) (not (can_clear d routes plan e c z)) h in
            let over = and_left (goes_over earlier z) sooner both in
            not_later over (and_right (goes_over earlier z) sooner both) (is_false (can_clear d routes plan e c z) (and_right (goes_over earlier z && sooner) (not (can_clear d routes plan e c z)) h)) (apart (over_has earlier z over))

    -- they may stand so where e keeps c from none
    free_stands : ((z : SectionNo) → In z (sections later) → keeps_from d routes plan c z e ≡ true → ⊥) → may_stand d routes plan e c ≡ true
    free_stands free = go (is_train e.train c.train) (share earlier later) (nat_lt (step_of plan c) (step_of plan e)) sooner refl refl refl refl
      where
        keep : (z : SectionNo) → is_train e.train c.train ≡ false → (together z || uncleared z) ≡ true → keeps_from d routes plan c z e ≡ true
        keep z t l = and_both other (together z || uncleared z) (ap not t) l

        not_together : is_train e.train c.train ≡ false → share earlier later ≡ true → step_of plan e ≡ step_of plan c → ⊥
        not_together t s same =
            let z = one_shared earlier later s in
            free z.0 z.2 (keep z.0 t (or_left (together z.0) (uncleared z.0) (and_both (has_section earlier z.0) (step_of plan e == step_of plan c) z.1 (eq-eqb (step_of plan e) (step_of plan c) same))))

        cleared : is_train e.train c.train ≡ false → sooner ≡ true → (z : SectionNo) → In z (own_shared earlier later) → (k : Bool) → can_clear d routes plan e c z ≡ k → can_clear d routes plan e c z ≡ true
        cleared t f z m true k = k
        cleared t f z m false k =
            let l = in_filter_back (has_section later) (own_sections earlier) z m in
            let fails = and_both (goes_over earlier z && sooner) (not (can_clear d routes plan e c z)) (and_both (goes_over earlier z) sooner (own_goes_over earlier z l.0) f) (ap not k) in
            absurd (free z (in_sections later z l.1) (keep z t (or_right (together z) (uncleared z) fails)))

        go : (t s l f : Bool) → is_train e.train c.train ≡ t → share earlier later ≡ s → nat_lt (step_of plan c) (step_of plan e) ≡ l → sooner ≡ f → (t || not s || l || (f && all_cleared)) ≡ true
        go true s l f et es el ef = refl
        go false false l f et es el ef = refl
        go false true true f et es el ef = refl
        go false true false true et es el ef = list_all_from (can_clear d routes plan e c) (own_shared earlier later) (λ z m. cleared et ef z m (can_clear d routes plan e c z) refl)
        go false true false false et es el ef =
            let low = leb-false (suc (step_of plan c)) (step_of plan e) el in
            let high = leb-false (suc (step_of plan e)) (step_of plan c) ef in
            absurd (not_together et es (omega arith))

  -- ---- all commands

  pub free_of_executable : is_executable d routes plan ≡ true → blocked d routes plan ≡ []
  free_of_executable h = none_in (blocked d routes plan) (λ p m. of_step p (in_flat_map_back (λ i. flat_map (blocked_in d routes plan i) (trains d)) (one_to (length plan)) p m))
    where
      clash : (c : Command) (z : SectionNo) → In c (commands plan) → In z (blocked_sections d routes plan c) → ⊥
      clash c z m n =
          let l = in_filter_back (λ z. list_any (keeps_from d routes plan c z) (commands plan)) (sections (route_at routes c.route)) z n in
          let f = list_any_gives (keeps_from d routes plan c z) (commands plan) l.1 in
          stands_free f.0 c z (list_all_at (may_stand d routes plan f.0) (commands plan) c (list_all_at (λ e. list_all (may_stand d routes plan e) (commands plan)) (commands plan) f.0 h f.1) m) l.0 f.2

      of_section : (p : PlanPlace) (i : ℕ) (t : TrainNo) (c : Command) → In c (commands plan) → (z : SectionNo) × In z (blocked_sections d routes plan c) × (place.Section i t z ≡ p) → ⊥
      of_section p i t c m (z, n, e) = clash c z m n

      of_command : (p : PlanPlace) (i : ℕ) (t : TrainNo) → In i (one_to (length plan)) → (c : Command) × In c (filter (λ c. is_train c.train t) (entry [] plan i)) × In p (map (place.Section i t) (blocked_sections d routes plan c)) → ⊥
      of_command p i t k (c, m, n) =
          let l = in_filter_back (λ (c : Command). is_train c.train t) (entry [] plan i) c m in
          let range = in_one_to_back (length plan) i k in
          of_section p i t c (in_flat_map (λ s. s) plan (entry [] plan i) c (in_entry [] plan i range.0 range.1) l.0) (in_map_back (place.Section i t) (blocked_sections d routes plan c) p n)

      of_train : (p : PlanPlace) (i : ℕ) → In i (one_to (length plan)) → (t : TrainNo) × In t (trains d) × In p (blocked_in d routes plan i t) → ⊥
      of_train p i k (t, m, n) = of_command p i t k (in_flat_map_back (λ c. map (place.Section i t) (blocked_sections d routes plan c)) (filter (λ c. is_train c.train t) (entry [] plan i)) p n)

      of_step : (p : PlanPlace) → (i : ℕ) × In i (one_to (length plan)) × In p (flat_map (blocked_in d routes plan i) (trains d)) → ⊥
      of_step p (i, m, n) = of_train p i m (in_flat_map_back (blocked_in d routes plan i) (trains d) p n)

  pub executable_of_free : names_only d routes plan ≡ true → blocked d routes plan ≡ [] → is_executable d routes plan ≡ true
  executable_of_free named none = list_all_from (λ e. list_all (may_stand d routes plan e) (commands plan)) (commands plan) (λ e m. list_all_from (may_stand d routes plan e) (commands plan) (λ c n. free_stands e c (λ z k keeps. clash e c z m n k keeps)))
    where
      at_number : (c : Command) (step : List Command) → In c step → Contains plan step → (i : ℕ) × (1 ≤ i) × (i ≤ length plan) × In c (entry [] plan i)
      at_number c step m (i, h, e) = (suc i, omega arith, omega arith, subst (In c) (sym e ∙ get_or_default plan i step [] h) m)

      clash : (e c : Command) (z : SectionNo) → In e (commands plan) → In c (commands plan) → In z (sections (route_at routes c.route)) → keeps_from d routes plan c z e ≡ true → ⊥
      clash e c z m n k keeps = go (in_flat_map_back (λ s. s) plan c n)
        where
          at : (i : ℕ) × (1 ≤ i) × (i ≤ length plan) × In c (entry [] plan i) → ⊥
          at (i, low, high, there) =
              let step_free = none_joined (λ i. flat_map (blocked_in d routes plan i) (trains d)) (one_to (length plan)) i none (in_one_to (length plan) i low high) in
              let train_free = none_joined (blocked_in d routes plan i) (trains d) c.train step_free (in_trains d c.train (its_train d routes c (list_all_at (is_of d routes) (commands plan) c named n))) in
              let command_free = none_joined (λ c'. map (place.Section i c.train) (blocked_sections d routes plan c')) (filter (λ c'. is_train c'.train c.train) (entry [] plan i)) c train_free (in_filter (λ (c' : Command). is_train c'.train c.train) (entry [] plan i) c there (eq-eqb c.train.0 c.train.0 refl)) in
              none_kept (λ z. list_any (keeps_from d routes plan c z) (commands plan)) (sections (route_at routes c.route)) z (none_mapped (place.Section i c.train) (blocked_sections d routes plan c) command_free) k (list_any_from (keeps_from d routes plan c z) (commands plan) e m keeps)

          go : (s : List Command) × In s plan × In c s → ⊥
          go (s, j, l) = at (at_number c s l (contains_of_in plan s j))
