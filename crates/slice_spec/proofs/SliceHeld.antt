-- In a slice all free commands are granted, and each holder holds up.
use Rattle.std.proofs.Common.{◌≡◌, ℕ, zero, suc, ◌+◌, ◌-◌, ◌≤◌, ◌<◌, Bool, true, false, not, ◌&&◌, ◌||◌, if◌then◌else◌, nat_le, ◌==◌, List, [], ◌∷◌, filter, length, take, slice_get, Option, None, Some, refl, sym, ap, subst, ◌∙◌, arith, leb-true, leb-false, le-leb, eqb-true, eq-eqb, true≢false, length-take}
use Rattle.std.specs.List.{list_any, list_all}
use Rattle.rail_base.specs.declared.station.Station.{Station}
use Rattle.rail_base.specs.declared.station.TrainNo.{TrainNo}
use Rattle.rail_base.specs.declared.station.SectionNo.{SectionNo}
use Rattle.rail_base.specs.declared.route.Route.{Route}
use Rattle.rail_base.specs.declared.route.RouteNo.{RouteNo}
use Rattle.rail_base.specs.declared.plan.Command.{Command}
use Rattle.rail_base.specs.declared.plan.Violation.{Violation}
use Rattle.rail_base.specs.declared.state.TrainState.{TrainState}
use Rattle.cone_spec.specs.declared.ConeTrain.{ConeTrain}
use Rattle.cone_spec.specs.declared.Cone.{Cone}
use Rattle.rail_spec.specs.Plans.{route_at, shared, commands, path, preceding, precedes}
use Rattle.rail_base.specs.Stations.{trains}
use Rattle.rail_base.proofs.Members.{In, and_left, and_right, and_both, list_all_at, list_any_from, not_less}
use Rattle.rail_spec.specs.Dispatches.{of_plan}
use Rattle.rail_spec.specs.Dispatches.{pasts_at, state_at, is_granted, has_released, has_cleared, is_ready, granted_with, granted_after}
use Rattle.cone_spec.specs.Cones.{named, of_cone, all_free}
use Rattle.cone_spec.specs.Validity.{granted_at, free_granted, just_granted, holds_up, holder_needed, holder_fits}
use Rattle.slice_spec.specs.Holders.{count_at, next_at, holder_at, holder_for, latest, is_the, reaches_holder}
use Rattle.slice_spec.specs.Slices.{is_next, slice_train, names, is_slice_pair, slice_with}
use Rattle.rail_laws.proofs.Running.{run_up_to, granted_at_least}
use Rattle.cone_spec.proofs.Agreement.{released_same}
use Rattle.cone_spec.proofs.Saying.{in_has, in_trains, is_command_self}
use Rattle.slice_spec.proofs.Holders.{Latest, latest_none, latest_some, all_out}
use Rattle.slice_spec.proofs.Slicing.{in_trains_back, Failed, slice, within_last, horizon_slice, listed_in, command_in_design, meeting, slice_agrees}
use Rattle.rail_base.proofs.Lists.{list_all_from, in_filter_back, in_map_back}
use Rattle.rail_laws.proofs.Standing.{in_path, at_in}
use Rattle.rail_laws.proofs.Sums.{list_all_fails}

pub get_take : {X : Type 0} (i j : ℕ) (xs : List X) → i < j → slice_get (take j xs) i ≡ slice_get xs i
get_take i zero xs h = absurd (omega arith)
get_take zero (suc j) [] h = refl
get_take (suc i) (suc j) [] h = refl
get_take zero (suc j) (x ∷ xs) h = refl
get_take (suc i) (suc j) (x ∷ xs) h = get_take i j xs (omega arith)

no_place : {X : Type 0} (xs : List X) (i : ℕ) → slice_get xs i ≡ None → length xs ≤ i
no_place [] i e = omega arith
no_place (x ∷ xs) zero e = cc
no_place (x ∷ xs) (suc i) e = let l = no_place xs i e in omega arith

module _ (d : Station) (routes : List Route) (n : ℕ) (plan : List (List Command)) (last : ℕ) (v : Violation) (h upto : TrainNo → ℕ) (failed : Failed d routes n plan last v h upto) where
  S : Cone
  S = slice d routes n plan last v h upto

  -- a train of the slice is one of the design
  pub of_trains : (c : ConeTrain) → In c (slice_with d routes plan last h upto v).trains → (t : TrainNo) × (1 ≤ t.0) × (t.0 ≤ length d.trains) × (names upto t ≡ true) × (slice_train d routes plan last h upto t ≡ c)
  of_trains c m = let k = in_map_back (slice_train d routes plan last h upto) (filter (names upto) (trains d)) c m in let f = in_filter_back (names upto) (trains d) k.0 k.1 in let b = in_trains_back d k.0 f.0 in (k.0, b.0, b.1, f.1, k.2)

  -- up to a train's horizon as many commands are granted in the slice's run as in the plan's
  pub same_count : (k : ℕ) (t : TrainNo) → 1 ≤ t.0 → t.0 ≤ length d.trains → k ≤ h t → granted_at d routes (slice_with d routes plan last h upto v) k t ≡ count_at d routes plan k t
  same_count k t a b l = let e = horizon_slice d routes n plan last v h upto failed t a b in ap (λ (s : TrainState). s.granted) (sym ((slice_agrees d routes n plan last v h upto failed k t).same (omega arith)))

  -- ---- command granted

  pub all_granted : list_all (free_granted d routes (slice_with d routes plan last h upto v)) (slice_with d routes plan last h upto v).trains ≡ true
  all_granted = list_all_from (free_granted d routes (slice_with d routes plan last h upto v)) (slice_with d routes plan last h upto v).trains (λ c m. go c (of_trains c m))
    where
      go : (c : ConeTrain) → (t : TrainNo) × (1 ≤ t.0) × (t.0 ≤ length d.trains) × (names upto t ≡ true) × (slice_train d routes plan last h upto t ≡ c) → free_granted d routes (slice_with d routes plan last h upto v) c ≡ true
      go c (t, a, b, g, e) = subst (λ c. free_granted d routes (slice_with d routes plan last h upto v) c ≡ true) e (let s = same_count (h t) t a b (omega arith) in le-leb (count_at d routes plan (h t) t) (granted_at d routes (slice_with d routes plan last h upto v) (h t) t) (omega arith))

  -- ---- holder valid

  module _ (t : TrainNo) (a : 1 ≤ t.0) (b : t.0 ≤ length d.trains) where
    T : ℕ
    T = h t

    count : ℕ
    count = count_at d routes plan (h t) t

    before : ℕ
    before = count_at d routes plan (h t - 1) t

    same_before : granted_at d routes (slice_with d routes plan last h upto v) (h t - 1) t ≡ count_at d routes plan (h t - 1) t
    same_before = same_count (h t - 1) t a b (omega arith)

    fewer : count_at d routes plan (h t - 1) t ≤ count_at d routes plan (h t) t
    fewer = (run_up_to d routes (of_plan routes plan) (h t - 1) (h t) t (omega arith)).granted

    -- a holder is needed only where the train is followed and nothing was granted at its horizon
    needed_gives : holder_needed d routes (slice_with d routes plan last h upto v) (slice_train d routes plan last h upto t) ≡ true → (nat_le 1 (h t) && (count_at d routes plan (h t - 1) t == count_at d routes plan (h t) t)) ≡ true
    needed_gives k = and_both _ _ (followed (h t) some) (eq-eqb (count_at d routes plan (h t - 1) t) (count_at d routes plan (h t) t) none_new)
      where
        some : not (h t == 0) ≡ true
        some = and_right (not (all_free (slice_train d routes plan last h upto t))) _ (and_left (not (all_free (slice_train d routes plan last h upto t)) && not (h t == 0)) _ k)

        followed : (m : ℕ) → not (m == 0) ≡ true → nat_le 1 m ≡ true
        followed zero e = absurd (true≢false (sym e))
        followed (suc m) e = le-leb 1 (suc m) (omega arith)

        none_new : count_at d routes plan (h t - 1) t ≡ count_at d routes plan (h t) t
        none_new = at (just_granted d routes (slice_with d routes plan last h upto v) (slice_train d routes plan last h upto t)) refl (and_right (not (all_free (slice_train d routes plan last h upto t)) && not (h t == 0)) _ k)
          where
            at : (x : Bool) → just_granted d routes (slice_with d routes plan last h upto v) (slice_train d routes plan last h upto t) ≡ x → not x ≡ true → count_at d routes plan (h t - 1) t ≡ count_at d routes plan (h t) t
            at true e f = absurd (true≢false (sym f))
            at false e f = let l = leb-false (suc (granted_at d routes (slice_with d routes plan last h upto v) (h t - 1) t)) (count_at d routes plan (h t) t) e in let s = same_before in let m = fewer in omega arith

    not_needed : (nat_le 1 (h t) && (count_at d routes plan (h t - 1) t == count_at d routes plan (h t) t)) ≡ false → not (holder_needed d routes (slice_with d routes plan last h upto v) (slice_train d routes plan last h upto t)) ≡ true
    not_needed e = go (holder_needed d routes (slice_with d routes plan last h upto v) (slice_train d routes plan last h upto t)) refl
      where
        go : (x : Bool) → holder_needed d routes (slice_with d routes plan last h upto v) (slice_train d routes plan last h upto t) ≡ x → not (holder_needed d routes (slice_with d routes plan last h upto v) (slice_train d routes plan last h upto t)) ≡ true
        go false k = ap not k
        go true k = absurd (true≢false (sym (needed_gives k) ∙ e))

    -- the next command is named where the train is followed
    pub next_named : 1 ≤ h t → count_at d routes plan (h t) t < length (path plan t) → count_at d routes plan (h t) t + 1 ≤ upto t
    next_named l m = failed.next_in t l m

    named_length : length (take (upto t) (path plan t)) ≤ length (path plan t)
    named_length = let l = length-take (upto t) (path plan t) in omega arith

    all_done : length (path plan t) ≤ count_at d routes plan (h t) t → not (holder_needed d routes (slice_with d routes plan last h upto v) (slice_train d routes plan last h upto t)) ≡ true
    all_done l =
        let m = named_length in
        let all : all_free (slice_train d routes plan last h upto t) ≡ true = le-leb (length (take (upto t) (path plan t))) (count_at d routes plan (h t) t) (omega arith) in
        ap (λ x. not (not x && not (h t == 0) && not (just_granted d routes (slice_with d routes plan last h upto v) (slice_train d routes plan last h upto t)))) all

    -- a next command that isn't granted at the horizon was not ready
    module _ (r : RouteNo) (followed : 1 ≤ h t) (none_new : count_at d routes plan (h t - 1) t ≡ count_at d routes plan (h t) t) (next : slice_get (path plan t) (count_at d routes plan (h t) t) ≡ Some r) where
      c : Command
      c = record { train = t; route = r }

      not_ready : is_ready d routes (of_plan routes plan) (pasts_at d routes (of_plan routes plan) (h t - 1)) (record { train = t; route = r }) ≡ true → ⊥
      not_ready ready =
          let least = granted_at_least d routes (of_plan routes plan) (h t - 1) t a b refl in
          let same : suc (h t - 1) ≡ h t = omega arith in
          let count_same : count_at d routes plan (suc (h t - 1)) t ≡ count_at d routes plan (h t) t = ap (λ i. count_at d routes plan i t) same in
          let new : granted_after d routes (of_plan routes plan) (pasts_at d routes (of_plan routes plan) (h t - 1)) t ≡ count_at d routes plan (h t - 1) t + 1 =
          ap (granted_with d routes (of_plan routes plan) (pasts_at d routes (of_plan routes plan) (h t - 1)) t) (ap (slice_get (path plan t)) none_new ∙ next)
          ∙ ap (λ (x : Bool). if x then count_at d routes plan (h t - 1) t + 1 else count_at d routes plan (h t - 1) t) ready in
          omega arith

      c_in : In (record { train = t; route = r }) (commands plan)
      c_in = in_path t plan r (at_in (path plan t) (count_at d routes plan (h t) t) r next).0

      is_needed : holder_needed d routes (slice_with d routes plan last h upto v) (slice_train d routes plan last h upto t) ≡ true
      is_needed = and_both _ _ (and_both _ _ (ap not waits) (ap not (positive (h t) followed))) (ap not nothing_new)
        where
          waits : all_free (slice_train d routes plan last h upto t) ≡ false
          waits =
              let l = length-take (upto t) (path plan t) in
              let o = (at_in (path plan t) (count_at d routes plan (h t) t) r next).1 in
              let m = next_named followed o in
              not_up_to (length (take (upto t) (path plan t))) (count_at d routes plan (h t) t) (omega arith)
            where
              not_up_to : (a b : ℕ) → b < a → nat_le a b ≡ false
              not_up_to a b l = go (nat_le a b) refl
                where
                  go : (t : Bool) → nat_le a b ≡ t → nat_le a b ≡ false
                  go false e = e
                  go true e = let m = leb-true a b e in absurd (omega arith)

          positive : (m : ℕ) → 1 ≤ m → (m == 0) ≡ false
          positive m l = go (m == 0) refl
            where
              go : (x : Bool) → (m == 0) ≡ x → (m == 0) ≡ false
              go false e = e
              go true e = let z : m ≡ 0 = eqb-true m 0 e in absurd (omega arith)

          nothing_new : just_granted d routes (slice_with d routes plan last h upto v) (slice_train d routes plan last h upto t) ≡ false
          nothing_new = let s = same_before in not_less (granted_at d routes (slice_with d routes plan last h upto v) (h t - 1) t) (count_at d routes plan (h t) t) (omega arith)

      holder_up : (e : Command) → holder_at d routes plan last h t ≡ Some e → Latest d routes plan last (record { train = t; route = r }) (preceding routes plan (record { train = t; route = r })) e
          → holds_up d routes (slice_with d routes plan last h upto v) (slice_train d routes plan last h upto t) e (Some r) ≡ true
      holder_up e is_e w = and_both _ _ (and_both _ _ (listed_in d routes n plan last v h upto failed e (record { train = t; route = r }) listed) near) unreleased
        where
          before_c : In e (commands plan) × (precedes routes plan e (record { train = t; route = r }) ≡ true)
          before_c = in_filter_back (λ e. precedes routes plan e (record { train = t; route = r })) (commands plan) e w.member

          listed : is_slice_pair d routes plan last h e (record { train = t; route = r }) ≡ true
          listed = and_both _ _ (and_both _ _ (and_both _ _ (in_has plan e before_c.0) (in_has plan (record { train = t; route = r }) c_in)) before_c.1)
              (or_right (is_granted d routes (of_plan routes plan) (state_at d routes (of_plan routes plan) (h t)) (record { train = t; route = r })) _ (and_both _ _
              (ap (is_next (record { train = t; route = r })) next ∙ eq-eqb r.0 r.0 refl)
              (ap (is_the e) is_e ∙ is_command_self e)))
            where
              or_right : (a b : Bool) → b ≡ true → (a || b) ≡ true
              or_right true b e = refl
              or_right false b e = e

          e_design : (1 ≤ e.train.0) × (e.train.0 ≤ length d.trains)
          e_design = command_in_design d routes n plan last v h upto failed e before_c.0

          reached : h t ≤ h e.train + 1
          reached =
              let one = list_all_at (λ t. reaches_holder d routes plan last h t (holder_at d routes plan last h t)) (trains d) t failed.closed.holders (in_trains d t a b) in
              leb-true _ _ (subst (λ o. reaches_holder d routes plan last h t o ≡ true) is_e one)

          near : nat_le (h t) ((named (slice_with d routes plan last h upto v) e.train).horizon + 1) ≡ true
          near = let same = horizon_slice d routes n plan last v h upto failed e.train e_design.0 e_design.1 in let m = reached in le-leb (h t) ((named (slice_with d routes plan last h upto v) e.train).horizon + 1) (omega arith)

          not_out : has_cleared d routes (of_plan routes plan) (pasts_at d routes (of_plan routes plan) (h t - 1)) (record { train = t; route = r }) e ≡ false
          not_out = go (has_cleared d routes (of_plan routes plan) (pasts_at d routes (of_plan routes plan) (h t - 1)) (record { train = t; route = r }) e) refl
            where
              go : (x : Bool) → has_cleared d routes (of_plan routes plan) (pasts_at d routes (of_plan routes plan) (h t - 1)) (record { train = t; route = r }) e ≡ x → has_cleared d routes (of_plan routes plan) (pasts_at d routes (of_plan routes plan) (h t - 1)) (record { train = t; route = r }) e ≡ false
              go false k = k
              go true k = let m = within_last d routes n plan last v h upto failed t a b in absurd (not_ready (all_out d routes plan last (record { train = t; route = r }) (h t - 1) e (omega arith) w k))

          unreleased : list_any (λ z. not (has_released d routes (of_cone (slice_with d routes plan last h upto v)) (pasts_at d routes (of_cone (slice_with d routes plan last h upto v)) (h t - 1)) e z)) (shared (route_at routes e.route) (route_at routes r)) ≡ true
          unreleased = go (list_all_fails (has_released d routes (of_plan routes plan) (pasts_at d routes (of_plan routes plan) (h t - 1)) e) (shared (route_at routes e.route) (route_at routes r)) not_out)
            where
              go : (z : SectionNo) × In z (shared (route_at routes e.route) (route_at routes r)) × (has_released d routes (of_plan routes plan) (pasts_at d routes (of_plan routes plan) (h t - 1)) e z ≡ false)
                  → list_any (λ z. not (has_released d routes (of_cone (slice_with d routes plan last h upto v)) (pasts_at d routes (of_cone (slice_with d routes plan last h upto v)) (h t - 1)) e z)) (shared (route_at routes e.route) (route_at routes r)) ≡ true
              go (z, m, f) =
                  let same = horizon_slice d routes n plan last v h upto failed e.train e_design.0 e_design.1 in
                  let l = reached in
                  let alike = released_same d routes (of_cone (slice_with d routes plan last h upto v)) (of_plan routes plan) (λ t. (named (slice_with d routes plan last h upto v) t).horizon) (meeting d routes n plan last v h upto failed) (h t - 1) e z (slice_agrees d routes n plan last v h upto failed (h t - 1) e.train) (omega arith) in
                  list_any_from (λ z. not (has_released d routes (of_cone (slice_with d routes plan last h upto v)) (pasts_at d routes (of_cone (slice_with d routes plan last h upto v)) (h t - 1)) e z)) (shared (route_at routes e.route) (route_at routes r)) z m (ap not (sym alike ∙ f))

      next_waits : slice_get (take (upto t) (path plan t)) (count_at d routes plan (h t) t) ≡ Some r
      next_waits = let m = next_named followed (at_in (path plan t) (count_at d routes plan (h t) t) r next).1 in get_take (count_at d routes plan (h t) t) (upto t) (path plan t) (omega arith) ∙ next

      held_by : (o : Option Command) → holder_at d routes plan last h t ≡ o → latest d routes plan last (record { train = t; route = r }) (preceding routes plan (record { train = t; route = r })) ≡ o → holder_fits d routes (slice_with d routes plan last h upto v) (slice_train d routes plan last h upto t) o ≡ true
      held_by None e l = absurd (not_ready (ap (list_all (has_cleared d routes (of_plan routes plan) (pasts_at d routes (of_plan routes plan) (h t - 1)) (record { train = t; route = r }))) (latest_none d routes plan last (record { train = t; route = r }) (preceding routes plan (record { train = t; route = r })) l)))
      held_by (Some e) i l = and_both _ _ is_needed
          (ap (holds_up d routes (slice_with d routes plan last h upto v) (slice_train d routes plan last h upto t) e) next_waits ∙ holder_up e i (latest_some d routes plan last (record { train = t; route = r }) (preceding routes plan (record { train = t; route = r })) e l))

    train_held : holder_fits d routes (slice_with d routes plan last h upto v) (slice_train d routes plan last h upto t) (holder_at d routes plan last h t) ≡ true
    train_held = go (nat_le 1 (h t) && (count_at d routes plan (h t - 1) t == count_at d routes plan (h t) t)) refl
      where
        go : (x : Bool) → (nat_le 1 (h t) && (count_at d routes plan (h t - 1) t == count_at d routes plan (h t) t)) ≡ x → holder_fits d routes (slice_with d routes plan last h upto v) (slice_train d routes plan last h upto t) (holder_at d routes plan last h t) ≡ true
        go false e = subst (λ o. holder_fits d routes (slice_with d routes plan last h upto v) (slice_train d routes plan last h upto t) o ≡ true) (sym (ap (λ x. if x then holder_for d routes plan last t (next_at d routes plan (h t) t) else None) e)) (not_needed e)
        go true e = at (next_at d routes plan (h t) t) refl
          where
            followed : 1 ≤ h t
            followed = leb-true 1 (h t) (and_left (nat_le 1 (h t)) _ e)

            none_new : count_at d routes plan (h t - 1) t ≡ count_at d routes plan (h t) t
            none_new = eqb-true _ _ (and_right (nat_le 1 (h t)) _ e)

            is_it : holder_at d routes plan last h t ≡ holder_for d routes plan last t (next_at d routes plan (h t) t)
            is_it = ap (λ x. if x then holder_for d routes plan last t (next_at d routes plan (h t) t) else None) e

            at : (o : Option RouteNo) → next_at d routes plan (h t) t ≡ o → holder_fits d routes (slice_with d routes plan last h upto v) (slice_train d routes plan last h upto t) (holder_at d routes plan last h t) ≡ true
            at None k = subst (λ o. holder_fits d routes (slice_with d routes plan last h upto v) (slice_train d routes plan last h upto t) o ≡ true) (sym (is_it ∙ ap (holder_for d routes plan last t) k)) (all_done (no_place (path plan t) (count_at d routes plan (h t) t) k))
            at (Some r) k = held_by r followed none_new k (holder_at d routes plan last h t) refl (sym (is_it ∙ ap (holder_for d routes plan last t) k))

  pub all_holders_fit : list_all (λ c. holder_fits d routes (slice_with d routes plan last h upto v) c c.holder) (slice_with d routes plan last h upto v).trains ≡ true
  all_holders_fit = list_all_from (λ (c : ConeTrain). holder_fits d routes (slice_with d routes plan last h upto v) c c.holder) (slice_with d routes plan last h upto v).trains (λ c m. go c (of_trains c m))
    where
      go : (c : ConeTrain) → (t : TrainNo) × (1 ≤ t.0) × (t.0 ≤ length d.trains) × (names upto t ≡ true) × (slice_train d routes plan last h upto t ≡ c) → holder_fits d routes (slice_with d routes plan last h upto v) c c.holder ≡ true
      go c (t, a, b, g, e) = subst (λ (c : ConeTrain). holder_fits d routes (slice_with d routes plan last h upto v) c c.holder ≡ true) e (train_held t a b)
