-- A plan is met at its deciding tick exactly where it meets the design.
use Rattle.std.proofs.Common.{◌≡◌, ℕ, zero, suc, ◌+◌, ◌-◌, ◌*◌, ◌/◌, ◌≤◌, ◌<◌, ◌⊎◌, inl, inr, ◌↔◌, Bool, true, false, cond, not, ◌&&◌, ◌||◌, if◌then◌else◌, ◌==◌, nat_le, nat_lt, List, [], ◌∷◌, ◌++◌, map, flat_map, length, slice_get, Option, None, Some, is_some, is_none, unwrap_or, find, option_and_then, refl, sym, ap, ap₂, subst, ◌∙◌, arith, leb-true, le-leb, eqb-true, eq-eqb, true≢false, mul-le-mul, le_refl, suc-mul}
use Rattle.std.proofs.Math.Nat.{lt-div-mul-add}
use Rattle.std.specs.List.{list_all}
use Rattle.rail_base.specs.declared.station.Station.{Station}
use Rattle.rail_base.specs.declared.station.Order.{Order}
use Rattle.rail_base.specs.declared.station.Within.{Within}
use Rattle.rail_base.specs.declared.station.TrainNo.{TrainNo}
use Rattle.rail_base.specs.declared.route.Route.{Route}
use Rattle.rail_base.specs.declared.plan.Command.{Command}
use Rattle.rail_base.specs.declared.plan.Violation.{Violation}
use Rattle.rail_base.specs.declared.plan.Violation.TheVariants as violation
use Rattle.rail_base.specs.Members.{In}
use Rattle.rail_base.specs.Numbering.{entry, one_to, least, or_this}
use Rattle.rail_base.specs.Stations.{train_of, trains, horizon, order_of, within_of, IsTrain, HasVisit}
use Rattle.rail_spec.specs.Dispatches.{state_of, of_plan, state_at}
use Rattle.rail_spec.specs.Visits.{pass_tick, visits_of_train, visit_tick}
use Rattle.rail_base.specs.declared.state.PathNode.{PathNode}
use Rattle.rail_spec.specs.Requirements.{both, visit_numbers, most_ticks, is_after, command_numbers, granted_by, visited_by, is_done, keeps_order, keeps_within, meets, is_certain, possible_violations, path_failures, violation_at, path_violation, is_decided, cost}
use Rattle.rail_base.specs.Admitted.{IsAdmitted}
use Rattle.rail_spec.specs.Verdict.{or_else, failure, IsVerdict}
use Rattle.rail_base.proofs.Members.{and_left, and_right, and_both, list_all_at, below_or_not, false_unless}
use Rattle.rail_base.proofs.Lists.{in_append, in_append_left, in_append_right, in_map, in_map_back, in_flat_map, in_flat_map_back, in_count, in_count_back, list_all_from, in_entry}
use Rattle.rail_laws.proofs.Sums.{list_all_fails, in_get}
use Rattle.rail_laws.proofs.Exclusion.{run_later}
use Rattle.rail_laws.proofs.Deciding.{least_gives, visit_stays, visit_at, order_kept, within_kept}

-- ---- tests

find_none : {X : Type 0} (test : X → Bool) (xs : List X) → ((x : X) → In x xs → test x ≡ false) → find test xs ≡ None
find_none test [] h = refl
find_none test (x ∷ xs) h = ap (λ b. cond b (Some x) (find test xs)) (h x (inl refl)) ∙ find_none test xs (λ y m. h y (inr m))

pub none_found : {X : Type 0} (test : X → Bool) (xs : List X) → find test xs ≡ None → (x : X) → In x xs → test x ≡ false
none_found test [] h x m = absurd m
none_found {X} test (y ∷ ys) h x m = go (test y) refl h m (none_found test ys)
  where
    go : (b : Bool) → test y ≡ b → cond b (Some y) (find test ys) ≡ None → In x (y ∷ ys) → (find test ys ≡ None → (z : X) → In z ys → test z ≡ false) → test x ≡ false
    go true e k i later = cc
    go false e k (inl s) later = ap test (sym s) ∙ e
    go false e k (inr i) later = later k x i

pub found_in : {X : Type 0} (test : X → Bool) (xs : List X) (x : X) → find test xs ≡ Some x → In x xs
found_in test [] x h = cc
found_in test (y ∷ ys) x h = go (test y) h (found_in test ys x)
  where
    go : (b : Bool) → cond b (Some y) (find test ys) ≡ Some x → (find test ys ≡ Some x → In x ys) → In x (y ∷ ys)
    go true k later = inl cc
    go false k later = inr (later k)

pub found_passes : {X : Type 0} (test : X → Bool) (xs : List X) (x : X) → find test xs ≡ Some x → test x ≡ true
found_passes test [] x h = cc
found_passes test (y ∷ ys) x h = go (test y) refl h (found_passes test ys x)
  where
    go : (b : Bool) → test y ≡ b → cond b (Some y) (find test ys) ≡ Some x → (find test ys ≡ Some x → test x ≡ true) → test x ≡ true
    go true e k later = let same : y ≡ x = cc in ap test (sym same) ∙ e
    go false e k later = later k

least_none : (test : ℕ → Bool) (n : ℕ) → least test n ≡ None → (i : ℕ) → 1 ≤ i → i ≤ n → test i ≡ false
least_none test zero h i low high = absurd (omega arith)
least_none test (suc n) h i low high = go (least test n) refl (test (suc n)) refl h (least_none test n)
  where
    at : (b : Bool) → test (suc n) ≡ b → b ≡ false → (i ≡ suc n) ⊎ (i < suc n) → ((j : ℕ) → 1 ≤ j → j ≤ n → test j ≡ false) → test i ≡ false
    at b e f (inl s) below = ap test s ∙ e ∙ f
    at b e f (inr l) below = below i low (omega arith)

    split : (i ≡ suc n) ⊎ (i < suc n)
    split = which (below_or_not i (suc n))
      where
        which : (i < suc n) ⊎ (suc n ≤ i) → (i ≡ suc n) ⊎ (i < suc n)
        which (inl l) = inr l
        which (inr l) = inl (omega arith)

    go : (o : Option ℕ) → least test n ≡ o → (b : Bool) → test (suc n) ≡ b → or_this o b (suc n) ≡ None → (least test n ≡ None → (j : ℕ) → 1 ≤ j → j ≤ n → test j ≡ false) → test i ≡ false
    go (Some k) eo b eb k0 later = cc
    go None eo true eb k0 later = cc
    go None eo false eb k0 later = at false eb refl split (later eo)

least_before : (test : ℕ → Bool) (n a : ℕ) → least test n ≡ Some a → (i : ℕ) → 1 ≤ i → i < a → test i ≡ false
least_before test zero a h i low less = cc
least_before test (suc n) a h i low less = go (least test n) refl (test (suc n)) refl h (least_before test n a)
  where
    go : (o : Option ℕ) → least test n ≡ o → (b : Bool) → test (suc n) ≡ b → or_this o b (suc n) ≡ Some a → (least test n ≡ Some a → (j : ℕ) → 1 ≤ j → j < a → test j ≡ false) → test i ≡ false
    go (Some k) eo b eb h later = later (eo ∙ h) i low less
    go None eo true eb h later = let same : suc n ≡ a = cc in least_none test n eo i low (omega arith)
    go None eo false eb h later = cc

entry_get : {X : Type 0} (other : X) (xs : List X) (i : ℕ) (x : X) → slice_get xs i ≡ Some x → entry other xs (suc i) ≡ x
entry_get other [] i x h = cc
entry_get other (y ∷ ys) zero x h = cc
entry_get other (y ∷ ys) (suc i) x h = entry_get other ys i x h

get_within : {X : Type 0} (xs : List X) (i : ℕ) (x : X) → slice_get xs i ≡ Some x → i < length xs
get_within [] i x h = cc
get_within (y ∷ ys) zero x h = omega arith
get_within (y ∷ ys) (suc i) x h = let k = get_within ys i x h in omega arith

in_one_to : (m n : ℕ) → 1 ≤ n → n ≤ m → In n (one_to m)
in_one_to m n low high = in_count 1 m n low (omega arith)

pub one_to_in : (m n : ℕ) → In n (one_to m) → (1 ≤ n) × (n ≤ m)
one_to_in m n k = let c = in_count_back 1 m n k in (c.0, let u = c.1 in omega arith)

from_ms : (ms most a b : ℕ) → 1 ≤ ms → b * ms ≤ a * ms + most → b ≤ a + most / ms
from_ms ms most a b pos h = go (below_or_not (a + most / ms) b)
  where
    go : (a + most / ms < b) ⊎ (b ≤ a + most / ms) → b ≤ a + most / ms
    go (inr l) = l
    go (inl l) =
        let more : suc (a + most / ms) * ms ≤ b * ms = mul-le-mul l (le_refl ms) in
        let s = suc-mul (a + most / ms) ms in
        let d : most < most / ms * ms + ms = lt-div-mul-add pos in
        absurd (omega (arith, more, d, s))

module _ (d : Station) (routes : List Route) (plan : List (List Command)) (adm : IsAdmitted d) where
  -- ---- what is done stays done

  granted_stays : (k m : ℕ) (t : TrainNo) → (state_of (state_at d routes (of_plan routes plan) k) t).granted ≤ (state_of (state_at d routes (of_plan routes plan) (k + m)) t).granted
  granted_stays k zero t = let z : k + 0 ≡ k = omega arith in subst (λ n. (state_of (state_at d routes (of_plan routes plan) k) t).granted ≤ (state_of (state_at d routes (of_plan routes plan) n) t).granted) (sym z) (omega arith)
  granted_stays k (suc m) t =
      let s : suc (k + m) ≡ k + suc m = omega arith in
      let a = granted_stays k m t in
      let b = (run_later d routes plan (k + m) t).granted in
      let c : (state_of (state_at d routes (of_plan routes plan) k) t).granted ≤ (state_of (state_at d routes (of_plan routes plan) (suc (k + m))) t).granted = omega arith in
      subst (λ n. (state_of (state_at d routes (of_plan routes plan) k) t).granted ≤ (state_of (state_at d routes (of_plan routes plan) n) t).granted) s c

  granted_later : (k l : ℕ) (t : TrainNo) (j : ℕ) → k ≤ l → granted_by d routes plan k t j ≡ true → granted_by d routes plan l t j ≡ true
  granted_later k l t j less h =
      let a = leb-true j (state_of (state_at d routes (of_plan routes plan) k) t).granted h in
      let b = granted_stays k (l - k) t in
      let s : k + (l - k) ≡ l = omega arith in
      subst (λ n. granted_by d routes plan n t j ≡ true) s (le-leb j (state_of (state_at d routes (of_plan routes plan) (k + (l - k))) t).granted (omega arith))

  made : (k : ℕ) (t : TrainNo) (j : ℕ) → visited_by d routes plan k t j ≡ true → (a : ℕ) × (visit_tick d routes (of_plan routes plan) k t j ≡ Some a)
  made k t j h = go (visit_tick d routes (of_plan routes plan) k t j) refl h
    where
      go : (o : Option ℕ) → visit_tick d routes (of_plan routes plan) k t j ≡ o → is_some o ≡ true → (a : ℕ) × (visit_tick d routes (of_plan routes plan) k t j ≡ Some a)
      go None e h = cc
      go (Some a) e h = (a, e)

  at_later : (k l : ℕ) (t : TrainNo) (j a : ℕ) → k ≤ l → visit_tick d routes (of_plan routes plan) k t j ≡ Some a → visit_tick d routes (of_plan routes plan) l t j ≡ Some a
  at_later k l t j a less h = let s : k + (l - k) ≡ l = omega arith in subst (λ n. visit_tick d routes (of_plan routes plan) n t j ≡ Some a) s (visit_stays d routes plan k (l - k) t j a h)

  visited_later : (k l : ℕ) (t : TrainNo) (j : ℕ) → k ≤ l → visited_by d routes plan k t j ≡ true → visited_by d routes plan l t j ≡ true
  visited_later k l t j less h = let f = made k t j h in ap is_some (at_later k l t j f.0 less f.1)

  pub done_grants : (k : ℕ) → is_done d routes plan k ≡ true → (t : TrainNo) → In t (trains d) → (j : ℕ) → In j (command_numbers d routes plan t) → granted_by d routes plan k t j ≡ true
  done_grants k h t m j i =
      list_all_at (granted_by d routes plan k t) (command_numbers d routes plan t) j (list_all_at (λ t. list_all (granted_by d routes plan k t) (command_numbers d routes plan t)) (trains d) t
      (and_left _ (list_all (λ t. list_all (visited_by d routes plan k t) (visit_numbers d t)) (trains d)) h) m) i

  pub done_visits : (k : ℕ) → is_done d routes plan k ≡ true → (t : TrainNo) → In t (trains d) → (j : ℕ) → In j (visit_numbers d t) → visited_by d routes plan k t j ≡ true
  done_visits k h t m j i =
      list_all_at (visited_by d routes plan k t) (visit_numbers d t) j (list_all_at (λ t. list_all (visited_by d routes plan k t) (visit_numbers d t)) (trains d) t
      (and_right (list_all (λ t. list_all (granted_by d routes plan k t) (command_numbers d routes plan t)) (trains d)) _ h) m) i

  pub done_from : (k : ℕ) → ((t : TrainNo) → In t (trains d) → (j : ℕ) → In j (command_numbers d routes plan t) → granted_by d routes plan k t j ≡ true) → ((t : TrainNo) → In t (trains d) → (j : ℕ) → In j (visit_numbers d t) → visited_by d routes plan k t j ≡ true) → is_done d routes plan k ≡ true
  done_from k g v = and_both _ _ (list_all_from _ (trains d) (λ t m. list_all_from (granted_by d routes plan k t) (command_numbers d routes plan t) (g t m))) (list_all_from _ (trains d) (λ t m. list_all_from (visited_by d routes plan k t) (visit_numbers d t) (v t m)))

  done_later : (k l : ℕ) → k ≤ l → is_done d routes plan k ≡ true → is_done d routes plan l ≡ true
  done_later k l less h = done_from l (λ t m j i. granted_later k l t j less (done_grants k h t m j i)) (λ t m j i. visited_later k l t j less (done_visits k h t m j i))

  in_trains : (t : TrainNo) → IsTrain d t → In t (trains d)
  in_trains t h = in_map (λ n. record { 0 = n }) (one_to (length d.trains)) t.0 (in_one_to (length d.trains) t.0 h.0 h.1)

  done_visit : (k : ℕ) → is_done d routes plan k ≡ true → (t : TrainNo) (j : ℕ) → HasVisit d t j → visited_by d routes plan k t j ≡ true
  done_visit k h t j v = done_visits k h t (in_trains t v.0) j (in_one_to (length (train_of d t).visits) j v.1 v.2)

  -- ---- the ways to fail

  abbrev withins_fail : List Violation
  withins_fail = map violation.Within (one_to (length d.withins))

  abbrev orders_fail : List Violation
  orders_fail = map violation.Order (one_to (length d.orders))

  abbrev grants_fail : List Violation
  grants_fail = flat_map (λ t. map (violation.Grant t) (command_numbers d routes plan t)) (trains d)

  abbrev visits_fail : List Violation
  visits_fail = flat_map (λ t. map (violation.Visit t) (visit_numbers d t)) (trains d)

  way_within : (n : ℕ) → In n (one_to (length d.withins)) → In (violation.Within n) (possible_violations d routes plan)
  way_within n m = in_append_left (violation.Within n) (withins_fail ++ orders_fail ++ grants_fail) visits_fail (in_append_left (violation.Within n) (withins_fail ++ orders_fail) grants_fail (in_append_left (violation.Within n) withins_fail orders_fail (in_map violation.Within (one_to (length d.withins)) n m)))

  way_order : (n : ℕ) → In n (one_to (length d.orders)) → In (violation.Order n) (possible_violations d routes plan)
  way_order n m = in_append_left (violation.Order n) (withins_fail ++ orders_fail ++ grants_fail) visits_fail (in_append_left (violation.Order n) (withins_fail ++ orders_fail) grants_fail (in_append_right (violation.Order n) withins_fail orders_fail (in_map violation.Order (one_to (length d.orders)) n m)))

  way_grant : (t : TrainNo) (j : ℕ) → In t (trains d) → In j (command_numbers d routes plan t) → In (violation.Grant t j) (possible_violations d routes plan)
  way_grant t j m i =
      in_append_left (violation.Grant t j) (withins_fail ++ orders_fail ++ grants_fail) visits_fail (in_append_right (violation.Grant t j) (withins_fail ++ orders_fail) grants_fail
      (in_flat_map (λ t. map (violation.Grant t) (command_numbers d routes plan t)) (trains d) t (violation.Grant t j) m (in_map (violation.Grant t) (command_numbers d routes plan t) j i)))

  way_visit : (t : TrainNo) (j : ℕ) → In t (trains d) → In j (visit_numbers d t) → In (violation.Visit t j) (possible_violations d routes plan)
  way_visit t j m i =
      in_append_right (violation.Visit t j) (withins_fail ++ orders_fail ++ grants_fail) visits_fail
      (in_flat_map (λ t. map (violation.Visit t) (visit_numbers d t)) (trains d) t (violation.Visit t j) m (in_map (violation.Visit t) (visit_numbers d t) j i))

  -- what holds of each way holds of all
  pub each_way : (P : Violation → Type 0) → ((n : ℕ) → In n (one_to (length d.withins)) → P (violation.Within n)) → ((n : ℕ) → In n (one_to (length d.orders)) → P (violation.Order n))
      → ((t : TrainNo) (j : ℕ) → In t (trains d) → In j (command_numbers d routes plan t) → P (violation.Grant t j)) → ((t : TrainNo) (j : ℕ) → In t (trains d) → In j (visit_numbers d t) → P (violation.Visit t j))
      → (v : Violation) → In v (possible_violations d routes plan) → P v
  each_way P w o g i v m = first (in_append v (withins_fail ++ orders_fail ++ grants_fail) visits_fail m)
    where
      within : ((n : ℕ) × In n (one_to (length d.withins)) × (violation.Within n ≡ v)) → P v
      within (n, k, e) = subst P e (w n k)

      order : ((n : ℕ) × In n (one_to (length d.orders)) × (violation.Order n ≡ v)) → P v
      order (n, k, e) = subst P e (o n k)

      grant_at : (t : TrainNo) → In t (trains d) → ((j : ℕ) × In j (command_numbers d routes plan t) × (violation.Grant t j ≡ v)) → P v
      grant_at t k (j, l, e) = subst P e (g t j k l)

      grant : ((t : TrainNo) × In t (trains d) × In v (map (violation.Grant t) (command_numbers d routes plan t))) → P v
      grant (t, k, l) = grant_at t k (in_map_back (violation.Grant t) (command_numbers d routes plan t) v l)

      visit_in : (t : TrainNo) → In t (trains d) → ((j : ℕ) × In j (visit_numbers d t) × (violation.Visit t j ≡ v)) → P v
      visit_in t k (j, l, e) = subst P e (i t j k l)

      visit : ((t : TrainNo) × In t (trains d) × In v (map (violation.Visit t) (visit_numbers d t))) → P v
      visit (t, k, l) = visit_in t k (in_map_back (violation.Visit t) (visit_numbers d t) v l)

      third : In v withins_fail ⊎ In v orders_fail → P v
      third (inl k) = within (in_map_back violation.Within (one_to (length d.withins)) v k)
      third (inr k) = order (in_map_back violation.Order (one_to (length d.orders)) v k)

      second : In v (withins_fail ++ orders_fail) ⊎ In v grants_fail → P v
      second (inl k) = third (in_append v withins_fail orders_fail k)
      second (inr k) = grant (in_flat_map_back (λ t. map (violation.Grant t) (command_numbers d routes plan t)) (trains d) v k)

      first : In v (withins_fail ++ orders_fail ++ grants_fail) ⊎ In v visits_fail → P v
      first (inl k) = second (in_append v (withins_fail ++ orders_fail) grants_fail k)
      first (inr k) = visit (in_flat_map_back (λ t. map (violation.Visit t) (visit_numbers d t)) (trains d) v k)

  -- ---- what isn't certain up to the horizon, where the plan meets the design

  module _ (good : meets d routes plan ≡ true) where
    done_at_end : is_done d routes plan (horizon d) ≡ true
    done_at_end = and_left _ (list_all (keeps_order d routes plan (horizon d)) d.orders) (and_left _ (list_all (keeps_within d routes plan (horizon d)) d.withins) good)

    orders_kept : list_all (keeps_order d routes plan (horizon d)) d.orders ≡ true
    orders_kept = and_right (is_done d routes plan (horizon d)) _ (and_left _ (list_all (keeps_within d routes plan (horizon d)) d.withins) good)

    withins_kept : list_all (keeps_within d routes plan (horizon d)) d.withins ≡ true
    withins_kept = and_right (is_done d routes plan (horizon d) && list_all (keeps_order d routes plan (horizon d)) d.orders) _ good

    is_after_at : (m : ℕ) (o : Option ℕ) (k : ℕ) → is_after m o k ≡ true → (a : ℕ) × (o ≡ Some a) × (a + m ≡ k)
    is_after_at m None k h = cc
    is_after_at m (Some a) k h = (a, refl, eqb-true (a + m) k h)

    made_by : (a k : ℕ) (t : TrainNo) (j : ℕ) → a ≤ k → visit_tick d routes (of_plan routes plan) (horizon d) t j ≡ Some a → visited_by d routes plan k t j ≡ true
    made_by a k t j less h = ap is_some (at_later a k t j a less (visit_at d routes plan (horizon d) t j a h))

    no_within : (k n : ℕ) → k ≤ horizon d → In n (one_to (length d.withins)) → is_certain d routes plan k (violation.Within n) ≡ false
    no_within k n near m = false_unless _ (λ h. at (within_of d n) (let l = one_to_in (length d.withins) n m in in_entry _ d.withins n l.0 l.1) h)
      where
        at : (w : Within) → In w d.withins → (nat_le k (horizon d) && is_after (most_ticks d w) (visit_tick d routes (of_plan routes plan) k w.from_train w.from_visit) k && not (visited_by d routes plan k w.to_train w.to_visit)) ≡ true → ⊥
        at w i h =
            let rest = and_left (nat_le k (horizon d) && is_after (most_ticks d w) (visit_tick d routes (of_plan routes plan) k w.from_train w.from_visit) k) (not (visited_by d routes plan k w.to_train w.to_visit)) h in
            let late = and_right (nat_le k (horizon d) && is_after (most_ticks d w) (visit_tick d routes (of_plan routes plan) k w.from_train w.from_visit) k) (not (visited_by d routes plan k w.to_train w.to_visit)) h in
            let from = is_after_at (most_ticks d w) (visit_tick d routes (of_plan routes plan) k w.from_train w.from_visit) k (and_right (nat_le k (horizon d)) _ rest) in
            let from_end = at_later k (horizon d) w.from_train w.from_visit from.0 near from.1 in
            let to = made (horizon d) w.to_train w.to_visit (done_visit (horizon d) done_at_end w.to_train w.to_visit (adm.within w i).to) in
            let kept = list_all_at (keeps_within d routes plan (horizon d)) d.withins w withins_kept i in
            let both_there : nat_le (to.0 * d.tick_ms) (from.0 * d.tick_ms + w.max_ms) ≡ true = sym (ap₂ (both (λ from to. nat_le (to * d.tick_ms) (from * d.tick_ms + w.max_ms))) from_end to.1) ∙ kept in
            let tick = adm.tick.0 in
            let soon = from_ms d.tick_ms w.max_ms from.0 to.0 (omega arith) (leb-true _ _ both_there) in
            let when = from.2 in
            true≢false (sym late ∙ ap not (made_by to.0 k w.to_train w.to_visit (omega arith) to.1))

    no_order : (k n : ℕ) → k ≤ horizon d → In n (one_to (length d.orders)) → is_certain d routes plan k (violation.Order n) ≡ false
    no_order k n near m = false_unless _ (λ h. at (order_of d n) (let l = one_to_in (length d.orders) n m in in_entry _ d.orders n l.0 l.1) h)
      where
        at : (o : Order) → In o d.orders → (is_after 0 (visit_tick d routes (of_plan routes plan) k o.then_train o.then_visit) k && not (visited_by d routes plan (k - 1) o.first_train o.first_visit)) ≡ true → ⊥
        at o i h =
            let now = and_left (is_after 0 (visit_tick d routes (of_plan routes plan) k o.then_train o.then_visit) k) (not (visited_by d routes plan (k - 1) o.first_train o.first_visit)) h in
            let late = and_right (is_after 0 (visit_tick d routes (of_plan routes plan) k o.then_train o.then_visit) k) (not (visited_by d routes plan (k - 1) o.first_train o.first_visit)) h in
            let other = is_after_at 0 (visit_tick d routes (of_plan routes plan) k o.then_train o.then_visit) k now in
            let other_end = at_later k (horizon d) o.then_train o.then_visit other.0 near other.1 in
            let first = made (horizon d) o.first_train o.first_visit (done_visit (horizon d) done_at_end o.first_train o.first_visit (adm.order o i).first_names) in
            let kept = list_all_at (keeps_order d routes plan (horizon d)) d.orders o orders_kept i in
            let both_there : nat_lt first.0 other.0 ≡ true = sym (ap₂ (both nat_lt) first.1 other_end) ∙ kept in
            let sooner = leb-true _ _ both_there in
            let when = other.2 in
            true≢false (sym late ∙ ap not (made_by first.0 (k - 1) o.first_train o.first_visit (omega arith) first.1))

    -- no way to fail is certain by the horizon
    nothing_certain : (k : ℕ) → k ≤ horizon d → violation_at d routes plan k ≡ None
    nothing_certain k near = find_none (is_certain d routes plan k) (possible_violations d routes plan) (each_way (λ v. is_certain d routes plan k v ≡ false) (λ n m. no_within k n near m) (λ n m. no_order k n near m) (λ t j m i. no_grant t j m i (k == horizon d) refl) (λ t j m i. no_visit t j m i (k == horizon d) refl))
      where
        no_grant : (t : TrainNo) (j : ℕ) → In t (trains d) → In j (command_numbers d routes plan t) → (b : Bool) → (k == horizon d) ≡ b → is_certain d routes plan k (violation.Grant t j) ≡ false
        no_grant t j m i false e = ap (λ c. c && not (granted_by d routes plan k t j)) e
        no_grant t j m i true e = ap (λ c. c && not (granted_by d routes plan k t j)) e ∙ ap not (subst (λ n. granted_by d routes plan n t j ≡ true) (sym (eqb-true k (horizon d) e)) (done_grants (horizon d) done_at_end t m j i))

        no_visit : (t : TrainNo) (j : ℕ) → In t (trains d) → In j (visit_numbers d t) → (b : Bool) → (k == horizon d) ≡ b → is_certain d routes plan k (violation.Visit t j) ≡ false
        no_visit t j m i false e = ap (λ c. c && not (visited_by d routes plan k t j)) e
        no_visit t j m i true e = ap (λ c. c && not (visited_by d routes plan k t j)) e ∙ ap not (subst (λ n. visited_by d routes plan n t j ≡ true) (sym (eqb-true k (horizon d) e)) (done_visits (horizon d) done_at_end t m j i))

    paths_good : path_violation d routes plan ≡ None
    paths_good = find_none (is_certain d routes plan 1) (path_failures d routes plan) (λ v m. at v (in_flat_map_back (λ t. map (violation.Path t) (visit_numbers d t)) (trains d) v m))
      where
        some_entry : (o : Option PathNode) (t : TrainNo) → is_some (option_and_then (pass_tick d routes (of_plan routes plan) (horizon d) t) o) ≡ true → is_none o ≡ false
        some_entry None t h = cc
        some_entry (Some p) t h = refl

        one : (t : TrainNo) → In t (trains d) → (v : Violation) → ((j : ℕ) × In j (visit_numbers d t) × (violation.Path t j ≡ v)) → is_certain d routes plan 1 v ≡ false
        one t m v (j, i, e) = subst (λ w. is_certain d routes plan 1 w ≡ false) e (some_entry (entry None (visits_of_train d routes (of_plan routes plan) t) j) t (done_visits (horizon d) done_at_end t m j i))

        at : (v : Violation) → ((t : TrainNo) × In t (trains d) × In v (map (violation.Path t) (visit_numbers d t))) → is_certain d routes plan 1 v ≡ false
        at v (t, m, i) = one t m v (in_map_back (violation.Path t) (visit_numbers d t) v i)

    pub not_failed : failure d routes plan ≡ None
    not_failed = ap (λ o. or_else o (violation_at d routes plan (cost d routes plan))) paths_good ∙ nothing_certain (cost d routes plan) in_time
      where
        found_in_time : (o : Option ℕ) → least (is_decided d routes plan) (horizon d) ≡ o → unwrap_or o (horizon d) ≤ horizon d
        found_in_time None e = omega arith
        found_in_time (Some k) e = (least_gives (is_decided d routes plan) (horizon d) k e).last

        in_time : cost d routes plan ≤ horizon d
        in_time = subst (λ o. (if is_some o then 1 else unwrap_or (least (is_decided d routes plan) (horizon d)) (horizon d)) ≤ horizon d) (sym paths_good) (found_in_time (least (is_decided d routes plan) (horizon d)) refl)

  -- ---- the deciding tick

  -- at the horizon all is done or something is certain
  decided_at_end : is_decided d routes plan (horizon d) ≡ true
  decided_at_end = go (is_done d routes plan (horizon d)) refl
    where
      or_second : (a b : Bool) → b ≡ true → (a || b) ≡ true
      or_second true b e = refl
      or_second false b e = e

      or_first : (a b : Bool) → a ≡ true → (a || b) ≡ true
      or_first a b e = ap (λ c. c || b) e

      some : (v : Violation) → In v (possible_violations d routes plan) → is_certain d routes plan (horizon d) v ≡ true → is_some (violation_at d routes plan (horizon d)) ≡ true
      some v m h = look (violation_at d routes plan (horizon d)) refl
        where
          look : (o : Option Violation) → violation_at d routes plan (horizon d) ≡ o → is_some o ≡ true
          look (Some w) e = refl
          look None e = absurd (true≢false (sym h ∙ none_found (is_certain d routes plan (horizon d)) (possible_violations d routes plan) e v m))

      at_end : (b : Bool) → b ≡ false → ((horizon d == horizon d) && not b) ≡ true
      at_end b e = and_both (horizon d == horizon d) (not b) (eq-eqb (horizon d) (horizon d) refl) (ap not e)

      missing_grant : list_all (λ t. list_all (granted_by d routes plan (horizon d) t) (command_numbers d routes plan t)) (trains d) ≡ false → is_some (violation_at d routes plan (horizon d)) ≡ true
      missing_grant h =
          let f = list_all_fails (λ t. list_all (granted_by d routes plan (horizon d) t) (command_numbers d routes plan t)) (trains d) h in
          let g = list_all_fails (granted_by d routes plan (horizon d) f.0) (command_numbers d routes plan f.0) f.2 in
          some (violation.Grant f.0 g.0) (way_grant f.0 g.0 f.1 g.1) (at_end _ g.2)

      missing_visit : list_all (λ t. list_all (visited_by d routes plan (horizon d) t) (visit_numbers d t)) (trains d) ≡ false → is_some (violation_at d routes plan (horizon d)) ≡ true
      missing_visit h =
          let f = list_all_fails (λ t. list_all (visited_by d routes plan (horizon d) t) (visit_numbers d t)) (trains d) h in
          let g = list_all_fails (visited_by d routes plan (horizon d) f.0) (visit_numbers d f.0) f.2 in
          some (violation.Visit f.0 g.0) (way_visit f.0 g.0 f.1 g.1) (at_end _ g.2)

      which : (a b : Bool) → (a && b) ≡ false → (a ≡ false) ⊎ (b ≡ false)
      which true b h = inr h
      which false b h = inl refl

      missing : (list_all (λ t. list_all (granted_by d routes plan (horizon d) t) (command_numbers d routes plan t)) (trains d) ≡ false) ⊎ (list_all (λ t. list_all (visited_by d routes plan (horizon d) t) (visit_numbers d t)) (trains d) ≡ false) → is_some (violation_at d routes plan (horizon d)) ≡ true
      missing (inl h) = missing_grant h
      missing (inr h) = missing_visit h

      go : (b : Bool) → is_done d routes plan (horizon d) ≡ b → is_decided d routes plan (horizon d) ≡ true
      go true e = or_second (is_some (violation_at d routes plan (horizon d))) _ e
      go false e = or_first _ (is_done d routes plan (horizon d)) (missing (which _ _ e))

  -- where the paths make all visits, the deciding tick is the first that is decided
  pub record Decided : Type 0 where
    pub tick : ℕ
    pub first : least (is_decided d routes plan) (horizon d) ≡ Some tick
    pub costs : cost d routes plan ≡ tick

  pub decided : path_violation d routes plan ≡ None → Decided
  decided none = go (least (is_decided d routes plan) (horizon d)) refl
    where
      costs : cost d routes plan ≡ unwrap_or (least (is_decided d routes plan) (horizon d)) (horizon d)
      costs = ap (λ o. if is_some o then 1 else unwrap_or (least (is_decided d routes plan) (horizon d)) (horizon d)) none

      go : (o : Option ℕ) → least (is_decided d routes plan) (horizon d) ≡ o → Decided
      go None e = let low = adm.ticks.0 in absurd (true≢false (sym decided_at_end ∙ least_none (is_decided d routes plan) (horizon d) e (horizon d) low (omega arith)))
      go (Some k) e = record { tick = k; first = e; costs = costs ∙ ap (λ o. unwrap_or o (horizon d)) e }

  undecided_none : (k : ℕ) → is_decided d routes plan k ≡ false → violation_at d routes plan k ≡ None
  undecided_none k h = go (violation_at d routes plan k) refl h
    where
      go : (o : Option Violation) → violation_at d routes plan k ≡ o → (is_some o || is_done d routes plan k) ≡ false → o ≡ None
      go None e t = refl
      go (Some v) e t = absurd (true≢false t)

  -- no failure is no violation of a path, and none at the deciding tick
  pub no_failure : failure d routes plan ≡ None → (path_violation d routes plan ≡ None) × (violation_at d routes plan (cost d routes plan) ≡ None)
  no_failure h = go (path_violation d routes plan) refl h
    where
      go : (o : Option Violation) → path_violation d routes plan ≡ o → or_else o (violation_at d routes plan (cost d routes plan)) ≡ None → (path_violation d routes plan ≡ None) × (violation_at d routes plan (cost d routes plan) ≡ None)
      go None e k = (e, k)
      go (Some v) e k = cc

  -- ---- a plan that doesn't fail meets the design

  module _ (good : failure d routes plan ≡ None) where
    at_tick : Decided
    at_tick = decided (no_failure good).0

    none_up_to : (i : ℕ) → 1 ≤ i → i ≤ cost d routes plan → violation_at d routes plan i ≡ None
    none_up_to i low high = go (below_or_not i (cost d routes plan))
      where
        go : (i < cost d routes plan) ⊎ (cost d routes plan ≤ i) → violation_at d routes plan i ≡ None
        go (inl l) = let c = at_tick.costs in undecided_none i (least_before (is_decided d routes plan) (horizon d) at_tick.tick at_tick.first i low (omega arith))
        go (inr l) = let same : i ≡ cost d routes plan = omega arith in subst (λ k. violation_at d routes plan k ≡ None) (sym same) (no_failure good).1

    done_now : is_done d routes plan (cost d routes plan) ≡ true
    done_now = subst (λ o. (is_some o || is_done d routes plan (cost d routes plan)) ≡ true) (no_failure good).1 now
      where
        now : is_decided d routes plan (cost d routes plan) ≡ true
        now = subst (λ k. is_decided d routes plan k ≡ true) (sym at_tick.costs) (least_gives (is_decided d routes plan) (horizon d) at_tick.tick at_tick.first).passes

    near : cost d routes plan ≤ horizon d
    near = let l = (least_gives (is_decided d routes plan) (horizon d) at_tick.tick at_tick.first).last in let c = at_tick.costs in omega arith

    never : (v : Violation) → In v (possible_violations d routes plan) → (i : ℕ) → 1 ≤ i → i ≤ cost d routes plan → is_certain d routes plan i v ≡ false
    never v m i low high = none_found (is_certain d routes plan i) (possible_violations d routes plan) (none_up_to i low high) v m

    end_order : (o : Order) → In o d.orders → keeps_order d routes plan (horizon d) o ≡ true
    end_order o m = go (in_get d.orders o m)
      where
        later : keeps_order d routes plan (cost d routes plan) o ≡ true → keeps_order d routes plan (horizon d) o ≡ true
        later h =
            let a = made (cost d routes plan) o.first_train o.first_visit (done_visit (cost d routes plan) done_now o.first_train o.first_visit (adm.order o m).first_names) in
            let b = made (cost d routes plan) o.then_train o.then_visit (done_visit (cost d routes plan) done_now o.then_train o.then_visit (adm.order o m).after) in
            let n = near in
            ap₂ (both nat_lt) (at_later (cost d routes plan) (horizon d) o.first_train o.first_visit a.0 n a.1) (at_later (cost d routes plan) (horizon d) o.then_train o.then_visit b.0 n b.1) ∙ sym (ap₂ (both nat_lt) a.1 b.1) ∙ h

        go : ((i : ℕ) × (slice_get d.orders i ≡ Some o)) → keeps_order d routes plan (horizon d) o ≡ true
        go (i, e) =
            let same : order_of d (suc i) ≡ o = entry_get _ d.orders i o e in
            let within = get_within d.orders i o e in
            let first = done_visit (cost d routes plan) done_now o.first_train o.first_visit (adm.order o m).first_names in
            let after = done_visit (cost d routes plan) done_now o.then_train o.then_visit (adm.order o m).after in
            later (subst (λ p. keeps_order d routes plan (cost d routes plan) p ≡ true) same
            (order_kept d routes plan (cost d routes plan) (suc i) (subst (λ (p : Order). visited_by d routes plan (cost d routes plan) p.first_train p.first_visit ≡ true) (sym same) first)
            (subst (λ (p : Order). visited_by d routes plan (cost d routes plan) p.then_train p.then_visit ≡ true) (sym same) after) (never (violation.Order (suc i)) (way_order (suc i) (in_one_to (length d.orders) (suc i) (omega arith) (omega arith))))))

    end_within : (w : Within) → In w d.withins → keeps_within d routes plan (horizon d) w ≡ true
    end_within w m = go (in_get d.withins w m)
      where
        test : ℕ → ℕ → Bool
        test from to = nat_le (to * d.tick_ms) (from * d.tick_ms + w.max_ms)

        later : keeps_within d routes plan (cost d routes plan) w ≡ true → keeps_within d routes plan (horizon d) w ≡ true
        later h =
            let a = made (cost d routes plan) w.from_train w.from_visit (done_visit (cost d routes plan) done_now w.from_train w.from_visit (adm.within w m).from) in
            let b = made (cost d routes plan) w.to_train w.to_visit (done_visit (cost d routes plan) done_now w.to_train w.to_visit (adm.within w m).to) in
            let n = near in
            ap₂ (both (λ from to. nat_le (to * d.tick_ms) (from * d.tick_ms + w.max_ms))) (at_later (cost d routes plan) (horizon d) w.from_train w.from_visit a.0 n a.1) (at_later (cost d routes plan) (horizon d) w.to_train w.to_visit b.0 n b.1)
            ∙ sym (ap₂ (both (λ from to. nat_le (to * d.tick_ms) (from * d.tick_ms + w.max_ms))) a.1 b.1) ∙ h

        go : ((i : ℕ) × (slice_get d.withins i ≡ Some w)) → keeps_within d routes plan (horizon d) w ≡ true
        go (i, e) =
            let same : within_of d (suc i) ≡ w = entry_get _ d.withins i w e in
            let within = get_within d.withins i w e in
            let from = done_visit (cost d routes plan) done_now w.from_train w.from_visit (adm.within w m).from in
            let to = done_visit (cost d routes plan) done_now w.to_train w.to_visit (adm.within w m).to in
            let tick = adm.tick.0 in
            later (subst (λ p. keeps_within d routes plan (cost d routes plan) p ≡ true) same
            (within_kept d routes plan (omega arith) (cost d routes plan) (suc i) near (subst (λ (p : Within). visited_by d routes plan (cost d routes plan) p.from_train p.from_visit ≡ true) (sym same) from)
            (subst (λ (p : Within). visited_by d routes plan (cost d routes plan) p.to_train p.to_visit ≡ true) (sym same) to) (never (violation.Within (suc i)) (way_within (suc i) (in_one_to (length d.withins) (suc i) (omega arith) (omega arith))))))

    pub met : meets d routes plan ≡ true
    met = and_both _ _ (and_both _ _ (done_later (cost d routes plan) (horizon d) near done_now) (list_all_from _ d.orders end_order)) (list_all_from _ d.withins end_within)

  pub met_exactly : (meets d routes plan ≡ true) ↔ (failure d routes plan ≡ None)
  met_exactly = (not_failed, met)

  pub verdict : IsVerdict d routes plan
  verdict = record {
    first = (bounds (path_violation d routes plan) refl).0;
    last = (bounds (path_violation d routes plan) refl).1;
    before = λ none k low less. let w = decided none in let c = w.costs in least_before (is_decided d routes plan) (horizon d) w.tick w.first k low (omega arith);
    met = λ good. done_now good;
    failed = λ v h. fails v (path_violation d routes plan) refl h;
  }
    where
      path_cost : (v : Violation) → path_violation d routes plan ≡ Some v → cost d routes plan ≡ 1
      path_cost v e = ap (λ o. if is_some o then 1 else unwrap_or (least (is_decided d routes plan) (horizon d)) (horizon d)) e

      bounds : (o : Option Violation) → path_violation d routes plan ≡ o → (1 ≤ cost d routes plan) × (cost d routes plan ≤ horizon d)
      bounds (Some v) e = let c = path_cost v e in let low = adm.ticks.0 in (omega arith, omega arith)
      bounds None e = let w = decided e in let c = w.costs in let l = least_gives (is_decided d routes plan) (horizon d) w.tick w.first in let a = l.first in let b = l.last in (omega arith, omega arith)

      fails : (v : Violation) (o : Option Violation) → path_violation d routes plan ≡ o → or_else o (violation_at d routes plan (cost d routes plan)) ≡ Some v → is_certain d routes plan (cost d routes plan) v ≡ true
      fails v None e h = found_passes (is_certain d routes plan (cost d routes plan)) (possible_violations d routes plan) v h
      fails v (Some w) e h = let same : path_violation d routes plan ≡ Some v = e ∙ h in subst (λ k. is_certain d routes plan k v ≡ true) (sym (path_cost w e)) (found_passes (is_certain d routes plan 1) (path_failures d routes plan) v same)
