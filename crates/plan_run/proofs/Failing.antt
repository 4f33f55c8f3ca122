-- Where no visit is made and no greatest time ends, nothing fails.
use Rattle.std.proofs.Common.{◌≡◌, ℕ, zero, suc, ◌+◌, ◌-◌, ◌≤◌, ◌<◌, ◌⊎◌, inl, inr, Bool, true, false, not, ◌&&◌, ◌||◌, ◌==◌, nat_le, List, [], ◌∷◌, ◌++◌, length, get_or, Option, None, Some, option_map, option_and_then, find, refl, sym, ap, subst, ◌∙◌, arith, eq-eqb, append_assoc}
use Rattle.std.specs.List.{list_any}
use Rattle.rail_base.specs.declared.station.Station.{Station}
use Rattle.rail_base.specs.declared.station.NodeNo.{NodeNo}
use Rattle.rail_base.specs.declared.station.TrainNo.{TrainNo}
use Rattle.rail_base.specs.declared.station.Order.{Order}
use Rattle.rail_base.specs.declared.station.Within.{Within}
use Rattle.rail_base.specs.declared.route.Route.{Route}
use Rattle.rail_base.specs.declared.plan.Command.{Command}
use Rattle.rail_base.specs.declared.plan.Violation.{Violation}
use Rattle.rail_base.specs.declared.plan.Violation.TheVariants as violation
use Rattle.rail_base.specs.declared.history.TrainHistory.{TrainHistory}
use Rattle.rail_base.specs.declared.state.PathNode.{PathNode}
use Rattle.rail_base.specs.Members.{In}
use Rattle.rail_base.specs.Numbering.{one_to, entry, least, or_this}
use Rattle.rail_base.specs.Stations.{horizon, within_of, order_of}
use Rattle.rail_base.proofs.Members.{below_or_not, get_or-counted_past, map-map}
use Rattle.rail_base.proofs.Lists.{in_map_back, in_count_back}
use Rattle.rail_spec.specs.Dispatches.{of_plan}
use Rattle.rail_spec.specs.Requirements.{is_after, most_ticks}
use Rattle.rail_spec.specs.Visits.{pass_tick, visits_of_train, happened_by}
use Rattle.rail_spec.specs.Visits as visits
use Rattle.rail_spec.specs.Histories.{history_at, train_history}
use Rattle.rail_require.specs.Ticks.{visit_tick, history_of, is_at, is_before, makes_visit_at, has_visit_at}
use Rattle.rail_require.specs.Violations.{is_broken, is_certain, within_violations, order_violations, grant_violations, visit_violations, violation_in}
use Rattle.rail_require.proofs.Finding.{find-none, find-append_none}
use Rattle.rail_require.proofs.Missing.{find-not_due}
use Rattle.rail_require.proofs.Telling.{visit_told}
use Rattle.dispatch_run.specs.declared.run.Progress.{Progress}
use Rattle.plan_run.specs.Due.{IsDue, may_fail}

and_first : (a b : Bool) → a ≡ false → (a && b) ≡ false
and_first a b e = ap (λ c. c && b) e

and_middle : (a b c : Bool) → b ≡ false → (a && b && c) ≡ false
and_middle true b c e = ap (λ x. x && c) e
and_middle false b c e = refl

or_first : (a b : Bool) → (a || b) ≡ false → a ≡ false
or_first true b e = e
or_first false b e = refl

or_second : (a b : Bool) → (a || b) ≡ false → b ≡ false
or_second true b e = cc
or_second false b e = e

-- the entry of a number is in the list
entry_in : {X : Type 0} (other : X) (xs : List X) (n : ℕ) → 1 ≤ n → n ≤ length xs → In (entry other xs n) xs
entry_in other xs zero low high = absurd (omega arith)
entry_in other [] (suc i) low high = absurd (omega arith)
entry_in other (x ∷ xs) (suc zero) low high = inl refl
entry_in other (x ∷ xs) (suc (suc i)) low high = inr (entry_in other xs (suc i) (omega arith) (omega arith))

-- where none passes, neither does an entry
entry_fails : {X : Type 0} (test : X → Bool) (other : X) (xs : List X) (n : ℕ) → test other ≡ false → list_any test xs ≡ false → test (entry other xs n) ≡ false
entry_fails test other xs zero o h = o
entry_fails test other [] (suc i) o h = o
entry_fails test other (x ∷ xs) (suc zero) o h = or_first (test x) (list_any test xs) h
entry_fails test other (x ∷ xs) (suc (suc i)) o h = entry_fails test other xs (suc i) o (or_second (test x) (list_any test xs) h)

-- no visit has the tick
abbrev pub HasNoVisitAt : ℕ → List TrainHistory → Type 0
HasNoVisitAt k history = (t : TrainNo) (j : ℕ) → is_at k (visit_tick history t j) ≡ false

pub no_visit_at : (k : ℕ) (history : List TrainHistory) → has_visit_at k history ≡ false → HasNoVisitAt k history
no_visit_at k history none t j =
    entry_fails (λ v. is_at k (option_map (λ (m : NodeNo × ℕ). m.1) v)) None (history_of history t).visits j refl
    (entry_fails (makes_visit_at k) (record { grants = []; passes = []; releases = []; holds = []; visits = []; dwells = [] }) history t.0 refl none)

-- ---- nothing is certain then

module _ (d : Station) (history : List TrainHistory) (k : ℕ) (unvisited : HasNoVisitAt k history) (undue : (w : Within) → In w d.withins → is_after (most_ticks d w) (visit_tick history w.from_train w.from_visit) k ≡ false) (early : k ≡ horizon d → ⊥) where
  not_broken : (o : Order) → is_broken history k o ≡ false
  not_broken o = and_first (is_after 0 (visit_tick history o.then_train o.then_visit) k) (not (is_before k (visit_tick history o.first_train o.first_visit))) (go (visit_tick history o.then_train o.then_visit) (unvisited o.then_train o.then_visit))
    where
      go : (v : Option ℕ) → is_at k v ≡ false → is_after 0 v k ≡ false
      go None h = refl
      go (Some a) h = let same : a + 0 ≡ a = omega arith in ap (λ n. n == k) same ∙ h

  withins_open : find (is_certain d history k) (within_violations d) ≡ None
  withins_open = find-none (is_certain d history k) (within_violations d) (λ v m. go v (in_map_back violation.Within (one_to (length d.withins)) v m))
    where
      one : (w : ℕ) → In w (one_to (length d.withins)) → is_certain d history k (violation.Within w) ≡ false
      one w m =
          let c = in_count_back 1 (length d.withins) w m in
          let there = entry_in (record { from_train = record { 0 = 0 }; from_visit = 0; to_train = record { 0 = 0 }; to_visit = 0; max_ms = 0 }) d.withins w c.0 (let h = c.1 in omega arith) in
          and_middle (nat_le k (horizon d)) (is_after (most_ticks d (within_of d w)) (visit_tick history (within_of d w).from_train (within_of d w).from_visit) k) _ (undue (within_of d w) there)

      go : (v : Violation) → ((w : ℕ) × In w (one_to (length d.withins)) × (violation.Within w ≡ v)) → is_certain d history k v ≡ false
      go v (w, m, e) = subst (λ x. is_certain d history k x ≡ false) e (one w m)

  orders_open : find (is_certain d history k) (order_violations d) ≡ None
  orders_open = find-none (is_certain d history k) (order_violations d) (λ v m. go v (in_map_back violation.Order (one_to (length d.orders)) v m))
    where
      go : (v : Violation) → ((o : ℕ) × In o (one_to (length d.orders)) × (violation.Order o ≡ v)) → is_certain d history k v ≡ false
      go v (o, m, e) = subst (λ x. is_certain d history k x ≡ false) e (not_broken (order_of d o))

  pub nothing_certain : violation_in d history k ≡ None
  nothing_certain =
      ap (find (is_certain d history k)) (append_assoc (within_violations d ++ order_violations d) (grant_violations history) (visit_violations history))
      ∙ find-append_none (is_certain d history k) (within_violations d ++ order_violations d) (grant_violations history ++ visit_violations history)
      (find-append_none (is_certain d history k) (within_violations d) (order_violations d) withins_open ∙ orders_open)
      ∙ find-not_due d history k early

-- ---- the visits stay as they were

module _ (d : Station) (routes : List Route) (plan : List (List Command)) where
  -- who is no train has no visits
  pub no_history : (k : ℕ) (t : TrainNo) (j : ℕ) → ((t.0 ≡ 0) ⊎ (length d.trains < t.0)) → visit_tick (history_at d routes plan k) t j ≡ None
  no_history k t j none = ap (λ (h : TrainHistory). visit_of h) (nobody t.0 none) ∙ empty j
    where
      other : TrainHistory
      other = record { grants = []; passes = []; releases = []; holds = []; visits = []; dwells = [] }

      visit_of : TrainHistory → Option ℕ
      visit_of h = visit_tick (h ∷ []) (record { 0 = 1 }) j

      empty : (j : ℕ) → visit_tick (other ∷ []) (record { 0 = 1 }) j ≡ None
      empty zero = refl
      empty (suc i) = refl

      nobody : (n : ℕ) → ((n ≡ 0) ⊎ (length d.trains < n)) → history_of (history_at d routes plan k) (record { 0 = n }) ≡ other
      nobody zero h = refl
      nobody (suc i) (inl e) = absurd (omega arith)
      nobody (suc i) (inr l) =
          ap (λ xs. get_or xs i other) (map-map (train_history d routes plan k) (λ n. record { 0 = n }) (one_to (length d.trains)))
          ∙ get_or-counted_past (λ n. train_history d routes plan k (record { 0 = n })) 1 (length d.trains) i other (omega arith)

  earlier : (o : Option ℕ) (b : Bool) (n : ℕ) → is_at n (or_this o b n) ≡ false → or_this o b n ≡ o
  earlier (Some a) b n h = refl
  earlier None true n h = absurd (let e = eq-eqb n n refl in cc)
  earlier None false n h = refl

  tick_stays : (k : ℕ) (t : TrainNo) (j : ℕ) → is_at (suc k) (visits.visit_tick d routes (of_plan routes plan) (suc k) t j) ≡ false → visits.visit_tick d routes (of_plan routes plan) (suc k) t j ≡ visits.visit_tick d routes (of_plan routes plan) k t j
  tick_stays k t j = go (entry None (visits_of_train d routes (of_plan routes plan) t) j)
    where
      go : (p : Option PathNode) → is_at (suc k) (option_and_then (pass_tick d routes (of_plan routes plan) (suc k) t) p) ≡ false → option_and_then (pass_tick d routes (of_plan routes plan) (suc k) t) p ≡ option_and_then (pass_tick d routes (of_plan routes plan) k t) p
      go None h = refl
      go (Some p) h = earlier (least (happened_by d routes (of_plan routes plan) t p.event) k) (happened_by d routes (of_plan routes plan) t p.event (suc k)) (suc k) h

  -- where none is made at a tick they are those of the tick before
  visit_stays : (k : ℕ) → HasNoVisitAt (suc k) (history_at d routes plan (suc k)) → (t : TrainNo) (j : ℕ) → visit_tick (history_at d routes plan (suc k)) t j ≡ visit_tick (history_at d routes plan k) t j
  visit_stays k unvisited t j = go (below_or_not 0 t.0) (below_or_not (length d.trains) t.0)
    where
      nothing : ((t.0 ≡ 0) ⊎ (length d.trains < t.0)) → visit_tick (history_at d routes plan (suc k)) t j ≡ visit_tick (history_at d routes plan k) t j
      nothing none = no_history (suc k) t j none ∙ sym (no_history k t j none)

      go : (0 < t.0) ⊎ (t.0 ≤ 0) → (length d.trains < t.0) ⊎ (t.0 ≤ length d.trains) → visit_tick (history_at d routes plan (suc k)) t j ≡ visit_tick (history_at d routes plan k) t j
      go (inr none) h = nothing (inl (omega arith))
      go (inl some) (inl past) = nothing (inr past)
      go (inl some) (inr there) =
          let told = visit_told d routes plan (suc k) t (some, there) j in
          told ∙ tick_stays k t j (ap (is_at (suc k)) (sym told) ∙ unvisited t j) ∙ sym (visit_told d routes plan k t (some, there) j)

  -- and those of an earlier one after which nothing happened
  pub visits_stay : (k tick : ℕ) → k < tick → HasNoVisitAt tick (history_at d routes plan tick) → ((m : ℕ) → k ≤ m → m < tick → history_at d routes plan m ≡ history_at d routes plan k)
      → (t : TrainNo) (j : ℕ) → visit_tick (history_at d routes plan tick) t j ≡ visit_tick (history_at d routes plan k) t j
  visits_stay k zero next unvisited stays t j = absurd (omega arith)
  visits_stay k (suc m) next unvisited stays t j = visit_stays m unvisited t j ∙ ap (λ h. visit_tick h t j) (stays m (omega arith) (omega arith))

-- ---- what is due stays due

module _ (d : Station) (old new : List TrainHistory) (k tick last due : ℕ) (next : k < tick) (ahead : tick < due) (same : (t : TrainNo) (j : ℕ) → visit_tick new t j ≡ visit_tick old t j) (is : IsDue d old k last due) where
  undue_at : (w : Within) → In w d.withins → (j : ℕ) → tick + j < due → is_after (most_ticks d w) (visit_tick new w.from_train w.from_visit) (tick + j) ≡ false
  undue_at w m j less =
      let there : k + (tick + j - k) ≡ tick + j = omega arith in
      ap (λ o. is_after (most_ticks d w) o (tick + j)) (same w.from_train w.from_visit) ∙ ap (is_after (most_ticks d w) (visit_tick old w.from_train w.from_visit)) (sym there)
      ∙ is.undue w m (tick + j - k) (omega arith) (omega arith)

  pub undue_now : (w : Within) → In w d.withins → is_after (most_ticks d w) (visit_tick new w.from_train w.from_visit) tick ≡ false
  undue_now w m = let here : tick + 0 ≡ tick = omega arith in ap (is_after (most_ticks d w) (visit_tick new w.from_train w.from_visit)) (sym here) ∙ undue_at w m 0 (omega arith)

  pub due_still : IsDue d new tick last due
  due_still = record { after = ahead; within = is.within; undue = λ w m j low high. undue_at w m j (omega arith) }

-- ---- a tick of a run at which nothing may fail

module _ (g : Progress) (due : ℕ) (none : may_fail g due ≡ false) where
  not_visited : g.visited ≡ false
  not_visited = or_first g.visited (g.tick == due) none

  pub another_tick : g.tick ≡ due → ⊥
  another_tick e = let t = eq-eqb g.tick due e in let f = or_second g.visited (g.tick == due) none in cc

  pub due_later : g.tick ≤ due → g.tick < due
  due_later within = let n = another_tick in grind (arith, n)

module _ (d : Station) (routes : List Route) (plan : List (List Command)) (old : List TrainHistory) (new : Progress) (k last due : ℕ) (next : k < new.tick) (within : new.tick ≤ due) (was : old ≡ history_at d routes plan k) (told : new.histories.items ≡ history_at d routes plan new.tick) (quiet : (m : ℕ) → k ≤ m → m < new.tick → history_at d routes plan m ≡ history_at d routes plan k) (visited : new.visited ≡ has_visit_at new.tick new.histories.items) (is : IsDue d old k last due) (none : may_fail new due ≡ false) where
  unvisited : HasNoVisitAt new.tick new.histories.items
  unvisited = no_visit_at new.tick new.histories.items (sym visited ∙ not_visited new due none)

  same : (t : TrainNo) (j : ℕ) → visit_tick new.histories.items t j ≡ visit_tick old t j
  same t j =
      ap (λ h. visit_tick h t j) told ∙ visits_stay d routes plan k new.tick next (subst (HasNoVisitAt new.tick) told unvisited) quiet t j
      ∙ ap (λ h. visit_tick h t j) (sym was)

  -- the greatest time that ends next is the same
  pub due_as_before : IsDue d new.histories.items new.tick last due
  due_as_before = due_still d old new.histories.items k new.tick last due next (due_later new due none within) same is

  -- and nothing fails
  pub nothing_now : last ≤ horizon d → violation_in d new.histories.items new.tick ≡ None
  nothing_now far =
      nothing_certain d new.histories.items new.tick unvisited (undue_now d old new.histories.items k new.tick last due next (due_later new due none within) same is)
      (λ e. let l = due_later new due none within in let w = is.within in absurd (omega arith))
