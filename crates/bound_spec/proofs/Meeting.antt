-- What it says of a plan that it meets the design.
use Rattle.std.proofs.Common.{◌≡◌, ℕ, zero, suc, ◌+◌, ◌*◌, ◌≤◌, ◌<◌, ◌⊎◌, inl, inr, Bool, true, false, ◌&&◌, nat_le, nat_lt, List, length, Option, None, Some, option_and_then, refl, sym, ap, subst, ◌∙◌, arith, leb-true, eq-or-lt_of_le, true≢false}
use Rattle.std.specs.List.{list_all}
use Rattle.rail_base.specs.declared.station.Station.{Station}
use Rattle.rail_base.specs.declared.station.TrainNo.{TrainNo}
use Rattle.rail_base.specs.declared.plan.Command.{Command}
use Rattle.rail_base.specs.declared.state.PathNode.{PathNode}
use Rattle.rail_base.specs.Admitted.{IsAdmitted}
use Rattle.rail_base.specs.Admission.{is_from, is_visit}
use Rattle.rail_base.specs.Members.{In}
use Rattle.rail_base.specs.Numbering.{entry, least, or_this, one_to}
use Rattle.rail_base.specs.Stations.{train_of, trains, horizon, within_of, order_of, IsTrain}
use Rattle.rail_spec.specs.Track.{routes_of}
use Rattle.rail_spec.specs.Plans.{path}
use Rattle.rail_spec.specs.Feasible.{IsFeasible}
use Rattle.rail_spec.specs.Dispatches.{of_plan}
use Rattle.rail_spec.specs.Visits.{pass_tick, visits_of_train, visit_tick, happened_by}
use Rattle.rail_spec.specs.Requirements.{both, command_numbers, visit_numbers, granted_by, visited_by, is_done, keeps_order, keeps_within, most_ticks}
use Rattle.rail_base.proofs.Members.{and_left, and_right, list_all_at, below_or_not}
use Rattle.rail_base.proofs.Lists.{in_count, in_entry}
use Rattle.rail_laws.proofs.Deciding.{least_gives}
use Rattle.cone_spec.proofs.Saying.{in_trains}
use Rattle.bound_spec.specs.declared.Requirement.{Requirement}
use Rattle.bound_spec.specs.declared.Requirement.TheVariants as requirement
use Rattle.bound_spec.specs.Certificates.{VisitOf, visit_from, visit_to}
use Rattle.bound_spec.specs.Validity.{requirement_in_design, is_too_long, is_too_late}
use Rattle.cone_spec.proofs.Refusing.{past}

-- ---- the least number that passes

not_least : (test : ℕ → Bool) (n i : ℕ) → least test n ≡ None → 1 ≤ i → i ≤ n → test i ≡ false
not_least test zero i e low high = absurd (omega arith)
not_least test (suc n) i e low high = go (least test n) refl (test (suc n)) refl e (eq-or-lt_of_le high) (not_least test n i)
  where
    go : (o : Option ℕ) → least test n ≡ o → (b : Bool) → test (suc n) ≡ b → or_this o b (suc n) ≡ None → (i ≡ suc n) ⊎ (i < suc n) → (least test n ≡ None → 1 ≤ i → i ≤ n → test i ≡ false) → test i ≡ false
    go (Some k) eo b eb h w before = cc
    go None eo true eb h w before = cc
    go None eo false eb h (inl same) before = ap test same ∙ eb
    go None eo false eb h (inr less) before = before eo low (omega arith)

-- none that passes is less
pub least_low : (test : ℕ → Bool) (n a i : ℕ) → least test n ≡ Some a → 1 ≤ i → test i ≡ true → a ≤ i
least_low test zero a i e low passes = cc
least_low test (suc n) a i e low passes = go (least test n) refl (test (suc n)) refl e (λ h. least_low test n a i h low passes) (below_or_not i (suc n))
  where
    go : (o : Option ℕ) → least test n ≡ o → (b : Bool) → test (suc n) ≡ b → or_this o b (suc n) ≡ Some a → (least test n ≡ Some a → a ≤ i) → (i < suc n) ⊎ (suc n ≤ i) → a ≤ i
    go (Some k) eo b eb h before w = before (eo ∙ h)
    go None eo false eb h before w = cc
    go None eo true eb h before (inl less) = absurd (true≢false (sym passes ∙ not_least test n i eo low (omega arith)))
    go None eo true eb h before (inr more) = let same : suc n ≡ a = cc in omega arith

both_gives : (test : ℕ → ℕ → Bool) (x y : Option ℕ) → both test x y ≡ true → (a : ℕ) × (b : ℕ) × (x ≡ Some a) × (y ≡ Some b) × (test a b ≡ true)
both_gives test None y h = cc
both_gives test (Some a) None h = cc
both_gives test (Some a) (Some b) h = (a, b, refl, refl, h)

number_in : (m i : ℕ) → 1 ≤ i → i ≤ m → In i (one_to m)
number_in m i h l = in_count 1 m i h (omega arith)

low : (m i : ℕ) → is_from 1 m i ≡ true → 1 ≤ i
low m i h = leb-true 1 i (and_left (nat_le 1 i) (nat_le i m) h)

high : (m i : ℕ) → is_from 1 m i ≡ true → i ≤ m
high m i h = leb-true i m (and_right (nat_le 1 i) (nat_le i m) h)

module _ (d : Station) (adm : IsAdmitted d) (n : ℕ) (plan : List (List Command)) (feasible : IsFeasible d n plan) where
  pub record Met : Type 0 where
    pub granted : (t : TrainNo) (j : ℕ) → IsTrain d t → 1 ≤ j → j ≤ length (path plan t) → granted_by d (routes_of d) plan (horizon d) t j ≡ true
    pub visited : (t : TrainNo) (j : ℕ) → is_visit d t j ≡ true → visited_by d (routes_of d) plan (horizon d) t j ≡ true
    pub orders : (o : ℕ) → is_from 1 (length d.orders) o ≡ true → keeps_order d (routes_of d) plan (horizon d) (order_of d o) ≡ true
    pub withins : (w : ℕ) → is_from 1 (length d.withins) w ≡ true → keeps_within d (routes_of d) plan (horizon d) (within_of d w) ≡ true

  pub met : Met
  met =
      let h = feasible.met in
      let done_orders = and_left (is_done d (routes_of d) plan (horizon d) && list_all (keeps_order d (routes_of d) plan (horizon d)) d.orders) _ h in
      let done = and_left (is_done d (routes_of d) plan (horizon d)) _ done_orders in
      let grants = and_left (list_all (λ t. list_all (granted_by d (routes_of d) plan (horizon d) t) (command_numbers d (routes_of d) plan t)) (trains d)) _ done in
      let visits = and_right (list_all (λ t. list_all (granted_by d (routes_of d) plan (horizon d) t) (command_numbers d (routes_of d) plan t)) (trains d)) _ done in
      record {
        granted = λ t j a c e. list_all_at (granted_by d (routes_of d) plan (horizon d) t) (command_numbers d (routes_of d) plan t) j (list_all_at (λ t. list_all (granted_by d (routes_of d) plan (horizon d) t) (command_numbers d (routes_of d) plan t)) (trains d) t grants (in_trains d t a.0 a.1)) (number_in (length (path plan t)) j c e);
        visited = λ t j v.
            let t_in = and_left (is_from 1 (length d.trains) t.0) _ v in
            let j_in = and_right (is_from 1 (length d.trains) t.0) _ v in
            list_all_at (visited_by d (routes_of d) plan (horizon d) t) (visit_numbers d t) j (list_all_at (λ t. list_all (visited_by d (routes_of d) plan (horizon d) t) (visit_numbers d t)) (trains d) t visits (in_trains d t (low (length d.trains) t.0 t_in) (high (length d.trains) t.0 t_in)))
            (number_in (length (train_of d t).visits) j (low (length (train_of d t).visits) j j_in) (high (length (train_of d t).visits) j j_in));
        orders = λ o i. list_all_at (keeps_order d (routes_of d) plan (horizon d)) d.orders (order_of d o) (and_right (is_done d (routes_of d) plan (horizon d)) _ done_orders) (in_entry _ d.orders o (low (length d.orders) o i) (high (length d.orders) o i));
        withins = λ w i. list_all_at (keeps_within d (routes_of d) plan (horizon d)) d.withins (within_of d w) (and_right (is_done d (routes_of d) plan (horizon d) && list_all (keeps_order d (routes_of d) plan (horizon d)) d.orders) _ h) (in_entry _ d.withins w (low (length d.withins) w i) (high (length d.withins) w i));
      }

  -- the tick at which the plan makes a visit
  abbrev pub Makes : VisitOf → ℕ → Type 0
  Makes v k = visit_tick d (routes_of d) (of_plan (routes_of d) plan) (horizon d) v.train v.number ≡ Some k

  -- the stop of that visit, and its first pass
  pub record PassedAt (v : VisitOf) (k : ℕ) : Type 0 where
    pub path_node : PathNode
    pub there : entry None (visits_of_train d (routes_of d) (of_plan (routes_of d) plan) v.train) v.number ≡ Some path_node
    pub passed : happened_by d (routes_of d) (of_plan (routes_of d) plan) v.train path_node.event k ≡ true
    pub some : 1 ≤ k
    pub soon : k ≤ horizon d
    pub first : (i : ℕ) → 1 ≤ i → happened_by d (routes_of d) (of_plan (routes_of d) plan) v.train path_node.event i ≡ true → k ≤ i

  pub passed_at : (v : VisitOf) (k : ℕ) → Makes v k → PassedAt v k
  passed_at v k h = go (entry None (visits_of_train d (routes_of d) (of_plan (routes_of d) plan) v.train) v.number) refl
    where
      go : (o : Option PathNode) → entry None (visits_of_train d (routes_of d) (of_plan (routes_of d) plan) v.train) v.number ≡ o → PassedAt v k
      go None e = let none : None ≡ Some k = sym (ap (λ o. option_and_then (pass_tick d (routes_of d) (of_plan (routes_of d) plan) (horizon d) v.train) o) e) ∙ h in cc
      go (Some s) e =
          let at : least (happened_by d (routes_of d) (of_plan (routes_of d) plan) v.train s.event) (horizon d) ≡ Some k = sym (ap (λ o. option_and_then (pass_tick d (routes_of d) (of_plan (routes_of d) plan) (horizon d) v.train) o) e) ∙ h in
          let l = least_gives (happened_by d (routes_of d) (of_plan (routes_of d) plan) v.train s.event) (horizon d) k at in
          record { path_node = s; there = e; passed = l.passes; some = l.first; soon = l.last; first = λ i some so. least_low (happened_by d (routes_of d) (of_plan (routes_of d) plan) v.train s.event) (horizon d) k i at some so }

  -- a within or an order has two visits, each made, and not too far apart
  pub record TwoVisits (q : Requirement) (from to : VisitOf) : Type 0 where
    pub first : ℕ
    pub second : ℕ
    pub made_first : Makes from first
    pub made_second : Makes to second
    pub not_long : (c : ℕ) → is_too_long d (routes_of d) q c ≡ true → first + c ≤ second → ⊥
    pub not_late : (c : ℕ) → is_too_late d (routes_of d) q first c ≡ true → c ≤ second → ⊥

  pub two_visits : (q : Requirement) (from to : VisitOf) → requirement_in_design d (routes_of d) q ≡ true → visit_from d q ≡ Some from → visit_to d q ≡ Some to → TwoVisits q from to
  two_visits (requirement.Within w) from to h ef et =
      let a : record { train = (within_of d w).from_train; number = (within_of d w).from_visit } ≡ from = cc in
      let b : record { train = (within_of d w).to_train; number = (within_of d w).to_visit } ≡ to = cc in
      let g = both_gives (λ from to. nat_le (to * d.tick_ms) (from * d.tick_ms + (within_of d w).max_ms)) _ _ (met.withins w h) in
      subst (λ v. TwoVisits (requirement.Within w) v to) a (subst (λ v. TwoVisits (requirement.Within w) (record { train = (within_of d w).from_train; number = (within_of d w).from_visit }) v) b (record {
        first = g.0;
        second = g.1;
        made_first = g.2;
        made_second = g.3;
        not_long = λ c long far. apart g.0 g.1 g.4 (let l = leb-true _ _ long in omega arith);
        not_late = λ c late far. apart g.0 g.1 g.4 (let l = leb-true _ _ late in omega arith);
      }))
    where
      apart : (x y : ℕ) → nat_le (y * d.tick_ms) (x * d.tick_ms + (within_of d w).max_ms) ≡ true → x + most_ticks d (within_of d w) < y → ⊥
      apart x y soon far =
          let l : y * d.tick_ms ≤ x * d.tick_ms + (within_of d w).max_ms = leb-true _ _ soon in
          let some = adm.tick.0 in
          let m : x * d.tick_ms + (within_of d w).max_ms < y * d.tick_ms = past d.tick_ms (within_of d w).max_ms x y (omega arith) far in
          omega (arith, l, m)
  two_visits (requirement.Order o) from to h ef et =
      let a : record { train = (order_of d o).then_train; number = (order_of d o).then_visit } ≡ from = cc in
      let b : record { train = (order_of d o).first_train; number = (order_of d o).first_visit } ≡ to = cc in
      let g = both_gives nat_lt _ _ (met.orders o h) in
      subst (λ v. TwoVisits (requirement.Order o) v to) a (subst (λ v. TwoVisits (requirement.Order o) (record { train = (order_of d o).then_train; number = (order_of d o).then_visit }) v) b (record {
        first = g.1;
        second = g.0;
        made_first = g.3;
        made_second = g.2;
        not_long = λ c long far. let l = leb-true _ _ g.4 in omega arith;
        not_late = λ c late far. let l = leb-true _ _ g.4 in let k = leb-true _ _ late in omega arith;
      }))
  two_visits (requirement.Visit t k) from to h ef et = cc
  two_visits (requirement.Grant c) from to h ef et = cc
