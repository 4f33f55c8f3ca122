-- The violation that a valid cone shows holds of each plan of which its clause is false.
use Rattle.std.proofs.Common.{◌≡◌, ℕ, ◌+◌, ◌-◌, ◌≤◌, ◌<◌, ◌⊎◌, inl, inr, Bool, true, false, cond, not, ◌&&◌, ◌||◌, ◌==◌, nat_le, List, [], ◌∷◌, map, Option, None, Some, is_some, is_none, refl, sym, ap, subst, ◌∙◌, arith, leb-true, le-leb, eqb-true, eq-eqb, true≢false, le_refl}
use Rattle.rail_base.specs.declared.station.Station.{Station}
use Rattle.rail_base.specs.declared.station.TrainNo.{TrainNo}
use Rattle.rail_base.specs.declared.route.Route.{Route}
use Rattle.rail_base.specs.declared.plan.Command.{Command}
use Rattle.rail_base.specs.declared.plan.Violation.{Violation}
use Rattle.rail_base.specs.declared.plan.Violation.TheVariants as violation
use Rattle.rail_base.specs.declared.state.TrainState.{TrainState}
use Rattle.cone_spec.specs.declared.ConeTrain.{ConeTrain}
use Rattle.cone_spec.specs.declared.Cone.{Cone}
use Rattle.rail_base.specs.Numbering.{entry}
use Rattle.rail_spec.specs.Plans.{route_at, is_train, path}
use Rattle.rail_base.specs.Stations.{train_of, horizon, within_of, order_of}
use Rattle.rail_spec.specs.Dispatches.{state_of, state_at, of_plan}
use Rattle.rail_spec.specs.Visits.{visit_tick}
use Rattle.rail_spec.specs.Requirements.{most_ticks, visited_by, is_certain, is_after}
use Rattle.rail_spec.specs.Places.{path_nodes, visits_on}
use Rattle.rail_base.proofs.Members.{and_left, and_right, and_both}
use Rattle.rail_laws.proofs.Deciding.{visit_stays, visit_within, visit_at}
use Rattle.rail_base.specs.Admission.{is_visit}
use Rattle.cone_spec.specs.Cones.{unnamed, named, of_cone, all_free, first_named}
use Rattle.cone_spec.specs.Validity.{cone_visit, at_its_tick, shows_violation, violation_in_design, only_path}
use Rattle.cone_spec.specs.Clauses.{is_path_violation}
use Rattle.cone_spec.proofs.Naming.{IsNamed, named_or_not}
use Rattle.cone_spec.proofs.Fitting.{Rests, ofd, proper_of, whole_path, few_free, fits, agrees}
use Rattle.cone_spec.proofs.SameVisits.{visit_alike}

-- ticks last some time, and there is at least one
pub record IsTimed (d : Station) : Type 0 where
  pub ticks : 1 ≤ d.tick_ms
  pub some : 1 ≤ horizon d

module _ (d : Station) (routes : List Route) (n : ℕ) (k : Cone) (plan : List (List Command)) (rests : Rests d routes n k plan) where
  -- ---- up to its horizon a train moves in the plan's run as in the cone's

  pub record Follows (tick : ℕ) (t : TrainNo) : Type 0 where
    pub state : state_of (state_at d routes (of_plan routes plan) tick) t ≡ state_of (state_at d routes (of_cone k) tick) t
    pub no_waiting : (state_of (state_at d routes (of_plan routes plan) tick) t).granted ≤ (named k t).free

  pub follows : (tick : ℕ) (t : TrainNo) → tick ≤ (named k t).horizon → Follows tick t
  follows tick t l =
      let a = agrees d routes n k plan rests tick t in
      let same : state_of (state_at d routes (of_plan routes plan) tick) t ≡ state_of (state_at d routes (of_cone k) tick) t = a.same l in
      record {
        state = same;
        no_waiting = subst (λ (s : TrainState). s.granted ≤ (named k t).free) (sym same) (let f = a.few in let m = few_free d routes n k plan rests t in omega arith);
      }

  -- ---- it makes its visits at the same ticks

  pub visit_same : (tick : ℕ) (t : TrainNo) (j : ℕ) → tick ≤ (named k t).horizon → visit_tick d routes (of_plan routes plan) tick t j ≡ cone_visit d routes k tick t j
  visit_same tick t j l = visit_alike d routes k plan tick t ((fits d routes n k plan rests).rest t) ((fits d routes n k plan rests).prefix t)
      (λ i m. (follows i t (omega arith)).state) (λ i m. let f = (follows i t (omega arith)).no_waiting in let a = few_free d routes n k plan rests t in omega arith) j

  -- ---- so the violation is certain of the plan

  pub in_time : (t : TrainNo) → (named k t).horizon ≤ horizon d
  in_time t = go (named_or_not k.trains t)
    where
      go : IsNamed k.trains t ⊎ (named k t ≡ unnamed t) → (named k t).horizon ≤ horizon d
      go (inl i) = (proper_of d routes n k plan rests t i).horizon
      go (inr e) = let z : (named k t).horizon ≡ 0 = ap (λ (c : ConeTrain). c.horizon) e in omega arith

  pub record Certain (v : Violation) : Type 0 where
    pub at : ℕ
    pub by_horizon : at ≤ horizon d
    pub certain : is_certain d routes plan at v ≡ true

  is_none_gives : (o : Option ℕ) → is_none o ≡ true → o ≡ None
  is_none_gives None h = refl
  is_none_gives (Some a) h = absurd (true≢false (sym h))

  visit_none : (tick : ℕ) (t : TrainNo) (j : ℕ) → tick ≤ (named k t).horizon → is_none (cone_visit d routes k tick t j) ≡ true → visited_by d routes plan tick t j ≡ false
  visit_none tick t j l h = ap is_some (visit_same tick t j l ∙ is_none_gives (cone_visit d routes k tick t j) h)

  its_tick : (o : Option ℕ) (rest : ℕ → Bool) → at_its_tick d routes k o rest ≡ true → (a : ℕ) × (o ≡ Some a) × (rest a ≡ true)
  its_tick None rest h = cc
  its_tick (Some a) rest h = (a, refl, h)

  path_named : (t : TrainNo) (cs : List ConeTrain) → only_path d routes k t cs ≡ true → IsNamed cs t
  path_named t [] h = absurd (true≢false (sym h))
  path_named t (c ∷ []) h =
      let e : is_train c.train t ≡ true = and_left (is_train c.train t) _ (and_left (is_train c.train t && (c.horizon == 0)) _ (and_left (is_train c.train t && (c.horizon == 0) && (c.free == 0)) _ h)) in
      let first : first_named t (c ∷ []) ≡ c = ap (λ b. cond b c (unnamed t)) e in
      record { member = inl (sym first); train = ap (λ (x : ConeTrain). x.train) first ∙ ap (λ n. record { 0 = n }) (eqb-true c.train.0 t.0 e) }
  path_named t (c ∷ e ∷ cs) h = absurd (true≢false (sym h))

  pub path_is : (t : TrainNo) (j : ℕ) → k.violation ≡ violation.Path t j → path plan t ≡ (named k t).path
  path_is t j e =
      let of : violation_in_design d routes k (violation.Path t j) ≡ true = subst (λ v. violation_in_design d routes k v ≡ true) e (ofd d routes n k plan rests).violation in
      let only = and_right (is_visit d t j) _ (and_left (is_visit d t j && only_path d routes k t k.trains) _ of) in
      whole_path d routes n k plan rests t (path_named t k.trains only) (or_right (all_free (named k t)) (is_path_violation d routes k k.violation) (ap (is_path_violation d routes k) e))
    where
      or_right : (a b : Bool) → b ≡ true → (a || b) ≡ true
      or_right true b e = refl
      or_right false b e = e

  pub certain_of : IsTimed d → (v : Violation) → k.violation ≡ v → shows_violation d routes k v ≡ true → Certain v
  certain_of timed (violation.Path t j) e h = record {
    at = 1;
    by_horizon = timed.some;
    certain = ap (λ rs. is_none (entry None (visits_on (train_of d t).visits (path_nodes (map (route_at routes) rs))) j)) (path_is t j e) ∙ h;
  }
  certain_of timed (violation.Within w) e h = go (its_tick _ _ h)
    where
      from : TrainNo
      from = (within_of d w).from_train

      go : (a : ℕ) × (cone_visit d routes k (named k (within_of d w).from_train).horizon (within_of d w).from_train (within_of d w).from_visit ≡ Some a)
          × ((nat_le (a + most_ticks d (within_of d w)) (named k (within_of d w).to_train).horizon && is_none (cone_visit d routes k (a + most_ticks d (within_of d w)) (within_of d w).to_train (within_of d w).to_visit)) ≡ true) → Certain (violation.Within w)
      go (a, m, r) =
          let made = visit_same (named k (within_of d w).from_train).horizon (within_of d w).from_train (within_of d w).from_visit (le_refl _) ∙ m in
          let M = most_ticks d (within_of d w) in
          let near : a + M ≤ (named k (within_of d w).to_train).horizon = leb-true _ _ (and_left (nat_le (a + M) (named k (within_of d w).to_train).horizon) _ r) in
          let missed = and_right (nat_le (a + M) (named k (within_of d w).to_train).horizon) _ r in
          let up = in_time (within_of d w).to_train in
          let stays = visit_stays d routes plan a M (within_of d w).from_train (within_of d w).from_visit a (visit_at d routes plan (named k (within_of d w).from_train).horizon (within_of d w).from_train (within_of d w).from_visit a made) in
          record {
            at = a + M;
            by_horizon = omega arith;
            certain = and_both _ _ (and_both _ _ (le-leb (a + M) (horizon d) (omega arith)) (ap (λ o. is_after M o (a + M)) stays ∙ eq-eqb (a + M) (a + M) refl))
                (ap not (visit_none (a + M) (within_of d w).to_train (within_of d w).to_visit near missed));
          }
  certain_of timed (violation.Order o) e h = go (its_tick _ _ h)
    where
      go : (a : ℕ) × (cone_visit d routes k (named k (order_of d o).then_train).horizon (order_of d o).then_train (order_of d o).then_visit ≡ Some a)
          × ((nat_le a ((named k (order_of d o).first_train).horizon + 1) && is_none (cone_visit d routes k (a - 1) (order_of d o).first_train (order_of d o).first_visit)) ≡ true) → Certain (violation.Order o)
      go (a, m, r) =
          let made = visit_same (named k (order_of d o).then_train).horizon (order_of d o).then_train (order_of d o).then_visit (le_refl _) ∙ m in
          let near : a ≤ (named k (order_of d o).first_train).horizon + 1 = leb-true _ _ (and_left (nat_le a ((named k (order_of d o).first_train).horizon + 1)) _ r) in
          let missed = and_right (nat_le a ((named k (order_of d o).first_train).horizon + 1)) _ r in
          let w = visit_within d routes plan (named k (order_of d o).then_train).horizon (order_of d o).then_train (order_of d o).then_visit a made in
          let up = in_time (order_of d o).then_train in
          record {
            at = a;
            by_horizon = let x = w.1 in omega arith;
            certain = and_both _ _ (ap (λ x. is_after 0 x a) (visit_at d routes plan (named k (order_of d o).then_train).horizon (order_of d o).then_train (order_of d o).then_visit a made) ∙ eq-eqb (a + 0) a (omega arith))
                (ap not (visit_none (a - 1) (order_of d o).first_train (order_of d o).first_visit (omega arith) missed));
          }
  certain_of timed (violation.Grant t j) e h =
      let at_end : (named k t).horizon ≡ horizon d = eqb-true _ _ (and_left ((named k t).horizon == horizon d) _ h) in
      let waits : (named k t).free < j = leb-true _ _ (and_right ((named k t).horizon == horizon d) _ h) in
      let f = (follows (horizon d) t (omega arith)).no_waiting in
      record {
        at = horizon d;
        by_horizon = omega arith;
        certain = and_both _ _ (eq-eqb (horizon d) (horizon d) refl) (ap not (not_up_to j (state_of (state_at d routes (of_plan routes plan) (horizon d)) t).granted (omega arith)));
      }
    where
      not_up_to : (a b : ℕ) → b < a → nat_le a b ≡ false
      not_up_to a b l = at (nat_le a b) refl
        where
          at : (t : Bool) → nat_le a b ≡ t → nat_le a b ≡ false
          at false e = e
          at true e = let m = leb-true a b e in absurd (omega arith)
  certain_of timed (violation.Visit t j) e h =
      let at_end : (named k t).horizon ≡ horizon d = eqb-true _ _ (and_left ((named k t).horizon == horizon d) _ h) in
      record {
        at = horizon d;
        by_horizon = omega arith;
        certain = and_both _ _ (eq-eqb (horizon d) (horizon d) refl) (ap not (visit_none (horizon d) t j (omega arith) (and_right ((named k t).horizon == horizon d) _ h)));
      }
