-- A valid cone is so with less time.
use Rattle.std.proofs.Common.{◌≡◌, ℕ, ◌+◌, ◌-◌, ◌/◌, ◌≤◌, Bool, true, false, ◌&&◌, nat_le, nat_lt, List, Option, None, Some, is_none, option_and_then, refl, sym, ap, subst, ◌∙◌, arith, leb-true, le-leb, true≢false}
use Rattle.rail_base.specs.declared.station.Station.{Station}
use Rattle.rail_base.specs.declared.station.TrainNo.{TrainNo}
use Rattle.rail_base.specs.declared.station.Within.{Within}
use Rattle.rail_base.specs.declared.route.Route.{Route}
use Rattle.rail_base.specs.declared.plan.Violation.{Violation}
use Rattle.rail_base.specs.declared.plan.Violation.TheVariants as violation
use Rattle.rail_base.specs.declared.state.PathNode.{PathNode}
use Rattle.rail_base.specs.Admission.{is_from}
use Rattle.rail_base.specs.Numbering.{entry, least}
use Rattle.rail_base.specs.Stations.{no_within}
use Rattle.std.specs.List.{list_all}
use Rattle.rail_base.specs.Members.{all_neighbors}
use Rattle.rail_base.proofs.Members.{and_left, and_right, and_both}
use Rattle.rail_spec.specs.Dispatches.{Dispatch}
use Rattle.rail_spec.specs.Requirements.{most_ticks}
use Rattle.rail_spec.specs.Visits.{happened_by, pass_tick, visit_tick, visits_of_train}
use Rattle.rail_laws.proofs.Deciding.{least_stays}
use Rattle.cone_spec.specs.declared.Cone.{Cone}
use Rattle.cone_spec.specs.Cones.{named, of_cone}
use Rattle.cone_spec.specs.Validity.{train_in_design, holder_in_path, pair_in_design, is_pair_before, violation_in_design, in_design, free_granted, holder_fits, at_its_tick, cone_visit, shows_violation, first_fault, fault_of}
use Rattle.time_evidence.proofs.Tighter.{IsTighter, AreTighter, fewer_ticks}

-- ---- ticks

none_sooner : (test : ℕ → Bool) (k l : ℕ) → k ≤ l → is_none (least test l) ≡ true → is_none (least test k) ≡ true
none_sooner test k l h e = go (least test k) refl
  where
    go : (o : Option ℕ) → least test k ≡ o → is_none (least test k) ≡ true
    go None f = ap is_none f
    go (Some a) f =
        let s : k + (l - k) ≡ l = omega arith in
        let g : least test l ≡ Some a = subst (λ n. least test n ≡ Some a) s (least_stays test k (l - k) a f) in
        absurd (true≢false (sym e ∙ ap is_none g))

-- a visit that is not made by a tick is not made by an earlier one
visit_sooner : (d : Station) (routes : List Route) (p : Dispatch) (k l : ℕ) (t : TrainNo) (j : ℕ) → k ≤ l → is_none (visit_tick d routes p l t j) ≡ true → is_none (visit_tick d routes p k t j) ≡ true
visit_sooner d routes p k l t j h = go (entry None (visits_of_train d routes p t) j)
  where
    go : (o : Option PathNode) → is_none (option_and_then (pass_tick d routes p l t) o) ≡ true → is_none (option_and_then (pass_tick d routes p k t) o) ≡ true
    go None e = refl
    go (Some n) e = none_sooner (happened_by d routes p t n.event) k l h e

-- ---- reasons

-- a cone against which there is no reason passes all tests
pub record PassesAll (a b c d : Bool) : Type 0 where
  pub first : a ≡ true
  pub second : b ≡ true
  pub third : c ≡ true
  pub fourth : d ≡ true

passes_all : (a b c d : Bool) → first_fault a b c d ≡ None → PassesAll a b c d
passes_all false b c d h = cc
passes_all true false c d h = cc
passes_all true true false d h = cc
passes_all true true true false h = cc
passes_all true true true true h = record { first = refl; second = refl; third = refl; fourth = refl }

-- ---- two designs, of which the one has less time

module _ (d : Station) (vs ws : List Within) (tighter : AreTighter vs ws) (routes : List Route) (k : Cone) where
  abbrev more_time : Station
  more_time = record d { withins = ws }

  abbrev less_time : Station
  less_time = record d { withins = vs }

  violation_same : (v : Violation) → violation_in_design less_time routes k v ≡ violation_in_design more_time routes k v
  violation_same (violation.Path t j) = refl
  violation_same (violation.Within w) = ap (λ n. is_from 1 n w) tighter.many
  violation_same (violation.Order o) = refl
  violation_same (violation.Grant t j) = refl
  violation_same (violation.Visit t j) = refl

  pub in_design_same : in_design less_time routes k ≡ in_design more_time routes k
  in_design_same = ap (λ b. list_all (train_in_design d routes k) k.trains && all_neighbors (λ a b. nat_lt a.train.0 b.train.0) k.trains
      && list_all (λ c. holder_in_path d routes k c.holder) k.trains && list_all (pair_in_design d routes k) k.pairs && all_neighbors is_pair_before k.pairs && b) (violation_same k.violation)

  at_tick : (o : Option ℕ) (one two : ℕ → Bool) → ((a : ℕ) → one a ≡ true → two a ≡ true) → at_its_tick d routes k o one ≡ true → at_its_tick d routes k o two ≡ true
  at_tick None one two h e = e
  at_tick (Some a) one two h e = h a e

  -- the cone shows that the within is not kept
  abbrev shows_of : Within → Bool
  shows_of within = at_its_tick d routes k (cone_visit d routes k (named k within.from_train).horizon within.from_train within.from_visit) (λ a.
      nat_le (a + most_ticks d within) (named k within.to_train).horizon
      && is_none (cone_visit d routes k (a + most_ticks d within) within.to_train within.to_visit))

  shows_tighter : (v w : Within) → IsTighter v w → shows_of w ≡ true → shows_of v ≡ true
  shows_tighter v w t e = subst (λ x. shows_of x ≡ true) (sym t.is) (at_tick (cone_visit d routes k (named k w.from_train).horizon w.from_train w.from_visit) _ _ (λ a b.
      let fewer = fewer_ticks t.ms w.max_ms d.tick_ms t.less in
      let known = and_left (nat_le (a + most_ticks d w) (named k w.to_train).horizon) _ b in
      let missed = and_right (nat_le (a + most_ticks d w) (named k w.to_train).horizon) _ b in
      let near = leb-true (a + most_ticks d w) (named k w.to_train).horizon known in
      and_both (nat_le (a + t.ms / d.tick_ms) (named k w.to_train).horizon) (is_none (cone_visit d routes k (a + t.ms / d.tick_ms) w.to_train w.to_visit))
      (le-leb (a + t.ms / d.tick_ms) (named k w.to_train).horizon (omega arith))
      (visit_sooner d routes (of_cone k) (a + t.ms / d.tick_ms) (a + most_ticks d w) w.to_train w.to_visit (omega arith) missed)) e)

  shows_less : (v : Violation) → shows_violation more_time routes k v ≡ true → shows_violation less_time routes k v ≡ true
  shows_less (violation.Path t j) e = e
  shows_less (violation.Within w) e = shows_tighter (entry no_within vs w) (entry no_within ws w) (tighter.each w) e
  shows_less (violation.Order o) e = e
  shows_less (violation.Grant t j) e = e
  shows_less (violation.Visit t j) e = e

  pub cone_stays : fault_of more_time routes k ≡ None → fault_of less_time routes k ≡ None
  cone_stays h =
      let granted = list_all (free_granted d routes k) k.trains in
      let held_up = list_all (λ c. holder_fits d routes k c c.holder) k.trains in
      let p = passes_all (in_design more_time routes k) granted held_up (shows_violation more_time routes k k.violation) h in
      all_pass (in_design less_time routes k) granted held_up (shows_violation less_time routes k k.violation) (in_design_same ∙ p.first) p.second p.third (shows_less k.violation p.fourth)
    where
      all_pass : (a b c d : Bool) → a ≡ true → b ≡ true → c ≡ true → d ≡ true → first_fault a b c d ≡ None
      all_pass a b c d e f g h = ap (λ x. first_fault x b c d) e ∙ ap (λ x. first_fault true x c d) f ∙ ap (λ x. first_fault true true x d) g ∙ ap (first_fault true true true) h
