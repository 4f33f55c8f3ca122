-- What small designs ask for, and when it is decided.
use Rattle.std.specs.Prelude.{◌≡◌, ℕ, true, List, [], ◌∷◌, map, Option, Some, None, refl}
use Rattle.rail_base.specs.declared.station.Station.{Station}
use Rattle.rail_base.specs.declared.station.TrainNo.{TrainNo}
use Rattle.rail_base.specs.declared.plan.Command.{Command}
use Rattle.rail_base.specs.declared.plan.Violation.TheVariants as violation
use Rattle.rail_spec.specs.Track.{routes_of}
use Rattle.rail_spec.specs.Dispatches.{of_plan}
use Rattle.rail_spec.specs.Visits.{passed}
use Rattle.rail_spec.specs.Histories.{dwell_tick}
use Rattle.rail_spec.specs.Requirements.{meets, cost, violation_at, path_violation}
use Rattle.rail_laws.proofs.Stations.{halt, halt_for, follow, follow_short, parallel, plan_one, plan_two, plan_half, plan_together, halt_within, follow_within}

abbrev t : ℕ → TrainNo
t n = record { 0 = n }

abbrev passes : Station → List (List Command) → ℕ → TrainNo → List (ℕ × Option ℕ)
passes d plan k u = map (λ p. (p.0.0, p.1)) (passed d (routes_of d) (of_plan (routes_of d) plan) k u)

passes_of_one : passes halt plan_one 10 (t 1) ≡ (1, Some 1) ∷ (2, Some 7) ∷ (3, Some 10) ∷ []
passes_of_one = refl

cost_of_one : cost halt (routes_of halt) plan_one ≡ 10
cost_of_one = refl

meets_one : meets halt (routes_of halt) plan_one ≡ true
meets_one = refl

passes_of_stop : passes (halt_for 3000) plan_one 16 (t 1) ≡ (1, Some 1) ∷ (2, Some 8) ∷ (3, Some 16) ∷ []
passes_of_stop = refl

dwells_of_stop : map (dwell_tick (halt_for 3000) (routes_of (halt_for 3000)) plan_one 16 (t 1)) (1 ∷ 2 ∷ 3 ∷ []) ≡ None ∷ Some 11 ∷ None ∷ []
dwells_of_stop = refl

cost_of_stop : cost (halt_for 3000) (routes_of (halt_for 3000)) plan_one ≡ 16
cost_of_stop = refl

half : path_violation halt (routes_of halt) plan_half ≡ Some (violation.Path (t 1) 2)
half = refl

empty : path_violation halt (routes_of halt) [] ≡ Some (violation.Path (t 1) 1)
empty = refl

passes_of_two : passes follow plan_two 18 (t 2) ≡ (1, Some 9) ∷ (2, Some 15) ∷ (3, Some 18) ∷ []
passes_of_two = refl

cost_of_two : cost follow (routes_of follow) plan_two ≡ 18
cost_of_two = refl

meets_two : meets follow (routes_of follow) plan_two ≡ true
meets_two = refl

together_routes : violation_at parallel (routes_of parallel) plan_together 1 ≡ Some (violation.Order 1)
together_routes = refl

together_cost : cost parallel (routes_of parallel) plan_together ≡ 1
together_cost = refl

short_cost : cost follow_short (routes_of follow_short) plan_two ≡ 8
short_cost = refl

short_why : violation_at follow_short (routes_of follow_short) plan_two 8 ≡ Some (violation.Grant (t 2) 1)
short_why = refl

late_cost : cost (halt_within 8000) (routes_of (halt_within 8000)) plan_one ≡ 9
late_cost = refl

late_why : violation_at (halt_within 8000) (routes_of (halt_within 8000)) plan_one 9 ≡ Some (violation.Within 1)
late_why = refl

in_time : cost (halt_within 9000) (routes_of (halt_within 9000)) plan_one ≡ 10
in_time = refl

equality : cost (follow_within 8000) (routes_of (follow_within 8000)) plan_two ≡ 18
equality = refl

equality_meets : meets (follow_within 8000) (routes_of (follow_within 8000)) plan_two ≡ true
equality_meets = refl

too_late : cost (follow_within 7999) (routes_of (follow_within 7999)) plan_two ≡ 17
too_late = refl
