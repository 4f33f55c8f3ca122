-- What the laws say of all plans.
use Rattle.std.specs.Prelude.{◌≡◌, ◌↔◌, ℕ, ◌*◌, ◌≤◌, ◌<◌, true, false, List, length, None, Some, sum_by}
use Rattle.rail_base.specs.declared.station.Station.{Station}
use Rattle.rail_base.specs.declared.station.TrainNo.{TrainNo}
use Rattle.rail_base.specs.declared.station.SectionNo.{SectionNo}
use Rattle.rail_base.specs.declared.route.Route.{Route}
use Rattle.rail_base.specs.declared.plan.Command.{Command}
use Rattle.rail_base.specs.declared.plan.Violation.{Violation}
use Rattle.rail_base.specs.declared.plan.Violation.TheVariants as violation
use Rattle.rail_base.specs.Admitted.{IsAdmitted}
use Rattle.rail_base.specs.Stations.{IsTrain, horizon}
use Rattle.rail_spec.specs.Track.{routes_of}
use Rattle.rail_spec.specs.Plans.{is_executable, is_train, is_well_formed, length_mm, path, path_routes}
use Rattle.rail_spec.specs.Dispatches.{state_of, of_plan, state_at}
use Rattle.rail_spec.specs.Feasible.{IsFeasible, IsRunnable, IsWellFormed}
use Rattle.rail_spec.specs.Requirements.{is_certain, is_done, meets, path_violation}
use Rattle.rail_spec.specs.Verdict.{failure, IsForTime}
use Rattle.rail_spec.specs.Safety.{holds, Clash}
use Rattle.rail_laws.specs.Progress.{HasComeThrough, IsGrantedInTime, last_grant}

-- it is so of every admitted design
abbrev pub EachDesign : (Station → Type 0) → Type 0
EachDesign Is = (d : Station) → IsAdmitted d → Is d

-- of every plan over the routes of a station
abbrev pub EachPlan : (Station → List Route → List (List Command) → Type 0) → Type 0
EachPlan Is = (d : Station) (routes : List Route) (plan : List (List Command)) → Is d routes plan

-- of every plan that is well formed for so many steps, names and all
abbrev pub EachWellFormed : (Station → List Route → ℕ → List (List Command) → Type 0) → Type 0
EachWellFormed Is = (d : Station) (routes : List Route) (n : ℕ) (plan : List (List Command))
    → IsWellFormed d routes n plan → Is d routes n plan

-- of every plan of an admitted design that passes the test for well-formed plans
abbrev pub EachFormed : (Station → List Route → List (List Command) → Type 0) → Type 0
EachFormed Is = (d : Station) → IsAdmitted d → (n : ℕ) (plan : List (List Command))
    → is_well_formed d (routes_of d) n plan ≡ true → Is d (routes_of d) plan

-- of every plan of an admitted design that can be carried out
abbrev pub EachRunnable : (Station → List Route → List (List Command) → Type 0) → Type 0
EachRunnable Is = (d : Station) → IsAdmitted d → (n : ℕ) (plan : List (List Command))
    → IsRunnable d (routes_of d) n plan → Is d (routes_of d) plan

-- of every plan that is feasible for so many steps, of an admitted design
abbrev pub EachFeasible : (Station → ℕ → List (List Command) → Type 0) → Type 0
EachFeasible Is = (d : Station) → IsAdmitted d → (n : ℕ) (plan : List (List Command))
    → IsFeasible d n plan → Is d n plan

-- of every number of steps k from 1 to n
abbrev pub EachStep : (Station → ℕ → ℕ → Type 0) → Type 0
EachStep Is = (d : Station) (n k : ℕ) → 1 ≤ k → k ≤ n → Is d n k

-- it is so in the run of every well-formed plan of an admitted design
abbrev pub InEveryRun : (Station → List (List Command) → Type 0) → Type 0
InEveryRun Is = (d : Station) → IsAdmitted d
    → (n : ℕ) (plan : List (List Command)) → IsWellFormed d (routes_of d) n plan → Is d plan

-- no two trains hold one section
abbrev pub HoldersAreApart : Station → List Route → List (List Command) → Type 0
HoldersAreApart d routes plan = (k : ℕ) (t u : TrainNo) (z : SectionNo) → is_train t u ≡ false
    → holds d routes plan k t z ≡ true → holds d routes plan k u z ≡ true → ⊥

-- at no tick does a train hold or stand on a section that another holds or stands on
abbrev pub NeverClash : Station → List Route → List (List Command) → Type 0
NeverClash d routes plan = (k : ℕ) → Clash d routes plan k → ⊥

-- so it is where the plan can be carried out
abbrev pub StaysApart : Station → List Route → List (List Command) → Type 0
StaysApart d routes plan = is_executable d routes plan ≡ true → NeverClash d routes plan

-- so it is where the plan can be carried out
abbrev pub GrantsInTime : Station → List Route → List (List Command) → Type 0
GrantsInTime d routes plan = is_executable d routes plan ≡ true → IsGrantedInTime d routes plan

-- each train has come through once the last command is granted
abbrev pub AllComeThrough : Station → List Route → List (List Command) → Type 0
AllComeThrough d routes plan = (t : TrainNo) (k : ℕ) → IsTrain d t → last_grant d routes plan ≤ k
    → HasComeThrough d routes plan t k

-- a command is not granted only where the horizon comes before the last grant
abbrev pub GrantsFailByHorizon : Station → List Route → List (List Command) → Type 0
GrantsFailByHorizon d routes plan = (t : TrainNo) (j k : ℕ) → 1 ≤ j → j ≤ length (path plan t)
    → is_certain d routes plan k (violation.Grant t j) ≡ true → horizon d < last_grant d routes plan

-- where the paths make all visits, all is done once the last command is granted
abbrev pub IsDoneInTime : Station → List Route → List (List Command) → Type 0
IsDoneInTime d routes plan = path_violation d routes plan ≡ None → (k : ℕ) → 1 ≤ k
    → last_grant d routes plan ≤ k → is_done d routes plan k ≡ true

-- a failure for want of time comes only where the horizon comes before the last grant
abbrev pub FailsForTimeByHorizon : Station → List Route → List (List Command) → Type 0
FailsForTimeByHorizon d routes plan = (v : Violation) → failure d routes plan ≡ Some v → IsForTime v
    → horizon d < last_grant d routes plan

-- it meets the design exactly where it does not fail at its deciding tick
abbrev pub MeetsOrFails : Station → List Route → List (List Command) → Type 0
MeetsOrFails d routes plan = (meets d routes plan ≡ true) ↔ (failure d routes plan ≡ None)

-- paths are of at most 80,000 km
abbrev pub PathsStaySmall : Station → List (List Command) → Type 0
PathsStaySmall d plan = (t : TrainNo) → sum_by length_mm (path_routes (routes_of d) plan t) ≤ 80000000000000

-- at each tick places are of at most 100 m a tick, and speeds of 100 m a tick
abbrev pub StatesStaySmall : Station → List Route → List (List Command) → Type 0
StatesStaySmall d routes plan = (k : ℕ) (t : TrainNo)
    → ((state_of (state_at d routes (of_plan routes plan) k) t).x ≤ k * 100000)
    × ((state_of (state_at d routes (of_plan routes plan) k) t).v ≤ 100000)
