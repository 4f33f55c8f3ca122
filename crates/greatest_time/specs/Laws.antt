-- What the laws say of designs that differ in one greatest time.
use Rattle.std.specs.Prelude.{◌≡◌, ◌↔◌, ℕ, ◌+◌, ◌*◌, ◌≤◌, true, List, length, Some}
use Rattle.rail_base.specs.declared.station.Station.{Station}
use Rattle.rail_base.specs.declared.station.TrainNo.{TrainNo}
use Rattle.rail_base.specs.declared.route.Route.{Route}
use Rattle.rail_base.specs.declared.plan.Command.{Command}
use Rattle.rail_base.specs.Admitted.{IsAdmitted}
use Rattle.rail_base.specs.Admission.{is_admitted}
use Rattle.rail_base.specs.Stations.{horizon, within_of}
use Rattle.rail_spec.specs.Dispatches.{Dispatch, pasts_at, state_at}
use Rattle.rail_spec.specs.Feasible.{IsFeasible, IsInfeasible, IsRunnable, IsWellFormed}
use Rattle.rail_spec.specs.Requirements.{is_done, visited_at}
use Rattle.rail_spec.specs.Plans.{is_executable, is_well_formed}
use Rattle.rail_spec.specs.Feasible.{names_only}
use Rattle.rail_spec.specs.Visits.{visit_tick}
use Rattle.rail_spec.specs.Track.{routes_of}
use Rattle.greatest_time.specs.Times.{with_max}

-- ---- what the laws go over

-- it is so of each design and the same with another greatest time
abbrev pub EachChange : (Station → Station → Type 0) → Type 0
EachChange Is = (d : Station) (w ms : ℕ) → Is d (with_max d w ms)

-- it is so of each within of each design
abbrev pub EachWithin : (Station → ℕ → Type 0) → Type 0
EachWithin Is = (d : Station) (w : ℕ) → 1 ≤ w → w ≤ length d.withins → Is d w

-- ---- designs

-- of two greatest times put in one after the other the later stands
abbrev pub LaterTimeStands : Station → ℕ → Type 0
LaterTimeStands d w = (ms later : ℕ) → with_max (with_max d w ms) w later ≡ with_max d w later

-- with the greatest time that it has a design is as it is
abbrev pub OwnTimeChangesNothing : Station → ℕ → Type 0
OwnTimeChangesNothing d w = with_max d w (within_of d w).max_ms ≡ d

-- the greatest time is the one put in
abbrev pub HasTime : Station → ℕ → Type 0
HasTime d w = (ms : ℕ) → (within_of (with_max d w ms) w).max_ms ≡ ms

-- with a greatest time of at most a day an admitted design is admitted
abbrev pub StaysAdmitted : Station → ℕ → Type 0
StaysAdmitted d w = (ms : ℕ) → ms ≤ 86400000 → IsAdmitted d → IsAdmitted (with_max d w ms)

-- and one that passes the test passes it
abbrev pub PassesAdmission : Station → ℕ → Type 0
PassesAdmission d w = (ms : ℕ) → ms ≤ 86400000 → is_admitted d ≡ true → is_admitted (with_max d w ms) ≡ true

-- the second has as many withins, and all else is as in the first
pub record SameButWithins (d e : Station) : Type 0 where
  pub withins : length e.withins ≡ length d.withins
  pub rest : record e { withins = d.withins } ≡ d

-- ---- runs and plans

-- in every run each train has been through the same
abbrev pub RunsAlike : Station → Station → Type 0
RunsAlike d e = (routes : List Route) (p : Dispatch) (k : ℕ) → pasts_at e routes p k ≡ pasts_at d routes p k

-- so its states are the same
abbrev pub StatesAlike : Station → Station → Type 0
StatesAlike d e = (routes : List Route) (p : Dispatch) (k : ℕ) → state_at e routes p k ≡ state_at d routes p k

-- and it makes its visits at the same ticks
abbrev pub VisitsAlike : Station → Station → Type 0
VisitsAlike d e = (routes : List Route) (p : Dispatch) (k : ℕ) (t : TrainNo) (j : ℕ)
    → visit_tick e routes p k t j ≡ visit_tick d routes p k t j

-- what plans are is the same
pub record PlansAlike (d e : Station) (routes : List Route) (n : ℕ) (plan : List (List Command)) : Type 0 where
  pub named : names_only e routes plan ≡ names_only d routes plan
  pub formed : is_well_formed e routes n plan ≡ is_well_formed d routes n plan
  pub executable : is_executable e routes plan ≡ is_executable d routes plan
  pub well_formed : IsWellFormed e routes n plan ↔ IsWellFormed d routes n plan
  pub runnable : IsRunnable e routes n plan ↔ IsRunnable d routes n plan
  pub done : (k : ℕ) → is_done e routes plan k ≡ is_done d routes plan k

-- so it is with every plan
abbrev pub SamePlans : Station → Station → Type 0
SamePlans d e = (routes : List Route) (n : ℕ) (plan : List (List Command)) → PlansAlike d e routes n plan

-- ---- what is feasible

-- what is feasible with a greatest time is so with a greater one
abbrev pub MoreTimeIsFeasible : Station → ℕ → Type 0
MoreTimeIsFeasible d w = (ms more n : ℕ) (plan : List (List Command)) → ms ≤ more
    → IsFeasible (with_max d w ms) n plan → IsFeasible (with_max d w more) n plan

-- so where nothing is feasible with a greatest time, nothing is with a smaller one
abbrev pub LessTimeIsInfeasible : Station → ℕ → Type 0
LessTimeIsInfeasible d w = (ms less n : ℕ) → less ≤ ms
    → IsInfeasible (with_max d w ms) n → IsInfeasible (with_max d w less) n

-- a plan makes the two visits of a within at these ticks
pub record TakesFromTo (d : Station) (w : ℕ) (plan : List (List Command)) (from to : ℕ) : Type 0 where
  pub from_at : let within = within_of d w in
      visited_at d (routes_of d) plan (horizon d) within.from_train within.from_visit ≡ Some from
  pub to_at : let within = within_of d w in
      visited_at d (routes_of d) plan (horizon d) within.to_train within.to_visit ≡ Some to

-- a feasible plan makes them, by the horizon
abbrev pub MakesBoth : Station → ℕ → Type 0
MakesBoth d w = (n : ℕ) (plan : List (List Command)) → IsFeasible d n plan
    → (from : ℕ) × (to : ℕ) × TakesFromTo d w plan from to × (from ≤ horizon d) × (to ≤ horizon d)

-- at the same ticks with another greatest time
abbrev pub TakesAlike : Station → ℕ → Type 0
TakesAlike d w = (ms : ℕ) (plan : List (List Command)) (from to : ℕ)
    → TakesFromTo (with_max d w ms) w plan from to ↔ TakesFromTo d w plan from to

-- a feasible plan is so exactly with the greatest times from the one on that it takes
abbrev pub IsFeasibleFrom : Station → ℕ → Type 0
IsFeasibleFrom d w = (ms n : ℕ) (plan : List (List Command)) (from to : ℕ) → IsFeasible (with_max d w ms) n plan
    → TakesFromTo d w plan from to → (other : ℕ)
    → IsFeasible (with_max d w other) n plan ↔ (to * d.tick_ms ≤ from * d.tick_ms + other)

-- where nothing is feasible with all the time up to the horizon, nothing is with any
abbrev pub HorizonDecides : Station → ℕ → Type 0
HorizonDecides d w = (n : ℕ) → IsInfeasible (with_max d w (horizon d * d.tick_ms)) n
    → (ms : ℕ) → IsInfeasible (with_max d w ms) n
