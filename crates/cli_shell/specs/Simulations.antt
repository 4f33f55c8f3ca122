-- What the answers to simulations say of the plan.
use Rattle.std.specs.Prelude.{◌≡◌, ◌↔◌, ℕ, List, ◌∷◌, ◌++◌, codes, Option}
use Rattle.rail_base.specs.declared.station.Station.{Station}
use Rattle.rail_base.specs.declared.plan.Command.{Command}
use Rattle.rail_spec.specs.Track.{routes_of}
use Rattle.rail_spec.specs.Feasible.{IsFeasible}
use Rattle.rail_spec.specs.Requirements.{cost}
use Rattle.rail_laws.specs.Overlaps.{OverlapsStayFree}
use Rattle.rail_laws.specs.Progress.{IsGrantedInTime}
use Rattle.rail_spec.specs.Safety.{Clash, KeepsToTrack}
use Rattle.rail_outside.specs.Growth.{grown}
use Rattle.timetable.specs.Lines.{met_line}
use Rattle.timetable.specs.Timetable.{timetable_of, timetable_text}
use Rattle.cli_shell.specs.declared.status.Status.{Status}
use Rattle.cli_shell.specs.declared.status.Status.TheVariants as statuses
use Rattle.cli_shell.specs.Shows.{verdict_at_horizon}

-- in the run of the plan, past the horizon too, no section is ever held or stood on by two trains; overlaps are kept free;
-- each train keeps to its end of authority and its limits; and each command is granted in time
pub record RunsSafely (d : Station) (plan : List (List Command)) : Type 0 where
  pub apart : (k : ℕ) → Clash d (routes_of d) plan k → ⊥
  pub free : OverlapsStayFree d (routes_of d) plan
  pub keeps : KeepsToTrack d (routes_of d) plan
  pub granted : IsGrantedInTime d (routes_of d) plan

-- the text begins with this
abbrev pub BeginsWith : List ℕ → List ℕ → Type 0
BeginsWith prefix text = (rest : List ℕ) × (text ≡ prefix ++ rest)

-- the status is 0 exactly where the plan is feasible, and else 1; the text is the timetable, whose first line is `met tick <k>` at the deciding tick exactly in the first case, and which begins with `met tick` in no other; and the run is safe
pub record ReportsFeasible (d : Station) (plan : List (List Command)) (s : Status) (old new : Option (List ℕ))
    : Type 0 where
  pub done : (s ≡ statuses.Done) ↔ IsFeasible d 256 plan
  pub failed : (s ≡ statuses.No) ↔ (IsFeasible d 256 plan → ⊥)
  pub met : ((more : List (List ℕ)) × (timetable_of d (verdict_at_horizon d plan) ≡ met_line (cost d (routes_of d) plan) ∷ more))
      ↔ IsFeasible d 256 plan
  pub begins : BeginsWith (codes "met tick") (timetable_text d (verdict_at_horizon d plan)) ↔ IsFeasible d 256 plan
  pub text : new ≡ grown old (timetable_text d (verdict_at_horizon d plan))
  pub safe : RunsSafely d plan

-- the status is 0 exactly where the plan is feasible, and its run is safe
pub record Settles (d : Station) (plan : List (List Command)) (s : Status) : Type 0 where
  pub done : (s ≡ statuses.Done) ↔ IsFeasible d 256 plan
  pub safe : RunsSafely d plan
