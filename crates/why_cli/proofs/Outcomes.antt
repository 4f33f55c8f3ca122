-- What is said of a plan's run.
use Rattle.std.proofs.Common.{◌≡◌, ℕ, List, [], ◌∷◌, ◌++◌, take, Vec, Global, refl, ap, ap₂, ◌∙◌}
use Rattle.outcome_words.specs.Outcome.{outcome_lines}
use Rattle.rail_base.specs.declared.history.Verdict.{Verdict}
use Rattle.rail_base.specs.declared.plan.Command.{Command}
use Rattle.rail_base.specs.declared.route.Route.{Route}
use Rattle.rail_base.specs.declared.station.Station.{Station}
use Rattle.cli_shell.specs.declared.status.Status.{Status}
use Rattle.cli_shell.specs.Answers.{ReplySeen, verdict_status}
use Rattle.cli_shell.specs.Shows.{verdict_at_horizon}
use Rattle.rail_outside.specs.Lines.{lines_of}
use Rattle.rail_spec.specs.Track.{routes_of}
use Rattle.timetable.specs.Timetable.{timetable_of}
use Rattle.why_cli.specs.Plans.{outcome_said}

-- the first line of some
pub first_line : (items : List (Vec ℕ Global)) → lines_of (take 1 items) ≡ take 1 (lines_of items)
first_line [] = refl
first_line (x ∷ xs) = refl

abbrev seen : Status → List (List ℕ) → ReplySeen
seen s lines = record { status = s; lines = lines }

pub outcome_so : (d : Station) (routes : List Route) (plan : List (List Command)) (v : Verdict) (s : Status) (first lines : List (List ℕ))
    → v ≡ verdict_at_horizon d plan → routes ≡ routes_of d → s ≡ verdict_status v → first ≡ take 1 (timetable_of d v) → lines ≡ first ++ outcome_lines d routes plan v
    → seen s lines ≡ outcome_said d plan
outcome_so d routes plan v s first lines same table status one more =
    ap₂ seen (status ∙ ap verdict_status same)
    (more ∙ ap₂ (λ (a b : List (List ℕ)). a ++ b) (one ∙ ap (λ (x : Verdict). take 1 (timetable_of d x)) same)
    (ap₂ (λ (r : List Route) (x : Verdict). outcome_lines d r plan x) table same))
