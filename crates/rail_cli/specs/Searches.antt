-- Searches for a plan: what they end with, what they leave on the shelf, and what their answers say of the design.
use Rattle.std.specs.Prelude.{◌≡◌, ◌≢◌, ◌<◌, ◌⊎◌, ℕ, ◌*◌, List, ◌∷◌, length, Option, None, Some, Ok}
use Rattle.std.specs.List.{concat}
use Rattle.infra_reader.specs.Design.{design_of}
use Rattle.verify_loop.specs.declared.outcome.Aim.{Aim}
use Rattle.rail_words.specs.declared.request.SearchMode.{SearchMode}
use Rattle.rail_words.specs.declared.request.SearchMode.TheVariants as by
use Rattle.rail_base.specs.declared.plan.Command.{Command}
use Rattle.rail_base.specs.declared.station.Station.{Station}
use Rattle.rail_outside.specs.Files.{Files}
use Rattle.rail_outside.specs.Growth.{grown}
use Rattle.rail_spec.specs.Feasible.{IsFeasible, IsInfeasible}
use Rattle.rail_spec.specs.Requirements.{cost}
use Rattle.rail_spec.specs.Track.{routes_of}
use Rattle.rail_words.specs.Requests.{RequestSeen, verify, tightest, trial, request_of}
use Rattle.timetable.specs.Lines.{met_line}
use Rattle.timetable.specs.Timetable.{timetable_of}
use Rattle.verify_loop.specs.declared.outcome.Outcome.{Outcome}
use Rattle.verify_loop.specs.Outcomes.{IsOutcome, Fits}
use Rattle.verify_loop.specs.Telling.{TellsHowFar}
use Rattle.workload.specs.Made.{made}
use Rattle.cli_shell.specs.declared.status.Status.{Status}
use Rattle.cli_shell.specs.declared.status.Status.TheVariants.{Done, No, Memory, ShelfFault, SinkFault}
use Rattle.proof_shell.specs.Texts.{yes_line}
use Rattle.rail_cli.specs.Texts.{infeasible_line}
use Rattle.cli_shell.specs.Answers.{one_line, design_in}
use Rattle.proof_shell.specs.Answers.{check_reply}
use Rattle.rail_cli.specs.Answers.{reply_for_plan, aim_of, budgets_of, trial_conflicts, trial_ticks}
use Rattle.rail_cli.specs.Ended.{Ended}
use Rattle.rail_cli.specs.Stored.{HoldsLog, SpoilsLog}
use Rattle.rail_cli.specs.Times.{EndsTime, TellsTime, TimeLeaves}
use Rattle.cli_shell.specs.Shows.{verdict_at_horizon}
use Rattle.cli_shell.specs.Simulations.{RunsSafely}

-- ---- what a search ends with

-- the outcome says what it is to say of the station that the seed and the size make, for twice as many steps as its size; want of memory says nothing
abbrev pub EndsTrial : ℕ → ℕ → Outcome → Type 0
EndsTrial seed size found =
    IsOutcome (aim_of by.Plain) (made seed size) (2 * size) (budgets_of trial_conflicts trial_ticks) found
    × Fits (aim_of by.Plain) (made seed size) (2 * size) found

-- where the bytes spell a design, the outcome says what it is to say of that design and n, within the budgets
abbrev pub EndsSearch : Aim → List ℕ → ℕ → ℕ → ℕ → Outcome → Type 0
EndsSearch m design_bytes n conflicts ticks found = (d : Station) → design_in design_bytes ≡ Ok d
    → IsOutcome m d n (budgets_of conflicts ticks) found × Fits m d n found

-- a search that is asked for ends so for the design's file, and a trial for the station that is made
abbrev pub Finds : Files → Option RequestSeen → Ended → Type 0
Finds files (Some (verify n conflicts ticks mode design proof)) found =
    EndsSearch (aim_of mode) (files design) n conflicts ticks found.plan
Finds files (Some (tightest n conflicts ticks w bounds design proof)) found =
    EndsTime bounds w (files design) n conflicts ticks found.time
Finds files (Some (trial seed size)) found = EndsTrial seed size found.plan
Finds files _ found = Unit {0}

-- the same for the bytes of the design's file
abbrev pub FindsGiven : List ℕ → Option RequestSeen → Ended → Type 0
FindsGiven design_bytes (Some (verify n conflicts ticks mode design proof)) found =
    EndsSearch (aim_of mode) design_bytes n conflicts ticks found.plan
FindsGiven design_bytes (Some (tightest n conflicts ticks w bounds design proof)) found =
    EndsTime bounds w design_bytes n conflicts ticks found.time
FindsGiven design_bytes (Some (trial seed size)) found = EndsTrial seed size found.plan
FindsGiven design_bytes _ found = Unit {0}

-- ---- what is told meanwhile

-- lines are put that tell how far the search is that is asked for, or that of a trial; else nothing is put
abbrev pub Tells : Files → Option RequestSeen → Option (List (List ℕ)) → Option (List (List ℕ)) → Type 0
Tells files (Some (verify n conflicts ticks mode design proof)) old new =
    (d : Station) → design_in (files design) ≡ Ok d → TellsHowFar (aim_of mode) d n old new
Tells files (Some (tightest n conflicts ticks w bounds design proof)) old new =
    TellsTime bounds w (files design) n old new
Tells files (Some (trial seed size)) old new = TellsHowFar (aim_of by.Plain) (made seed size) (2 * size) old new
Tells files _ old new = new ≡ old

-- ---- what a run leaves on the shelf

-- the design in the file has no plan of n steps, and the shelf holds a log that shows it
abbrev pub HoldsProof : Files → ℕ → List ℕ → List ℕ → Option Files → Type 0
HoldsProof files n design proof known_files = (d : Station) × (design_in (files design) ≡ Ok d) × HoldsLog files proof d n known_files

-- the design in the file has no plan of n steps, and the store of a log that shows it has failed
abbrev pub SpoilsProof : Files → ℕ → List ℕ → List ℕ → Option Files → Type 0
SpoilsProof files n design proof known_files =
    (d : Station) × (design_in (files design) ≡ Ok d) × SpoilsLog files proof d n known_files

-- what the shelf holds after a search, by its status: after 1 such a log; for want of memory or after a fault of the sink
-- that, or the files as they were; after a fault of the shelf the files as they were, or where the store of such a log has
-- failed some bytes in its place; else all as they were
abbrev pub SearchLeaves : Files → ℕ → List ℕ → List ℕ → Status → Option Files → Type 0
SearchLeaves files n design proof No known_files = HoldsProof files n design proof known_files
SearchLeaves files n design proof Memory known_files = HoldsProof files n design proof known_files ⊎ (known_files ≡ Some files)
SearchLeaves files n design proof SinkFault known_files = HoldsProof files n design proof known_files ⊎ (known_files ≡ Some files)
SearchLeaves files n design proof ShelfFault known_files = SpoilsProof files n design proof known_files ⊎ (known_files ≡ Some files)
SearchLeaves files n design proof _ known_files = known_files ≡ Some files

-- what the shelf holds after a request with this status: only a search changes it
abbrev pub Leaves : Option RequestSeen → Status → Option Files → Option Files → Type 0
Leaves (Some (verify n conflicts ticks mode design proof)) s old new =
    (files : Files) → old ≡ Some files → SearchLeaves files n design proof s new
Leaves (Some (tightest n conflicts ticks w bounds design proof)) s old new =
    (files : Files) → old ≡ Some files → TimeLeaves files n w design proof s new
Leaves _ s old new = new ≡ old

-- ---- what the answers say

-- the words ask for a search for a plan of n steps, and the design's file spells this design
pub record Searches (files : Files) (words : List (List ℕ)) (n : ℕ) (d : Station) : Type 0 where
  pub conflicts : ℕ
  pub ticks : ℕ
  pub mode : SearchMode
  pub design_name : List ℕ
  pub proof_name : List ℕ
  pub asked : request_of words ≡ Some (verify n conflicts ticks mode design_name proof_name)
  pub parses_design : design_of (files design_name) ≡ Ok d

-- the lines printed are `plan steps <number of steps>`, the plan and its timetable; the plan is feasible for n steps, and none of fewer steps is, unless any number of them was to do; and its run is safe
pub record ReportsPlan (mode : SearchMode) (n : ℕ) (d : Station) (old new : Option (List ℕ)) : Type 0 where
  pub plan : List (List Command)
  pub text : new ≡ grown old (concat (reply_for_plan d plan).lines)
  pub feasible : IsFeasible d n plan
  pub fewest : mode ≢ by.Any → (s : ℕ) → s < length plan → IsInfeasible d s
  pub met : (more : List (List ℕ)) × (timetable_of d (verdict_at_horizon d plan) ≡ met_line (cost d (routes_of d) plan) ∷ more)
  pub safe : RunsSafely d plan

-- what is printed is `infeasible steps <n>`; no plan of n steps is feasible; and the shelf holds a log under the proof's name, every other name as before, to which with the design's bytes a check answers `yes steps <n>`
pub record ReportsNone (files : Files) (design proof : List ℕ) (n : ℕ) (d : Station) (old new : Option (List ℕ))
    (known_files : Option Files) : Type 0 where
  pub text : new ≡ grown old (infeasible_line n)
  pub none : IsInfeasible d n
  pub stored : HoldsLog files proof d n known_files
  pub passes : check_reply n None (files design) stored.log ≡ one_line Done (yes_line n)
