-- Searches for the least time of a within: what they end with, what they leave on the shelf, and what their answers say of
-- the design.
use Rattle.std.specs.Prelude.{◌≡◌, ◌≤◌, ◌<◌, ◌⊎◌, ℕ, ◌*◌, ◌-◌, Bool, List, ◌∷◌, Option, Some, Ok}
use Rattle.std.specs.List.{concat}
use Rattle.greatest_time.specs.Times.{with_max}
use Rattle.infra_reader.specs.Design.{design_of}
use Rattle.rail_base.specs.declared.plan.Command.{Command}
use Rattle.rail_base.specs.declared.station.Station.{Station}
use Rattle.rail_base.specs.Stations.{horizon}
use Rattle.rail_outside.specs.Files.{Files}
use Rattle.rail_outside.specs.Growth.{grown}
use Rattle.rail_spec.specs.Feasible.{IsFeasible, IsInfeasible}
use Rattle.rail_spec.specs.Requirements.{cost}
use Rattle.rail_spec.specs.Track.{routes_of}
use Rattle.rail_words.specs.declared.request.InTime.{InTime}
use Rattle.rail_words.specs.Requests.{tightest, request_of}
use Rattle.timetable.specs.Lines.{met_line}
use Rattle.timetable.specs.Timetable.{timetable_of}
use Rattle.verify_loop.specs.declared.least_time.Tightest.{Tightest}
use Rattle.verify_loop.specs.Lessening.{in_ticks, untimed}
use Rattle.verify_loop.specs.Tightening.{FitsTightest, IsTightest, TellsTightest, base_for}
use Rattle.cli_shell.specs.declared.status.Status.{Status}
use Rattle.cli_shell.specs.declared.status.Status.TheVariants.{Done, No, Memory, ShelfFault, SinkFault}
use Rattle.cli_shell.specs.Answers.{one_line, design_in}
use Rattle.cli_shell.specs.Shows.{verdict_at_horizon}
use Rattle.cli_shell.specs.Simulations.{RunsSafely}
use Rattle.proof_shell.specs.Answers.{check_reply}
use Rattle.proof_shell.specs.Texts.{yes_line}
use Rattle.rail_cli.specs.Answers.{reply_for_least, budgets_of}
use Rattle.rail_cli.specs.Stored.{HoldsLog, SpoilsLog}
use Rattle.rail_cli.specs.Texts.{infeasible_line}

-- ---- what such a search ends with

-- where the bytes spell a design, the end says what it is to say of that design, the within and n, within the budgets
abbrev pub EndsTime : Bool → ℕ → List ℕ → ℕ → ℕ → ℕ → Tightest → Type 0
EndsTime bounds w design_bytes n conflicts ticks found = (d : Station) → design_in design_bytes ≡ Ok d
    → IsTightest (base_for bounds w) (untimed d w) w n (budgets_of conflicts ticks) found
    × FitsTightest (base_for bounds w) (untimed d w) w n found

-- lines are put that tell how far it is
abbrev pub TellsTime : Bool → ℕ → List ℕ → ℕ → Option (List (List ℕ)) → Option (List (List ℕ)) → Type 0
TellsTime bounds w design_bytes n old new =
    (d : Station) → design_in design_bytes ≡ Ok d → TellsTightest (base_for bounds w) (untimed d w) w n old new

-- ---- least times

-- a plan of n steps is feasible where the within allows so many ticks, and none is where it allows less
pub record AreLeastTicks (d : Station) (w n ticks : ℕ) : Type 0 where
  pub enough : (plan : List (List Command)) × IsFeasible (in_ticks d w ticks) n plan
  pub none_less : (ms : ℕ) → ms < ticks * d.tick_ms → IsInfeasible (with_max d w ms) n

-- a log is to show that so many ticks are too few: one less than the least, or as many as are run
abbrev pub AreTooFew : Station → ℕ → ℕ → ℕ → Type 0
AreTooFew d w n ticks =
    ((least : ℕ) × AreLeastTicks d w n least × (1 ≤ least) × (ticks ≡ least - 1)) ⊎ (ticks ≡ horizon d)

-- ---- what a run leaves on the shelf

module _ (files : Files) (n w : ℕ) (design proof : List ℕ) (known_files : Option Files) where
  -- where the least time of the design in the file is no tick, the files are as they were, and else the shelf holds a log
  -- that shows that a tick less is too little
  abbrev pub HoldsLeast : Type 0
  HoldsLeast = (d : Station) × (design_in (files design) ≡ Ok d) × ((least : ℕ) × AreLeastTicks d w n least
      × (least ≡ 0 → known_files ≡ Some files)
      × (1 ≤ least → HoldsLog files proof (in_ticks d w (least - 1)) n known_files))

  -- the shelf holds a log that shows that as many ticks as are run are too few
  abbrev pub HoldsNoTime : Type 0
  HoldsNoTime = (d : Station) × (design_in (files design) ≡ Ok d) × HoldsLog files proof (in_ticks d w (horizon d)) n known_files

  -- a log was to be stored that shows that so many ticks are too few, and the store has failed
  abbrev pub SpoilsTime : Type 0
  SpoilsTime = (d : Station) × (design_in (files design) ≡ Ok d) × ((ticks : ℕ) × AreTooFew d w n ticks
      × SpoilsLog files proof (in_ticks d w ticks) n known_files)

-- what the shelf holds after such a search, by its status: after 0 and 1 as above; for want of memory or after a fault of
-- the sink as after one of these, or the files as they were; after a fault of the shelf the files as they were, or where the
-- store of such a log has failed some bytes in its place; else all as they were
abbrev pub TimeLeaves : Files → ℕ → ℕ → List ℕ → List ℕ → Status → Option Files → Type 0
TimeLeaves files n w design proof Done known_files = HoldsLeast files n w design proof known_files
TimeLeaves files n w design proof No known_files = HoldsNoTime files n w design proof known_files
TimeLeaves files n w design proof Memory known_files =
    HoldsLeast files n w design proof known_files ⊎ (HoldsNoTime files n w design proof known_files ⊎ (known_files ≡ Some files))
TimeLeaves files n w design proof SinkFault known_files =
    HoldsLeast files n w design proof known_files ⊎ (HoldsNoTime files n w design proof known_files ⊎ (known_files ≡ Some files))
TimeLeaves files n w design proof ShelfFault known_files =
    SpoilsTime files n w design proof known_files ⊎ (known_files ≡ Some files)
TimeLeaves files n w design proof _ known_files = known_files ≡ Some files

-- ---- what the answers say

-- the words ask for a search for the least time of a within for plans of n steps, and the design's file spells this design
pub record TimeSearches (files : Files) (words : List (List ℕ)) (n w : ℕ) (d : Station) : Type 0 where
  pub conflicts : ℕ
  pub ticks : ℕ
  pub bounds : Bool
  pub design_name : List ℕ
  pub proof_name : List ℕ
  pub asked : request_of words ≡ Some (tightest n conflicts ticks w bounds design_name proof_name)
  pub parses_design : design_of (files design_name) ≡ Ok d

-- a greatest time of so many ticks of the design, put into the within
abbrev pub ticks_put : Station → ℕ → ℕ → Option InTime
ticks_put d w ticks = Some (record { within = w; max_ms = ticks * d.tick_ms })

-- the shelf holds a log under the proof's name, every other name as before, to which with the design's bytes and so many ticks
-- put into the within a check answers `yes steps <n>`
pub record HoldsPassing (files : Files) (design proof : List ℕ) (n w : ℕ) (d : Station) (ticks : ℕ)
    (known_files : Option Files) : Type 0 where
  pub stored : HoldsLog files proof (in_ticks d w ticks) n known_files
  pub passes : check_reply n (ticks_put d w ticks) (files design) stored.log ≡ one_line Done (yes_line n)

-- the lines printed are `tightest within <w> ms <ms>`, `plan steps <number of steps>`, the plan and its timetable; the plan is
-- feasible for n steps where the within allows so much time, and no plan of n steps is where it allows less; its run is safe;
-- and where that is any time, the shelf holds a log which shows that a tick less is too little, and else the files as they were
pub record ReportsLeast (files : Files) (design proof : List ℕ) (n w : ℕ) (d : Station) (old new : Option (List ℕ))
    (known_files : Option Files) : Type 0 where
  pub least : ℕ
  pub plan : List (List Command)
  pub text : new ≡ grown old (concat (reply_for_least (in_ticks d w least) w least plan).lines)
  pub feasible : IsFeasible (in_ticks d w least) n plan
  pub none_less : (ms : ℕ) → ms < least * d.tick_ms → IsInfeasible (with_max d w ms) n
  pub met : (more : List (List ℕ)) × (timetable_of (in_ticks d w least) (verdict_at_horizon (in_ticks d w least) plan)
      ≡ met_line (cost (in_ticks d w least) (routes_of (in_ticks d w least)) plan) ∷ more)
  pub safe : RunsSafely (in_ticks d w least) plan
  pub none_stored : least ≡ 0 → known_files ≡ Some files
  pub shown : 1 ≤ least → HoldsPassing files design proof n w d (least - 1) known_files

-- what is printed is `infeasible steps <n>`; no plan of n steps is feasible whatever time the within allows; and the shelf
-- holds a log which shows that as many ticks as are run are too few
pub record ReportsNoTime (files : Files) (design proof : List ℕ) (n w : ℕ) (d : Station) (old new : Option (List ℕ))
    (known_files : Option Files) : Type 0 where
  pub text : new ≡ grown old (infeasible_line n)
  pub none : (ms : ℕ) → IsInfeasible (with_max d w ms) n
  pub shown : HoldsPassing files design proof n w d (horizon d) known_files
