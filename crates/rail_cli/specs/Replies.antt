-- What the replies to requests say.
use Rattle.std.specs.Prelude.{◌≡◌, ◌⊎◌, ℕ, Bool, true, List, Option, Some, Result, Ok, Err, IfOk, is_ok}
use Rattle.rail_base.specs.declared.design.Design.{Design}
use Rattle.rail_base.specs.declared.history.Verdict.{Verdict}
use Rattle.rail_base.specs.declared.history.Verdict.TheVariants as verdict
use Rattle.rail_outside.specs.Files.{Files, updated}
use Rattle.rail_words.specs.Requests.{RequestSeen, simulate, routes, verify, tightest, check, trial}
use Rattle.verify_loop.specs.declared.outcome.Aim.{Aim}
use Rattle.verify_loop.specs.declared.outcome.Outcome.{Outcome}
use Rattle.verify_loop.specs.declared.outcome.Outcome.TheVariants as outcome
use Rattle.verify_loop.specs.Outcomes.{IsOutcome, Fits}
use Rattle.verify_loop.specs.declared.least_time.Tightest.{Tightest}
use Rattle.verify_loop.specs.declared.least_time.Tightest.TheVariants as least_time
use Rattle.verify_loop.specs.Lessening.{untimed}
use Rattle.verify_loop.specs.Tightening.{FitsTightest, IsTightest, base_for}
use Rattle.cli_shell.specs.declared.reply.Reply.{Reply}
use Rattle.cli_shell.specs.declared.ending.Ending.{Ending}
use Rattle.cli_shell.specs.declared.ending.Ending.TheVariants as ending
use Rattle.cli_shell.specs.Answers.{design_in}
use Rattle.rail_cli.specs.Answers.{aim_of, budgets_of, tried, answer_to, answer_given}
use Rattle.rail_cli.specs.Ended.{Ended}
use Rattle.rail_cli.specs.Searches.{EndsTrial, FindsGiven}
use Rattle.cli_shell.specs.Replies.{Replies, Decides}

-- the tick at which a verdict is decided; 0 where it is not
abbrev pub deciding_tick : Verdict → ℕ
deciding_tick (verdict.Met history tick) = tick
deciding_tick (verdict.Failed history tick violation) = tick
deciding_tick verdict.Undecided = 0

-- ---- simulations

-- the reply to a request for a simulation is so decided by the files that it names
abbrev pub DecidesRequest : Files → RequestSeen → Result Reply Ending → Type 0
DecidesRequest files (simulate design plan) result =
    IfOk result (λ reply. Decides (files design) (files plan) reply.status)
DecidesRequest files (routes design) result = Unit {0}
DecidesRequest files (verify n conflicts ticks mode design proof) result = Unit {0}
DecidesRequest files (tightest n conflicts ticks w bounds design proof) result = Unit {0}
DecidesRequest files (check n in_time design proof) result = Unit {0}
DecidesRequest files (trial seed size) result = Unit {0}

-- ---- searches

-- the file spells an admitted design, of which the outcome says what it is to say
pub record EndsIn (files : Files) (m : Aim) (n conflicts ticks : ℕ) (design_name : List ℕ) (found : Outcome)
    : Type 0 where
  pub design : Design
  pub parsed : design_in (files design_name) ≡ Ok design.station
  pub says : IsOutcome m design.station n (budgets_of conflicts ticks) found
  pub fits : Fits m design.station n found

-- the same of a search for the least time of a within
pub record EndsTimeIn (files : Files) (bounds : Bool) (w n conflicts ticks : ℕ) (design_name : List ℕ) (found : Tightest)
    : Type 0 where
  pub design : Design
  pub parsed : design_in (files design_name) ≡ Ok design.station
  pub says : IsTightest (base_for bounds w) (untimed design.station w) w n (budgets_of conflicts ticks) found
  pub fits : FitsTightest (base_for bounds w) (untimed design.station w) w n found

-- where a search is asked for, it ends so, or for want of memory; a trial too
abbrev pub EndsWith : Files → Option RequestSeen → Ended → Type 0
EndsWith files (Some (verify n conflicts ticks mode design proof)) found =
    (found.plan ≡ outcome.Memory) ⊎ EndsIn files (aim_of mode) n conflicts ticks design found.plan
EndsWith files (Some (tightest n conflicts ticks w bounds design proof)) found =
    (found.time ≡ least_time.Memory) ⊎ EndsTimeIn files bounds w n conflicts ticks design found.time
EndsWith files (Some (trial seed size)) found = EndsTrial seed size found.plan
EndsWith files _ found = Unit {0}

-- the reply is the answer to what is asked, for an end that a search may have
abbrev pub RepliesSo : Result Reply Ending → Files → Option RequestSeen → Type 0
RepliesSo result files asked =
    (found : Ended) × EndsWith files asked found × Replies result (answer_to files found asked)

-- the reply is the answer to what is asked for some bytes of its files, and for an end that a search may have
pub record RepliesSome (result : Result Reply Ending) (asked : Option RequestSeen) : Type 0 where
  pub design_bytes : List ℕ
  pub other_bytes : List ℕ
  pub found : Ended
  pub finds : FindsGiven design_bytes asked found
  pub replies : Replies result (answer_given design_bytes other_bytes found asked)

-- the reply is the answer to the trial, for an outcome with which its search may end
abbrev pub RepliesTrial : Result Reply Ending → ℕ → ℕ → Type 0
RepliesTrial result seed size = (found : Outcome) × EndsTrial seed size found × Replies result (tried seed size found)

-- where a trial is asked for, it has such a reply
abbrev pub Tries : Option RequestSeen → Result Reply Ending → Type 0
Tries (Some (trial seed size)) result = RepliesTrial result seed size
Tries _ result = Unit {0}

-- the bytes are stored under the name; for want of memory nothing is, and after a fault of the shelf it holds some bytes
abbrev pub StoresFile : {X : Type 0} → Result X Ending → Files → List ℕ → List ℕ → Option Files → Type 0
StoresFile (Ok x) files name bytes known_files = known_files ≡ Some (updated files name bytes)
StoresFile (Err ending.ShelfFault) files name bytes known_files = (some : List ℕ) × (known_files ≡ Some (updated files name some))
StoresFile (Err ending.Memory) files name bytes known_files = known_files ≡ Some files
StoresFile (Err (ending.RefusedWith reply)) files name bytes known_files = ⊥

-- a log that shows that there is no plan is so stored; where there is none, nothing is
abbrev pub KeepsLog : {X : Type 0} → Result X Ending → Files → List ℕ → Outcome → Option Files → Type 0
KeepsLog result files name (outcome.Infeasible log) known_files = StoresFile result files name log.items known_files
KeepsLog result files name _ known_files = (is_ok result ≡ true) × (known_files ≡ Some files)

-- a log that shows that some time is too little is so stored; where there is none, nothing is
abbrev pub KeepsTime : {X : Type 0} → Result X Ending → Files → List ℕ → Tightest → Option Files → Type 0
KeepsTime result files name (least_time.Least interlocking least plan verdict (Some log)) known_files =
    StoresFile result files name log.items known_files
KeepsTime result files name (least_time.Infeasible log) known_files = StoresFile result files name log.items known_files
KeepsTime result files name _ known_files = (is_ok result ≡ true) × (known_files ≡ Some files)
