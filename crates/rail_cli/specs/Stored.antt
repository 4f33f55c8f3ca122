-- Logs that a search has stored, or was to store.
use Rattle.std.specs.Prelude.{◌≡◌, ◌≤◌, ℕ, List, length, Option, Some}
use Rattle.log_checker.specs.declared.check_result.CheckResult.TheVariants.{Yes}
use Rattle.proof_judge.specs.Judged.{judged}
use Rattle.rail_base.specs.declared.station.Station.{Station}
use Rattle.rail_outside.specs.Files.{Files, updated}
use Rattle.cli_shell.specs.declared.input.InputFile.TheVariants as file
use Rattle.cli_shell.specs.Texts.{limit_of}
use Rattle.proof_shell.specs.Verdicts.{HasFewFor}

-- the log is no longer than a proof may be, the clauses that are asked of before it is judged are few, and it shows
-- that the design has no plan of n steps
pub record ShowsNone (d : Station) (n : ℕ) (log : List ℕ) : Type 0 where
  pub within_limit : length log ≤ limit_of file.Proof
  pub few : HasFewFor d n log
  pub shows : judged d n log ≡ Yes n

-- the shelf holds these files with such a log under the proof's name
pub record HoldsLog (files : Files) (proof : List ℕ) (d : Station) (n : ℕ) (known_files : Option Files) : Type 0 where
  pub log : List ℕ
  pub proves : ShowsNone d n log
  pub holds : known_files ≡ Some (updated files proof log)

-- such a log was to be stored, and the shelf holds these files with some bytes under the proof's name
pub record SpoilsLog (files : Files) (proof : List ℕ) (d : Station) (n : ℕ) (known_files : Option Files) : Type 0 where
  pub log : List ℕ
  pub proves : ShowsNone d n log
  pub some : List ℕ
  pub holds : known_files ≡ Some (updated files proof some)
