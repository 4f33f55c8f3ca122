-- What a run prints, for some bytes of its files.
use Rattle.std.specs.Prelude.{ℕ, List, Option}
use Rattle.cli_shell.specs.declared.status.Status.{Status}
use Rattle.rail_words.specs.Requests.{RequestSeen}
use Rattle.rail_cli.specs.Ended.{Ended}
use Rattle.rail_cli.specs.Answers.{answer_given}
use Rattle.rail_cli.specs.Searches.{FindsGiven}
use Rattle.cli_shell.specs.Prints.{Prints}

-- there are bytes of the files that are asked for, and an end that a search may have, whose answer the run prints
pub record PrintsSome (asked : Option RequestSeen) (s : Status) (text new_text : Option (List ℕ))
    (pieces new_pieces : Option (List (List ℕ))) : Type 0 where
  pub design_bytes : List ℕ
  pub other_bytes : List ℕ
  pub found : Ended
  pub finds : FindsGiven design_bytes asked found
  pub prints : Prints (answer_given design_bytes other_bytes found asked) s text new_text pieces new_pieces
