-- The number that the program ends with.
use Rattle.std.specs.Prelude.{◌≡◌, ◌↔◌, ℕ, true, List, None, Some}
use Rattle.rail_words.specs.Laws.{AsksForNothing}
use Rattle.rail_words.specs.Requests.{trial, request_of}
use Rattle.cli_shell.specs.declared.status.Status.{Status}
use Rattle.cli_shell.specs.declared.status.Status.TheVariants.{Usage}
use Rattle.cli_shell.specs.Statuses.{code_of, is_answered}
use Rattle.rail_cli.specs.Prints.{PrintsSome}
use Rattle.rail_cli.specs.Trials.{ReportsTrial}

-- the number is that of a status which says what it is to say over files and an output of which nothing is known: that the words ask for nothing exactly where it is `Usage`, it is that of the answer for some bytes of the files, and of a trial what it says of the station
pub record EndsWith (words : List (List ℕ)) (number : ℕ) : Type 0 where
  pub status : Status
  pub number_of : number ≡ code_of status
  pub usage : is_answered status ≡ true → (status ≡ Usage) ↔ AsksForNothing words
  pub prints : PrintsSome (request_of words) status None None None None
  pub tried : (seed size : ℕ) → request_of words ≡ Some (trial seed size) → ReportsTrial seed size status None None
