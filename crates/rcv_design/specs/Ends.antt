-- The number that the program ends with.
use Rattle.std.specs.Prelude.{◌≡◌, ℕ, List, None}
use Rattle.cli_shell.specs.declared.status.Status.{Status}
use Rattle.cli_shell.specs.Statuses.{code_of}
use Rattle.design_cli.specs.Wanted.{wanted_of}
use Rattle.design_cli.specs.Reports.{PrintsSome}

-- the number is that of a status which is that of an answer for some bytes of the files, or of none, over files and an
-- output that says nothing
pub record EndsWith (words : List (List ℕ)) (number : ℕ) : Type 0 where
  pub status : Status
  pub number_of : number ≡ code_of status
  pub prints : PrintsSome (wanted_of words) status None None None None
