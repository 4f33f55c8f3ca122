-- Runs that end before anything is printed.
use Rattle.std.proofs.Common.{ℕ, List, [], Option, refl}
use Rattle.cli_shell.specs.declared.status.Status.TheVariants.{Memory, ShelfFault}
use Rattle.cli_shell.specs.Answers.{ReplySeen}
use Rattle.cli_shell.specs.Prints.{Prints}
use Rattle.cli_shell.proofs.Asking.{grown-nothing, none_of}

pub silent_for_memory : (answer : ReplySeen) (text : Option (List ℕ)) (pieces : Option (List (List ℕ))) → Prints answer Memory text text pieces pieces
silent_for_memory answer text pieces = record {
  status = λ e. absurd (cc);
  written = λ e. absurd (cc);
  put = λ e. absurd (cc);
  put_prefix = none_of pieces answer.lines;
  memory = λ e. ([], (answer.lines, refl), grown-nothing text);
  sink_fault = λ e. absurd (cc);
  shelf_fault = λ e. absurd (cc);
}

pub silent_at_shelf : (answer : ReplySeen) (text : Option (List ℕ)) (pieces : Option (List (List ℕ))) → Prints answer ShelfFault text text pieces pieces
silent_at_shelf answer text pieces = record {
  status = λ e. absurd (cc);
  written = λ e. absurd (cc);
  put = λ e. absurd (cc);
  put_prefix = none_of pieces answer.lines;
  memory = λ e. absurd (cc);
  sink_fault = λ e. absurd (cc);
  shelf_fault = λ e. (refl, refl);
}
