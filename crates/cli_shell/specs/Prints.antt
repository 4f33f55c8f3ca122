-- What a run prints of its answer.
use Rattle.std.specs.Prelude.{◌≡◌, ℕ, true, List, Option}
use Rattle.std.specs.List.{concat}
use Rattle.rail_outside.specs.Growth.{grown, GrowsByPrefix, GrowsByLines}
use Rattle.cli_shell.specs.declared.status.Status.{Status}
use Rattle.cli_shell.specs.declared.status.Status.TheVariants.{Memory, ShelfFault, SinkFault}
use Rattle.cli_shell.specs.Statuses.{is_answered}
use Rattle.cli_shell.specs.Answers.{ReplySeen}

-- the run ends with the answer's status and has printed its lines, one piece each; for want of memory it may end after some of the lines, and by a fault of the sink after a prefix of the text
pub record Prints (answer : ReplySeen) (s : Status) (text new_text : Option (List ℕ))
    (pieces new_pieces : Option (List (List ℕ))) : Type 0 where
  pub status : is_answered s ≡ true → s ≡ answer.status
  pub written : is_answered s ≡ true → new_text ≡ grown text (concat answer.lines)
  pub put : is_answered s ≡ true → new_pieces ≡ grown pieces answer.lines
  pub put_prefix : GrowsByPrefix pieces new_pieces answer.lines
  pub memory : s ≡ Memory → GrowsByLines text new_text answer.lines
  pub sink_fault : s ≡ SinkFault → GrowsByPrefix text new_text (concat answer.lines)
  pub shelf_fault : s ≡ ShelfFault → (new_text ≡ text) × (new_pieces ≡ pieces)
