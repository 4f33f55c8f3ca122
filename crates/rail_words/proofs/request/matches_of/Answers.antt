use Rattle.std.proofs.Common.{◌≡◌, ◌∙◌}
use Rattle.clap.specs.Words.{app_of}
use Rattle.rail_words.specs.declared.request.WordsFault.TheVariants.{Usage}
use Rattle.rail_words.proofs.Refusals.{not_taken, rows_named, taken}
use Rattle.rail_words.proofs.request.matches_of.Goals as goal

pub returns-in-Err-clause-usage : goal.returns-in-Err-clause-usage
returns-in-Err-clause-usage c = λ e.
    let usage : c.fault_of_kind.result ≡ Usage = cc in
    not_taken (app_of c.in_ok-command.field-0) _ c.in-Err.error c.in_ok-command.ensures.shape c.in-Err.ensures.kinds (λ m. c.fault_of_kind.ensures usage (c.kind.ensures ∙ m))

pub returns-in-Ok-clause-taken : goal.returns-in-Ok-clause-taken
returns-in-Ok-clause-taken c = taken (app_of c.in_ok-command.field-0) _ c.in_ok-command.ensures.shape c.in-Ok.ensures.kinds

pub returns-in-Ok-clause-subcommand : goal.returns-in-Ok-clause-subcommand
returns-in-Ok-clause-subcommand c = rows_named (app_of c.in_ok-command.field-0) _ c.in-Ok.matches c.in_ok-command.ensures.shape c.in-Ok.ensures.matches
