-- A history of the run shows whether all is done in the run.
use Rattle.std.proofs.Common.{◌≡◌, false, ap, sym, ◌∙◌}
use Rattle.rail_base.proofs.Members.{false_unless}
use Rattle.rail_require.specs.Violations.{is_done_in}
use Rattle.rail_require.proofs.Doing.{done_told}
use Rattle.rail_require.proofs.are_done.Goals as goal

pub returns-then-all_ended-clause-run : goal.returns-then-all_ended-clause-run
returns-then-all_ended-clause-run c = λ d routes plan k low told. c.all_done.ensures ∙ ap is_done_in told ∙ done_told d routes plan k low

pub returns-else-all_ended-clause-run : goal.returns-else-all_ended-clause-run
returns-else-all_ended-clause-run c = λ d routes plan k low told.
    let undone : is_done_in c.args.history.now ≡ false = false_unless (is_done_in c.args.history.now) (λ done. let ended = c.all_ended.ensures done in let none = c.if-all_ended.false in cc) in
    c.if-all_ended.false ∙ sym undone ∙ ap is_done_in told ∙ done_told d routes plan k low
