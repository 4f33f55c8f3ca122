use Rattle.std.proofs.Common.{◌+◌, ◌++◌, [], sym, ap, ap₂, ◌∙◌, arith}
use Rattle.rail_base.specs.Numbering.{entry}
use Rattle.command_set.specs.Commands.{commands_in}
use Rattle.command_set.proofs.Lists.{entry_next, more_parts}
use Rattle.command_set.proofs.places.commands_of.Goals as goal

pub loop-row-preserved : goal.loop-row-preserved
loop-row-preserved c =
    let i = c.loop-row.row-index in
    let rows = c.args.rows.now in
    let before = c.loop-row.invariant in
    let own = entry_next [] rows i c.row-item.result c.row-item.is c.loop-row-test.true in
    record {
      train = omega arith;
      commands = c.in_ok-add_commands.ensures
          ∙ (ap₂ (λ xs ys. xs ++ ys) before.commands (ap₂ commands_in (ap (λ n. n + 1) before.train) (c.as_slice.ensures ∙ sym own)) ∙ sym (more_parts (λ t. commands_in t (entry [] rows t)) i));
    }
