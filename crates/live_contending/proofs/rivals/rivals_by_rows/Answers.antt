use Rattle.std.proofs.Common.{◌==◌, ◌++◌, [], if◌then◌else◌, flat_map, sym, ap, ap₂, ◌∙◌, arith}
use Rattle.rail_base.specs.Numbering.{one_to}
use Rattle.command_set.specs.Commands.{commands_in}
use Rattle.command_set.proofs.Lists.{next_part}
use Rattle.live_contending.specs.Pairs.{rivals_of_train}
use Rattle.live_contending.specs.Rows.{row_at}
use Rattle.live_contending.proofs.rivals.rivals_by_rows.Goals as goal

pub loop-number-preserved : goal.loop-number-preserved
loop-number-preserved c =
    let n = c.loop-number.number in
    c.in_ok-add_rivals.ensures
    ∙ (ap₂ (λ xs row. xs ++ (if c.args.command.train.0 == n then [] else commands_in n row)) c.loop-number.invariant c.row.ensures
    ∙ sym (next_part (rivals_of_train (row_at c.args.rows.now) c.args.command) n (let a = c.loop-number.auto.number in omega arith)))

pub returns : goal.returns
returns c =
    let low = c.loop-number.auto.number in
    let high = c.loop-number.auto.number-end in
    let done = c.loop-number-test.false in
    let many = c.trains.ensures in
    c.loop-number.invariant ∙ ap (λ k. flat_map (rivals_of_train (row_at c.args.rows.now) c.args.command) (one_to k)) (omega arith)
