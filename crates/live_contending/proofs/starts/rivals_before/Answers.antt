use Rattle.std.proofs.Common.{◌+◌, ◌-◌, sym, ap, ap₂, ◌∙◌, arith}
use Rattle.command_set.specs.Blocks.{member_count}
use Rattle.live_contending.specs.Pairs.{rivals_of_train}
use Rattle.live_contending.specs.Rows.{row_at}
use Rattle.live_contending.proofs.Sized.{few_rivals, next_count}
use Rattle.live_contending.proofs.starts.rivals_before.Goals as goal

pub overflow_add-count : goal.overflow_add-count
overflow_add-count c =
    let few = few_rivals (row_at c.args.rows.now) c.requires.short c.args.command (c.loop-number.number - 1) in
    let own = c.rivals_of-count.ensures.bound in
    let so = c.loop-number.invariant in
    let low = c.loop-number.auto.number in
    let high = c.loop-number-test.true in
    let all = c.requires.few in
    omega arith

pub loop-number-preserved : goal.loop-number-preserved
loop-number-preserved c =
    ap₂ (λ x y. x + y) c.loop-number.invariant c.rivals_of-count.ensures.value
    ∙ sym (next_count (rivals_of_train (row_at c.args.rows.now) c.args.command) c.loop-number.number c.loop-number.auto.number)

pub returns : goal.returns
returns c =
    let low = c.requires.known in
    let high = c.loop-number.auto.number-end low in
    let done = c.loop-number-test.false in
    c.loop-number.invariant ∙ ap (λ k. member_count (rivals_of_train (row_at c.args.rows.now) c.args.command) 1 (k - 1)) (omega arith)
