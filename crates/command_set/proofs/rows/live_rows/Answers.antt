use Rattle.std.proofs.Common.{ℕ, List, ◌++◌, ◌∷◌, [], map, sym, ap, ap₂, ◌∙◌, arith}
use Rattle.rail_base.specs.declared.route.RouteNo.{RouteNo}
use Rattle.rail_base.specs.Numbering.{one_to}
use Rattle.interlocking.specs.Plans.{on}
use Rattle.command_set.specs.Rows.{live_row, train_no}
use Rattle.command_set.proofs.Lists.{next_cell}
use Rattle.command_set.proofs.rows.live_rows.Goals as goal

pub loop-number-preserved : goal.loop-number-preserved
loop-number-preserved c =
    let f : ℕ → List RouteNo = λ n. on c.args.onward.now.interlocking.now live_row (train_no n) in
    c.in_ok-push.ensures.items
    ∙ (ap₂ (λ xs x. xs ++ x ∷ []) c.loop-number.invariant c.in_ok-row.ensures
    ∙ sym (next_cell f c.loop-number.number (let a = c.loop-number.auto.number in omega arith)))

pub returns : goal.returns
returns c =
    let f : ℕ → List RouteNo = λ n. on c.args.onward.now.interlocking.now live_row (train_no n) in
    let low = c.loop-number.auto.number in
    let high = c.loop-number.auto.number-end in
    let done = c.loop-number-test.false in
    let many = c.len.ensures in
    c.loop-number.invariant ∙ ap (λ k. map f (one_to k)) (omega arith)
