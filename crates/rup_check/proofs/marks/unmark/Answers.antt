use Rattle.std.proofs.Common.{arith, false}
use Rattle.rup_check.proofs.Within.{assigned-within}
use Rattle.rup_check.proofs.marks.unmark.Goals as goal

pub bounds-table-literal : goal.bounds-table-literal
bounds-table-literal c =
    let within = assigned-within _ c.args.assigned.now c.loop-literal.literal-index (record { var = 0; negated = false }) c.requires.agrees c.loop-literal-test.true in
    omega arith
