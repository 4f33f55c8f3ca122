use Rattle.std.proofs.Common.{arith, refl, true}
use Rattle.sat_trail.specs.Trails.{lits}
use Rattle.sat_trail.proofs.Table.{total-more}
use Rattle.sat_trail.proofs.assigned.Assigned.unassigned_literal.Goals as goal

pub loop-var-init : goal.loop-var-init
loop-var-init c = λ l a b. absurd (omega arith)

pub loop-var-preserved : goal.loop-var-preserved
loop-var-preserved c = total-more (lits c.args.self.now.steps) c.loop-var.var (record { var = c.loop-var.var; negated = true }) refl c.loop-var.invariant (c.lacks.ensures.no c.if-lacks.false)
