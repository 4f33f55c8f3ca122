use Rattle.std.proofs.Common.{◌≡◌, map, drop, false}
use Rattle.rail_base.specs.declared.plan.Command.{Command}
use Rattle.cone_spec.specs.Clauses.{Before}
use Rattle.bound_clause.specs.Left.{gathered, together}
use Rattle.bound_clause.specs.Spoken.{left}
use Rattle.bound_clause.proofs.numbered.NumberedBound.push_before.Given as goal

-- what is put and what is left to put make all of it
abbrev pub invariant-loop-other : goal.invariant-loop-other
invariant-loop-other l = together (gathered l.clause) (left l.self (map (λ (e : Command). record { fact = Before e l.command; negated = false }) (drop l.other-index l.other-items))) ≡ together (gathered l.fn.clause) (left l.self (map (λ (e : Command). record { fact = Before e l.command; negated = false }) l.other-items))
