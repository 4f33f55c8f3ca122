use Rattle.std.proofs.Common.{◌≡◌, ◌-◌, drop, nat_lt}
use Rattle.rail_base.specs.Members.{all_neighbors}
use Rattle.sat_clause.specs.declared.lit.Lit.{Lit}
use Rattle.bound_clause.proofs.order.rises.Given as goal

-- those so far stand in order
abbrev pub invariant-loop-index : goal.invariant-loop-index
invariant-loop-index l = all_neighbors (λ (a b : Lit). nat_lt a.var b.var) (drop (l.index - 1) l.clause) ≡ all_neighbors (λ (a b : Lit). nat_lt a.var b.var) l.clause
