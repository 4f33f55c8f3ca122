use Rattle.std.proofs.Common.{nat_lt, le-leb, false}
use Rattle.rail_base.proofs.Members.{not_less}
use Rattle.sat_clause.specs.declared.lit.Lit.{Lit}
use Rattle.cone_form.proofs.Walks.{neighbors_stop, neighbors_next, neighbors_end}
use Rattle.bound_clause.proofs.order.rises.Goals as goal

none : Lit
none = record { var = 0; negated = false }

pub returns-then-clause-index : goal.returns-then-clause-index
unfolding none
returns-then-clause-index c = neighbors_stop (λ (a b : Lit). nat_lt a.var b.var) c.args.clause.now c.loop-index.index none none c.loop-index.auto.index c.loop-index-test.true
    (not_less _ _ c.if-clause-index.true) c.loop-index.invariant

pub loop-index-preserved : goal.loop-index-preserved
unfolding none
loop-index-preserved c = neighbors_next (λ (a b : Lit). nat_lt a.var b.var) c.args.clause.now c.loop-index.index none none c.loop-index.auto.index c.loop-index-test.true
    (le-leb _ _ c.if-clause-index.false) c.loop-index.invariant

pub returns : goal.returns
returns c = neighbors_end (λ (a b : Lit). nat_lt a.var b.var) c.args.clause.now c.loop-index.index c.loop-index-test.false c.loop-index.invariant
