use Rattle.std.proofs.Common.{nat_lt, le-leb}
use Rattle.rail_base.proofs.Members.{not_less}
use Rattle.cone_spec.specs.declared.ConeTrain.{ConeTrain}
use Rattle.cone_form.proofs.Walks.{neighbors_stop, neighbors_next, neighbors_end}
use Rattle.cone_form.proofs.order.trains_in_order.Goals as goal

pub returns-then-entries-index : goal.returns-then-entries-index
returns-then-entries-index c = neighbors_stop (λ (a b : ConeTrain). nat_lt a.train.0 b.train.0) c.args.entries.now c.loop-index.index c.index-entries-index.result c.index-entries-index-in-loop-index.result c.loop-index.auto.index c.loop-index-test.true
    (not_less _ _ c.if-entries-index.true) c.loop-index.invariant

pub loop-index-preserved : goal.loop-index-preserved
loop-index-preserved c = neighbors_next (λ (a b : ConeTrain). nat_lt a.train.0 b.train.0) c.args.entries.now c.loop-index.index c.index-entries-index.result c.index-entries-index-in-loop-index.result c.loop-index.auto.index c.loop-index-test.true
    (le-leb _ _ c.if-entries-index.false) c.loop-index.invariant

pub returns : goal.returns
returns c = neighbors_end (λ (a b : ConeTrain). nat_lt a.train.0 b.train.0) c.args.entries.now c.loop-index.index c.loop-index-test.false c.loop-index.invariant
