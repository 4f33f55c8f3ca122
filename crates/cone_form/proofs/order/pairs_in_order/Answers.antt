use Rattle.std.proofs.Common.{sym, ◌∙◌}
use Rattle.cone_spec.specs.Validity.{is_pair_before}
use Rattle.cone_form.proofs.Walks.{neighbors_next, neighbors_end}
use Rattle.cone_form.proofs.order.pairs_in_order.Goals as goal

pub loop-index-preserved : goal.loop-index-preserved
loop-index-preserved c = neighbors_next is_pair_before c.args.pairs.now c.loop-index.index _ _ c.loop-index.auto.index c.loop-index-test.true (sym c.is_pair_before.ensures ∙ c.if-not-is_pair_before.false) c.loop-index.invariant

pub returns : goal.returns
returns c = neighbors_end is_pair_before c.args.pairs.now c.loop-index.index c.loop-index-test.false c.loop-index.invariant
