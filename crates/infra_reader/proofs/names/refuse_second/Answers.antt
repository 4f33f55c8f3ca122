use Rattle.std.proofs.Common.{refl}
use Rattle.design_table.specs.Texts.{texts}
use Rattle.infra_reader.proofs.Repeats.{second_here, second_later, among_later}
use Rattle.infra_reader.proofs.names.refuse_second.Goals as goal

pub returns-then-is_again : goal.returns-then-is_again
returns-then-is_again c =
    (refl, second_here (texts c.args.signals.now.keys) c.args.names.now c.loop-index.index _ c.loop-index.seen.keys c.loop-index-test.true c.loop-index.invariant.before _ c.loop-index.invariant.places c.in_ok-is_new.is_new c.is_again.result c.in_ok-is_new.ensures.added c.is_again.ensures c.if-is_again.true)

pub loop-index-preserved : goal.loop-index-preserved
loop-index-preserved c = record {
  before = among_later (texts c.args.signals.now.keys) c.args.names.now c.loop-index.index _ c.loop-index.seen.keys c.loop-index-test.true c.loop-index.invariant.before _ c.in_ok-is_new.ensures.keys;
  places = second_later (texts c.args.signals.now.keys) c.args.names.now c.loop-index.index _ c.loop-index.seen.keys c.loop-index-test.true c.loop-index.invariant.before _ c.loop-index.invariant.places c.in_ok-is_new.is_new c.is_again.result c.in_ok-is_new.ensures.added c.is_again.ensures c.if-is_again.false;
}
