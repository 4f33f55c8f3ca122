use Rattle.std.proofs.Common.{refl}
use Rattle.infra_reader.proofs.Repeats.{repeats_here, repeats_later, names_later}
use Rattle.infra_reader.proofs.names.distinct.Goals as goal

pub returns-then-not-is_new : goal.returns-then-not-is_new
returns-then-not-is_new c =
    (refl, repeats_here c.args.kind c.args.names.now c.loop-index.index _ c.loop-index.seen.keys c.loop-index-test.true c.loop-index.invariant.before _ c.loop-index.invariant.places c.in_ok-is_new.is_new c.in_ok-is_new.ensures.added c.if-not-is_new.true)

pub loop-index-preserved : goal.loop-index-preserved
loop-index-preserved c = record {
  before = names_later c.args.kind c.args.names.now c.loop-index.index _ c.loop-index.seen.keys c.loop-index-test.true c.loop-index.invariant.before _ c.loop-index.invariant.places c.in_ok-is_new.is_new _ c.in_ok-is_new.ensures.added c.if-not-is_new.false c.in_ok-is_new.ensures.keys;
  places = repeats_later c.args.kind c.args.names.now c.loop-index.index _ c.loop-index.seen.keys c.loop-index-test.true c.loop-index.invariant.before _ c.loop-index.invariant.places c.in_ok-is_new.is_new c.in_ok-is_new.ensures.added c.if-not-is_new.false;
}
