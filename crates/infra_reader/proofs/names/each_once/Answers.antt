use Rattle.infra_reader.proofs.Repeats.{one_more_name}
use Rattle.infra_reader.proofs.names.each_once.Goals as goal

pub loop-name-preserved : goal.loop-name-preserved
loop-name-preserved c = one_more_name c.args.names.now c.loop-name.name-index _ c.loop-name.seen.keys _ _ c.loop-name-test.true c.loop-name.invariant c.in_ok-insert_full.ensures.keys
