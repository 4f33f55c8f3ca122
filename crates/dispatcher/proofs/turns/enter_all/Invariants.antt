use Rattle.std.proofs.Common.{◌≡◌, ◌++◌, flat_map, take, length}
use Rattle.rail_base.specs.declared.station.SectionNo.{SectionNo}
use Rattle.dispatcher.specs.Queues.{on_section, queue_at}
use Rattle.dispatcher.specs.Waits.{waits_at}
use Rattle.dispatcher.proofs.turns.enter_all.Given as goal

abbrev pub invariant-loop-command : goal.invariant-loop-command
invariant-loop-command l = record {
  many : length l.queues.items ≡ length l.fn.queues.items;
  entered : (z : SectionNo) → queue_at l.queues.items z ≡ queue_at l.fn.queues.items z ++ flat_map (waits_at l.train_paths.given z) (on_section l.train_paths.given.interlocking.now.routes z (take l.command-index l.step));
}
