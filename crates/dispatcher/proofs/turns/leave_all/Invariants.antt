use Rattle.std.proofs.Common.{◌≡◌, filter, take, length}
use Rattle.rail_base.specs.declared.station.SectionNo.{SectionNo}
use Rattle.rail_course.specs.declared.waits.Wait.{Wait}
use Rattle.dispatcher.specs.Queues.{are_of, on_section, queue_at}
use Rattle.dispatcher.proofs.turns.leave_all.Given as goal

abbrev pub invariant-loop-command : goal.invariant-loop-command
invariant-loop-command l = record {
  many : length l.queues.items ≡ length l.fn.queues.items;
  left : (z : SectionNo) → queue_at l.queues.items z ≡ filter (λ (w : Wait). are_of w.event.train (on_section l.train_paths.given.interlocking.now.routes z (take l.command-index l.step))) (queue_at l.fn.queues.items z);
}
