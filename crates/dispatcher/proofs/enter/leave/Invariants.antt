use Rattle.std.proofs.Common.{◌≡◌, ◌==◌, if◌then◌else◌, take, length}
use Rattle.std.specs.List.{list_any}
use Rattle.rail_base.specs.declared.station.SectionNo.{SectionNo}
use Rattle.dispatcher.specs.Queues.{queue_at}
use Rattle.dispatcher.specs.Turned.{of_train}
use Rattle.dispatcher.proofs.enter.leave.Given as goal

abbrev pub invariant-loop-section : goal.invariant-loop-section
invariant-loop-section l = record {
  many : length l.queues.items ≡ length l.fn.queues.items;
  left : (z : SectionNo) → queue_at l.queues.items z ≡ (if list_any (λ y. y.0 == z.0) (take l.section-index l.sections) then of_train l.train (queue_at l.fn.queues.items z) else queue_at l.fn.queues.items z);
}
