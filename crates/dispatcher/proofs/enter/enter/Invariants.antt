use Rattle.std.proofs.Common.{◌≡◌, ◌++◌, ◌==◌, filter, map, take, length}
use Rattle.rail_base.specs.declared.station.SectionNo.{SectionNo}
use Rattle.rail_course.specs.declared.waits.Wait.{Wait}
use Rattle.dispatcher.specs.Queues.{queue_at}
use Rattle.dispatcher.proofs.enter.enter.Given as goal

abbrev pub invariant-loop-section : goal.invariant-loop-section
invariant-loop-section l = record {
  many : length l.queues.items ≡ length l.fn.queues.items;
  entered : (z : SectionNo) → queue_at l.queues.items z ≡ queue_at l.fn.queues.items z ++ map (λ (w : SectionNo × Wait). w.1) (filter (λ (w : SectionNo × Wait). w.0.0 == z.0) (take l.section-index l.waits));
}
