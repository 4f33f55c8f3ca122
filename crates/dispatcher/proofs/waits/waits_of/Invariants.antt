use Rattle.std.proofs.Common.{[], take}
use Rattle.std.specs.List.{list_all}
use Rattle.rail_base.specs.declared.station.SectionNo.{SectionNo}
use Rattle.rail_base.specs.Members.{In}
use Rattle.rail_course.specs.Waits.{AddsWaits}
use Rattle.dispatcher.specs.Queues.{queue_at}
use Rattle.dispatcher.specs.Waits.{lets_pass}
use Rattle.dispatcher.proofs.waits.waits_of.Given as goal

abbrev pub invariant-loop-section : goal.invariant-loop-section
invariant-loop-section l = AddsWaits [] l.waits.items (λ ps. list_all (λ z. list_all (lets_pass ps l.command.train) (queue_at l.queues z)) (take l.section-index l.section-items)) (λ w. (z : SectionNo) × In z l.section-items × In w (queue_at l.queues z))
