use Rattle.std.proofs.Common.{◌≡◌, take}
use Rattle.std.specs.List.{list_all}
use Rattle.rail_base.specs.Members.{In}
use Rattle.rail_course.specs.declared.waits.Wait.{Wait}
use Rattle.rail_course.specs.Waits.{AddsWaits}
use Rattle.dispatcher.specs.Waits.{lets_pass}
use Rattle.dispatcher.proofs.waits.push_queue.Given as goal

abbrev pub invariant-loop-wait : goal.invariant-loop-wait
invariant-loop-wait l = AddsWaits l.fn.waits.items l.waits.items (λ ps. list_all (lets_pass ps l.train) (take l.wait-index l.queue)) (λ w. (y : Wait) × In y l.queue × (w ≡ y))
