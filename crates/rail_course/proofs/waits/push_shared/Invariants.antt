use Rattle.std.proofs.Common.{◌≡◌, ◌||◌, not, take}
use Rattle.std.specs.List.{list_all}
use Rattle.rail_base.specs.declared.station.SectionNo.{SectionNo}
use Rattle.rail_base.specs.Members.{In}
use Rattle.rail_base.specs.Routes.{has_section, route_at}
use Rattle.rail_course.specs.declared.waits.Wait.{Wait}
use Rattle.rail_course.specs.Waits.{AddsWaits, is_over}
use Rattle.rail_course.proofs.waits.push_shared.Given as goal

abbrev pub invariant-loop-section : goal.invariant-loop-section
invariant-loop-section l = AddsWaits l.fn.waits.items l.waits.items
    (λ ps. list_all (λ (w : SectionNo × Wait). not (has_section (route_at l.interlocking.routes l.route) w.0) || is_over ps w.1) (take l.section-index l.more))
    (λ w. (y : SectionNo × Wait) × In y l.more × (w ≡ y.1))
