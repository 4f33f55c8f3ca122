use Rattle.std.proofs.Common.{◌≡◌, drop, filter, find, map}
use Rattle.rail_base.specs.Routes.{has_section, held_sections, route_at}
use Rattle.rail_base.specs.declared.route.OverlapSection.{OverlapSection}
use Rattle.outcome_words.specs.Waits.{comes_late}
use Rattle.outcome_words.proofs.waits.late_hold_release.Given as goal

-- of those that are left
abbrev pub invariant-loop-held : goal.invariant-loop-held
invariant-loop-held l =
    let routes = l.run.interlocking.now.routes in
    find (comes_late l.run.history.now l.tick) (map (λ z. (l.first, z)) (filter (has_section (route_at routes l.second.route)) (map (λ (p : OverlapSection). p.section) (drop l.held-index l.held-items)))) ≡ find (comes_late l.run.history.now l.tick) (map (λ z. (l.first, z)) (filter (has_section (route_at routes l.second.route)) (held_sections (route_at routes l.first.route))))
