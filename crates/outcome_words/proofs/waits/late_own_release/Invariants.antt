use Rattle.std.proofs.Common.{◌≡◌, drop, filter, find, map, ℤ}
use Rattle.rail_base.specs.Routes.{has_section, own_shared, route_at}
use Rattle.rail_base.specs.declared.station.SectionNo.{SectionNo}
use Rattle.outcome_words.specs.Waits.{comes_late}
use Rattle.outcome_words.proofs.waits.late_own_release.Given as goal

-- of those that are left
abbrev pub invariant-loop-part : goal.invariant-loop-part
invariant-loop-part l =
    let routes = l.run.interlocking.now.routes in
    find (comes_late l.run.history.now l.tick) (map (λ z. (l.first, z)) (filter (has_section (route_at routes l.second.route)) (map (λ (p : SectionNo × ℤ). p.0) (drop l.part-index l.part-items)))) ≡ find (comes_late l.run.history.now l.tick) (map (λ z. (l.first, z)) (own_shared (route_at routes l.first.route) (route_at routes l.second.route)))
