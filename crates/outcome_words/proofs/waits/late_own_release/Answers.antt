use Rattle.std.proofs.Common.{ap, filter, find, map, ℤ}
use Rattle.rail_base.specs.Routes.{has_section, route_at}
use Rattle.rail_base.specs.declared.station.SectionNo.{SectionNo}
use Rattle.outcome_words.specs.Waits.{comes_late}
use Rattle.outcome_words.proofs.waits.late_own_release.Goals as goal

pub loop-part-init : goal.loop-part-init
loop-part-init c =
    let run = c.args.run.now in
    let routes = run.interlocking.now.routes in
    ap (λ parts. find (comes_late run.history.now c.args.tick) (map (λ z. (c.args.first, z)) (filter (has_section (route_at routes c.args.second.route)) (map (λ (p : SectionNo × ℤ). p.0) parts)))) c.sections_of-part-items.ensures
