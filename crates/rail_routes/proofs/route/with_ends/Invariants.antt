use Rattle.std.proofs.Common.{◌≡◌, ◌++◌, map, drop, pos, get_or}
use Rattle.rail_base.specs.declared.station.SectionNo.{SectionNo}
use Rattle.rail_routes.proofs.route.with_ends.Given as goal

abbrev pub invariant-loop-section : goal.invariant-loop-section
invariant-loop-section l = l.released ++ map (λ (z : SectionNo). (z, pos (get_or l.ends z.0 0))) (drop l.section-index l.sections) ≡ map (λ (z : SectionNo). (z, pos (get_or l.ends z.0 0))) l.sections
