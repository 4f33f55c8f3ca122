use Rattle.std.proofs.Common.{List, map, sym, ◌∙◌}
use Rattle.rail_base.specs.declared.station.SectionNo.{SectionNo}
use Rattle.rail_base.specs.declared.route.OverlapSection.{OverlapSection}
use Rattle.rail_base.specs.declared.route.Route.{Route}
use Rattle.rail_base.specs.Routes.{own_sections, route_at}
use Rattle.rail_plan.specs.Holds.{is_kept_from}
use Rattle.rail_plan.proofs.Firsts.{kept_behind, kept_in_front}
use Rattle.rail_plan.proofs.clearance.kept_section.Goals as goal

abbrev beside : Route → List SectionNo
beside r = map (λ (p : OverlapSection). p.section) r.overlaps

pub returns-then-is_some : goal.returns-then-is_some
returns-then-is_some c =
    let route = route_at c.args.interlocking.now.routes c.args.command.route in
    kept_in_front (is_kept_from c.args.interlocking.now.routes c.args.holds.now c.args.step.now c.args.command.train) (own_sections route) (beside route)
    c.kept_own_section-own.result c.kept_own_section-own.ensures (sym c.is_some.ensures ∙ c.if-is_some.true)

pub returns : goal.returns
returns c =
    let route = route_at c.args.interlocking.now.routes c.args.command.route in
    kept_behind (is_kept_from c.args.interlocking.now.routes c.args.holds.now c.args.step.now c.args.command.train) (own_sections route) (beside route)
    c.kept_own_section-own.result c.kept_overlap_section.result c.kept_own_section-own.ensures (sym c.is_some.ensures ∙ c.if-is_some.false) c.kept_overlap_section.ensures
