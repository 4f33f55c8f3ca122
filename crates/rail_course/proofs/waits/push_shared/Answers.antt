use Rattle.std.proofs.Common.{◌≡◌, ◌||◌, not, map, refl, sym, subst, ap, arith}
use Rattle.std.specs.List.{list_all}
use Rattle.std.proofs.lemmas.List.{take_all}
use Rattle.rail_base.specs.declared.station.SectionNo.{SectionNo}
use Rattle.rail_base.specs.Members.{In}
use Rattle.rail_base.specs.Routes.{has_section, route_at}
use Rattle.rail_base.proofs.Contained.{in_at}
use Rattle.rail_base.proofs.Lists.{in_map}
use Rattle.rail_course.specs.declared.waits.Wait.{Wait}
use Rattle.rail_course.specs.Waits.{is_over}
use Rattle.rail_course.proofs.Merging.{as_more, goes_on, none_more}
use Rattle.rail_course.proofs.waits.push_shared.Goals as goal

pub loop-section-init : goal.loop-section-init
loop-section-init c = none_more c.args.waits.now.items _ _ (λ ps. refl)

pub loop-section-preserved : goal.loop-section-preserved
loop-section-preserved c =
    goes_on (λ ps (w : SectionNo × Wait). not (has_section (route_at c.args.interlocking.now.routes c.args.route) w.0) || is_over ps w.1) (λ (y : SectionNo × Wait) (w : Wait). w ≡ y.1) c.args.more.now c.loop-section.section-index _ c.args.waits.now.items c.loop-section.waits.items c.push_if_shared.new.waits.items c.loop-section-test.true
    c.in_ok-push_if_shared.ensures c.loop-section.invariant (in_at c.args.more.now c.loop-section.section-index _ c.loop-section-test.true)

pub returns : goal.returns
returns c =
    let past = c.loop-section-test.false in
    as_more c.args.waits.now.items c.loop-section.waits.items _ _ _ _ (λ ps. ap (list_all (λ (w : SectionNo × Wait). not (has_section (route_at c.args.interlocking.now.routes c.args.route) w.0) || is_over ps w.1)) (take_all c.loop-section.section-index c.args.more.now (omega (arith, past))))
    (λ w h. subst (λ v. In v (map (λ (x : SectionNo × Wait). x.1) c.args.more.now)) (sym h.2) (in_map (λ (x : SectionNo × Wait). x.1) c.args.more.now h.0 h.1)) c.loop-section.invariant
