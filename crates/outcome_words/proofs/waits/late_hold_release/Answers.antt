use Rattle.std.proofs.Common.{◌≡◌, ◌⊎◌, inl, inr, ◌+◌, false, List, drop, get_or, sym, ap, ◌∙◌, filter, find, map}
use Rattle.std.proofs.lemmas.List.{drop_more}
use Rattle.rail_base.specs.Routes.{has_section, route_at}
use Rattle.rail_base.specs.declared.route.OverlapSection.{OverlapSection}
use Rattle.rail_base.specs.declared.plan.Command.{Command}
use Rattle.rail_base.specs.declared.station.SectionNo.{SectionNo}
use Rattle.outcome_words.proofs.Releases.{not_first}
use Rattle.outcome_words.proofs.waits.late_hold_release.Goals.{else-has_section-via-then-has_section+else-comes_late, else-has_section-via-else-has_section}
use Rattle.outcome_words.specs.Waits.{comes_late}
use Rattle.outcome_words.proofs.waits.late_hold_release.Goals as goal

pub loop-held-init : goal.loop-held-init
loop-held-init c =
    let run = c.args.run.now in
    let routes = run.interlocking.now.routes in
    ap (λ parts. find (comes_late run.history.now c.args.tick) (map (λ z. (c.args.first, z)) (filter (has_section (route_at routes c.args.second.route)) (map (λ (p : OverlapSection). p.section) parts)))) c.overlaps_of-held-items.ensures

pub loop-held-preserved : goal.loop-held-preserved
loop-held-preserved c =
    let run = c.args.run.now in
    let routes = run.interlocking.now.routes in
    let late = comes_late run.history.now c.args.tick in
    let has = has_section (route_at routes c.args.second.route) in
    let give : SectionNo → Command × SectionNo = λ z. (c.args.first, z) in
    let sections : List OverlapSection → List SectionNo = λ ps. map (λ (p : OverlapSection). p.section) ps in
    let items = c.overlaps_of-held-items.result.now in
    let other : OverlapSection = record { section = record { 0 = 0 }; hold_ms = 0 } in
    let z = (get_or items c.loop-held.held-index other).section in
    let either : (has z ≡ false) ⊎ (late (give z) ≡ false) = elim c.else-has_section.branch [
      | else-has_section-via-then-has_section+else-comes_late w ↦ inr (sym w.comes_late.ensures ∙ w.if-comes_late.false)
      | else-has_section-via-else-has_section w ↦ inl (sym c.has_section.ensures ∙ w.if-has_section.false)
    ] in
    not_first late give has z (sections (drop (c.loop-held.held-index + 1) items)) either
    ∙ ap (λ ps. find late (map give (filter has (sections ps)))) (sym (drop_more items c.loop-held.held-index other c.loop-held-test.true))
    ∙ c.loop-held.invariant
