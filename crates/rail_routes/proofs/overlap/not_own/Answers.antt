use Rattle.std.proofs.Common.{◌≡◌, ◌<◌, ◌+◌, ◌++◌, [], List, drop, get_or, length, sym, ap, ◌∙◌, rules}
use Rattle.rail_base.specs.declared.station.SectionNo.{SectionNo}
use Rattle.rail_base.specs.declared.route.OverlapSection.{OverlapSection}
use Rattle.rail_spec.specs.Track.{overlap_sections}
use Rattle.rail_routes.specs.Walks.{is_new}
use Rattle.rail_routes.proofs.Held.{from_section, held_again, held_more, none_held, to_hold}
use Rattle.rail_routes.proofs.overlap.not_own.Goals as goal
use Rattle.rail_routes.proofs.overlap.not_own.Goals.{then-is_new+in_ok-push, else-is_new}

pub loop-section-init : goal.loop-section-init
loop-section-init c =
    let o = c.args.overlap.now in
    let own = c.args.own.now in
    ap (λ (xs : List OverlapSection). xs ++ to_hold o own xs c.as_slice-section-items.result.now) c.new-held.ensures
    ∙ ap (to_hold o own []) c.as_slice-section-items.ensures ∙ none_held o own

pub loop-section-preserved : goal.loop-section-preserved
loop-section-preserved c =
    let o = c.args.overlap.now in
    let own = c.args.own.now in
    let items = c.as_slice-section-items.result.now in
    let i = c.loop-section.section-index in
    let held = c.loop-section.held in
    let within : i < length items = c.loop-section-test.true in
    let z : SectionNo = get_or items i (record { 0 = 0 }) in
    let tested : is_new own held z ≡ c.is_new.result = ap (λ (ps : List OverlapSection). is_new own ps z) (sym c.as_slice.ensures) ∙ sym c.is_new.ensures in
    elim c.if-is_new.branch [
      | then-is_new+in_ok-push w ↦ held_more o own z (drop i items) (drop (i + 1) items) held c.if-is_new.held (overlap_sections o own) (from_section items i (record { 0 = 0 }) within) (tested ∙ w.if-is_new.true) (search rules) c.loop-section.invariant
      | else-is_new w ↦ held_again o own z (drop i items) (drop (i + 1) items) held c.if-is_new.held (overlap_sections o own) (from_section items i (record { 0 = 0 }) within) (tested ∙ w.if-is_new.false) (search rules) c.loop-section.invariant
    ]
