use Rattle.std.proofs.Common.{◌+◌, Bool, cond, List, ◌∷◌, Option, drop, get_or, map, filter, sym, ap, ◌∙◌}
use Rattle.std.proofs.lemmas.List.{drop_all, drop_more}
use Rattle.rail_base.specs.declared.station.SectionNo.{SectionNo}
use Rattle.rail_base.specs.declared.route.OverlapSection.{OverlapSection}
use Rattle.rail_base.specs.declared.route.Route.{Route}
use Rattle.rail_base.specs.Numbering.{first_of_list}
use Rattle.rail_plan.specs.Holds.{is_kept_from}
use Rattle.rail_plan.proofs.Contending.{none_taken_beside}
use Rattle.rail_plan.proofs.Within.{part_beside_within}
use Rattle.rail_plan.proofs.clearance.kept_overlap_section.Goals as goal

pub is_kept_from-requires-clause-at_least_one : goal.is_kept_from-requires-clause-at_least_one
is_kept_from-requires-clause-at_least_one c =
    (part_beside_within c.args.interlocking.now c.args.command.route c.as_slice-part-items.result.now c.loop-part.part-index _ (c.as_slice-part-items.ensures ∙ ap (λ (r : Route). r.overlaps) c.route_at.ensures) c.loop-part-test.true _ c.requires.every_section).0

pub is_kept_from-requires-clause-within : goal.is_kept_from-requires-clause-within
is_kept_from-requires-clause-within c =
    (part_beside_within c.args.interlocking.now c.args.command.route c.as_slice-part-items.result.now c.loop-part.part-index _ (c.as_slice-part-items.ensures ∙ ap (λ (r : Route). r.overlaps) c.route_at.ensures) c.loop-part-test.true _ c.requires.every_section).1

pub is_kept_from-requires-clause-contended : goal.is_kept_from-requires-clause-contended
is_kept_from-requires-clause-contended c = λ none.
    none_taken_beside c.args.interlocking.now.routes c.args.step.now c.args.command c.as_slice-part-items.result.now c.loop-part.part-index _ (c.as_slice-part-items.ensures ∙ ap (λ (r : Route). r.overlaps) c.route_at.ensures) c.loop-part-test.true (sym c.requires.contended ∙ none)

pub returns : goal.returns
returns c =
    let test : SectionNo → Bool = is_kept_from c.args.interlocking.now.routes c.args.holds.now c.args.step.now c.args.command.train in
    let first : List OverlapSection → Option SectionNo = λ parts. first_of_list (filter test (map (λ p. p.section) parts)) in
    let none = drop_all c.loop-part.part-index c.as_slice-part-items.result.now c.loop-part-test.false in
    sym (ap first none) ∙ c.loop-part.invariant ∙ ap first (c.as_slice-part-items.ensures ∙ ap (λ (r : Route). r.overlaps) c.route_at.ensures)

pub returns-then-is_kept_from : goal.returns-then-is_kept_from
returns-then-is_kept_from c =
    let test : SectionNo → Bool = is_kept_from c.args.interlocking.now.routes c.args.holds.now c.args.step.now c.args.command.train in
    let first : List OverlapSection → Option SectionNo = λ parts. first_of_list (filter test (map (λ p. p.section) parts)) in
    let parts = c.as_slice-part-items.result.now in
    let i = c.loop-part.part-index in
    let none : OverlapSection = record { section = record { 0 = 0 }; hold_ms = 0 } in
    let here = get_or parts i none in
    let rest = filter test (map (λ p. p.section) (drop (i + 1) parts)) in
    let held = sym c.is_kept_from.ensures ∙ c.if-is_kept_from.true in
    sym (ap first (drop_more parts i none c.loop-part-test.true) ∙ ap (λ b. first_of_list (cond b (here.section ∷ rest) rest)) held)
    ∙ (c.loop-part.invariant ∙ ap first (c.as_slice-part-items.ensures ∙ ap (λ (r : Route). r.overlaps) c.route_at.ensures))
