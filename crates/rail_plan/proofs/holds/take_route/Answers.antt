use Rattle.std.proofs.Common.{ℤ, List, length, refl, sym, ap, ◌∙◌, arith}
use Rattle.std.proofs.lemmas.List.{drop_all}
use Rattle.rail_base.specs.declared.station.SectionNo.{SectionNo}
use Rattle.rail_base.specs.declared.route.Route.{Route}
use Rattle.rail_plan.specs.Holds.{hold_at, lack_after, taken_by_parts}
use Rattle.rail_plan.proofs.Taking.{parts_on}
use Rattle.rail_plan.proofs.Within.{part_within}
use Rattle.rail_plan.proofs.holds.take_route.Goals as goal

pub loop-part-init : goal.loop-part-init
loop-part-init c = record { many = refl; taken = λ z. refl }

pub take-requires-clause-at_least_one : goal.take-requires-clause-at_least_one
take-requires-clause-at_least_one c =
    (part_within c.args.interlocking.now c.args.command.route c.as_slice-part-items.result.now c.loop-part.part-index _ (c.as_slice-part-items.ensures ∙ ap (λ (r : Route). r.sections) c.route_at.ensures) c.loop-part-test.true (length c.loop-part.holds) (let many = c.loop-part.invariant.many in let all = c.requires.every_section in omega (arith, many, all))).0

pub take-requires-clause-within : goal.take-requires-clause-within
take-requires-clause-within c =
    (part_within c.args.interlocking.now c.args.command.route c.as_slice-part-items.result.now c.loop-part.part-index _ (c.as_slice-part-items.ensures ∙ ap (λ (r : Route). r.sections) c.route_at.ensures) c.loop-part-test.true (length c.loop-part.holds) (let many = c.loop-part.invariant.many in let all = c.requires.every_section in omega (arith, many, all))).1

pub loop-part-preserved : goal.loop-part-preserved
loop-part-preserved c = record {
  many = c.take.ensures.same_length ∙ c.loop-part.invariant.many;
  taken = λ z. parts_on c.args.interlocking.now.design.station c.args.interlocking.now.routes z c.args.command c.as_slice-part-items.result.now c.loop-part.part-index _ c.loop-part-test.true
      (hold_at c.loop-part.holds z) (hold_at c.take.new.holds z) (hold_at c.args.holds.now z) c.lack_after-left.result
      (c.lack_after-left.ensures ∙ ap (λ n. lack_after c.args.interlocking.now.design.station c.args.interlocking.now.routes c.args.command n) c.offset_of.ensures)
      (c.take.ensures.taken z) (c.loop-part.invariant.taken z);
}

pub returns-clause-taken : goal.returns-clause-taken
returns-clause-taken c = λ z.
    let d = c.args.interlocking.now.design.station in
    let routes = c.args.interlocking.now.routes in
    let none = drop_all c.loop-part.part-index c.as_slice-part-items.result.now c.loop-part-test.false in
    sym (ap (λ (ps : List (SectionNo × ℤ)). taken_by_parts d routes z c.args.command ps (hold_at c.loop-part.holds z)) none)
    ∙ c.loop-part.invariant.taken z
    ∙ ap (λ (ps : List (SectionNo × ℤ)). taken_by_parts d routes z c.args.command ps (hold_at c.args.holds.now z)) (c.as_slice-part-items.ensures ∙ ap (λ (r : Route). r.sections) c.route_at.ensures)
