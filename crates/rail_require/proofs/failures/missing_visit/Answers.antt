-- A train's first that is missing is the first of all, where none was found before it.
use Rattle.std.proofs.Common.{◌+◌, ◌<◌, sym, ap, ◌∙◌, map, length, option_map}
use Rattle.rail_base.specs.declared.station.TrainNo.{TrainNo}
use Rattle.rail_base.specs.declared.plan.Violation.TheVariants as violation
use Rattle.rail_require.specs.Ticks.{visit_numbers}
use Rattle.rail_require.specs.Violations.{is_certain}
use Rattle.rail_require.proofs.Missing.{find-next, find-here, find-visit}
use Rattle.rail_require.proofs.failures.missing_visit.Goals as goal

pub returns-in-Some : goal.returns-in-Some
returns-in-Some c = λ d due.
    let h = c.args.history.now in
    let number : TrainNo = record { 0 = c.loop-place.place + 1 } in
    let less : c.loop-place.place < length h = c.loop-place-test.true in
    let here = find-visit d h c.args.tick due c.loop-place.place c.index-history-place.result less c.index-history-place.is ∙ ap (option_map (violation.Visit number)) (sym c.in-Some.ensures) in
    sym (c.loop-place.invariant d due ∙ find-here (is_certain d h c.args.tick) (λ t. map (violation.Visit t) (visit_numbers h t)) (length h) c.loop-place.place (violation.Visit number c.in-Some.visit) less here)

pub loop-place-preserved : goal.loop-place-preserved
loop-place-preserved c = λ d due.
    let h = c.args.history.now in
    let number : TrainNo = record { 0 = c.loop-place.place + 1 } in
    let less : c.loop-place.place < length h = c.loop-place-test.true in
    let here = find-visit d h c.args.tick due c.loop-place.place c.index-history-place.result less c.index-history-place.is ∙ ap (option_map (violation.Visit number)) (sym c.first_unvisited.ensures ∙ c.in_default.is) in
    c.loop-place.invariant d due ∙ find-next (is_certain d h c.args.tick) (λ t. map (violation.Visit t) (visit_numbers h t)) (length h) c.loop-place.place less here
