-- A train's first that is missing is the first of all, where none was found before it.
use Rattle.std.proofs.Common.{◌+◌, ◌<◌, sym, ap, ◌∙◌, map, length, option_map}
use Rattle.rail_base.specs.declared.station.TrainNo.{TrainNo}
use Rattle.rail_base.specs.declared.plan.Violation.TheVariants as violation
use Rattle.rail_require.specs.Ticks.{command_numbers}
use Rattle.rail_require.specs.Violations.{is_certain}
use Rattle.rail_require.proofs.Missing.{find-next, find-here, find-grant}
use Rattle.rail_require.proofs.failures.missing_grant.Goals as goal

pub returns-in-Some : goal.returns-in-Some
returns-in-Some c = λ d due.
    let h = c.args.history.now in
    let number : TrainNo = record { 0 = c.loop-place.place + 1 } in
    let less : c.loop-place.place < length h = c.loop-place-test.true in
    let here = find-grant d h c.args.tick due c.loop-place.place c.index-history-place.result less c.index-history-place.is ∙ ap (option_map (violation.Grant number)) (sym c.in-Some.ensures) in
    sym (c.loop-place.invariant d due ∙ find-here (is_certain d h c.args.tick) (λ t. map (violation.Grant t) (command_numbers h t)) (length h) c.loop-place.place (violation.Grant number c.in-Some.command) less here)

pub loop-place-preserved : goal.loop-place-preserved
loop-place-preserved c = λ d due.
    let h = c.args.history.now in
    let number : TrainNo = record { 0 = c.loop-place.place + 1 } in
    let less : c.loop-place.place < length h = c.loop-place-test.true in
    let here = find-grant d h c.args.tick due c.loop-place.place c.index-history-place.result less c.index-history-place.is ∙ ap (option_map (violation.Grant number)) (sym c.first_ungranted.ensures ∙ c.in_default.is) in
    c.loop-place.invariant d due ∙ find-next (is_certain d h c.args.tick) (λ t. map (violation.Grant t) (command_numbers h t)) (length h) c.loop-place.place less here
