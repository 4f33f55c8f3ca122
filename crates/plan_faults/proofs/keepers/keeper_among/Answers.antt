use Rattle.std.proofs.Common.{List, find, sym, ap, ◌∙◌}
use Rattle.rail_base.specs.declared.plan.Command.{Command}
use Rattle.rail_plan.specs.Executable.{keeps_from}
use Rattle.plan_faults.proofs.Finding.{found_here, found_later}
use Rattle.plan_faults.proofs.keepers.keeper_among.Goals as goal

pub returns-then-is_some : goal.returns-then-is_some
returns-then-is_some c =
    let test = keeps_from c.args.interlocking.now.design.station c.args.interlocking.now.routes c.args.plan.now.steps c.args.command c.args.section in
    let told = c.in_ok-found.ensures ∙ ap (λ (s : List Command). find test s) c.as_slice.ensures in
    found_here test c.args.steps.now c.loop-step.step-index c.step-item.result c.loop-step-test.true c.step-item.is c.in_ok-found.found told (sym c.is_some.ensures ∙ c.if-is_some.true)
    ∙ c.loop-step.invariant

pub loop-step-preserved : goal.loop-step-preserved
loop-step-preserved c =
    let test = keeps_from c.args.interlocking.now.design.station c.args.interlocking.now.routes c.args.plan.now.steps c.args.command c.args.section in
    let told = c.in_ok-found.ensures ∙ ap (λ (s : List Command). find test s) c.as_slice.ensures in
    found_later test c.args.steps.now c.loop-step.step-index c.step-item.result c.loop-step-test.true c.step-item.is c.in_ok-found.found told (sym c.is_some.ensures ∙ c.if-is_some.false)
    ∙ c.loop-step.invariant
