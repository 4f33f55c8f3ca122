use Rattle.std.proofs.Common.{List, refl, sym, ap, ◌∙◌}
use Rattle.std.proofs.lemmas.List.{drop_all}
use Rattle.rail_base.specs.declared.plan.Command.{Command}
use Rattle.rail_plan.specs.Holds.{hold_at, taken_by_step}
use Rattle.rail_plan.proofs.Taking.{commands_on}
use Rattle.rail_plan.proofs.holds.take_step.Goals as goal

pub loop-command-init : goal.loop-command-init
loop-command-init c = record { many = refl; taken = λ z. refl }

pub loop-command-preserved : goal.loop-command-preserved
loop-command-preserved c = record {
  many = c.take_route.ensures.same_length ∙ c.loop-command.invariant.many;
  taken = λ z. commands_on c.args.interlocking.now.design.station c.args.interlocking.now.routes z c.as_slice-command-items.result.now c.loop-command.command-index _ c.loop-command-test.true
      (hold_at c.loop-command.holds z) (hold_at c.take_route.new.holds z) (hold_at c.args.holds.now z) (c.take_route.ensures.taken z) (c.loop-command.invariant.taken z);
}

pub returns-clause-taken : goal.returns-clause-taken
returns-clause-taken c = λ z.
    let d = c.args.interlocking.now.design.station in
    let routes = c.args.interlocking.now.routes in
    let none = drop_all c.loop-command.command-index c.as_slice-command-items.result.now c.loop-command-test.false in
    sym (ap (λ (cs : List Command). taken_by_step d routes z cs (hold_at c.loop-command.holds z)) none)
    ∙ c.loop-command.invariant.taken z
    ∙ ap (λ (cs : List Command). taken_by_step d routes z cs (hold_at c.args.holds.now z)) c.as_slice-command-items.ensures
