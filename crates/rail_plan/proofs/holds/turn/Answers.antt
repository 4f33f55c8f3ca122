use Rattle.std.proofs.Common.{ap, ◌∙◌}
use Rattle.rail_plan.specs.Holds.{taken_by_step}
use Rattle.rail_plan.proofs.holds.turn.Goals as goal

pub returns-clause-turned : goal.returns-clause-turned
returns-clause-turned c = λ z.
    c.take_step.ensures.taken z
    ∙ ap (taken_by_step c.args.interlocking.now.design.station c.args.interlocking.now.routes z c.args.step.now) (c.give_step.ensures.given z)
