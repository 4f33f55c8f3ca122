use Rattle.std.proofs.Common.{sym, ◌∙◌}
use Rattle.rail_spec.specs.Feasible.{is_of}
use Rattle.day_runs.proofs.Steps.{all_in_steps}
use Rattle.day_runs.proofs.named.names_only.Goals as goal

pub returns : goal.returns
returns c =
    let i = c.args.interlocking.now in
    c.all_steps_are_of.ensures ∙ sym (all_in_steps (is_of i.design.station i.routes) c.args.plan.now.steps)
