use Rattle.std.proofs.Common.{◌≡◌, ap, ap₂, take, ◌∙◌}
use Rattle.rail_outside.specs.Lines.{lines_of}
use Rattle.rail_spec.specs.Histories.{verdict_of}
use Rattle.cli_shell.specs.Shows.{verdict_at_horizon}
use Rattle.why_cli.proofs.Outcomes.{first_line, outcome_so}
use Rattle.why_cli.proofs.plans.outcome_said.Goals as goal

pub returns : goal.returns
returns c =
    let i = c.args.interlocking.now in
    let d = i.design.station in
    let plan = c.args.plan.now.steps in
    let same : c.in_ok-verdict.verdict ≡ verdict_at_horizon d plan = c.in_ok-verdict.ensures.value ∙ ap₂ (λ r h. verdict_of d r plan h) i.table c.horizon.ensures.value in
    outcome_so d i.routes plan c.in_ok-verdict.verdict c.status_of.result _ _ same i.table c.status_of.ensures.value
    (ap lines_of c.truncate.ensures.items ∙ first_line c.in_ok-lines.lines.items ∙ ap (take 1) c.in_ok-lines.ensures) c.in_ok-push_outcome.ensures
