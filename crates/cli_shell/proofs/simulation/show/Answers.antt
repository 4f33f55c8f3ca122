use Rattle.std.proofs.Common.{ap, ap₂, sym, ◌∙◌, subst, ◌↔◌, ◌≡◌}
use Rattle.rail_base.proofs.Admitting.{admitted}
use Rattle.rail_spec.specs.Feasible.{IsFeasible}
use Rattle.rail_spec.specs.Histories.{verdict_of}
use Rattle.cli_shell.specs.declared.status.Status.{Status}
use Rattle.cli_shell.specs.declared.status.Status.TheVariants as statuses
use Rattle.cli_shell.specs.Answers.{verdict_status}
use Rattle.cli_shell.specs.Shows.{verdict_at_horizon}
use Rattle.cli_shell.proofs.Showing.{done_exactly, runs_safely, shown_so}
use Rattle.cli_shell.proofs.simulation.show.Goals as goal

pub returns-clause-reply : goal.returns-clause-reply
returns-clause-reply c =
    let d = c.args.interlocking.now.design.station in
    let plan = c.args.plan.now.steps in
    let same : c.in_ok-verdict.verdict ≡ verdict_at_horizon d plan = c.in_ok-verdict.ensures.value ∙ ap₂ (λ r h. verdict_of d r plan h) c.args.interlocking.now.table c.horizon.ensures.value in
    shown_so d _ _ c.in_ok-verdict.verdict _ c.status_of.ensures c.in_ok-lines.ensures same

pub returns-clause-exactly : goal.returns-clause-exactly
returns-clause-exactly c =
    let d = c.args.interlocking.now.design.station in
    let plan = c.args.plan.now.steps in
    let same : c.in_ok-verdict.verdict ≡ verdict_at_horizon d plan = c.in_ok-verdict.ensures.value ∙ ap₂ (λ r h. verdict_of d r plan h) c.args.interlocking.now.table c.horizon.ensures.value in
    let kind : c.status_of.result ≡ verdict_status (verdict_at_horizon d plan) = c.status_of.ensures ∙ ap verdict_status same in
    subst (λ (s : Status). (s ≡ statuses.Done) ↔ IsFeasible d 256 plan) (sym kind) (done_exactly d 256 plan (admitted d c.args.interlocking.now.design.admitted) c.requires.runnable)

pub returns-clause-safe : goal.returns-clause-safe
returns-clause-safe c = runs_safely c.args.interlocking.now.design.station 256 c.args.plan.now.steps (admitted c.args.interlocking.now.design.station c.args.interlocking.now.design.admitted) c.requires.runnable
