use Rattle.std.proofs.Common.{◌≡◌, IfOk, subst}
use Rattle.rail_base.specs.declared.plan.Plan.{Plan}
use Rattle.interlocking.specs.declared.railway.Interlocking.{Interlocking}
use Rattle.rail_spec.specs.Histories.{history_at}
use Rattle.plan_run.proofs.histories.history.Goals as goal

pub returns : goal.returns
returns c =
    let run = c.in_ok-run.run' in
    let told = c.in_ok-run.ensures in
    subst (λ (i : Interlocking). IfOk c.history.result (λ h. h.items ≡ history_at i.design.station i.routes c.args.plan.now.steps c.args.tick)) told.interlocking
    (subst (λ (p : Plan). IfOk c.history.result (λ h. h.items ≡ history_at run.interlocking.now.design.station run.interlocking.now.routes p.steps c.args.tick)) told.plan c.history.ensures)
