use Rattle.std.proofs.Common.{◌≡◌, IfOk, subst}
use Rattle.rail_base.specs.declared.plan.Plan.{Plan}
use Rattle.rail_base.specs.declared.history.Verdict.{Verdict}
use Rattle.interlocking.specs.declared.railway.Interlocking.{Interlocking}
use Rattle.rail_spec.specs.Histories.{verdict_of}
use Rattle.tick_sim.proofs.verdicts.run_plan.Goals as goal

pub returns : goal.returns
returns c =
    let run = c.in_ok-run.run' in
    let told = c.in_ok-run.ensures in
    subst (λ (i : Interlocking). IfOk c.verdict.result (λ (v : Verdict). v ≡ verdict_of i.design.station i.routes c.args.plan.now.steps c.args.ticks)) told.interlocking
    (subst (λ (p : Plan). IfOk c.verdict.result (λ (v : Verdict). v ≡ verdict_of run.interlocking.now.design.station run.interlocking.now.routes p.steps c.args.ticks)) told.plan c.verdict.ensures)
