use Rattle.std.proofs.Common.{◌-◌, ◌≤◌, not, ap, ◌∙◌, arith}
use Rattle.rail_require.specs.Ticks.{grant_tick, is_by}
use Rattle.cone_spec.specs.Cones.{of_cone}
use Rattle.cone_run.specs.Runs.{last_tick}
use Rattle.cone_run.proofs.Asking.{grant_asked, not_less}
use Rattle.cone_run.proofs.train.TrainRun.just_granted.Goals as goal

pub returns : goal.returns
returns c =
    let l = c.args.self.now.run.layout in
    let d = l.interlocking.now.design.station in
    let routes = l.interlocking.now.routes in
    let p = of_cone l.cone.now in
    let last = last_tick l.cone.now in
    let told = c.args.self.now.run.is_history in
    let entry = c.args.self.now.said.now in
    let some : 1 ≤ entry.free = (let h = c.if-said-eq0.false in omega arith) in
    let until = c.args.self.now.named.until in
    ap not (c.is_by.ensures ∙ ap (is_by (entry.horizon - 1)) (c.grant_tick.ensures ∙ ap (λ h. grant_tick h entry.train entry.free) told) ∙ grant_asked d routes p last entry.train c.args.self.now.named.train (entry.horizon - 1) entry.free (omega arith) some) ∙ not_less entry.free _
