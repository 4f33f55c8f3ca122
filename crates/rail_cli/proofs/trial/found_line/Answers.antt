use Rattle.std.proofs.Common.{◌≡◌, ℕ, length, IfOk, Vec, Global, ap, ◌∙◌, subst}
use Rattle.rail_base.proofs.Admitting.{admitted}
use Rattle.rail_spec.specs.Requirements.{cost}
use Rattle.rail_spec.specs.Track.{routes_of}
use Rattle.rail_cli.specs.Replies.{deciding_tick}
use Rattle.rail_cli.specs.Texts.{plan_tick_line}
use Rattle.rail_cli.proofs.Trying.{met_at_cost}
use Rattle.rail_cli.proofs.trial.found_line.Goals as goal

pub returns : goal.returns
returns c =
    let d = c.args.design.now.station in
    let plan = c.args.plan.now.steps in
    let tick : c.deciding_tick.result ≡ cost d (routes_of d) plan = c.deciding_tick.ensures ∙ (ap deciding_tick c.requires.verdict ∙ met_at_cost d c.args.steps plan (admitted d c.args.design.now.admitted) c.requires.feasible) in
    subst (λ (k : ℕ). IfOk c.plan_tick_line.result (λ (line : Vec ℕ Global). line.items ≡ plan_tick_line (length plan) k)) tick c.plan_tick_line.ensures
