use Rattle.std.proofs.Common.{ℕ, ◌==◌, ap, ◌∙◌}
use Rattle.rail_plan.proofs.Resting.{rest_is}
use Rattle.plan_faults.specs.Kept.{routes_between, wanted_mm}
use Rattle.plan_faults.proofs.between.can_clear.Goals as goal

pub returns : goal.returns
returns c =
    let d = c.args.interlocking.now.design.station in
    let routes = c.args.interlocking.now.routes in
    ap (λ (n : ℕ). n == 0) c.in_ok-lacking_mm.ensures
    ∙ rest_is (wanted_mm d routes c.args.first c.args.section) (routes_between d routes c.args.plan.now.steps c.args.first c.args.last)
