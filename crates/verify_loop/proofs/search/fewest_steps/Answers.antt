use Rattle.std.proofs.Common.{ℕ, min, ap, ◌∙◌}
use Rattle.rail_base.proofs.Admitting.{admitted}
use Rattle.verify_loop.proofs.Fewer.{fewest_of, none_below_fewest, wayless}
use Rattle.verify_loop.proofs.search.fewest_steps.Goals as goal

pub returns-in-Some-clause-none_below : goal.returns-in-Some-clause-none_below
returns-in-Some-clause-none_below c =
    let i = c.args.interlocking.now in
    none_below_fewest i.design.station c.in-Some.fewest c.args.steps.count c.min.result (admitted i.design.station i.design.admitted)
    (fewest_of c.in_ok-of.field-0.interlocking.now i c.in_ok-fewest.field-0 c.in-Some.fewest c.in_ok-of.ensures c.in_ok-fewest.ensures.some c.in-Some.is)
    (c.min.ensures ∙ ap (λ (k : ℕ). min k c.args.steps.count) c.max.ensures)

pub returns-clause-none_below : goal.returns-clause-none_below
returns-clause-none_below c = wayless c.in_ok-of.field-0.interlocking.now c.args.interlocking.now c.args.steps.count c.in_ok-of.ensures (c.in_ok-fewest.ensures.none c.in-None.is)
