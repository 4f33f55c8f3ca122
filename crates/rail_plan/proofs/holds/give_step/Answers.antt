use Rattle.std.proofs.Common.{refl, ◌∙◌, arith}
use Rattle.std.proofs.lemmas.List.{length-set}
use Rattle.rail_plan.proofs.Taking.{given_all, given_first, given_on}
use Rattle.rail_plan.proofs.holds.give_step.Goals as goal

pub loop-index-init : goal.loop-index-init
loop-index-init c = record { many = refl; given = given_first c.args.routes.now c.args.step.now c.args.holds.now }

pub loop-index-preserved : goal.loop-index-preserved
loop-index-preserved c =
    let many = c.loop-index.invariant.many in
    record {
      many = length-set c.loop-index.holds c.loop-index.index c.given_step.result ∙ many;
      given = given_on c.args.routes.now c.args.step.now c.args.holds.now c.loop-index.holds c.loop-index.index _ c.given_step.result (omega arith) c.given_step.ensures c.loop-index.invariant.given;
    }

pub returns-clause-given : goal.returns-clause-given
returns-clause-given c = λ z.
    given_all c.args.routes.now c.args.step.now c.args.holds.now c.loop-index.holds c.loop-index.index (omega arith) c.loop-index.invariant.given z.0
