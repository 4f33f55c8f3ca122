use Rattle.std.proofs.Common.{flat_map, refl, ap, ◌∙◌}
use Rattle.std.proofs.lemmas.List.{drop_more}
use Rattle.cone_form.proofs.Walks.{drop_end}
use Rattle.bound_clause.specs.Left.{gathered, together}
use Rattle.bound_clause.specs.Said.{said_of_leg}
use Rattle.bound_clause.specs.Spoken.{left}
use Rattle.bound_clause.proofs.Putting.{parts_next, parts_end}
use Rattle.bound_clause.proofs.numbered.NumberedBound.push_legs.Goals as goal

pub loop-leg-init : goal.loop-leg-init
loop-leg-init c = refl

pub loop-leg-preserved : goal.loop-leg-preserved
loop-leg-preserved c = parts_next c.args.self.now said_of_leg (gathered c.loop-leg.clause) (gathered c.push_leg.new.clause) _ _ _ _ (drop_more c.as_slice-leg-items.result.now c.loop-leg.leg-index c.leg-item.result c.loop-leg-test.true)
    (c.in_ok-push_leg.ensures ∙ ap (λ p. together (gathered c.loop-leg.clause) (left c.args.self.now (said_of_leg p))) c.leg-item.is) c.loop-leg.invariant

pub returns : goal.returns
returns c = parts_end c.args.self.now said_of_leg (gathered c.loop-leg.clause) _ _ (drop_end c.as_slice-leg-items.result.now c.loop-leg.leg-index c.loop-leg-test.false) c.loop-leg.invariant
    ∙ ap (λ ps. together (gathered c.args.clause.now) (left c.args.self.now (flat_map said_of_leg ps))) c.as_slice-leg-items.ensures
