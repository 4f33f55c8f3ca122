use Rattle.std.proofs.Common.{flat_map, refl, ap, ◌∙◌}
use Rattle.std.proofs.lemmas.List.{drop_more}
use Rattle.cone_form.proofs.Walks.{drop_end}
use Rattle.bound_clause.specs.Left.{gathered, together}
use Rattle.bound_clause.specs.Said.{said_of_place}
use Rattle.bound_clause.specs.Spoken.{left}
use Rattle.bound_clause.proofs.Putting.{parts_next, parts_end}
use Rattle.bound_clause.proofs.numbered.NumberedBound.push_leg.Goals as goal

pub loop-place-init : goal.loop-place-init
loop-place-init c = refl

pub loop-place-preserved : goal.loop-place-preserved
loop-place-preserved c = parts_next c.args.self.now (said_of_place c.args.leg.now.train) (gathered c.loop-place.clause) (gathered c.push_place.new.clause) _ _ _ _ (drop_more c.as_slice-place-items.result.now c.loop-place.place-index c.place-item.result c.loop-place-test.true)
    (c.in_ok-push_place.ensures ∙ ap (λ p. together (gathered c.loop-place.clause) (left c.args.self.now (said_of_place c.args.leg.now.train p))) c.place-item.is) c.loop-place.invariant

pub returns : goal.returns
returns c = parts_end c.args.self.now (said_of_place c.args.leg.now.train) (gathered c.loop-place.clause) _ _ (drop_end c.as_slice-place-items.result.now c.loop-place.place-index c.loop-place-test.false) c.loop-place.invariant
    ∙ ap (λ ps. together (gathered c.args.clause.now) (left c.args.self.now (flat_map (said_of_place c.args.leg.now.train) ps))) c.as_slice-place-items.ensures
