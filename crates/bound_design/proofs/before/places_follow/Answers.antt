use Rattle.cone_form.proofs.Walks.{neighbors_end}
use Rattle.bound_design.specs.Covered.{comes_before_in}
use Rattle.bound_design.proofs.before.places_follow.Goals as goal

pub returns : goal.returns
returns c = neighbors_end (comes_before_in c.args.interlocking.now) c.args.places.now c.loop-index.index c.loop-index-test.false c.loop-index.invariant
