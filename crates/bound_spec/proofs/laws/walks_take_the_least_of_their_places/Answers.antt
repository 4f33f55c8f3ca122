use Rattle.bound_spec.proofs.Walks.{through_places}
use Rattle.bound_spec.proofs.laws.walks_take_the_least_of_their_places.Goals as goal

pub returns : goal.returns
returns c = through_places
