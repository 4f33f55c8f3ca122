use Rattle.live_clause_spec.proofs.Listing.{left_is_listed}
use Rattle.live_clause_spec.proofs.laws.clauses_left_are_listed.Goals as goal

pub returns : goal.returns
returns c = λ turns live d routes n some. left_is_listed live d routes n turns
