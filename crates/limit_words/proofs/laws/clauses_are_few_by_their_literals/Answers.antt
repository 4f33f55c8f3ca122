use Rattle.limit_words.proofs.Few.{few_exactly}
use Rattle.limit_words.proofs.laws.clauses_are_few_by_their_literals.Goals as goal

pub returns : goal.returns
returns c = few_exactly
