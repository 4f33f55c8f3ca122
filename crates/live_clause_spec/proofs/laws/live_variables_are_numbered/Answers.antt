use Rattle.live_clause_spec.proofs.Base.{left_in_range}
use Rattle.live_clause_spec.proofs.Numbers.{length-live}
use Rattle.live_clause_spec.proofs.Shown.{are_numbered}
use Rattle.live_clause_spec.proofs.laws.live_variables_are_numbered.Goals as goal

pub returns-clause-places : goal.returns-clause-places
returns-clause-places c = λ live d routes n some. are_numbered live d routes n

pub returns-clause-count : goal.returns-clause-count
returns-clause-count c = λ live d routes n some. length-live live d routes n

pub returns-clause-in_range : goal.returns-clause-in_range
returns-clause-in_range c = left_in_range
