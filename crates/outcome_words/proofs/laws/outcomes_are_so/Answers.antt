use Rattle.outcome_words.proofs.Outcomes.{outcomes_so}
use Rattle.outcome_words.proofs.laws.outcomes_are_so.Goals as goal

pub returns : goal.returns
returns c = outcomes_so c.endings_are_so.ensures
