use Rattle.rail_spelling.proofs.Asked.{trial_asked}
use Rattle.rail_spelling.proofs.laws.trial_lines_ask.Goals as goal

pub returns : goal.returns
returns c = trial_asked
