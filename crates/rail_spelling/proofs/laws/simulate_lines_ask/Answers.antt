use Rattle.rail_spelling.proofs.Asked.{simulate_asked}
use Rattle.rail_spelling.proofs.laws.simulate_lines_ask.Goals as goal

pub returns : goal.returns
returns c = simulate_asked
