use Rattle.rail_spelling.proofs.Asked.{check_in_time_asked}
use Rattle.rail_spelling.proofs.laws.check_in_time_lines_ask.Goals as goal

pub returns : goal.returns
returns c = check_in_time_asked
