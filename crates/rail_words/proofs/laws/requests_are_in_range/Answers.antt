use Rattle.rail_words.proofs.Ranges.{requests_in_range}
use Rattle.rail_words.proofs.laws.requests_are_in_range.Goals as goal

pub returns : goal.returns
returns c = requests_in_range
