use Rattle.rail_text.proofs.Numerals.{number_of-decimal}
use Rattle.rail_text.proofs.laws.numbers_read_back.Goals as goal

pub returns : goal.returns
returns c = number_of-decimal
