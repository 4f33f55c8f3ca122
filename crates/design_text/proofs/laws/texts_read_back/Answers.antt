use Rattle.design_text.proofs.ReadingBack.{read_back}
use Rattle.design_text.proofs.laws.texts_read_back.Goals as goal

pub returns : goal.returns
returns c = read_back
