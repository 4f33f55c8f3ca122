use Rattle.named_plans.proofs.Back.{named_back}
use Rattle.named_plans.proofs.laws.named_texts_read_back.Goals as goal

pub returns : goal.returns
returns c = λ d admitted few plan runnable. named_back d admitted few plan runnable
