use Rattle.named_plans.proofs.Back.{numbers_back}
use Rattle.named_plans.proofs.laws.numbered_lines_read_back.Goals as goal

pub returns : goal.returns
returns c = λ d admitted few plan runnable. numbers_back d admitted few plan runnable
