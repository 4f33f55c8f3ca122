use Rattle.plan_text.proofs.ReadBack.{plans_read_back}
use Rattle.plan_text.proofs.laws.plans_read_back.Goals as goal

pub returns : goal.returns
returns c = λ d routes admitted few plan. plans_read_back d routes plan admitted few
