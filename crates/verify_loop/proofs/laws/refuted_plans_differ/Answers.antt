use Rattle.verify_loop.proofs.Differing.{plans_differ}
use Rattle.verify_loop.proofs.laws.refuted_plans_differ.Goals as goal

pub returns : goal.returns
returns c = λ base d good n some known rs refuted. plans_differ base d good n some known rs refuted
