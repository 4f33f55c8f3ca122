use Rattle.plan_decoder.proofs.Prefixes.{prefix_is_true}
use Rattle.plan_decoder.proofs.laws.live_clauses_are_true.Goals as goal

pub returns : goal.returns
returns c = prefix_is_true
