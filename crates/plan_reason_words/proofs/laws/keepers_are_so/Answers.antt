use Rattle.plan_reason_words.proofs.Told.{blocked_is_so}
use Rattle.plan_reason_words.proofs.laws.keepers_are_so.Goals as goal

pub returns : goal.returns
returns c = λ d routes text. blocked_is_so d routes text
