use Rattle.plan_reason_words.proofs.Told.{misplaced_is_so}
use Rattle.plan_reason_words.proofs.laws.reasons_are_so.Goals as goal

pub returns : goal.returns
returns c = λ d routes text. misplaced_is_so d routes text
