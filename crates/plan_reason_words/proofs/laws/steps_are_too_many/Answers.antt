use Rattle.plan_reason_words.proofs.Told.{steps_are_many}
use Rattle.plan_reason_words.proofs.laws.steps_are_too_many.Goals as goal

pub returns : goal.returns
returns c = λ d routes text. steps_are_many d routes text
