use Rattle.plan_reason_words.proofs.Told.{unknown_is_there}
use Rattle.plan_reason_words.proofs.laws.unknown_commands_are_there.Goals as goal

pub returns : goal.returns
returns c = λ d routes text. unknown_is_there d routes text
