use Rattle.std.proofs.Common.{Option, subst}
use Rattle.why_words.specs.Wanted.{Wanted}
use Rattle.why_cli.specs.Replies.{IsAnswerTo}
use Rattle.why_cli.proofs.laws.silence_is_usage.Goals as goal

pub returns : goal.returns
returns c = λ design_bytes file_bytes words a nothing is. subst (λ (w : Option Wanted). IsAnswerTo w design_bytes file_bytes a) nothing is
