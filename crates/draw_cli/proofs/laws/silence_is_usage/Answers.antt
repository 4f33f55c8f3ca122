use Rattle.std.proofs.Common.{Option, subst}
use Rattle.draw_cli.specs.Wanted.{Wanted}
use Rattle.draw_cli.specs.Answers.{IsAnswerTo}
use Rattle.draw_cli.proofs.laws.silence_is_usage.Goals as goal

pub returns : goal.returns
returns c = λ design_bytes plan_bytes words a nothing h. subst (λ (w : Option Wanted). IsAnswerTo w design_bytes plan_bytes a) nothing h
