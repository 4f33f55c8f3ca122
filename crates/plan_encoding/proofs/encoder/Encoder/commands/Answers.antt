use Rattle.std.proofs.Common.{List, sym, subst, ◌∙◌}
use Rattle.std.specs.Prelude.{All}
use Rattle.rail_base.specs.declared.plan.Command.{Command}
use Rattle.plan_encoding.specs.Encoders.{IsCommand}
use Rattle.plan_encoding.proofs.Tabled.{all_known}
use Rattle.plan_encoding.proofs.encoder.Encoder.commands.Goals as goal

pub returns-clause-value : goal.returns-clause-value
returns-clause-value c = c.commands-2.ensures.value ∙ c.commands.ensures

pub returns-clause-known : goal.returns-clause-known
returns-clause-known c = subst (λ (cs : List Command). All (IsCommand c.args.self.now) cs) (sym (c.commands-2.ensures.value ∙ c.commands.ensures)) (all_known c.args.self.now)
