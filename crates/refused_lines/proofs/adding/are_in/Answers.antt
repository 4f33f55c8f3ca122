use Rattle.std.proofs.Common.{sym, ◌∙◌}
use Rattle.refused_lines.proofs.Within.{all_in}
use Rattle.refused_lines.proofs.adding.are_in.Goals as goal

pub returns : goal.returns
returns c = λ good. all_in c.args.vars c.args.clause.now (sym c.all_are_in.ensures ∙ good)
