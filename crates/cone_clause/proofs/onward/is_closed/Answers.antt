use Rattle.std.proofs.Common.{◌||◌, sym, ap, ◌∙◌}
use Rattle.cone_spec.specs.Clauses.{is_path_violation}
use Rattle.cone_clause.proofs.onward.is_closed.Goals as goal

pub returns-else-all_free : goal.returns-else-all_free
returns-else-all_free c = λ d routes. c.is_path_violation.ensures d routes c.args.cone.now ∙ ap (λ b. b || is_path_violation d routes c.args.cone.now c.args.cone.now.violation) (sym (sym c.all_free.ensures ∙ c.if-all_free.false))
