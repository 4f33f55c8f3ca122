use Rattle.std.proofs.Common.{Err, refl, ◌∙◌, ap, inr}
use Rattle.solve_clauses.proofs.Putting.{put_failed}
use Rattle.solve_clauses.proofs.answer.run.Goals as goal

pub returns-clause-prints : goal.returns-clause-prints
returns-clause-prints g c = λ files before known_files written.
    let failed = c.in-Err-Failed.is ∙ ap Err c.in-Err-Failed.field-0-is in
    let line = c.as_slice.ensures.value ∙ c.in-Ok.ensures in
    inr (inr (c.carry_out-outcome.result, c.carry_out-outcome.ensures.answers files known_files, refl, put_failed c.put.result _ _ _ _ before c.put.ensures.leaves failed line written))
