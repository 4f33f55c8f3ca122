use Rattle.std.proofs.Common.{◌≡◌, ℕ, List, [], None, Some, sym, ap, ◌∙◌, refl, subst, flat_map}
use Rattle.sat_core.specs.Listing.{text_of_line}
use Rattle.sat_core.specs.Runs.{State, state_of, Ends as AnswerEnds}
use Rattle.sat_core.specs.declared.list_recorder.Line.{Line}
use Rattle.sat_core.specs.declared.solver.Answer.{Answer}
use Rattle.solve_clauses.specs.Outcomes.{Ends, outcome_of}
use Rattle.solve_clauses.specs.Replays.{fault_from}
use Rattle.solve_clauses.proofs.Ending.{IsRun, recorded, ends_so, not_full}
use Rattle.solve_clauses.proofs.solve.solve_formula.Goals as goal

pub reply_for-requires : goal.reply_for-requires
reply_for-requires c =
    let one = c.args.solver in
    let two = c.solve-answer.new.self in
    let old : State = state_of one.arena (flat_map text_of_line one.recorder.lines.items) None one.learnt.items one.derives in
    let new : State = state_of two.arena (flat_map text_of_line two.recorder.lines.items) None two.learnt.items two.derives in
    let vars : one.vars ≡ c.args.formula.vars = c.requires.loaded.same_vars in
    let run : AnswerEnds old new [] c.args.formula.vars c.args.conflicts c.solve-answer.result = subst (λ (v : ℕ). AnswerEnds old new [] v c.args.conflicts c.solve-answer.result) vars c.solve-answer.ensures.run in
    let listed : List Line = two.recorder.lines.items in
    let same : c.lines.result.now ≡ listed = c.lines.ensures ∙ ap (λ r. r.lines.items) c.recorder.ensures in
    let good : fault_from c.args.formula.clauses 1 listed ≡ None = ap (λ ls. fault_from c.args.formula.clauses 1 ls) (sym same) ∙ (sym c.in-Ok-None.ensures ∙ c.in-Ok-None.field-0-is) in
    let r : IsRun c.args.formula old new listed None = record { clauses = c.requires.loaded.clauses_are; text = c.requires.loaded.no_text; limit = refl; learnt = c.requires.loaded.none_learnt; derives = c.requires.loaded.none_derived; listed_is = refl; checked = good } in
    record { not_full = λ bytes next full. not_full c.args.formula old new listed None r c.args.conflicts bytes next (subst (λ (a : Answer). AnswerEnds old new [] c.args.formula.vars c.args.conflicts a) full run) }

pub returns-in-Ok-None : goal.returns-in-Ok-None
returns-in-Ok-None c =
    let one = c.args.solver in
    let two = c.solve-answer.new.self in
    let old : State = state_of one.arena (flat_map text_of_line one.recorder.lines.items) None one.learnt.items one.derives in
    let new : State = state_of two.arena (flat_map text_of_line two.recorder.lines.items) None two.learnt.items two.derives in
    let vars : one.vars ≡ c.args.formula.vars = c.requires.loaded.same_vars in
    let run : AnswerEnds old new [] c.args.formula.vars c.args.conflicts c.solve-answer.result = subst (λ (v : ℕ). AnswerEnds old new [] v c.args.conflicts c.solve-answer.result) vars c.solve-answer.ensures.run in
    let listed : List Line = two.recorder.lines.items in
    let same : c.lines.result.now ≡ listed = c.lines.ensures ∙ ap (λ r. r.lines.items) c.recorder.ensures in
    let good : fault_from c.args.formula.clauses 1 listed ≡ None = ap (λ ls. fault_from c.args.formula.clauses 1 ls) (sym same) ∙ (sym c.in-Ok-None.ensures ∙ c.in-Ok-None.field-0-is) in
    let r : IsRun c.args.formula old new listed None = record { clauses = c.requires.loaded.clauses_are; text = c.requires.loaded.no_text; limit = refl; learnt = c.requires.loaded.none_learnt; derives = c.requires.loaded.none_derived; listed_is = refl; checked = good } in
    let ends : Ends c.args.formula c.args.conflicts (outcome_of c.solve-answer.result two.derives) = ends_so c.args.formula old new listed r c.args.conflicts c.solve-answer.result run in
    let reply_for : c.reply_for.result ≡ outcome_of c.solve-answer.result two.derives = c.reply_for.ensures ∙ ap (λ n. outcome_of c.solve-answer.result n) c.derives-lines.ensures in
    subst (λ (o : _). Ends c.args.formula c.args.conflicts o) (sym reply_for) ends

pub returns-in-Ok-Some : goal.returns-in-Ok-Some
returns-in-Ok-Some c =
    let one = c.args.solver in
    let two = c.solve-answer.new.self in
    let old : State = state_of one.arena (flat_map text_of_line one.recorder.lines.items) None one.learnt.items one.derives in
    let new : State = state_of two.arena (flat_map text_of_line two.recorder.lines.items) None two.learnt.items two.derives in
    let vars : one.vars ≡ c.args.formula.vars = c.requires.loaded.same_vars in
    let run : AnswerEnds old new [] c.args.formula.vars c.args.conflicts c.solve-answer.result = subst (λ (v : ℕ). AnswerEnds old new [] v c.args.conflicts c.solve-answer.result) vars c.solve-answer.ensures.run in
    let listed : List Line = two.recorder.lines.items in
    let same : c.lines.result.now ≡ listed = c.lines.ensures ∙ ap (λ r. r.lines.items) c.recorder.ensures in
    let found : fault_from c.args.formula.clauses 1 listed ≡ Some c.in-Ok-Some.line = ap (λ ls. fault_from c.args.formula.clauses 1 ls) (sym same) ∙ (sym c.in-Ok-Some.ensures ∙ c.in-Ok-Some.field-0-is) in
    let r : IsRun c.args.formula old new listed (Some c.in-Ok-Some.line) = record { clauses = c.requires.loaded.clauses_are; text = c.requires.loaded.no_text; limit = refl; learnt = c.requires.loaded.none_learnt; derives = c.requires.loaded.none_derived; listed_is = refl; checked = found } in
    let so = recorded c.args.formula old new listed (Some c.in-Ok-Some.line) r c.args.conflicts c.solve-answer.result run in
    (two.derives, so.0, so.1)
