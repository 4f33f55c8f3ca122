use Rattle.std.proofs.Common.{◌≡◌, ◌+◌, ◌∙◌, ◌∷◌, drop, sym, ap, Err, Result, get_or}
use Rattle.std.proofs.lemmas.List.{drop_more}
use Rattle.sat_clause.specs.Clauses.{Store}
use Rattle.log_checker.specs.declared.check_result.Reason.{Reason}
use Rattle.log_checker.specs.Verdict.{SoFar, forgotten, by_forget}
use Rattle.log_checker.proofs.database.ClauseDatabase.forget.Goals as goal

by-reason : (s : SoFar) (r : Result Store Reason) (found reason : Reason) → r ≡ Err found → found ≡ reason → by_forget s r ≡ Err reason
by-reason s r found reason e same = ap (by_forget s) e ∙ ap Err same

pub returns-in-Err-clause-bad : goal.returns-in-Err-clause-bad
returns-in-Err-clause-bad c = λ reason e.
    let next : drop c.loop-id.id-index c.args.ids.now ≡ get_or c.args.ids.now c.loop-id.id-index 0 ∷ drop (c.loop-id.id-index + 1) c.args.ids.now = drop_more c.args.ids.now c.loop-id.id-index 0 c.loop-id-test.true in
    let bad : forgotten c.loop-id.self.derived c.loop-id.self.store (drop c.loop-id.id-index c.args.ids.now) ≡ Err c.in-Err.reason =
    ap (forgotten c.loop-id.self.derived c.loop-id.self.store) next ∙ c.forget_one.ensures.bad c.in-Err.reason (drop (c.loop-id.id-index + 1) c.args.ids.now) c.in-Err.is in
    by-reason c.args.self.now (forgotten c.args.self.now.derived c.args.self.now.store c.args.ids.now) c.in-Err.reason reason (sym c.loop-id.invariant.left ∙ bad) cc
