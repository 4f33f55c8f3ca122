-- A log that shows that there is no plan is a file for which the clauses of the design are few.
use Rattle.std.proofs.Common.{◌≡◌, ◌≤◌, ℕ, Bool, true, false, not, is_some, if◌then◌else◌, List, [], ◌∷◌, ◌++◌, Option, None, Some, Ok, refl, ap, sym, ◌∙◌}
use Rattle.rail_text.specs.Pieces.{pieces}
use Rattle.rail_text.proofs.Numerals.{number_of-decimal}
use Rattle.clause_spec.specs.Clauses.{past_limit}
use Rattle.log_checker.specs.declared.check_result.CheckResult.{CheckResult}
use Rattle.log_checker.specs.declared.check_result.CheckResult.TheVariants.{Yes, No}
use Rattle.log_checker.specs.declared.check_result.Reason.TheVariants.{HeadDiffers, BaseTooLarge}
use Rattle.log_checker.specs.Verdict.{head_in}
use Rattle.log_recorder.specs.Logs.{Learnt}
use Rattle.log_recorder.proofs.Accepted.{headed}
use Rattle.proof_judge.specs.Judged.{base_named, is_asked_of, judged_by, judged_under, names_within, past_plain}
use Rattle.rail_base.specs.declared.station.Station.{Station}
use Rattle.rail_base.specs.Admitted.{IsAdmitted}
use Rattle.plan_exclusion.specs.Exclusions.{question_of}
use Rattle.verify_loop.specs.Quests.{Quest}
use Rattle.verify_loop.specs.declared.outcome.Budgets.{Budgets}
use Rattle.verify_loop.specs.Outcomes.{head, first_clauses, IsProof}
use Rattle.verify_loop.proofs.Heading.{kept_so}
use Rattle.proof_shell.specs.Answers.{unless_too_large}
use Rattle.proof_shell.specs.Verdicts.{HasFewFor}
use Rattle.proof_shell.proofs.Judging.{small_passes, base_passes}

-- a file whose head names a question shows something only where its clauses are few
shown_few : (named : Bool) (past : Option ℕ) (shown : CheckResult) (k : ℕ) → (if not named then No 1 HeadDiffers else if is_some past then No 1 BaseTooLarge else shown) ≡ Yes k → past ≡ None
shown_few true None shown k e = refl
shown_few true (Some j) shown k e = absurd (cc)
shown_few false past shown k e = absurd (cc)

passed_few : (d : Station) (past : Option ℕ) → unless_too_large d past ≡ Ok d → past ≡ None
passed_few d None e = refl
passed_few d (Some k) e = absurd (cc)

pub few_for_log : (m : Quest) (d : Station) (n : ℕ) (b : Budgets) (log : List ℕ) → IsAdmitted d → n ≤ 256 → names_within m.base d ≡ true → IsProof m d n b log → HasFewFor d n log
few_for_log m d n b log good most named proof =
    let lines = proof.lines ++ Learnt proof.ended_log.last ∷ [] in
    let names : head_in (pieces log) ≡ Some (head m d n) = ap (λ text. head_in (pieces text)) proof.ended_log.text ∙ headed number_of-decimal (head m d n) (kept_so m d n good most named) lines in
    let shown : judged_by d n log (Some (head m d n)) ≡ Yes n = ap (judged_by d n log) (sym names) ∙ proof.accepted in
    let few : past_limit 16000000 0 (first_clauses m d n) ≡ None = shown_few (is_asked_of (question_of m.base d n) d n) (past_limit 16000000 0 (first_clauses m d n)) (judged_under (head m d n) d n log) n shown in
    passed_few d (past_plain d n log) (base_passes m.base n d log (ap base_named names) (small_passes m.base n d few))
