-- The log of a search is judged over the clauses with which it begins.
use Rattle.std.proofs.Common.{◌≡◌, ℕ, ◌≤◌, true, not, ◌&&◌, ◌==◌, is_some, if◌then◌else◌, List, length, nat_le, Some, None, refl, ap, ◌∙◌, eq-eqb, arith, leb-true, le-leb}
use Rattle.log_checker.specs.declared.check_result.CheckResult.TheVariants.{No}
use Rattle.log_checker.specs.declared.check_result.Reason.TheVariants.{HeadDiffers, BaseTooLarge}
use Rattle.clause_spec.specs.declared.question.BaseKind.{BaseKind}
use Rattle.clause_spec.specs.declared.question.BaseKind.TheVariants.{Plain, Sorted, Normal, Live}
use Rattle.clause_spec.specs.declared.question.Turns.TheVariants.{All, Beside}
use Rattle.clause_spec.specs.Clauses.{past_limit}
use Rattle.plan_exclusion.specs.Exclusions.{question_of}
use Rattle.verify_loop.specs.Quests.{Quest}
use Rattle.proof_judge.specs.Judged.{is_asked_of, judged_by, judged_under, names_within}
use Rattle.proof_log.specs.Heads.{keeps_head, keeps_within}
use Rattle.proof_log.specs.Words.{is_plain}
use Rattle.rail_base.specs.declared.station.Station.{Station}
use Rattle.rail_base.specs.Admitted.{IsAdmitted}
use Rattle.rail_base.proofs.Members.{and_both, and_right}
use Rattle.verify_loop.specs.Outcomes.{head, first_clauses}

-- its numbers have few digits
numbers_plain : (d : Station) (n : ℕ) → IsAdmitted d → n ≤ 256 → (is_plain d.version && is_plain n) ≡ true
numbers_plain d n good few =
    let most = good.version.1 in
    and_both (is_plain d.version) (is_plain n) (le-leb d.version 999_999_999_999_999_999 (omega arith)) (le-leb n 999_999_999_999_999_999 (omega arith))

-- so has that of a within of the design
within_plain : (kind : BaseKind) (d : Station) → IsAdmitted d → names_within kind d ≡ true → keeps_within kind ≡ true
within_plain Plain d good named = refl
within_plain Sorted d good named = refl
within_plain Normal d good named = refl
within_plain (Live All) d good named = refl
within_plain (Live (Beside w)) d good named =
    let most = good.many_withins in
    let high = leb-true w (length d.withins) (and_right (nat_le 1 w) (nat_le w (length d.withins)) named) in
    le-leb w 999_999_999_999_999_999 (omega arith)

pub kept_so : (m : Quest) (d : Station) (n : ℕ) → IsAdmitted d → n ≤ 256 → names_within m.base d ≡ true → keeps_head (head m d n) ≡ true
kept_so m d n good few named = and_both (is_plain d.version && is_plain n) (keeps_within m.base) (numbers_plain d n good few) (within_plain m.base d good named)

-- it names the design and the number of steps
names_own : (m : Quest) (d : Station) (n : ℕ) → names_within m.base d ≡ true → is_asked_of (question_of m.base d n) d n ≡ true
names_own m d n named = and_both _ (n == n) (and_both (names_within m.base d) (d.version == d.version) named (eq-eqb d.version d.version refl)) (eq-eqb n n refl)

pub judged_so : (m : Quest) (d : Station) (n : ℕ) (bytes : List ℕ) → names_within m.base d ≡ true → past_limit 16000000 0 (first_clauses m d n) ≡ None → judged_by d n bytes (Some (head m d n)) ≡ judged_under (head m d n) d n bytes
judged_so m d n bytes named fits =
    ap (λ b. if not b then No 1 HeadDiffers else if is_some (past_limit 16000000 0 (first_clauses m d n)) then No 1 BaseTooLarge else judged_under (head m d n) d n bytes) (names_own m d n named)
    ∙ ap (λ o. if is_some o then No 1 BaseTooLarge else judged_under (head m d n) d n bytes) fits
