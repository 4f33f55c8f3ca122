-- The answers to checks of which nothing is refused.
use Rattle.std.proofs.Common.{◌≡◌, ◌≤◌, ◌+◌, ℕ, List, [], ◌∷◌, length, Option, None, Ok, refl, ◌∙◌, inl, inr, arith}
use Rattle.std.proofs.lemmas.Bool.{le-ltb}
use Rattle.std.proofs.lemmas.List.Sums.{sum_by-cons}
use Rattle.log_checker.specs.declared.check_result.CheckResult.{CheckResult}
use Rattle.log_checker.specs.declared.check_result.CheckResult.TheVariants.{Yes, No}
use Rattle.clause_spec.specs.Clauses.{literals, past_limit}
use Rattle.clause_spec.specs.declared.question.BaseKind.{BaseKind}
use Rattle.proof_judge.specs.Judged.{judged}
use Rattle.rail_base.specs.declared.station.Station.{Station}
use Rattle.rail_words.specs.declared.request.InTime.{InTime}
use Rattle.base_spec.specs.Bases.{clauses_of}
use Rattle.rail_spec.specs.Track.{routes_of}
use Rattle.cli_shell.specs.declared.input.InputFile.TheVariants as file
use Rattle.cli_shell.specs.Texts.{limit_of}
use Rattle.cli_shell.specs.Answers.{within_limit, design_in, unless_refused}
use Rattle.proof_shell.specs.Answers.{with_clauses, put_in, timed, for_file, reply_for, checked_against, with_proof, check_reply}
use Rattle.cli_shell.specs.Verdicts.{IsDesignText, IsVerdict}
use Rattle.proof_shell.specs.Verdicts.{HasFewClauses, HasFewFor, HasWithin}
use Rattle.cli_shell.proofs.Deciding.{answered_next}
use Rattle.proof_shell.proofs.Judging.{judged_passes, small_passes, time_passes}
use Rattle.cli_shell.proofs.Refusing as refusing
use Rattle.cli_shell.proofs.Verdicts.{fits, reads}

within : {X : Type 0} (limit sum : ℕ) (clauses : List (List X)) → sum + literals clauses ≤ limit → past_limit limit sum clauses ≡ None
within limit sum [] few = refl
within limit sum (c ∷ cs) few =
    let all : literals (c ∷ cs) ≡ length c + literals cs = sum_by-cons length c cs in
    rw (le-ltb limit (sum + length c) (omega arith)) (within limit (sum + length c) cs (omega arith))

pub few_fit : (m : BaseKind) (d : Station) (n : ℕ) → HasFewClauses m d n → past_limit 16000000 0 (clauses_of m d (routes_of d) n) ≡ None
few_fit m d n few = within 16000000 0 (clauses_of m d (routes_of d) n) (omega arith)

pub few_pass : (m : BaseKind) (d : Station) (n : ℕ) → HasFewClauses m d n → with_clauses m n d ≡ Ok d
few_pass m d n few = small_passes m n d (few_fit m d n few)

module _ (bytes : List ℕ) (d : Station) (s : IsDesignText bytes d) where
  pub checked_so : (n : ℕ) (t : Option InTime) (proof_bytes : List ℕ) → HasWithin t d → HasFewFor (put_in t d) n proof_bytes → length proof_bytes ≤ limit_of file.Proof → check_reply n t bytes proof_bytes ≡ reply_for (judged (put_in t d) n proof_bytes)
  checked_so n t proof_bytes has few short =
      let c = put_in t d in
      answered_next (within_limit file.Design bytes) bytes (λ text. unless_refused (design_in text) (λ e. unless_refused (timed n t e) (λ f. with_proof n f proof_bytes))) (fits bytes d s)
      ∙ (answered_next (design_in bytes) d (λ e. unless_refused (timed n t e) (λ f. with_proof n f proof_bytes)) (reads bytes d s)
      ∙ (answered_next (timed n t d) c (λ f. with_proof n f proof_bytes) (time_passes n t d has)
      ∙ (answered_next (within_limit file.Proof proof_bytes) proof_bytes (λ text. unless_refused (for_file n c text) (λ same. checked_against c n text)) (refusing.file_fits file.Proof proof_bytes short)
      ∙ answered_next (for_file n c proof_bytes) c (λ same. checked_against c n proof_bytes) (judged_passes n c proof_bytes few))))

pub told_verdict : (v : CheckResult) → IsVerdict (reply_for v).status
told_verdict (Yes k) = inl refl
told_verdict (No line reason) = inr refl
