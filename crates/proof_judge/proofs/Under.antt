-- What a file shows under a head, by a base that was made of the design.
use Rattle.std.proofs.Common.{◌≡◌, ℕ, true, false, not, if◌then◌else◌, is_some, Option, None, Some, List, Result, IfErr, IfOk, sym, ap, ◌∙◌, subst}
use Rattle.log_checker.specs.declared.check_result.CheckResult.{CheckResult}
use Rattle.log_checker.specs.declared.check_result.CheckResult.TheVariants.{No}
use Rattle.log_checker.specs.declared.check_result.Reason.TheVariants.{HeadDiffers, BaseTooLarge}
use Rattle.log_checker.specs.Verdict.{log_verdict}
use Rattle.clause_spec.specs.declared.question.Question.{Question}
use Rattle.clause_spec.specs.declared.question.VariableCounts.{VariableCounts}
use Rattle.clause_spec.specs.Clauses.{past_limit}
use Rattle.proof_log.specs.declared.head.Head.{Head}
use Rattle.proof_log.specs.declared.head.Head.TheVariants.{Of}
use Rattle.proof_log.specs.Heads.{base_of}
use Rattle.clause_spec.specs.declared.question.BaseKind.{BaseKind}
use Rattle.log_checker.specs.Verdict.{head_in}
use Rattle.plan_encoding.specs.Bases.{IsBaseOf}
use Rattle.plan_encoding.specs.declared.numbering.Base.{Base}
use Rattle.plan_encoding.specs.declared.sink.BaseFault.{BaseFault}
use Rattle.rail_base.specs.declared.route.Route.{Route}
use Rattle.rail_base.specs.declared.station.Station.{Station}
use Rattle.rail_spec.specs.Track.{routes_of}
use Rattle.rail_text.specs.Pieces.{pieces}
use Rattle.proof_judge.specs.Outcomes.{IsPast}
use Rattle.sat_clause.specs.Clauses.{Store}
use Rattle.proof_judge.specs.Judged.{all_live, base_named, clauses_under, is_asked_of, judged_by, judged_under, past_first, past_plain, refuted, variables_under}

module _ {E : Type 0} (d : Station) (n : ℕ) (bytes : List ℕ) (r : Result CheckResult E) where
  -- what was shown over these clauses and variables
  pub under : (head : Head) (steps : ℕ) (variables : VariableCounts) (clauses : Store) → steps ≡ n → variables ≡ variables_under head d n → clauses ≡ all_live (clauses_under head d n)
      → IfOk r (λ shown. shown ≡ log_verdict head (refuted (base_of head) d steps) variables clauses bytes) → IfOk r (λ shown. shown ≡ judged_under head d n bytes)
  under head steps variables clauses s v c h =
      subst (λ m. IfOk r (λ shown. shown ≡ log_verdict head (refuted (base_of head) d m) (variables_under head d n) (all_live (clauses_under head d n)) bytes)) s
      (subst (λ (m : VariableCounts). IfOk r (λ shown. shown ≡ log_verdict head (refuted (base_of head) d steps) m (all_live (clauses_under head d n)) bytes)) v
      (subst (λ (z : Store). IfOk r (λ shown. shown ≡ log_verdict head (refuted (base_of head) d steps) variables z bytes)) c h))

  -- under a head that names this question
  pub under_question : (q : Question) (steps : ℕ) → steps ≡ n → is_asked_of q d n ≡ true → past_limit 16000000 0 (clauses_under (Of q) d n) ≡ None
      → IfOk r (λ shown. shown ≡ judged_under (Of q) d steps bytes) → IfOk r (λ shown. shown ≡ judged_by d n bytes (Some (Of q)))
  under_question q steps s asked fits h =
      let same : judged_by d n bytes (Some (Of q)) ≡ judged_under (Of q) d n bytes =
      ap (λ b. if not b then No 1 HeadDiffers else if is_some (past_limit 16000000 0 (clauses_under (Of q) d n)) then No 1 BaseTooLarge else judged_under (Of q) d n bytes) asked
      ∙ ap (λ o. if is_some o then No 1 BaseTooLarge else judged_under (Of q) d n bytes) fits in
      subst (λ z. IfOk r (λ shown. shown ≡ z)) (sym same) (subst (λ k. IfOk r (λ shown. shown ≡ judged_under (Of q) d k bytes)) s h)

  pub by_head : (head found : Option Head) → head ≡ found → IfOk r (λ shown. shown ≡ judged_by d n bytes found) → IfOk r (λ shown. shown ≡ judged_by d n bytes head)
  by_head head found e h = subst (λ o. IfOk r (λ shown. shown ≡ judged_by d n bytes o)) (sym e) h

module _ (d : Station) (n : ℕ) (bytes : List ℕ) (q : Question) where
  -- a head that names another question
  pub differs : is_asked_of q d n ≡ false → No 1 HeadDiffers ≡ judged_by d n bytes (Some (Of q))
  differs other =
      sym (ap (λ b. if not b then No 1 HeadDiffers else if is_some (past_limit 16000000 0 (clauses_under (Of q) d n)) then No 1 BaseTooLarge else judged_under (Of q) d n bytes) other)

  -- too many clauses
  pub too_large : (k : ℕ) → is_asked_of q d n ≡ true → past_limit 16000000 0 (clauses_under (Of q) d n) ≡ Some k → No 1 BaseTooLarge ≡ judged_by d n bytes (Some (Of q))
  too_large k asked large =
      sym (ap (λ b. if not b then No 1 HeadDiffers else if is_some (past_limit 16000000 0 (clauses_under (Of q) d n)) then No 1 BaseTooLarge else judged_under (Of q) d n bytes) asked
      ∙ ap (λ o. if is_some o then No 1 BaseTooLarge else judged_under (Of q) d n bytes) large)

-- ---- which clauses come first

module _ (d : Station) (n : ℕ) (bytes : List ℕ) (routes : List Route) (table : routes ≡ routes_of d) (head : Option Head) (is : head_in (pieces bytes) ≡ head) where
  past_same : past_first (base_named head) d routes n ≡ past_plain d n bytes
  past_same = ap (λ rs. past_first (base_named head) d rs n) table ∙ ap (λ h. past_first (base_named h) d (routes_of d) n) (sym is)

  -- those of the base that the file's head names
  pub fits_so : {X E : Type 0} (r : Result X E) → IfOk r (λ x. past_first (base_named head) d routes n ≡ None) → IfOk r (λ x. past_plain d n bytes ≡ None)
  fits_so r h = subst (λ o. IfOk r (λ x. o ≡ None)) past_same h

  pub fault_so : {X : Type 0} (r : Result X BaseFault) → IfErr r (IsPast (past_first (base_named head) d routes n)) → IfErr r (IsPast (past_plain d n bytes))
  fault_so r h = subst (λ o. IfErr r (IsPast o)) past_same h

-- a base is one for as many steps as it has
pub of_its_steps : (kind : BaseKind) (d : Station) (routes : List Route) (n : ℕ) (b : Base) → IsBaseOf kind d routes n b → IsBaseOf kind d routes b.numbering.steps b
of_its_steps kind d routes n b is = subst (λ m. IsBaseOf kind d routes m b) (sym is.numbering.steps) is
