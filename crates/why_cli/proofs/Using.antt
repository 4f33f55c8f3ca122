-- Which runs say how the program is used.
use Rattle.std.proofs.Common.{◌≡◌, ℕ, Bool, true, false, List, Option, Some, None, Result, Ok, Err, refl, ap, sym, ◌∙◌, subst}
use Rattle.log_checker.specs.declared.check_result.CheckResult.{CheckResult}
use Rattle.log_checker.specs.declared.check_result.CheckResult.TheVariants.{Yes, No}
use Rattle.clause_spec.specs.declared.question.BaseKind.TheVariants.{Plain}
use Rattle.proof_judge.specs.Judged.{judged}
use Rattle.proof_words.specs.Explained.{sentences_where_yes}
use Rattle.proof_words.specs.Meanings.{file_sentences}
use Rattle.rail_base.specs.declared.station.Station.{Station}
use Rattle.cli_shell.specs.declared.status.Status.{Status}
use Rattle.cli_shell.specs.declared.status.Status.TheVariants.{Usage}
use Rattle.cli_shell.specs.declared.input.InputFile.TheVariants as file
use Rattle.cli_shell.specs.Statuses.{is_answered}
use Rattle.cli_shell.specs.Answers.{ReplySeen, and_then, within_limit, design_in, unless_refused, verdict_status, with_routes}
use Rattle.proof_shell.specs.Answers.{for_file, with_clauses}
use Rattle.cli_shell.proofs.Using.{IsNoUsage, long_is_no_usage}
use Rattle.proof_shell.proofs.Using.{clauses_are_no_usage, files_are_no_usage}
use Rattle.rail_words.specs.declared.request.InTime.{InTime}
use Rattle.why_words.specs.Wanted.{Wanted}
use Rattle.design_table.specs.declared.fault.Code.{Code}
use Rattle.design_table.specs.declared.place.Place.{Place}
use Rattle.infra_reader.specs.Design.{design_of}
use Rattle.rail_outside.specs.Files.{Files}
use Rattle.named_files.specs.Replies.{Answers, names_of}
use Rattle.why_cli.specs.Answers.{sentences_or_shown, explained_against, text_explained, design_for, proof_for, explanation_reply}
use Rattle.why_cli.proofs.Timed.{design_no_usage}
use Rattle.why_cli.specs.Designs.{IsClausesSaid, IsDesignAnswer, IsDesignSaid, IsReadSaid, IsSaidForSteps, IsTextSaid}
use Rattle.why_cli.specs.Plans.{IsPlanAnswer, IsPlanFileAnswer, IsPlanSaid, IsReadPlanSaid, is_plan}
use Rattle.why_cli.specs.Replies.{IsAnswerOf, IsAnswerTo, IsBothAnswer, IsFileAnswer, IsOfKind, IsTextAnswer, PrintsAnswer, design_name, file_name}
use Rattle.named_files.proofs.Printing.{answered, answers_one}
use Rattle.rail_base.specs.declared.history.Verdict.{Verdict}
use Rattle.rail_base.specs.declared.history.Verdict.TheVariants as verdict
use Rattle.rail_base.specs.declared.plan.Command.{Command}
use Rattle.rail_plan.specs.Reading.{Refusal, plan_of}
use Rattle.cli_shell.specs.Shows.{verdict_at_horizon}
use Rattle.rail_spec.specs.Track.{routes_of}
use Rattle.why_cli.specs.Shows.{GivesNoSteps, IsUsageFor}

-- ---- answers of another status

-- what goes on from a reading of which no refusal is of that status
goes_on : {X : Type 0} (r : Result X ReplySeen) (next : X → ReplySeen) → IsNoUsage r → ((x : X) → (next x).status ≡ Usage → ⊥) → (unless_refused r next).status ≡ Usage → ⊥
goes_on (Ok x) next other h is = h x is
goes_on (Err a) next other h is = other a refl is

shown_other : (t : Option InTime) (design proof : List ℕ) (lines : List (List ℕ)) (shown : CheckResult) → (sentences_or_shown t design proof (sentences_where_yes lines shown)).status ≡ Usage → ⊥
shown_other t design proof lines (Yes k) is = absurd (cc)
shown_other t design proof lines (No line reason) is = absurd (cc)

proof_other : (t : Option InTime) (design : List ℕ) (n : ℕ) (d : Station) (bytes : List ℕ) → (proof_for t design (Some n) d bytes).status ≡ Usage → ⊥
proof_other t design n d bytes =
    goes_on (within_limit file.Proof bytes) (text_explained t design n d) (long_is_no_usage file.Proof bytes)
    (λ text. goes_on (for_file n d text) (λ same. explained_against t design d n text) (files_are_no_usage n d text) (λ same. shown_other t design text (file_sentences d text) (judged d n text)))

-- ---- answers on a design alone

answers_other : {X : Type 0} (reading : Result X ReplySeen) (right : X → ReplySeen → Type 0) (a : ReplySeen) → IsNoUsage reading → ((x : X) → right x a → a.status ≡ Usage → ⊥) → Answers reading right a → a.status ≡ Usage → ⊥
answers_other (Ok x) right a other h so is = h x so is
answers_other (Err refusal) right a other h so is = other refusal refl (ap (λ (b : ReplySeen). b.status) (sym so) ∙ is)

said_other : (d : Station) (a : ReplySeen) → IsDesignSaid d a → a.status ≡ Usage → ⊥
said_other d a so is = let done = so.status in absurd (cc)

clauses_other : (n : ℕ) (d : Station) (reading : Result Station ReplySeen) (a : ReplySeen) → IsNoUsage reading → IsClausesSaid n d reading a → a.status ≡ Usage → ⊥
clauses_other n d (Ok same) a other so is = said_other d a so is
clauses_other n d (Err refusal) a other so is = other refusal refl (sym so.status ∙ is)

steps_other : (steps : Option ℕ) (d : Station) (a : ReplySeen) → IsSaidForSteps steps d a → a.status ≡ Usage → ⊥
steps_other None d a so is = said_other d a so is
steps_other (Some n) d a so is = clauses_other n d (with_clauses Plain n d) a (clauses_are_no_usage n d) so is

read_other : (steps : Option ℕ) (text : List ℕ) (reading : Result Station (Code × Place)) (a : ReplySeen) → IsReadSaid steps text reading a → a.status ≡ Usage → ⊥
read_other steps text (Ok d) a so is = steps_other steps d a so is
read_other steps text (Err refusal) a so is = let refused = so.status in absurd (cc)

design_other : (steps : Option ℕ) (bytes : List ℕ) (a : ReplySeen) → IsDesignAnswer steps bytes a → a.status ≡ Usage → ⊥
design_other steps bytes a so is =
    answers_other (within_limit file.Design bytes) (IsTextSaid steps) a (long_is_no_usage file.Design bytes) (λ text. read_other steps text (and_then (design_of text) with_routes) a) so is

-- ---- answers on a plan

verdict_other : (v : Verdict) → verdict_status v ≡ Usage → ⊥
verdict_other (verdict.Met history tick) is = absurd (cc)
verdict_other (verdict.Failed history tick violation) is = absurd (cc)
verdict_other verdict.Undecided is = absurd (cc)

plan_other : (d : Station) (text : List ℕ) (reading : Result (List (List Command)) Refusal) (a : ReplySeen) → IsReadPlanSaid d text reading a → a.status ≡ Usage → ⊥
plan_other d text (Ok plan) a so is = verdict_other (verdict_at_horizon d plan) (ap (λ (b : ReplySeen). b.status) (sym so) ∙ is)
plan_other d text (Err refusal) a so is = let refused = so.status in absurd (cc)

file_other : (d : Station) (bytes : List ℕ) (a : ReplySeen) → IsPlanFileAnswer d bytes a → a.status ≡ Usage → ⊥
file_other d bytes a so is =
    answers_other (within_limit file.Proof bytes) (IsPlanAnswer d) a (long_is_no_usage file.Proof bytes)
    (λ text. answers_other (within_limit file.Plan text) (IsPlanSaid d) a (long_is_no_usage file.Plan text) (λ t. plan_other d t (plan_of d (routes_of d) t) a)) so is

-- ---- answers on a file

kind_other : (plan : Bool) (t : Option InTime) (design : List ℕ) (n : ℕ) (d : Station) (bytes : List ℕ) (a : ReplySeen) → IsOfKind plan t design (Some n) d bytes a → a.status ≡ Usage → ⊥
kind_other true t design n d bytes a so is = file_other d bytes a so is
kind_other false t design n d bytes a so is = proof_other t design n d bytes (ap (λ (b : ReplySeen). b.status) (sym so) ∙ is)

both_other : (n : ℕ) (t : Option InTime) (design_bytes bytes : List ℕ) (a : ReplySeen) → IsBothAnswer (Some n) t design_bytes bytes a → a.status ≡ Usage → ⊥
both_other n t design_bytes bytes a so is =
    answers_other (within_limit file.Design design_bytes) (λ text. IsTextAnswer (Some n) t text bytes) a (long_is_no_usage file.Design design_bytes)
    (λ text. answers_other (design_for (Some n) t text) (λ d. IsFileAnswer t text (Some n) d bytes) a (design_no_usage (Some n) t text) (λ d. kind_other (is_plan bytes) t text n d bytes a)) so is

-- of a file that is no plan it is the answer on a proof
answers_more : {X : Type 0} (reading : Result X ReplySeen) (right other : X → ReplySeen → Type 0) (a : ReplySeen) → ((x : X) → right x a → other x a) → Answers reading right a → Answers reading other a
answers_more (Ok x) right other a h so = h x so
answers_more (Err refusal) right other a h so = so

pub proof_answer : (steps : Option ℕ) (t : Option InTime) (design_bytes bytes : List ℕ) (a : ReplySeen) → is_plan bytes ≡ false → IsBothAnswer steps t design_bytes bytes a → a ≡ explanation_reply steps t design_bytes bytes
proof_answer steps t design_bytes bytes a no_plan so =
    let next = λ (text : List ℕ). unless_refused (design_for steps t text) (λ d. proof_for t text steps d bytes) in
    answers_one (within_limit file.Design design_bytes) next a
    (answers_more (within_limit file.Design design_bytes) (λ text. IsTextAnswer steps t text bytes) (λ text b. b ≡ next text) a
    (λ text h. answers_one (design_for steps t text) (λ d. proof_for t text steps d bytes) a
    (answers_more (design_for steps t text) (λ d. IsFileAnswer t text steps d bytes) (λ d b. b ≡ proof_for t text steps d bytes) a
    (λ d k. subst (λ (plan : Bool). IsOfKind plan t text steps d bytes a) no_plan k) h)) so)

-- ---- what is printed

answer_other : (steps : Option ℕ) (t : Option InTime) (f : Option (List ℕ)) (design_bytes bytes : List ℕ) (a : ReplySeen) → IsAnswerOf steps t f design_bytes bytes a → a.status ≡ Usage → steps ≡ None
answer_other None t f design_bytes bytes a so is = refl
answer_other (Some n) t None design_bytes bytes a so is = absurd (design_other (Some n) design_bytes a so is)
answer_other (Some n) t (Some name) design_bytes bytes a so is = absurd (both_other n t design_bytes bytes a so is)

gives_none : (wanted : Option Wanted) (design_bytes proof_bytes : List ℕ) (a : ReplySeen) → IsAnswerTo wanted design_bytes proof_bytes a → a.status ≡ Usage → GivesNoSteps wanted
gives_none None design_bytes proof_bytes a so is = tt
gives_none (Some w) design_bytes proof_bytes a so is = answer_other w.steps w.in_time w.file design_bytes proof_bytes a so is

module _ (known : Option Files) (wanted : Option Wanted) (s : Status) (text new_text : Option (List ℕ)) (pieces new_pieces : Option (List (List ℕ))) where
  pub usage_for : PrintsAnswer known wanted s text new_text pieces new_pieces → is_answered s ≡ true → IsUsageFor wanted s
  usage_for h is =
      let p = answered s text new_text pieces new_pieces (IsAnswerTo wanted h.first_bytes h.second_bytes) (names_of (design_name wanted) (file_name wanted)) h.reports is in
      record {
        silence = λ none. p.prints.status is ∙ ap (λ (b : ReplySeen). b.status) (subst (λ (w : Option Wanted). IsAnswerTo w h.first_bytes h.second_bytes p.answer) none p.is_right);
        cause = λ usage. gives_none wanted h.first_bytes h.second_bytes p.answer p.is_right (sym (p.prints.status is) ∙ usage);
      }
