-- Answers and those of a check of the same files.
use Rattle.std.proofs.Common.{◌≡◌, ◌≢◌, ℕ, List, take, drop, Option, Some, None, Result, Ok, Err, refl, ap, sym, ◌∙◌}
use Rattle.log_checker.specs.declared.check_result.CheckResult.{CheckResult}
use Rattle.log_checker.specs.declared.check_result.CheckResult.TheVariants.{Yes, No}
use Rattle.proof_judge.specs.Judged.{judged, past_plain}
use Rattle.proof_words.specs.Explained.{sentences_where_yes}
use Rattle.proof_words.specs.Meanings.{file_sentences}
use Rattle.rail_base.specs.declared.station.Station.{Station}
use Rattle.cli_shell.specs.declared.status.Status.TheVariants.{Done}
use Rattle.cli_shell.specs.declared.input.InputFile.TheVariants as file
use Rattle.cli_shell.specs.Statuses.{is_verdict}
use Rattle.proof_shell.specs.Texts.{yes_line}
use Rattle.cli_shell.specs.Answers.{ReplySeen, one_line, within_limit, and_then, design_in, unless_refused}
use Rattle.proof_shell.specs.Answers.{for_file, put_in, timed, reply_for, checked_against, with_proof, check_reply}
use Rattle.cli_shell.proofs.Deciding.{answered_next}
use Rattle.cli_shell.proofs.Passing.{passed, long_refuses}
use Rattle.proof_shell.proofs.Passing.{clauses_refuse, timed-is}
use Rattle.cli_shell.proofs.Refusing.{file_is}
use Rattle.why_cli.specs.Answers.{usage, sentences_or_shown, explained_against, text_explained, steps_for, steps_in, timed_for, design_for, explained_where, proof_for, explanation_reply}
use Rattle.why_cli.proofs.Timed.{goes_through, both_read, reads_for, same_design, design_no_verdict}
use Rattle.proof_shell.specs.Verdicts.{HasWithin}
use Rattle.rail_words.specs.declared.request.InTime.{InTime}
use Rattle.why_cli.specs.Laws.{RefusesAsCheck, ExplainsWhereYes, SaysDigests, HeadsNameSteps, NoStepsIsUsage}

-- ---- a check, with the design and its time read at once

after_both : {X : Type 0} (r : Result X ReplySeen) (f g : X → ReplySeen) → ((x : X) → r ≡ Ok x → f x ≡ g x) → unless_refused r f ≡ unless_refused r g
after_both (Ok x) f g h = h x refl
after_both (Err a) f g h = refl

-- what is left with the design's text
abbrev text_checked : ℕ → Option InTime → List ℕ → List ℕ → ReplySeen
text_checked n t proof_bytes text = unless_refused (design_for (Some n) t text) (λ e. with_proof n e proof_bytes)

abbrev checked_at_once : ℕ → Option InTime → List ℕ → List ℕ → ReplySeen
checked_at_once n t design_bytes proof_bytes = unless_refused (within_limit file.Design design_bytes) (text_checked n t proof_bytes)

checks_so : (n : ℕ) (t : Option InTime) (design_bytes proof_bytes : List ℕ) → checked_at_once n t design_bytes proof_bytes ≡ check_reply n t design_bytes proof_bytes
checks_so n t design_bytes proof_bytes =
    after_both (within_limit file.Design design_bytes) (text_checked n t proof_bytes) (λ text. unless_refused (design_in text) (λ d. unless_refused (timed n t d) (λ e. with_proof n e proof_bytes)))
    (λ text is. goes_through (design_in text) (timed_for (Some n) t) (λ e. with_proof n e proof_bytes))

-- ---- what a check does not answer with yes

-- where both go on from the same reading, and one says what the other says unless that is yes, so it is of both
goes_on : {X : Type 0} (r : Result X ReplySeen) (f g : X → ReplySeen) → ((x : X) → (g x).status ≢ Done → f x ≡ g x) → (unless_refused r g).status ≢ Done → unless_refused r f ≡ unless_refused r g
goes_on (Ok x) f g h other = h x other
goes_on (Err a) f g h other = refl

shown_so : (t : Option InTime) (design proof : List ℕ) (lines : List (List ℕ)) (shown : CheckResult) → (reply_for shown).status ≢ Done → sentences_or_shown t design proof (sentences_where_yes lines shown) ≡ reply_for shown
shown_so t design proof lines (Yes k) other = absurd (other refl)
shown_so t design proof lines (No line reason) other = refl

proof_refused : (t : Option InTime) (design : List ℕ) (n : ℕ) (d : Station) (bytes : List ℕ) → (with_proof n d bytes).status ≢ Done → proof_for t design (Some n) d bytes ≡ with_proof n d bytes
proof_refused t design n d bytes other =
    goes_on (within_limit file.Proof bytes) (text_explained t design n d) (λ text. unless_refused (for_file n d text) (λ same. checked_against d n text))
    (λ text. goes_on (for_file n d text) (λ same. explained_against t design d n text) (λ same. checked_against d n text) (λ same. shown_so t design text (file_sentences d text) (judged d n text))) other

-- what is left of the answer with the design's text
abbrev text_said : Option ℕ → Option InTime → List ℕ → List ℕ → ReplySeen
text_said steps t proof_bytes text = unless_refused (design_for steps t text) (λ d. proof_for t text steps d proof_bytes)

refused_at_once : (n : ℕ) (t : Option InTime) (design_bytes proof_bytes : List ℕ) → (checked_at_once n t design_bytes proof_bytes).status ≢ Done → explanation_reply (Some n) t design_bytes proof_bytes ≡ checked_at_once n t design_bytes proof_bytes
refused_at_once n t design_bytes proof_bytes other =
    goes_on (within_limit file.Design design_bytes) (text_said (Some n) t proof_bytes) (text_checked n t proof_bytes)
    (λ text. goes_on (design_for (Some n) t text) (λ d. proof_for t text (Some n) d proof_bytes) (λ d. with_proof n d proof_bytes) (λ d. proof_refused t text n d proof_bytes)) other

pub refuses_as_check : RefusesAsCheck
refuses_as_check n t design_bytes proof_bytes other =
    let so = checks_so n t design_bytes proof_bytes in
    refused_at_once n t design_bytes proof_bytes (λ is. other (ap (λ (a : ReplySeen). a.status) (sym so) ∙ is)) ∙ so

-- ---- what it answers with yes

-- the file shows k
record Shows (v : CheckResult) : Type 0 where
  steps : ℕ
  is : v ≡ Yes steps

shows : (v : CheckResult) → (reply_for v).status ≡ Done → Shows v
shows (Yes k) done = record { steps = k; is = refl }
shows (No line reason) done = absurd (cc)

-- the text of a proof shows that there is no plan, and the answer says so
record ProofPasses (n : ℕ) (t : Option InTime) (design : List ℕ) (d : Station) (proof_bytes : List ℕ) : Type 0 where
  steps : ℕ
  is_shown : judged d n proof_bytes ≡ Yes steps
  is_checked : with_proof n d proof_bytes ≡ one_line Done (yes_line steps)
  answer : proof_for t design (Some n) d proof_bytes ≡ sentences_or_shown t design proof_bytes (Ok (steps, file_sentences d proof_bytes))

proof_passes : (n : ℕ) (t : Option InTime) (design : List ℕ) (d : Station) (proof_bytes : List ℕ) → (with_proof n d proof_bytes).status ≡ Done → ProofPasses n t design d proof_bytes
proof_passes n t design d proof_bytes done =
    let fits = passed (within_limit file.Proof proof_bytes) (λ x. unless_refused (for_file n d x) (λ same. checked_against d n x)) (long_refuses file.Proof proof_bytes) (ap is_verdict done) in
    let few = passed (for_file n d fits.read) (λ same. checked_against d n fits.read) (clauses_refuse d (past_plain d n fits.read)) fits.verdict in
    let bytes : proof_bytes ≡ fits.read = file_is file.Proof proof_bytes fits.read fits.is in
    let all : with_proof n d proof_bytes ≡ checked_against d n fits.read = fits.comes ∙ few.comes in
    let shown = shows (judged d n fits.read) (ap (λ (a : ReplySeen). a.status) (sym all) ∙ done) in
    record {
      steps = shown.steps;
      is_shown = ap (judged d n) bytes ∙ shown.is;
      is_checked = all ∙ ap reply_for shown.is;
      answer =
          answered_next (within_limit file.Proof proof_bytes) fits.read (text_explained t design n d) fits.is
          ∙ (answered_next (for_file n d fits.read) few.read (λ same. explained_against t design d n fits.read) few.is
          ∙ (ap (λ v. sentences_or_shown t design fits.read (sentences_where_yes (file_sentences d fits.read) v)) shown.is
          ∙ ap (λ (b : List ℕ). sentences_or_shown t design b (Ok (shown.steps, file_sentences d b))) (sym bytes)));
    }

-- the files are read, and the proof shows that there is no plan: of the design with the time put in
pub record Passes (n : ℕ) (t : Option InTime) (design_bytes proof_bytes : List ℕ) : Type 0 where
  pub read : Station
  pub text : within_limit file.Design design_bytes ≡ Ok design_bytes
  pub reads : design_in design_bytes ≡ Ok read
  pub has_within : HasWithin t read
  pub steps : ℕ
  pub is_shown : judged (put_in t read) n proof_bytes ≡ Yes steps
  pub is_checked : check_reply n t design_bytes proof_bytes ≡ one_line Done (yes_line steps)
  pub answer : explanation_reply (Some n) t design_bytes proof_bytes ≡ sentences_or_shown t design_bytes proof_bytes (Ok (steps, file_sentences (put_in t read) proof_bytes))

-- with the design's text and the design with the time put in
passes_so : (n : ℕ) (t : Option InTime) (design_bytes proof_bytes : List ℕ) (d : Station) → within_limit file.Design design_bytes ≡ Ok design_bytes → design_in design_bytes ≡ Ok d → HasWithin t d → ProofPasses n t design_bytes (put_in t d) proof_bytes → Passes n t design_bytes proof_bytes
passes_so n t design_bytes proof_bytes d fits reads has p =
    let here : design_for (Some n) t design_bytes ≡ Ok (put_in t d) = reads_for (Some n) t design_bytes d reads has in
    record {
      read = d;
      text = fits;
      reads = reads;
      has_within = has;
      steps = p.steps;
      is_shown = p.is_shown;
      is_checked =
          sym (checks_so n t design_bytes proof_bytes)
          ∙ (answered_next (within_limit file.Design design_bytes) design_bytes (text_checked n t proof_bytes) fits
          ∙ (answered_next (design_for (Some n) t design_bytes) (put_in t d) (λ e. with_proof n e proof_bytes) here ∙ p.is_checked));
      answer =
          answered_next (within_limit file.Design design_bytes) design_bytes (text_said (Some n) t proof_bytes) fits
          ∙ (answered_next (design_for (Some n) t design_bytes) (put_in t d) (λ e. proof_for t design_bytes (Some n) e proof_bytes) here ∙ p.answer);
    }

pub passes : (n : ℕ) (t : Option InTime) (design_bytes proof_bytes : List ℕ) → (check_reply n t design_bytes proof_bytes).status ≡ Done → Passes n t design_bytes proof_bytes
passes n t design_bytes proof_bytes checked =
    let done : (checked_at_once n t design_bytes proof_bytes).status ≡ Done = ap (λ (a : ReplySeen). a.status) (checks_so n t design_bytes proof_bytes) ∙ checked in
    let one = passed (within_limit file.Design design_bytes) (text_checked n t proof_bytes) (long_refuses file.Design design_bytes) (ap is_verdict done) in
    let two = passed (design_for (Some n) t one.read) (λ e. with_proof n e proof_bytes) (design_no_verdict (Some n) t one.read) one.verdict in
    let both = both_read (design_in one.read) (timed_for (Some n) t) two.read two.is in
    let put = timed-is n t both.read two.read both.second in
    let text : design_bytes ≡ one.read = file_is file.Design design_bytes one.read one.is in
    let is_done : (with_proof n two.read proof_bytes).status ≡ Done = ap (λ (a : ReplySeen). a.status) (sym (one.comes ∙ two.comes)) ∙ done in
    passes_so n t design_bytes proof_bytes both.read (one.is ∙ ap (λ (x : List ℕ). Ok x) (sym text)) (ap design_in text ∙ both.first) put.has
    (proof_passes n t design_bytes (put_in t both.read) proof_bytes (ap (λ (e : Station). (with_proof n e proof_bytes).status) put.is ∙ is_done))

pub explains_where_yes : ExplainsWhereYes
explains_where_yes n t design_bytes proof_bytes d reads done =
    let p = passes n t design_bytes proof_bytes done in
    let one : Ok p.read ≡ Ok d = sym p.reads ∙ reads in
    let same : p.read ≡ d = cc in
    record {
      steps = p.steps;
      checked = p.is_checked;
      answer = p.answer ∙ ap (λ (e : Station). sentences_or_shown t design_bytes proof_bytes (Ok (p.steps, file_sentences (put_in t e) proof_bytes))) same;
    }

pub says_digests : SaysDigests
says_digests n t design_bytes proof_bytes done =
    let p = passes n t design_bytes proof_bytes done in
    ap (λ (a : ReplySeen). take 2 (drop 1 a.lines)) p.answer

-- ---- the status

same_status : {X : Type 0} (r : Result X ReplySeen) (f g : X → ReplySeen) → ((x : X) → (f x).status ≡ (g x).status) → (unless_refused r f).status ≡ (unless_refused r g).status
same_status (Ok x) f g h = h x
same_status (Err a) f g h = refl

shown_status : (t : Option InTime) (design proof : List ℕ) (lines : List (List ℕ)) (shown : CheckResult) → (sentences_or_shown t design proof (sentences_where_yes lines shown)).status ≡ (reply_for shown).status
shown_status t design proof lines (Yes k) = refl
shown_status t design proof lines (No line reason) = refl

proof_status : (t : Option InTime) (design : List ℕ) (n : ℕ) (d : Station) (bytes : List ℕ) → (proof_for t design (Some n) d bytes).status ≡ (with_proof n d bytes).status
proof_status t design n d bytes =
    same_status (within_limit file.Proof bytes) (text_explained t design n d) (λ text. unless_refused (for_file n d text) (λ same. checked_against d n text))
    (λ text. same_status (for_file n d text) (λ same. explained_against t design d n text) (λ same. checked_against d n text) (λ same. shown_status t design text (file_sentences d text) (judged d n text)))

-- it is that of a check
pub status_as_check : (n : ℕ) (t : Option InTime) (design_bytes proof_bytes : List ℕ) → (explanation_reply (Some n) t design_bytes proof_bytes).status ≡ (check_reply n t design_bytes proof_bytes).status
status_as_check n t design_bytes proof_bytes =
    same_status (within_limit file.Design design_bytes) (text_said (Some n) t proof_bytes) (text_checked n t proof_bytes)
    (λ text. same_status (design_for (Some n) t text) (λ d. proof_for t text (Some n) d proof_bytes) (λ d. with_proof n d proof_bytes) (λ d. proof_status t text n d proof_bytes))
    ∙ ap (λ (a : ReplySeen). a.status) (checks_so n t design_bytes proof_bytes)

-- ---- steps that the head names

module _ (t : Option InTime) (design : List ℕ) (bytes : List ℕ) (fits : within_limit file.Proof bytes ≡ Ok bytes) (d : Station) where
  read_so : (steps : Option ℕ) → proof_for t design steps d bytes ≡ explained_where t design (steps_for steps bytes) d bytes
  read_so steps = answered_next (within_limit file.Proof bytes) bytes (λ text. explained_where t design (steps_for steps text) d text) fits

  pub as_given : (n : ℕ) → steps_in bytes ≡ Some n → proof_for t design None d bytes ≡ proof_for t design (Some n) d bytes
  as_given n named = read_so None ∙ (ap (λ s. explained_where t design s d bytes) named ∙ sym (read_so (Some n)))

  pub not_named : steps_in bytes ≡ None → proof_for t design None d bytes ≡ usage
  not_named none = read_so None ∙ ap (λ s. explained_where t design s d bytes) none

text_named : (n : ℕ) (t : Option InTime) (text proof_bytes : List ℕ) → within_limit file.Proof proof_bytes ≡ Ok proof_bytes → steps_in proof_bytes ≡ Some n → ((d : Station) → design_in text ≡ Ok d → HasWithin t d) → text_said None t proof_bytes text ≡ text_said (Some n) t proof_bytes text
text_named n t text proof_bytes fits named has =
    after_both (design_for None t text) (λ d. proof_for t text None d proof_bytes) (λ d. proof_for t text (Some n) d proof_bytes) (λ d is. as_given t text proof_bytes fits d n named)
    ∙ ap (λ r. unless_refused r (λ d. proof_for t text (Some n) d proof_bytes)) (same_design None (Some n) t (design_in text) has)

pub heads_name_steps : HeadsNameSteps
heads_name_steps n t design_bytes proof_bytes fits named has =
    after_both (within_limit file.Design design_bytes) (text_said None t proof_bytes) (text_said (Some n) t proof_bytes)
    (λ text is. text_named n t text proof_bytes fits named (λ d reads. has d (ap design_in (file_is file.Design design_bytes text is) ∙ reads)))

pub no_steps_is_usage : NoStepsIsUsage
no_steps_is_usage t design_bytes proof_bytes d short reads has fits none =
    answered_next (within_limit file.Design design_bytes) design_bytes (text_said None t proof_bytes) short
    ∙ (answered_next (design_for None t design_bytes) (put_in t d) (λ e. proof_for t design_bytes None e proof_bytes) (reads_for None t design_bytes d reads has)
    ∙ not_named t design_bytes proof_bytes fits (put_in t d) none)
