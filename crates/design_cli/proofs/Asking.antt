-- What is asked for.
use Rattle.std.proofs.Common.{◌≡◌, ℕ, ◌≤◌, true, false, List, inl, inr, Option, Some, None, Result, Ok, Err, refl, ap, sym, ◌∙◌, subst}
use Rattle.std.specs.Prelude.{◌↔◌}
use Rattle.design_text.proofs.Lengths.{texts_are_short}
use Rattle.design_text.proofs.ReadingBack.{read_back}
use Rattle.named_plans.specs.Numbered.{named_plan_of}
use Rattle.rail_base.specs.declared.plan.Command.{Command}
use Rattle.rail_base.specs.declared.station.Station.{Station}
use Rattle.rail_plan.specs.Reading.{Refusal}
use Rattle.rail_base.specs.Admission.{is_admitted}
use Rattle.std.specs.List.{concat}
use Rattle.rail_outside.specs.Files.{Files}
use Rattle.rail_outside.specs.Growth.{grown}
use Rattle.cli_shell.specs.declared.status.Status.{Status}
use Rattle.cli_shell.specs.declared.status.Status.TheVariants.{Done, PlanRefused, Usage}
use Rattle.cli_shell.specs.declared.input.InputFile.TheVariants as file
use Rattle.cli_shell.specs.Answers.{ReplySeen, and_then, design_in, one_line, plan_or_answer, unless_refused, within_limit}
use Rattle.cli_shell.specs.Statuses.{is_answered}
use Rattle.cli_shell.specs.Texts.{plan_refused_line}
use Rattle.cli_shell.proofs.Using.{IsNoUsage, long_is_no_usage, design_is_no_usage, plan_is_no_usage}
use Rattle.workload.specs.Made.{made}
use Rattle.workload.proofs.Admitting.{made_admitted}
use Rattle.design_cli.specs.Answers.{answer_given, answer_to, design_asked, design_in_file, design_used, names_in, plan_file_answer, plan_given, plan_printed, plan_text_answer, printed, text_answer}
use Rattle.design_cli.specs.Reports.{PrintsDesign, PrintsSome, Reports}
use Rattle.design_cli.specs.declared.wanted.Form.{Form}
use Rattle.design_cli.specs.declared.wanted.Form.TheVariants.{Names, Numbers}
use Rattle.design_cli.specs.Wanted.{IsInRange, Wanted, in_file, of_plan, of_trial}

-- ---- the design that is printed

-- the answer for the design that is asked for
next_answer : {X : Type 0} (r : Result X ReplySeen) (read : X → Result Station ReplySeen) (answer : X → ReplySeen) (d : Station) → and_then r read ≡ Ok d → ((x : X) → read x ≡ Ok d → answer x ≡ printed d) → unless_refused r answer ≡ printed d
next_answer (Ok x) read answer d e each = each x e
next_answer (Err a) read answer d e each = absurd (cc)

text_is : (text : List ℕ) (d : Station) → design_in text ≡ Ok d → text_answer text ≡ printed d
text_is text d e = ap (λ r. unless_refused r printed) e

pub answer_is : (files : Files) (wanted : Option Wanted) (d : Station) → design_asked files wanted ≡ Ok d → answer_to files wanted ≡ printed d
answer_is files None d e = absurd (cc)
answer_is files (Some (in_file name)) d e = next_answer (within_limit file.Design (files name)) design_in text_answer d e (λ text is. text_is text d is)
answer_is files (Some (of_trial seed size)) d e = let same : made seed size ≡ d = cc in ap printed same
answer_is files (Some (of_plan form design plan)) d e = absurd (cc)

module _ (s : Status) (text new_text : Option (List ℕ)) (pieces new_pieces : Option (List (List ℕ))) where
  pub prints_design : (a : ReplySeen) (names : List (List ℕ)) (d : Station) → a ≡ printed d → is_admitted d ≡ true → Reports a names s text new_text pieces new_pieces → s ≡ Done → PrintsDesign d text new_text
  prints_design a names d is admitted (inl h) done = record {
    written = subst (λ (b : ReplySeen). (new_text ≡ grown text (concat b.lines))) is (h.prints.written (ap is_answered done));
    reads_back = read_back d admitted;
    fits = texts_are_short d admitted;
  }
  prints_design a names d is admitted (inr h) done = let e : false ≡ true = sym h.prints.unanswered ∙ ap is_answered done in absurd (cc)

-- the station of a trial is admitted
pub trial_admitted : (seed size : ℕ) (d : Station) → (1 ≤ size) × (size ≤ 6) → made seed size ≡ d → is_admitted d ≡ true
trial_admitted seed size d range is = subst (λ (e : Station). is_admitted e ≡ true) is (made_admitted seed size range.0 range.1)

-- its size is in range
pub in_range : (w : Wanted) (seed size : ℕ) → w ≡ of_trial seed size → IsInRange w → (1 ≤ size) × (size ≤ 6)
in_range w seed size is h = subst IsInRange is h

-- it is the one that is made
pub trial_made : (files : Files) (seed size : ℕ) (d : Station) → design_used files (Some (of_trial seed size)) ≡ Ok d → made seed size ≡ d
trial_made files seed size d is = cc

-- a design that is printed is one that is used
pub printed_is_used : (files : Files) (wanted : Option Wanted) (d : Station) → design_asked files wanted ≡ Ok d → design_used files wanted ≡ Ok d
printed_is_used files None d e = absurd (cc)
printed_is_used files (Some (in_file name)) d e = e
printed_is_used files (Some (of_trial seed size)) d e = e
printed_is_used files (Some (of_plan form design plan)) d e = absurd (cc)

-- the design of a plan is that of its file
pub plan_used : (files : Files) (wanted : Option Wanted) (form : Form) (design plan : List ℕ) (d : Station) → wanted ≡ Some (of_plan form design plan) → design_in_file (files design) ≡ Ok d → design_used files wanted ≡ Ok d
plan_used files wanted form design plan d is e = ap (design_used files) is ∙ e

-- ---- how the program is used

other_status : {X : Type 0} (r : Result X ReplySeen) (next : X → ReplySeen) → IsNoUsage r → ((x : X) → (next x).status ≡ Usage → ⊥) → (unless_refused r next).status ≡ Usage → ⊥
other_status (Ok x) next refusals others is = others x is
other_status (Err a) next refusals others is = refusals a refl is

printed_other : (d : Station) → (printed d).status ≡ Usage → ⊥
printed_other d is = let kind : Done ≡ Usage = is in absurd (cc)

text_other : (text : List ℕ) → (text_answer text).status ≡ Usage → ⊥
text_other text = other_status (design_in text) printed (design_is_no_usage text) printed_other

file_other : (bytes : List ℕ) → IsNoUsage (design_in_file bytes)
file_other bytes = go (within_limit file.Design bytes) (long_is_no_usage file.Design bytes)
  where
    go : (r : Result (List ℕ) ReplySeen) → IsNoUsage r → IsNoUsage (and_then r design_in)
    go (Ok text) h a e is = design_is_no_usage text a e is
    go (Err x) h a e is = h a (let same : x ≡ a = cc in ap Err same) is

-- no refusal of a plan has the status of usage
refused_plan : (d : Station) (r : Result (List (List Command)) Refusal) → IsNoUsage (plan_or_answer d r)
refused_plan d (Ok plan) a e is = absurd (cc)
refused_plan d (Err x) a e is =
    let same : one_line PlanRefused (plan_refused_line d x.0 x.1) ≡ a = cc in
    let kind : PlanRefused ≡ Usage = ap (λ (b : ReplySeen). b.status) same ∙ is in
    absurd (cc)

plan_other : (form : Form) (d : Station) (text : List ℕ) → IsNoUsage (plan_given form d text)
plan_other Names d text = plan_is_no_usage d text
plan_other Numbers d text = refused_plan d (named_plan_of d text)

plan_printed_other : (form : Form) (d : Station) (plan : List (List Command)) → (plan_printed form d plan).status ≡ Usage → ⊥
plan_printed_other form d plan is = let kind : Done ≡ Usage = is in absurd (cc)

given_other : (bytes plan_bytes : List ℕ) (w : Wanted) → (answer_given bytes plan_bytes (Some w)).status ≡ Usage → ⊥
given_other bytes plan_bytes (in_file name) = other_status (within_limit file.Design bytes) text_answer (long_is_no_usage file.Design bytes) text_other
given_other bytes plan_bytes (of_trial seed size) = printed_other (made seed size)
given_other bytes plan_bytes (of_plan form design plan) =
    other_status (design_in_file bytes) (plan_file_answer form plan_bytes) (file_other bytes)
    (λ d. other_status (within_limit file.Plan plan_bytes) (plan_text_answer form d) (long_is_no_usage file.Plan plan_bytes)
    (λ text. other_status (plan_given form d text) (plan_printed form d) (plan_other form d text) (plan_printed_other form d)))

silent : (bytes plan_bytes : List ℕ) (wanted : Option Wanted) → (answer_given bytes plan_bytes wanted).status ≡ Usage → wanted ≡ None
silent bytes plan_bytes None is = refl
silent bytes plan_bytes (Some w) is = absurd (given_other bytes plan_bytes w is)

used : (bytes plan_bytes : List ℕ) (wanted : Option Wanted) → wanted ≡ None → (answer_given bytes plan_bytes wanted).status ≡ Usage
used bytes plan_bytes None is = refl
used bytes plan_bytes (Some w) is = absurd (cc)

module _ (wanted : Option Wanted) (s : Status) (text new_text : Option (List ℕ)) (pieces new_pieces : Option (List (List ℕ))) where
  pub usage_for : PrintsSome wanted s text new_text pieces new_pieces → is_answered s ≡ true → (s ≡ Usage) ↔ (wanted ≡ None)
  usage_for p answered = go p.reports
    where
      go : Reports (answer_given p.bytes p.plan_bytes wanted) (names_in wanted) s text new_text pieces new_pieces → (s ≡ Usage) ↔ (wanted ≡ None)
      go (inl h) = (λ is. silent p.bytes p.plan_bytes wanted (sym (h.prints.status answered) ∙ is), λ none. h.prints.status answered ∙ used p.bytes p.plan_bytes wanted none)
      go (inr h) = let e : false ≡ true = sym h.prints.unanswered ∙ answered in absurd (cc)
