-- Answers, and those of `rcv routes` for the same file.
use Rattle.std.proofs.Common.{◌≡◌, ◌≢◌, ℕ, true, false, List, Result, Ok, Err, refl, ap, ◌∙◌}
use Rattle.infra_reader.specs.Design.{design_of}
use Rattle.rail_base.specs.declared.history.Verdict.{Verdict}
use Rattle.rail_base.specs.declared.history.Verdict.TheVariants.{Met, Failed, Undecided}
use Rattle.rail_base.specs.declared.plan.Command.{Command}
use Rattle.rail_base.specs.declared.station.Station.{Station}
use Rattle.rail_plan.specs.Reading.{Refusal, plan_of}
use Rattle.rail_spec.specs.Track.{routes_of}
use Rattle.cli_shell.specs.declared.status.Status.TheVariants.{Done, PlanRefused}
use Rattle.cli_shell.specs.declared.input.InputFile.TheVariants as file
use Rattle.cli_shell.specs.Statuses.{is_verdict}
use Rattle.cli_shell.specs.Answers.{ReplySeen, and_then, design_in, one_line, plan_in, plan_or_answer, planned, routes_answer, unless_refused, verdict_reply, verdict_status, with_routes, within_limit}
use Rattle.cli_shell.specs.Shows.{verdict_at_horizon}
use Rattle.cli_shell.specs.Texts.{plan_refused_line}
use Rattle.cli_shell.proofs.Deciding.{answered_next}
use Rattle.cli_shell.proofs.Passing.{passed, long_refuses, design_refuses}
use Rattle.cli_shell.proofs.Refusing.{file_is}
use Rattle.design_cli.specs.declared.wanted.Form.{Form}
use Rattle.design_cli.specs.declared.wanted.Form.TheVariants.{Names}
use Rattle.design_cli.specs.Answers.{design_in_file, plan_answer, plan_file_answer, plan_given, plan_printed, plan_text_answer, printed, text_answer}
use Rattle.design_cli.specs.Laws.{PlansRefuseAsSimulate, PrintsPlansWhereThereIsAVerdict, PrintsWhereRoutesAreListed, RefusesAsRoutes}
use Rattle.design_cli.proofs.Reading.{from_text, none_in_file}

listed_or : (q : Result Station ReplySeen) → (unless_refused q routes_answer).status ≢ Done → unless_refused q printed ≡ unless_refused q routes_answer
listed_or (Ok d) other = absurd (other refl)
listed_or (Err a) other = refl

text_or : (r : Result (List ℕ) ReplySeen) → (unless_refused r (λ text. unless_refused (design_in text) routes_answer)).status ≢ Done → unless_refused r text_answer ≡ unless_refused r (λ text. unless_refused (design_in text) routes_answer)
text_or (Ok text) other = listed_or (design_in text) other
text_or (Err a) other = refl

pub refuses_as_routes : RefusesAsRoutes
refuses_as_routes bytes other = text_or (within_limit file.Design bytes) other

pub prints_where_routes_are_listed : PrintsWhereRoutesAreListed
prints_where_routes_are_listed bytes done =
    let one = passed (within_limit file.Design bytes) (λ text. unless_refused (design_in text) routes_answer) (long_refuses file.Design bytes) (ap is_verdict done) in
    let two = passed (design_in one.read) routes_answer (design_refuses (and_then (design_of one.read) with_routes)) one.verdict in
    let text : bytes ≡ one.read = file_is file.Design bytes one.read one.is in
    record {
      design = two.read;
      parsed = ap design_in text ∙ two.is;
      answer = answered_next (within_limit file.Design bytes) one.read text_answer one.is ∙ answered_next (design_in one.read) two.read printed two.is;
    }

-- ---- simulations

settled : (v : Verdict) → is_verdict (verdict_status v) ≡ true
settled (Met history tick) = refl
settled (Failed history tick violation) = refl
settled Undecided = refl

plan_or : (d : Station) (q : Result (List (List Command)) ReplySeen) → is_verdict (unless_refused q (λ plan. verdict_reply d (verdict_at_horizon d plan))).status ≡ false → unless_refused q (plan_printed Names d) ≡ unless_refused q (λ plan. verdict_reply d (verdict_at_horizon d plan))
plan_or d (Ok plan) none = let verdict : is_verdict (verdict_status (verdict_at_horizon d plan)) ≡ true = settled (verdict_at_horizon d plan) in absurd (cc)
plan_or d (Err x) none = refl

plan_text_or : (d : Station) (q : Result (List ℕ) ReplySeen) → is_verdict (unless_refused q (planned d)).status ≡ false → unless_refused q (plan_text_answer Names d) ≡ unless_refused q (planned d)
plan_text_or d (Ok text) none = plan_or d (plan_in d text) none
plan_text_or d (Err x) none = refl

-- what is left of a simulation with the design
abbrev simulated_over : List ℕ → Station → ReplySeen
simulated_over plan_bytes d = unless_refused (within_limit file.Plan plan_bytes) (λ text. planned d text)

design_or : (plan_bytes : List ℕ) (q : Result Station ReplySeen) → is_verdict (unless_refused q (simulated_over plan_bytes)).status ≡ false → unless_refused q (plan_file_answer Names plan_bytes) ≡ unless_refused q (simulated_over plan_bytes)
design_or plan_bytes (Ok d) none = plan_text_or d (within_limit file.Plan plan_bytes) none
design_or plan_bytes (Err x) none = refl

both_or : (plan_bytes : List ℕ) (r : Result (List ℕ) ReplySeen) → is_verdict (unless_refused r (λ text. unless_refused (design_in text) (simulated_over plan_bytes))).status ≡ false
    → unless_refused (and_then r design_in) (plan_file_answer Names plan_bytes) ≡ unless_refused r (λ text. unless_refused (design_in text) (simulated_over plan_bytes))
both_or plan_bytes (Ok text) none = design_or plan_bytes (design_in text) none
both_or plan_bytes (Err x) none = refl

pub plans_refuse_as_simulate : PlansRefuseAsSimulate
plans_refuse_as_simulate design_bytes plan_bytes none = both_or plan_bytes (within_limit file.Design design_bytes) none

-- no refusal of a plan is a verdict
pub plan_refuses : (d : Station) (r : Result (List (List Command)) Refusal) (a : ReplySeen) → plan_or_answer d r ≡ Err a → is_verdict a.status ≡ true → ⊥
plan_refuses d (Ok plan) a e verdict = absurd (cc)
plan_refuses d (Err x) a e verdict =
    let same : one_line PlanRefused (plan_refused_line d x.0 x.1) ≡ a = cc in
    let kind : is_verdict PlanRefused ≡ true = ap (λ (b : ReplySeen). is_verdict b.status) same ∙ verdict in
    cc

pub file_refuses : (bytes : List ℕ) (a : ReplySeen) → design_in_file bytes ≡ Err a → is_verdict a.status ≡ true → ⊥
file_refuses bytes = go (within_limit file.Design bytes) (long_refuses file.Design bytes)
  where
    go : (r : Result (List ℕ) ReplySeen) → ((a : ReplySeen) → r ≡ Err a → is_verdict a.status ≡ true → ⊥) → (a : ReplySeen) → and_then r design_in ≡ Err a → is_verdict a.status ≡ true → ⊥
    go (Ok text) h a e verdict = design_refuses (and_then (design_of text) with_routes) a e verdict
    go (Err x) h a e verdict = h a (let same : x ≡ a = cc in ap Err same) verdict

-- the design in a file is that of its bytes
pub design_of_file : (bytes : List ℕ) (d : Station) → design_in_file bytes ≡ Ok d → design_in bytes ≡ Ok d
design_of_file bytes d is =
    let there = none_in_file bytes d is in
    ap design_in (file_is file.Design bytes there.0 there.1) ∙ from_text bytes there.0 d there.1 is

-- the answer for a design and a plan that are read
pub plan_answered : (form : Form) (design_bytes plan_bytes : List ℕ) (d : Station) (text : List ℕ) (plan : List (List Command)) → design_in_file design_bytes ≡ Ok d → within_limit file.Plan plan_bytes ≡ Ok text → plan_given form d text ≡ Ok plan → plan_answer form design_bytes plan_bytes ≡ plan_printed form d plan
plan_answered form design_bytes plan_bytes d text plan one two three =
    answered_next (design_in_file design_bytes) d (plan_file_answer form plan_bytes) one
    ∙ answered_next (within_limit file.Plan plan_bytes) text (plan_text_answer form d) two
    ∙ answered_next (plan_given form d text) plan (plan_printed form d) three

pub prints_plans_where_there_is_a_verdict : PrintsPlansWhereThereIsAVerdict
prints_plans_where_there_is_a_verdict design_bytes plan_bytes verdict =
    let one = passed (within_limit file.Design design_bytes) (λ text. unless_refused (design_in text) (simulated_over plan_bytes)) (long_refuses file.Design design_bytes) verdict in
    let two = passed (design_in one.read) (simulated_over plan_bytes) (design_refuses (and_then (design_of one.read) with_routes)) one.verdict in
    let d = two.read in
    let three = passed (within_limit file.Plan plan_bytes) (planned d) (long_refuses file.Plan plan_bytes) two.verdict in
    let four = passed (plan_in d three.read) (λ plan. verdict_reply d (verdict_at_horizon d plan)) (plan_refuses d (plan_of d (routes_of d) three.read)) three.verdict in
    let text : design_bytes ≡ one.read = file_is file.Design design_bytes one.read one.is in
    let plan_text : plan_bytes ≡ three.read = file_is file.Plan plan_bytes three.read three.is in
    record {
      design = d;
      parsed = ap design_in text ∙ two.is;
      plan = four.read;
      plan_parsed = ap (plan_in d) plan_text ∙ four.is;
      answer = plan_answered Names design_bytes plan_bytes d three.read four.read (ap (λ r. and_then r design_in) one.is ∙ two.is) three.is four.is;
    }
