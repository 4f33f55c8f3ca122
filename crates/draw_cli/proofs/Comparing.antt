-- Answers, and those of `rcv routes` and `rcv simulate` for the same files.
use Rattle.std.proofs.Common.{◌≡◌, ◌≢◌, ℕ, true, false, List, Result, Ok, Err, refl, ap, sym, ◌∙◌, subst}
use Rattle.drawing.proofs.Showing.{words_are_in_lines}
use Rattle.infra_reader.specs.Design.{design_of}
use Rattle.named_files.specs.Replies.{Answers}
use Rattle.rail_base.specs.declared.station.Station.{Station}
use Rattle.rail_base.specs.declared.plan.Command.{Command}
use Rattle.rail_base.specs.declared.history.Verdict.{Verdict}
use Rattle.rail_base.specs.declared.history.Verdict.TheVariants.{Met, Failed, Undecided}
use Rattle.rail_base.specs.Members.{In}
use Rattle.rail_plan.specs.Reading.{Refusal, plan_of}
use Rattle.rail_spec.specs.Track.{routes_of}
use Rattle.cli_shell.specs.declared.status.Status.TheVariants.{Done, PlanRefused}
use Rattle.cli_shell.specs.declared.input.InputFile.TheVariants as file
use Rattle.cli_shell.specs.Statuses.{is_verdict}
use Rattle.cli_shell.specs.Shows.{verdict_at_horizon}
use Rattle.cli_shell.specs.Texts.{plan_refused_line}
use Rattle.cli_shell.specs.Answers.{ReplySeen, one_line, within_limit, with_routes, and_then, design_in, plan_or_answer, plan_in, unless_refused, verdict_status, verdict_reply, planned, routes_answer}
use Rattle.cli_shell.proofs.Passing.{passed, long_refuses, design_refuses}
use Rattle.cli_shell.proofs.Refusing.{file_is}
use Rattle.draw_cli.specs.Answers.{IsTrackDrawing, IsRunDrawing, TrackAnswers, PlanAnswers, RunAnswers, RunTextAnswers}
use Rattle.draw_cli.specs.Laws.{RefusesAsRoutes, DrawsWhereRoutesAreListed, RefusesAsSimulate, DrawsWhereThereIsAVerdict, NamesAreDrawn}

-- what is right for what is read
answers_at : {X : Type 0} (reading : Result X ReplySeen) (x : X) (right : X → ReplySeen → Type 0) (a : ReplySeen) → reading ≡ Ok x → Answers reading right a → right x a
answers_at {X = X} reading x right a is h = subst (λ (r : Result X ReplySeen). Answers r right a) is h

-- ---- routes

listed_or : (q : Result Station ReplySeen) (a : ReplySeen) → Answers q IsTrackDrawing a → (unless_refused q routes_answer).status ≢ Done → a ≡ unless_refused q routes_answer
listed_or (Ok d) a h other = absurd (other refl)
listed_or (Err x) a h other = h

text_or : (r : Result (List ℕ) ReplySeen) (a : ReplySeen) → Answers r TrackAnswers a → (unless_refused r (λ text. unless_refused (design_in text) routes_answer)).status ≢ Done → a ≡ unless_refused r (λ text. unless_refused (design_in text) routes_answer)
text_or (Ok text) a h other = listed_or (design_in text) a h other
text_or (Err x) a h other = h

pub refuses_as_routes : RefusesAsRoutes
refuses_as_routes design_bytes a h other = text_or (within_limit file.Design design_bytes) a h other

pub draws_where_routes_are_listed : DrawsWhereRoutesAreListed
draws_where_routes_are_listed design_bytes a h done =
    let one = passed (within_limit file.Design design_bytes) (λ text. unless_refused (design_in text) routes_answer) (long_refuses file.Design design_bytes) (ap is_verdict done) in
    let two = passed (design_in one.read) routes_answer (design_refuses (and_then (design_of one.read) with_routes)) one.verdict in
    let text : design_bytes ≡ one.read = file_is file.Design design_bytes one.read one.is in
    record {
      design = two.read;
      parsed = ap design_in text ∙ two.is;
      drawn = answers_at (design_in one.read) two.read IsTrackDrawing a two.is (answers_at (within_limit file.Design design_bytes) one.read TrackAnswers a one.is h);
    }

-- ---- simulations

settled : (v : Verdict) → is_verdict (verdict_status v) ≡ true
settled (Met history tick) = refl
settled (Failed history tick violation) = refl
settled Undecided = refl

plan_or : (d : Station) (q : Result (List (List Command)) ReplySeen) (a : ReplySeen) → Answers q (IsRunDrawing d) a → is_verdict (unless_refused q (λ plan. verdict_reply d (verdict_at_horizon d plan))).status ≡ false → a ≡ unless_refused q (λ plan. verdict_reply d (verdict_at_horizon d plan))
plan_or d (Ok plan) a h none = let verdict : is_verdict (verdict_status (verdict_at_horizon d plan)) ≡ true = settled (verdict_at_horizon d plan) in absurd (cc)
plan_or d (Err x) a h none = h

plan_text_or : (d : Station) (q : Result (List ℕ) ReplySeen) (a : ReplySeen) → Answers q (PlanAnswers d) a → is_verdict (unless_refused q (planned d)).status ≡ false → a ≡ unless_refused q (planned d)
plan_text_or d (Ok text) a h none = plan_or d (plan_in d text) a h none
plan_text_or d (Err x) a h none = h

-- what is left of a simulation with the design
abbrev simulated_over : List ℕ → Station → ReplySeen
simulated_over plan_bytes d = unless_refused (within_limit file.Plan plan_bytes) (λ text. planned d text)

design_or : (plan_bytes : List ℕ) (q : Result Station ReplySeen) (a : ReplySeen) → Answers q (RunAnswers plan_bytes) a → is_verdict (unless_refused q (simulated_over plan_bytes)).status ≡ false → a ≡ unless_refused q (simulated_over plan_bytes)
design_or plan_bytes (Ok d) a h none = plan_text_or d (within_limit file.Plan plan_bytes) a h none
design_or plan_bytes (Err x) a h none = h

design_text_or : (plan_bytes : List ℕ) (r : Result (List ℕ) ReplySeen) (a : ReplySeen) → Answers r (λ text. RunTextAnswers text plan_bytes) a
    → is_verdict (unless_refused r (λ text. unless_refused (design_in text) (simulated_over plan_bytes))).status ≡ false → a ≡ unless_refused r (λ text. unless_refused (design_in text) (simulated_over plan_bytes))
design_text_or plan_bytes (Ok text) a h none = design_or plan_bytes (design_in text) a h none
design_text_or plan_bytes (Err x) a h none = h

pub refuses_as_simulate : RefusesAsSimulate
refuses_as_simulate design_bytes plan_bytes a h none = design_text_or plan_bytes (within_limit file.Design design_bytes) a h none

plan_refuses : (d : Station) (r : Result (List (List Command)) Refusal) (a : ReplySeen) → plan_or_answer d r ≡ Err a → is_verdict a.status ≡ true → ⊥
plan_refuses d (Ok plan) a e verdict = absurd (cc)
plan_refuses d (Err x) a e verdict =
    let same : one_line PlanRefused (plan_refused_line d x.0 x.1) ≡ a = cc in
    let kind : is_verdict PlanRefused ≡ true = ap (λ (b : ReplySeen). is_verdict b.status) same ∙ verdict in
    cc

pub draws_where_there_is_a_verdict : DrawsWhereThereIsAVerdict
draws_where_there_is_a_verdict design_bytes plan_bytes a h verdict =
    let one = passed (within_limit file.Design design_bytes) (λ text. unless_refused (design_in text) (simulated_over plan_bytes)) (long_refuses file.Design design_bytes) verdict in
    let two = passed (design_in one.read) (simulated_over plan_bytes) (design_refuses (and_then (design_of one.read) with_routes)) one.verdict in
    let d = two.read in
    let three = passed (within_limit file.Plan plan_bytes) (planned d) (long_refuses file.Plan plan_bytes) two.verdict in
    let four = passed (plan_in d three.read) (λ plan. verdict_reply d (verdict_at_horizon d plan)) (plan_refuses d (plan_of d (routes_of d) three.read)) three.verdict in
    let text : design_bytes ≡ one.read = file_is file.Design design_bytes one.read one.is in
    let plan_text : plan_bytes ≡ three.read = file_is file.Plan plan_bytes three.read three.is in
    let at_text = answers_at (within_limit file.Design design_bytes) one.read (λ t. RunTextAnswers t plan_bytes) a one.is h in
    let at_design = answers_at (design_in one.read) d (RunAnswers plan_bytes) a two.is at_text in
    let at_plan = answers_at (within_limit file.Plan plan_bytes) three.read (PlanAnswers d) a three.is at_design in
    record {
      design = d;
      parsed = ap design_in text ∙ two.is;
      plan = four.read;
      plan_parsed = ap (plan_in d) plan_text ∙ four.is;
      drawn = answers_at (plan_in d three.read) four.read (IsRunDrawing d) a four.is at_plan;
    }

-- ---- names

pub names_are_drawn : NamesAreDrawn
names_are_drawn words most a name drawing there =
    words_are_in_lines drawing.picture a.lines name drawing.lines (subst (λ (ws : List (List ℕ)). In name ws) (sym drawing.words_are) there)
