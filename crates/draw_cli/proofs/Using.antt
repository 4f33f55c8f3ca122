-- Which runs say how the program is used.
use Rattle.std.proofs.Common.{◌≡◌, ℕ, true, List, Option, Some, None, Result, Ok, Err, refl, ap, sym, ◌∙◌}
use Rattle.std.specs.Prelude.{◌↔◌}
use Rattle.named_files.specs.Replies.{Answers, names_of}
use Rattle.named_files.proofs.Printing.{answered}
use Rattle.rail_base.specs.declared.station.Station.{Station}
use Rattle.cli_shell.specs.declared.status.Status.{Status}
use Rattle.cli_shell.specs.declared.status.Status.TheVariants.{Done, Usage}
use Rattle.cli_shell.specs.declared.input.InputFile.TheVariants as file
use Rattle.cli_shell.specs.Statuses.{is_answered}
use Rattle.cli_shell.specs.Answers.{ReplySeen, within_limit, design_in, plan_in}
use Rattle.cli_shell.proofs.Using.{IsNoUsage, long_is_no_usage, design_is_no_usage, plan_is_no_usage}
use Rattle.rail_outside.specs.Files.{Files}
use Rattle.draw_cli.specs.Wanted.{Wanted, track, run}
use Rattle.draw_cli.specs.Answers.{IsDrawing, IsTrackDrawing, IsRunDrawing, TrackAnswers, PlanAnswers, RunAnswers, RunTextAnswers, IsAnswerTo, design_name, plan_name}
use Rattle.draw_cli.specs.Replies.{PrintsAnswer}

-- ---- answers of another status

-- what is right for a reading of which no refusal is of that status
right_other : {X : Type 0} (r : Result X ReplySeen) (right : X → ReplySeen → Type 0) (a : ReplySeen) → IsNoUsage r → ((x : X) → right x a → a.status ≡ Usage → ⊥) → Answers r right a → a.status ≡ Usage → ⊥
right_other (Ok x) right a other h answers is = h x answers is
right_other (Err b) right a other h answers is = other b refl (ap (λ (c : ReplySeen). c.status) (sym answers) ∙ is)

drawing_other : (words : List (List ℕ)) (most : ℕ) (a : ReplySeen) → IsDrawing words most a → a.status ≡ Usage → ⊥
drawing_other words most a drawing is = let kind : Done ≡ Usage = sym drawing.status ∙ is in absurd (cc)

track_other : (text : List ℕ) (a : ReplySeen) → TrackAnswers text a → a.status ≡ Usage → ⊥
track_other text a = right_other (design_in text) IsTrackDrawing a (design_is_no_usage text) (λ d h. drawing_other _ _ a h.drawing)

plan_other : (d : Station) (text : List ℕ) (a : ReplySeen) → PlanAnswers d text a → a.status ≡ Usage → ⊥
plan_other d text a = right_other (plan_in d text) (IsRunDrawing d) a (plan_is_no_usage d text) (λ plan. drawing_other _ _ a)

run_other : (plan_bytes : List ℕ) (d : Station) (a : ReplySeen) → RunAnswers plan_bytes d a → a.status ≡ Usage → ⊥
run_other plan_bytes d a = right_other (within_limit file.Plan plan_bytes) (PlanAnswers d) a (long_is_no_usage file.Plan plan_bytes) (λ text. plan_other d text a)

given_other : (w : Wanted) (design_bytes plan_bytes : List ℕ) (a : ReplySeen) → IsAnswerTo (Some w) design_bytes plan_bytes a → a.status ≡ Usage → ⊥
given_other (track design) design_bytes plan_bytes a =
    right_other (within_limit file.Design design_bytes) TrackAnswers a (long_is_no_usage file.Design design_bytes) (λ text. track_other text a)
given_other (run design plan) design_bytes plan_bytes a =
    right_other (within_limit file.Design design_bytes) (λ text. RunTextAnswers text plan_bytes) a (long_is_no_usage file.Design design_bytes)
    (λ text. right_other (design_in text) (RunAnswers plan_bytes) a (design_is_no_usage text) (λ d. run_other plan_bytes d a))

-- ---- what is printed

silent : (wanted : Option Wanted) (design_bytes plan_bytes : List ℕ) (a : ReplySeen) → IsAnswerTo wanted design_bytes plan_bytes a → a.status ≡ Usage → wanted ≡ None
silent None design_bytes plan_bytes a answers is = refl
silent (Some w) design_bytes plan_bytes a answers is = absurd (given_other w design_bytes plan_bytes a answers is)

used : (wanted : Option Wanted) (design_bytes plan_bytes : List ℕ) (a : ReplySeen) → wanted ≡ None → IsAnswerTo wanted design_bytes plan_bytes a → a.status ≡ Usage
used None design_bytes plan_bytes a none answers = ap (λ (b : ReplySeen). b.status) answers
used (Some w) design_bytes plan_bytes a none answers = absurd (cc)

module _ (known : Option Files) (wanted : Option Wanted) (s : Status) (text new_text : Option (List ℕ)) (pieces new_pieces : Option (List (List ℕ))) where
  -- an answer was printed
  pub usage_for : PrintsAnswer known wanted s text new_text pieces new_pieces → is_answered s ≡ true → (s ≡ Usage) ↔ (wanted ≡ None)
  usage_for h is =
      let p = answered s text new_text pieces new_pieces (IsAnswerTo wanted h.first_bytes h.second_bytes) (names_of (design_name wanted) (plan_name wanted)) h.reports is in (
        λ usage. silent wanted h.first_bytes h.second_bytes p.answer p.is_right (sym (p.prints.status is) ∙ usage),
        λ none. p.prints.status is ∙ used wanted h.first_bytes h.second_bytes p.answer none p.is_right,
      )
