-- A plan that is printed in one form is read from its lines, and printed in the other.
use Rattle.std.proofs.Common.{◌≡◌, ℕ, ◌<◌, ◌^◌, ◌++◌, true, List, [], ◌∷◌, map, length, option_and_then, Result, Ok, Err, codes, ap, ◌∙◌, append-nil}
use Rattle.std.specs.List.{concat}
use Rattle.named_plans.specs.Numbered.{all_shown, named_plan_of, plan_numbered}
use Rattle.named_plans.proofs.Again.{same_named, same_numbers}
use Rattle.named_plans.proofs.Back.{named_back, numbers_back}
use Rattle.rail_base.specs.declared.plan.Command.{Command}
use Rattle.rail_base.specs.declared.station.Station.{Station}
use Rattle.rail_base.specs.Admission.{is_admitted}
use Rattle.rail_plan.specs.Reading.{Refusal, plan_of}
use Rattle.rail_plan.specs.Text.{json_of, text_steps}
use Rattle.rail_plan.proofs.Parsed.{runnable}
use Rattle.rail_spec.specs.Feasible.{IsRunnable}
use Rattle.rail_spec.specs.Track.{routes_of}
use Rattle.plan_text.specs.Text.{in_file_order}
use Rattle.cli_shell.specs.declared.status.Status.TheVariants.{Done}
use Rattle.cli_shell.specs.declared.input.InputFile.TheVariants as file
use Rattle.cli_shell.specs.Answers.{ReplySeen, plan_or_answer, within_limit}
use Rattle.cli_shell.specs.Statuses.{is_verdict}
use Rattle.cli_shell.specs.Texts.{plan_line}
use Rattle.cli_shell.proofs.Passing.{passed, long_refuses}
use Rattle.cli_shell.proofs.Refusing.{file_fits}
use Rattle.design_cli.specs.declared.wanted.Form.{Form}
use Rattle.design_cli.specs.declared.wanted.Form.TheVariants.{Names, Numbers}
use Rattle.design_cli.specs.Answers.{design_in_file, plan_answer, plan_file_answer, plan_given, plan_lines, plan_printed, plan_text_answer}
use Rattle.design_cli.specs.Laws.{ComesBack, GoesThereAndBack, other_form}
use Rattle.design_cli.proofs.Comparing.{design_of_file, file_refuses, plan_answered, plan_refuses}
use Rattle.design_cli.proofs.Routes.{few_routes}

plan_there : (d : Station) (r : Result (List (List Command)) Refusal) (plan : List (List Command)) → plan_or_answer d r ≡ Ok plan → r ≡ Ok plan
plan_there d (Ok x) plan h = let same : x ≡ plan = cc in ap Ok same
plan_there d (Err x) plan h = absurd (cc)

given_refuses : (form : Form) (d : Station) (text : List ℕ) (a : ReplySeen) → plan_given form d text ≡ Err a → is_verdict a.status ≡ true → ⊥
given_refuses Names d text = plan_refuses d (plan_of d (routes_of d) text)
given_refuses Numbers d text = plan_refuses d (named_plan_of d text)

-- a plan that is read can be carried out
given_runnable : (form : Form) (d : Station) (text : List ℕ) (plan : List (List Command)) → plan_given form d text ≡ Ok plan → IsRunnable d (routes_of d) 256 plan
given_runnable Names d text plan h = runnable d (routes_of d) (option_and_then text_steps (json_of text)) plan (plan_there d (plan_of d (routes_of d) text) plan h)
given_runnable Numbers d text plan h = runnable d (routes_of d) (option_and_then text_steps (option_and_then (plan_numbered (all_shown d)) (json_of text))) plan (plan_there d (named_plan_of d text) plan h)

module _ (d : Station) (adm : is_admitted d ≡ true) (few : length (routes_of d) < 2 ^ 32) (plan : List (List Command)) (run : IsRunnable d (routes_of d) 256 plan) where
  -- the lines are read in the other form
  given_back : (form : Form) → plan_given (other_form form) d (concat (plan_lines form d plan)) ≡ Ok (map (in_file_order d) plan)
  given_back Names = ap (plan_or_answer d) (named_back d adm few plan run)
  given_back Numbers =
      ap (λ text. plan_or_answer d (plan_of d (routes_of d) text)) (append-nil (plan_line d plan))
      ∙ ap (plan_or_answer d) (numbers_back d adm few plan run)

  -- and printed in it as before
  printed_back : (form : Form) → plan_printed form d (map (in_file_order d) plan) ≡ plan_printed form d plan
  printed_back Names = ap (λ (ls : List (List ℕ)). let a : ReplySeen = record { status = Done; lines = ls } in a) (same_named d plan)
  printed_back Numbers = ap (λ (text : List ℕ). let a : ReplySeen = record { status = Done; lines = (text ++ codes "\n") ∷ [] } in a) (same_numbers d plan)

pub goes_there_and_back_of_file : (form : Form) (design_bytes plan_bytes : List ℕ) → ((d : Station) → design_in_file design_bytes ≡ Ok d → is_admitted d ≡ true) → (plan_answer form design_bytes plan_bytes).status ≡ Done → ComesBack form design_bytes plan_bytes
goes_there_and_back_of_file form design_bytes plan_bytes admitted done =
    let one = passed (design_in_file design_bytes) (plan_file_answer form plan_bytes) (file_refuses design_bytes) (ap is_verdict done) in
    let d = one.read in
    let two = passed (within_limit file.Plan plan_bytes) (plan_text_answer form d) (long_refuses file.Plan plan_bytes) one.verdict in
    let three = passed (plan_given form d two.read) (plan_printed form d) (given_refuses form d two.read) two.verdict in
    let plan = three.read in
    let spelled = design_of_file design_bytes d one.is in
    let adm = admitted d one.is in
    let few = few_routes design_bytes d spelled in
    let run = given_runnable form d two.read plan three.is in
    record {
      design = d;
      parsed = spelled;
      plan = plan;
      answer = plan_answered form design_bytes plan_bytes d two.read plan one.is two.is three.is;
      back = λ fits.
          let other = other_form form in
          let text = concat (plan_lines form d plan) in
          plan_answered other design_bytes text d text (map (in_file_order d) plan) one.is (file_fits file.Plan text fits) (given_back d adm few plan run form)
          ∙ printed_back d adm few plan run other;
    }

pub goes_there_and_back : GoesThereAndBack
goes_there_and_back form design_bytes plan_bytes admitted done =
    goes_there_and_back_of_file form design_bytes plan_bytes (λ d is. admitted d (design_of_file design_bytes d is)) done
