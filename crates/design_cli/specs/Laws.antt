-- What the answers have to do with those of `rcv routes` and `rcv simulate`, and with each other.
use Rattle.std.specs.Prelude.{◌≡◌, ◌≢◌, ◌≤◌, ℕ, true, false, List, length, Option, Ok}
use Rattle.std.specs.List.{concat}
use Rattle.rail_base.specs.declared.plan.Command.{Command}
use Rattle.rail_base.specs.declared.station.Station.{Station}
use Rattle.rail_base.specs.Admission.{is_admitted}
use Rattle.rail_outside.specs.Growth.{grown}
use Rattle.cli_shell.specs.declared.status.Status.TheVariants.{Done}
use Rattle.cli_shell.specs.declared.input.InputFile.TheVariants as file
use Rattle.cli_shell.specs.Answers.{design_in, plan_in, routes_reply, simulation_reply}
use Rattle.cli_shell.specs.Statuses.{is_verdict}
use Rattle.cli_shell.specs.Texts.{limit_of}
use Rattle.design_cli.specs.declared.wanted.Form.{Form}
use Rattle.design_cli.specs.declared.wanted.Form.TheVariants.{Names, Numbers}
use Rattle.design_cli.specs.Answers.{file_answer, plan_answer, plan_lines, plan_printed, printed}

-- where the routes of a design are not listed, the answer is the same, by status and line
abbrev pub RefusesAsRoutes : Type 0
RefusesAsRoutes = (bytes : List ℕ) → (routes_reply bytes).status ≢ Done → file_answer bytes ≡ routes_reply bytes

-- the bytes spell a design, of which the answer has the lines
pub record PrintsDesignIn (bytes : List ℕ) : Type 0 where
  pub design : Station
  pub parsed : design_in bytes ≡ Ok design
  pub answer : file_answer bytes ≡ printed design

-- where they are listed, the answer has the status 0 and the lines of the design
abbrev pub PrintsWhereRoutesAreListed : Type 0
PrintsWhereRoutesAreListed = (bytes : List ℕ) → (routes_reply bytes).status ≡ Done → PrintsDesignIn bytes

-- ---- plans

-- where a simulation comes to no verdict, the answer that prints the plan with names is the same, by status and line
abbrev pub PlansRefuseAsSimulate : Type 0
PlansRefuseAsSimulate = (design_bytes plan_bytes : List ℕ)
    → is_verdict (simulation_reply design_bytes plan_bytes).status ≡ false
    → plan_answer Names design_bytes plan_bytes ≡ simulation_reply design_bytes plan_bytes

-- the bytes spell a design and a plan over it, of which the answer has the lines with names
pub record PrintsPlanIn (design_bytes plan_bytes : List ℕ) : Type 0 where
  pub design : Station
  pub parsed : design_in design_bytes ≡ Ok design
  pub plan : List (List Command)
  pub plan_parsed : plan_in design plan_bytes ≡ Ok plan
  pub answer : plan_answer Names design_bytes plan_bytes ≡ plan_printed Names design plan

-- where it comes to one, the answer has the status 0 and these lines
abbrev pub PrintsPlansWhereThereIsAVerdict : Type 0
PrintsPlansWhereThereIsAVerdict = (design_bytes plan_bytes : List ℕ)
    → is_verdict (simulation_reply design_bytes plan_bytes).status ≡ true → PrintsPlanIn design_bytes plan_bytes

-- the other form
abbrev pub other_form : Form → Form
other_form Names = Numbers
other_form Numbers = Names

-- the answer has the lines of a plan, from which the plan is printed in the other form
pub record ComesBack (form : Form) (design_bytes plan_bytes : List ℕ) : Type 0 where
  pub design : Station
  pub parsed : design_in design_bytes ≡ Ok design
  pub plan : List (List Command)
  pub answer : plan_answer form design_bytes plan_bytes ≡ plan_printed form design plan
  pub back : length (concat (plan_lines form design plan)) ≤ limit_of file.Plan
      → plan_answer (other_form form) design_bytes (concat (plan_lines form design plan))
      ≡ plan_printed (other_form form) design plan

-- the design that the bytes spell, if they spell one, is admitted
abbrev pub IsAdmittedIn : List ℕ → Type 0
IsAdmittedIn bytes = (d : Station) → design_in bytes ≡ Ok d → is_admitted d ≡ true

-- so do those of every answer with the status 0, over a design that is admitted
abbrev pub GoesThereAndBack : Type 0
GoesThereAndBack = (form : Form) (design_bytes plan_bytes : List ℕ) → IsAdmittedIn design_bytes
    → (plan_answer form design_bytes plan_bytes).status ≡ Done → ComesBack form design_bytes plan_bytes

-- ---- runs

-- the lines of the plan in a file are printed, from which it is printed in the other form
pub record PrintsPlan (form : Form) (design_bytes plan_bytes : List ℕ) (text new_text : Option (List ℕ)) : Type 0 where
  pub comes_back : ComesBack form design_bytes plan_bytes
  pub written : new_text ≡ grown text (concat (plan_lines form comes_back.design comes_back.plan))
