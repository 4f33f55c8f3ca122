-- The answer to what is wanted, for the files that are held: the lines of the design or of the plan, or what
-- `rcv routes` or `rcv simulate` answers where it refuses it.
use Rattle.std.specs.Prelude.{ℕ, List, [], ◌∷◌, ◌++◌, codes, Option, Some, None, Result, Ok, Err}
use Rattle.design_text.specs.Texts.{design_lines}
use Rattle.named_plans.specs.Numbered.{named_plan_of}
use Rattle.named_plans.specs.Text.{named_lines}
use Rattle.rail_base.specs.declared.plan.Command.{Command}
use Rattle.rail_base.specs.declared.station.Station.{Station}
use Rattle.cli_shell.specs.declared.status.Status.TheVariants.{Done, Usage}
use Rattle.cli_shell.specs.declared.input.InputFile.TheVariants as file
use Rattle.cli_shell.specs.Answers.{ReplySeen, and_then, design_in, one_line, plan_in, plan_or_answer, unless_refused}
use Rattle.cli_shell.specs.Answers.{within_limit}
use Rattle.cli_shell.specs.Texts.{plan_line}
use Rattle.rail_outside.specs.Asks.{Ask, fetched}
use Rattle.rail_outside.specs.Files.{Files}
use Rattle.workload.specs.Made.{made}
use Rattle.design_cli.specs.declared.wanted.Form.{Form}
use Rattle.design_cli.specs.declared.wanted.Form.TheVariants.{Names, Numbers}
use Rattle.design_cli.specs.Wanted.{Wanted, in_file, of_trial, of_plan}

-- how the program is used
abbrev pub usage_line : List ℕ
usage_line =
    codes "usage: rcv_design DESIGN; rcv_design --trial SEED SIZE; rcv_design --plan DESIGN PLAN; "
    ++ codes "rcv_design --numbers DESIGN PLAN\n"

-- the answer to words that ask for nothing
abbrev pub usage : ReplySeen
usage = one_line Usage usage_line

-- that the file of this name could not be read
abbrev pub unread_line : List ℕ → List ℕ
unread_line name = codes "not read " ++ (name ++ codes "\n")

-- the lines of a design
abbrev pub printed : Station → ReplySeen
printed d = record { status = Done; lines = design_lines d }

-- ---- the design in a file

-- the design in the bytes of a file, or the answer that refuses it
abbrev pub design_in_file : List ℕ → Result Station ReplySeen
design_in_file bytes = and_then (within_limit file.Design bytes) design_in

-- the answer for a text of a design
abbrev pub text_answer : List ℕ → ReplySeen
text_answer text = unless_refused (design_in text) printed

-- the answer for the bytes of a file
abbrev pub file_answer : List ℕ → ReplySeen
file_answer bytes = unless_refused (within_limit file.Design bytes) text_answer

-- ---- the plan in a file, to be printed in a form

-- the plan in the bytes of a file, which has it in the other form, or the answer that refuses it
abbrev pub plan_given : Form → Station → List ℕ → Result (List (List Command)) ReplySeen
plan_given Names d bytes = plan_in d bytes
plan_given Numbers d bytes = plan_or_answer d (named_plan_of d bytes)

-- the lines of a plan
abbrev pub plan_lines : Form → Station → List (List Command) → List (List ℕ)
plan_lines Names d plan = named_lines d plan
plan_lines Numbers d plan = plan_line d plan ∷ []

abbrev pub plan_printed : Form → Station → List (List Command) → ReplySeen
plan_printed form d plan = record { status = Done; lines = plan_lines form d plan }

-- the answer for a text of a plan over a design
abbrev pub plan_text_answer : Form → Station → List ℕ → ReplySeen
plan_text_answer form d text = unless_refused (plan_given form d text) (plan_printed form d)

-- the answer for the bytes of its file
abbrev pub plan_file_answer : Form → List ℕ → Station → ReplySeen
plan_file_answer form bytes d = unless_refused (within_limit file.Plan bytes) (plan_text_answer form d)

-- the answer for the bytes of both files
abbrev pub plan_answer : Form → List ℕ → List ℕ → ReplySeen
plan_answer form design_bytes plan_bytes =
    unless_refused (design_in_file design_bytes) (plan_file_answer form plan_bytes)

-- ---- answers

-- the answer to what is wanted, which may be nothing, for the bytes of the files of the design and of the plan
abbrev pub answer_given : List ℕ → List ℕ → Option Wanted → ReplySeen
answer_given bytes plan_bytes None = usage
answer_given bytes plan_bytes (Some (in_file name)) = file_answer bytes
answer_given bytes plan_bytes (Some (of_trial seed size)) = printed (made seed size)
answer_given bytes plan_bytes (Some (of_plan form design plan)) = plan_answer form bytes plan_bytes

-- the same, for the files that are held
abbrev pub answer_to : Files → Option Wanted → ReplySeen
answer_to files None = usage
answer_to files (Some (in_file name)) = file_answer (files name)
answer_to files (Some (of_trial seed size)) = printed (made seed size)
answer_to files (Some (of_plan form design plan)) = plan_answer form (files design) (files plan)

-- the design that is to be printed, or the answer in its place
abbrev pub design_asked : Files → Option Wanted → Result Station ReplySeen
design_asked files None = Err usage
design_asked files (Some (in_file name)) = design_in_file (files name)
design_asked files (Some (of_trial seed size)) = Ok (made seed size)
design_asked files (Some (of_plan form design plan)) = Err (plan_answer form (files design) (files plan))

-- the design that is read or made, or the answer in its place
abbrev pub design_used : Files → Option Wanted → Result Station ReplySeen
design_used files None = Err usage
design_used files (Some (in_file name)) = design_in_file (files name)
design_used files (Some (of_trial seed size)) = Ok (made seed size)
design_used files (Some (of_plan form design plan)) = design_in_file (files design)

-- ---- what is asked of the shelf

-- the names of the files that are wanted
abbrev pub names_in : Option Wanted → List (List ℕ)
names_in None = []
names_in (Some (in_file name)) = name ∷ []
names_in (Some (of_trial seed size)) = []
names_in (Some (of_plan form design plan)) = design ∷ plan ∷ []

-- the calls for them, in order
abbrev pub asks_to : Option Wanted → List Ask
asks_to None = []
asks_to (Some (in_file name)) = fetched name ∷ []
asks_to (Some (of_trial seed size)) = []
asks_to (Some (of_plan form design plan)) = fetched design ∷ fetched plan ∷ []
