-- The lines that are printed where something is refused, and the line of a plan, each with its LF.
use Rattle.std.specs.Prelude.{ℕ, List, ◌++◌, codes, decimal}
use Rattle.design_table.specs.declared.fault.Code.{Code}
use Rattle.design_table.specs.declared.fault.Code.TheVariants as code
use Rattle.design_table.specs.declared.place.EntryKind.{EntryKind}
use Rattle.design_table.specs.declared.place.Place.{Place}
use Rattle.design_table.specs.declared.place.Place.TheVariants as place
use Rattle.design_table.specs.Keys.{key_text, kind_key}
use Rattle.plan_text.specs.Text.{plan_text}
use Rattle.rail_base.specs.declared.plan.Command.{Command}
use Rattle.rail_base.specs.declared.station.Station.{Station}
use Rattle.rail_base.specs.declared.station.TrainNo.{TrainNo}
use Rattle.rail_plan.specs.declared.fault.PlanCode.{PlanCode}
use Rattle.rail_plan.specs.declared.fault.PlanCode.TheVariants as plan_code
use Rattle.rail_plan.specs.declared.place.PlanPlace.{PlanPlace}
use Rattle.rail_plan.specs.declared.place.PlanPlace.TheVariants as plan_place
use Rattle.rail_base.specs.Names.{section_name, train_name}
use Rattle.cli_shell.specs.declared.input.InputFile.{InputFile}
use Rattle.cli_shell.specs.declared.input.InputFile.TheVariants as file

-- ---- usage

-- how the program is used
abbrev pub usage_line : List ℕ
usage_line =
    codes "usage: rcv simulate DESIGN PLAN; rcv routes DESIGN; "
    ++ codes "rcv verify [--normal] --steps N --conflicts C --ticks T DESIGN PROOF; "
    ++ codes "rcv tightest --steps N --conflicts C --ticks T --within W DESIGN PROOF; "
    ++ codes "rcv check [--within W --max-ms X] --steps N DESIGN PROOF; rcv trial SEED SIZE\n"

-- ---- files that are too long

-- the word for a file
abbrev pub file_text : InputFile → List ℕ
file_text file.Design = codes "design"
file_text file.Plan = codes "plan"
file_text file.Proof = codes "proof"

-- the most bytes that it may have
abbrev pub limit_of : InputFile → ℕ
limit_of file.Design = 8388608
limit_of file.Plan = 8388608
limit_of file.Proof = 268435456

-- `too long <file> <limit>`
abbrev pub too_long_line : InputFile → List ℕ
too_long_line f = codes "too long " ++ file_text f ++ codes " " ++ decimal (limit_of f) ++ codes "\n"

-- ---- a refused design

-- the name of a code
abbrev pub code_text : Code → List ℕ
code_text code.D01 = codes "D01"
code_text code.D02 = codes "D02"
code_text code.D03 = codes "D03"
code_text code.D04 = codes "D04"
code_text code.D05 = codes "D05"
code_text code.D06 = codes "D06"
code_text code.D07 = codes "D07"
code_text code.D08 = codes "D08"
code_text code.D09 = codes "D09"
code_text code.D10 = codes "D10"
code_text code.D11 = codes "D11"
code_text code.D12 = codes "D12"
code_text code.D13 = codes "D13"

-- `<key>[<number>]`
abbrev pub entry_text : EntryKind → ℕ → List ℕ
entry_text kind n = key_text (kind_key kind) ++ codes "[" ++ decimal n ++ codes "]"

-- a place of a design
abbrev pub place_text : Place → List ℕ
place_text place.File = codes "file"
place_text (place.Top key) = key_text key
place_text (place.Entry kind n) = entry_text kind n
place_text (place.Field kind n key) = entry_text kind n ++ codes "." ++ key_text key
place_text (place.UnknownField kind n) = entry_text kind n ++ codes ".?"
place_text place.Unknown = codes "?"
place_text place.Routes = codes "routes"

-- `design refused <code> <place>`
abbrev pub design_refused_line : Code → Place → List ℕ
design_refused_line c p = codes "design refused " ++ code_text c ++ codes " " ++ place_text p ++ codes "\n"

-- the clauses of the design are too many
abbrev pub too_large_line : List ℕ
too_large_line = codes "design refused D14 base\n"

-- the design has no within of this number
abbrev pub no_within_line : List ℕ
no_within_line = codes "design refused D15 within\n"

-- ---- a refused plan

-- the name of a code
abbrev pub plan_code_text : PlanCode → List ℕ
plan_code_text plan_code.P1 = codes "P1"
plan_code_text plan_code.P2 = codes "P2"
plan_code_text plan_code.P3 = codes "P3"
plan_code_text plan_code.P4 = codes "P4"

-- `step <i>`
abbrev pub step_text : ℕ → List ℕ
step_text i = codes "step " ++ decimal i

-- `step <i> train <name>`
abbrev pub train_text : Station → ℕ → TrainNo → List ℕ
train_text d i t = step_text i ++ codes " train " ++ train_name d t

-- a place of a plan, by the names of the design
abbrev pub plan_place_text : Station → PlanPlace → List ℕ
plan_place_text d plan_place.File = codes "file"
plan_place_text d (plan_place.Command i j) = step_text i ++ codes " command " ++ decimal j
plan_place_text d (plan_place.Train i t) = train_text d i t
plan_place_text d (plan_place.Step i) = step_text i
plan_place_text d (plan_place.Section i t z) = train_text d i t ++ codes " section " ++ section_name d z

-- `plan refused <code> <place>`
abbrev pub plan_refused_line : Station → PlanCode → PlanPlace → List ℕ
plan_refused_line d c p = codes "plan refused " ++ plan_code_text c ++ codes " " ++ plan_place_text d p ++ codes "\n"

-- ---- a plan

-- the plan, as one line
abbrev pub plan_line : Station → List (List Command) → List ℕ
plan_line d plan = plan_text d plan ++ codes "\n"
