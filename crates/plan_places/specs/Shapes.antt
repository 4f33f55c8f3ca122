-- What is wrong with a text that has not the shape of a plan.
use Rattle.std.specs.Prelude.{ℕ, ◌+◌, not, List, [], ◌∷◌, ◌++◌, codes, decimal, position, Option, None, Some, is_some}
use Rattle.rail_plan.specs.Text.{array_of, command_of, step_in, steps_at}
use Rattle.rail_base.specs.Numbering.{entry}
use Rattle.serde_json.specs.Data.{Data, null}

-- ---- where a value differs first

-- `step 2 `
abbrev pub step_words : ℕ → List ℕ
step_words i = codes "step " ++ decimal i ++ codes " "

-- `step 2 command 3 is to be an array of the name of a train and the number of a route`
abbrev pub command_line : ℕ → ℕ → List ℕ
command_line i j =
    step_words i ++ codes "command " ++ decimal j ++ codes " is to be an array of the name of a train and the number of a route\n"

-- `step 2 is to be an array of commands`
abbrev pub step_line : ℕ → List ℕ
step_line i = step_words i ++ codes "is to be an array of commands\n"

-- the first command that is none
abbrev pub command_lines : ℕ → Option ℕ → List (List ℕ)
command_lines i None = []
command_lines i (Some k) = command_line i (k + 1) ∷ []

-- of a step that is none
abbrev pub commands_lines : ℕ → Option (List Data) → List (List ℕ)
commands_lines i None = step_line i ∷ []
commands_lines i (Some ds) = command_lines i (position (λ d. not (is_some (command_of d))) ds)

-- the first step that is none
abbrev pub step_lines : List Data → Option ℕ → List (List ℕ)
step_lines ds None = []
step_lines ds (Some k) = commands_lines (k + 1) (array_of (entry null ds (k + 1)))

abbrev pub steps_lines : Option (List Data) → List (List ℕ)
steps_lines None = codes "steps is to be an array\n" ∷ []
steps_lines (Some ds) = step_lines ds (position (λ d. not (is_some (step_in d))) ds)

abbrev pub top_lines : Option Data → List (List ℕ)
top_lines None = codes "the file is to be an object with the one key steps\n" ∷ []
top_lines (Some v) = steps_lines (array_of v)

-- where it differs, and what a plan looks like
abbrev pub plan_line : List ℕ
plan_line = codes "a plan is {\"steps\":[[[\"<train>\",<route>],...],...]}\n"

abbrev pub shape_lines : Data → List (List ℕ)
shape_lines v = top_lines (steps_at v) ++ plan_line ∷ []
