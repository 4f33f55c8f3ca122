-- What words ask for: `DESIGN`, `--trial SEED SIZE`, `--plan DESIGN PLAN` or `--numbers DESIGN PLAN` after the
-- program's name, taken as `rcv routes`, `rcv trial` and `rcv simulate` take them.
use Rattle.std.specs.Prelude.{ℕ, ◌≤◌, Bool, ◌||◌, List, [], ◌∷◌, Option, Some, None, bytes_eq, codes, if◌then◌else◌}
use Rattle.clap.specs.Words.{Text}
use Rattle.rail_words.specs.Requests.{RequestSeen, simulate, routes, verify, tightest, check, trial, request_of}
use Rattle.design_cli.specs.declared.wanted.Form.{Form}
use Rattle.design_cli.specs.declared.wanted.Form.TheVariants.{Names, Numbers}

-- the design in a file, by its name; the station that a trial makes of a seed and a size; or a plan in a form, by the
-- names of the design's file and its own
pub data Wanted : Type 0 where
  in_file : Text → Wanted
  of_trial : ℕ → ℕ → Wanted
  of_plan : Form → Text → Text → Wanted

-- a size is from 1 to 6
abbrev pub IsInRange : Wanted → Type 0
IsInRange (in_file name) = Unit {0}
IsInRange (of_trial seed size) = (1 ≤ size) × (size ≤ 6)
IsInRange (of_plan form design plan) = Unit {0}

-- the word asks for a plan
abbrev pub asks_for_plan : Text → Bool
asks_for_plan word = bytes_eq word (codes "--plan") || bytes_eq word (codes "--numbers")

-- `trial` in place of `--trial`, `simulate` in place of `--plan` or `--numbers`, or else `routes` before the words
abbrev pub command_for : List Text → List Text
command_for [] = codes "routes" ∷ []
command_for (first ∷ more) =
    if bytes_eq first (codes "--trial") then codes "trial" ∷ more
    else if asks_for_plan first then codes "simulate" ∷ more
    else codes "routes" ∷ first ∷ more

-- the words by which `rcv` is asked for the same files
abbrev pub rcv_words : List Text → List Text
rcv_words [] = []
rcv_words (program ∷ words) = program ∷ command_for words

-- the form that the first word behind the program's name asks for
abbrev pub form_of : List Text → Form
form_of (program ∷ first ∷ more) = if bytes_eq first (codes "--numbers") then Numbers else Names
form_of _ = Names

-- the design for a request to list its routes, or to try a station, and the plan for one to simulate it
abbrev pub by_request : Form → Option RequestSeen → Option Wanted
by_request form (Some (routes design)) = Some (in_file design)
by_request form (Some (trial seed size)) = Some (of_trial seed size)
by_request form (Some (simulate design plan)) = Some (of_plan form design plan)
by_request form (Some (verify n conflicts ticks mode design proof)) = None
by_request form (Some (tightest n conflicts ticks within bounds design proof)) = None
by_request form (Some (check n in_time design proof)) = None
by_request form None = None

-- what the words ask for
abbrev pub wanted_of : List Text → Option Wanted
wanted_of words = by_request (form_of words) (request_of (rcv_words words))
