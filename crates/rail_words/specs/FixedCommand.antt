-- The fixed command: `rcv` with one required subcommand for each line of the usage.
use Rattle.std.specs.Prelude.{◌==◌, Bool, true, List, length, Some, codes}
use Rattle.clap.specs.Words.{App, Rule, Text, new_app, new_rule, with_rule, with_subcommand, fault_of}
use Rattle.clap.specs.declared.builder.action.ArgAction.TheVariants.{SetTrue}

-- a required value read as text, by its place
abbrev pub positional_rule : Text → Rule
positional_rule name = record (new_rule name) { required = true }

-- a required option with a value
abbrev pub option_rule : Text → Rule
option_rule name = record (new_rule name) { long = Some name; required = true }

-- an option with a value, which may be left out
abbrev pub choice_rule : Text → Rule
choice_rule name = record (new_rule name) { long = Some name }

-- a flag, which takes no value and may be left out
abbrev pub flag_rule : Text → Rule
flag_rule name = record (new_rule name) { long = Some name; action = Some SetTrue }

-- a command that takes one more value, by its place
abbrev pub with_value : App → Text → App
with_value app name = with_rule app (positional_rule name)

-- a command that takes one more option
abbrev pub with_option : App → Text → App
with_option app name = with_rule app (option_rule name)

-- a command that takes one more option, which may be left out
abbrev pub with_choice : App → Text → App
with_choice app name = with_rule app (choice_rule name)

-- a command that takes one more flag
abbrev pub with_flag : App → Text → App
with_flag app name = with_rule app (flag_rule name)

-- `simulate DESIGN PLAN`
abbrev pub simulate_app : App
simulate_app = with_value (with_value (new_app (codes "simulate")) (codes "DESIGN")) (codes "PLAN")

-- `routes DESIGN`
abbrev pub routes_app : App
routes_app = with_value (new_app (codes "routes")) (codes "DESIGN")

-- a search by its name, `--steps N --conflicts C --ticks T`, before its flags and its files
abbrev pub search_app : Text → App
search_app name =
    with_option (with_option (with_option (new_app name) (codes "steps")) (codes "conflicts")) (codes "ticks")

-- `verify` with the flags `[--bounds] [--any] [--normal] [--progress]`
abbrev pub verify_flags_app : App
verify_flags_app =
    with_flag (with_flag (with_flag (with_flag (search_app (codes "verify")) (codes "bounds")) (codes "any"))
    (codes "normal")) (codes "progress")

-- `verify --steps N --conflicts C --ticks T [--bounds] [--any] [--normal] [--progress] DESIGN PROOF`
abbrev pub verify_app : App
verify_app = with_value (with_value verify_flags_app (codes "DESIGN")) (codes "PROOF")

-- `tightest` with its option `--within W` and its flags `[--bounds] [--progress]`
abbrev pub tightest_flags_app : App
tightest_flags_app =
    with_flag (with_flag (with_option (search_app (codes "tightest")) (codes "within")) (codes "bounds"))
    (codes "progress")

-- `tightest --steps N --conflicts C --ticks T --within W [--bounds] [--progress] DESIGN PROOF`
abbrev pub tightest_app : App
tightest_app = with_value (with_value tightest_flags_app (codes "DESIGN")) (codes "PROOF")

-- `check [--within W] [--max-ms X] --steps N`, before its files
abbrev pub check_options_app : App
check_options_app =
    with_option (with_choice (with_choice (new_app (codes "check")) (codes "within")) (codes "max-ms")) (codes "steps")

-- `check [--within W] [--max-ms X] --steps N DESIGN PROOF`
abbrev pub check_app : App
check_app = with_value (with_value check_options_app (codes "DESIGN")) (codes "PROOF")

-- `trial [--progress] SEED SIZE`
abbrev pub trial_app : App
trial_app = with_value (with_value (with_flag (new_app (codes "trial")) (codes "progress")) (codes "SEED")) (codes "SIZE")

abbrev pub top_app : App
top_app = record (new_app (codes "rcv")) { top = record (new_app (codes "rcv")).top { subcommand_required = true } }

-- with the commands that take no number
abbrev pub numberless_app : App
numberless_app = with_subcommand (with_subcommand top_app simulate_app.top) routes_app.top

-- with the searches
abbrev pub searches_app : App
searches_app = with_subcommand (with_subcommand numberless_app verify_app.top) tightest_app.top

-- with the commands that name files
abbrev pub files_app : App
files_app = with_subcommand searches_app check_app.top

abbrev pub rcv_app : App
rcv_app = with_subcommand files_app trial_app.top

-- the fixed command takes the words, the first of which is the program's name
abbrev pub is_taken : List Text → Bool
is_taken words = length (fault_of rcv_app words) == 0
