-- What the words of a command line ask for.
use Rattle.std.specs.Prelude.{ℕ, ◌≤◌, ◌&&◌, nat_le, Bool, true, false, List, Option, Some, None, codes, if◌then◌else◌}
use Rattle.std.specs.Prelude.{bytes_eq, option_and_then, option_map}
use Rattle.std.specs.Option.{option_map_or}
use Rattle.clap.specs.Words.{Row, Text, first_of, one_of, subcommand_of}
use Rattle.rail_text.specs.Numbers.{number_of}
use Rattle.rail_words.specs.FixedCommand.{rcv_app, is_taken}
use Rattle.rail_words.specs.declared.request.InTime.{InTime}
use Rattle.rail_words.specs.declared.request.SearchMode.{SearchMode}
use Rattle.rail_words.specs.declared.request.SearchMode.TheVariants.{Plain, Bounds, Any, Normal}

-- the number that a text gives, where it is from 1 to a greatest: 1 to 20 digits
abbrev pub number_to : ℕ → Text → Option ℕ
number_to greatest text =
    option_and_then (λ n. if nat_le 1 n && nat_le n greatest then Some n else None) (number_of text)

-- the number that a text gives, where it is at most a greatest: 1 to 20 digits
abbrev pub number_up_to : ℕ → Text → Option ℕ
number_up_to greatest text = option_and_then (λ n. if nat_le n greatest then Some n else None) (number_of text)

-- how many steps a plan may have
abbrev pub steps_of : Text → Option ℕ
steps_of = number_to 256

-- how many clauses may be derived
abbrev pub conflicts_of : Text → Option ℕ
conflicts_of = number_to 10_000_000

-- how many ticks may be simulated
abbrev pub ticks_of : Text → Option ℕ
ticks_of = number_to 1_000_000_000_000

-- which within of a design is meant, counted from 1
abbrev pub within_of : Text → Option ℕ
within_of = number_to 256

-- the greatest time of a within, in ms
abbrev pub max_ms_of : Text → Option ℕ
max_ms_of = number_up_to 86_400_000

-- the number that a station is made from: 0 to 18446744073709551615, in 1 to 20 digits
abbrev pub seed_of : Text → Option ℕ
seed_of = number_of

-- how many tracks and trains it has
abbrev pub size_of : Text → Option ℕ
size_of = number_to 6

-- a request, by the texts of its values
pub data RequestSeen : Type 0 where
  simulate : Text → Text → RequestSeen
  routes : Text → RequestSeen
  verify : ℕ → ℕ → ℕ → SearchMode → Text → Text → RequestSeen
  tightest : ℕ → ℕ → ℕ → ℕ → Bool → Text → Text → RequestSeen
  check : ℕ → Option InTime → Text → Text → RequestSeen
  trial : ℕ → ℕ → RequestSeen

-- the within, where one is named, is from 1 to 256, and its greatest time is at most 86,400,000 ms
abbrev pub IsInTimeInRange : Option InTime → Type 0
IsInTimeInRange None = Unit {0}
IsInTimeInRange (Some t) = (1 ≤ t.within) × (t.within ≤ 256) × (t.max_ms ≤ 86_400_000)

-- its number of steps and its within, where it has them, are from 1 to 256; its greatest time is at most 86,400,000 ms; its seed fits 64
-- bits, and its size is from 1 to 6
abbrev pub IsRequestInRange : RequestSeen → Type 0
IsRequestInRange (simulate design plan) = Unit {0}
IsRequestInRange (routes design) = Unit {0}
IsRequestInRange (verify n conflicts ticks mode design proof) = (1 ≤ n) × (n ≤ 256)
IsRequestInRange (tightest n conflicts ticks within bounds design proof) = (1 ≤ n) × (n ≤ 256) × (1 ≤ within) × (within ≤ 256)
IsRequestInRange (check n in_time design proof) = (1 ≤ n) × (n ≤ 256) × IsInTimeInRange in_time
IsRequestInRange (trial seed size) = (seed ≤ 18446744073709551615) × (1 ≤ size) × (size ≤ 6)

abbrev pub simulate_with : Option Text → Option Text → Option RequestSeen
simulate_with (Some design) (Some plan) = Some (simulate design plan)
simulate_with _ _ = None

abbrev pub routes_with : Option Text → Option RequestSeen
routes_with design = option_map routes design

-- how a plan is looked for, by whether bounds are asked for, any number of steps will do, and normal plans alone are
-- looked for: any number only with bounds, normal plans only without
abbrev pub mode_of : Bool → Bool → Bool → Option SearchMode
mode_of false false false = Some Plain
mode_of false false true = Some Normal
mode_of false true normal = None
mode_of true false false = Some Bounds
mode_of true true false = Some Any
mode_of true any true = None

-- a search with these numbers, if all of them are there, and in this way, if it is one
abbrev pub verify_within : Option ℕ → Option ℕ → Option ℕ → Option SearchMode → Text → Text → Option RequestSeen
verify_within (Some n) (Some conflicts) (Some ticks) (Some mode) design proof =
    Some (verify n conflicts ticks mode design proof)
verify_within _ _ _ _ design proof = None

abbrev pub verify_with : Option Text → Option Text → Option Text → Option SearchMode → Option Text → Option Text → Option RequestSeen
verify_with (Some steps) (Some conflicts) (Some ticks) mode (Some design) (Some proof) =
    verify_within (steps_of steps) (conflicts_of conflicts) (ticks_of ticks) mode design proof
verify_with _ _ _ mode _ _ = None

-- a search for the tightest time with these numbers, if all of them are there
abbrev pub tightest_within : Option ℕ → Option ℕ → Option ℕ → Option ℕ → Bool → Text → Text → Option RequestSeen
tightest_within (Some n) (Some conflicts) (Some ticks) (Some within) bounds design proof =
    Some (tightest n conflicts ticks within bounds design proof)
tightest_within _ _ _ _ bounds design proof = None

abbrev pub tightest_with
    : Option Text → Option Text → Option Text → Option Text → Bool → Option Text → Option Text → Option RequestSeen
tightest_with (Some steps) (Some conflicts) (Some ticks) (Some within) bounds (Some design) (Some proof) =
    tightest_within (steps_of steps) (conflicts_of conflicts) (ticks_of ticks) (within_of within) bounds design proof
tightest_with _ _ _ _ bounds _ _ = None

-- a greatest time that is put into a within, if both numbers are there
abbrev pub in_time : Option ℕ → Option ℕ → Option InTime
in_time (Some within) (Some max_ms) = Some (record { within = within; max_ms = max_ms })
in_time _ _ = None

-- what two texts put into a within
abbrev pub in_time_of : Text → Text → Option InTime
in_time_of within max_ms = in_time (within_of within) (max_ms_of max_ms)

-- what the two options put into a within, if anything; one of them without the other asks for nothing
abbrev pub in_time_with : Option Text → Option Text → Option (Option InTime)
in_time_with None None = Some None
in_time_with (Some within) (Some max_ms) = option_map Some (in_time_of within max_ms)
in_time_with _ _ = None

-- a check of so many steps, in this time or as the design says, if that is there
abbrev pub check_within : Option ℕ → Option (Option InTime) → Text → Text → Option RequestSeen
check_within (Some n) (Some time) design proof = Some (check n time design proof)
check_within _ _ design proof = None

abbrev pub check_with : Option Text → Option (Option InTime) → Option Text → Option Text → Option RequestSeen
check_with (Some steps) time (Some design) (Some proof) = check_within (steps_of steps) time design proof
check_with _ time _ _ = None

-- a trial with these numbers, if both are there
abbrev pub trial_within : Option ℕ → Option ℕ → Option RequestSeen
trial_within (Some seed) (Some size) = Some (trial seed size)
trial_within _ _ = None

abbrev pub trial_with : Option Text → Option Text → Option RequestSeen
trial_with (Some seed) (Some size) = trial_within (seed_of seed) (size_of size)
trial_with _ _ = None

-- the flag is given: it reads as `true`
abbrev pub is_given : Text → List Row → Bool
is_given flag rows = option_map_or (λ text. bytes_eq text (codes "true")) (one_of flag rows) false

-- ---- what the values of the arguments of each subcommand ask for

abbrev pub simulate_by : List Row → Option RequestSeen
simulate_by rows = simulate_with (first_of (codes "DESIGN") rows) (first_of (codes "PLAN") rows)

abbrev pub routes_by : List Row → Option RequestSeen
routes_by rows = routes_with (first_of (codes "DESIGN") rows)

abbrev pub verify_by : List Row → Option RequestSeen
verify_by rows =
    verify_with
    (first_of (codes "steps") rows)
    (first_of (codes "conflicts") rows)
    (first_of (codes "ticks") rows)
    (mode_of (is_given (codes "bounds") rows) (is_given (codes "any") rows) (is_given (codes "normal") rows))
    (first_of (codes "DESIGN") rows)
    (first_of (codes "PROOF") rows)

abbrev pub tightest_by : List Row → Option RequestSeen
tightest_by rows =
    tightest_with
    (first_of (codes "steps") rows)
    (first_of (codes "conflicts") rows)
    (first_of (codes "ticks") rows)
    (first_of (codes "within") rows)
    (is_given (codes "bounds") rows)
    (first_of (codes "DESIGN") rows)
    (first_of (codes "PROOF") rows)

abbrev pub check_by : List Row → Option RequestSeen
check_by rows =
    check_with
    (first_of (codes "steps") rows)
    (in_time_with (first_of (codes "within") rows) (first_of (codes "max-ms") rows))
    (first_of (codes "DESIGN") rows)
    (first_of (codes "PROOF") rows)

abbrev pub trial_by : List Row → Option RequestSeen
trial_by rows = trial_with (first_of (codes "SEED") rows) (first_of (codes "SIZE") rows)

-- what a subcommand asks for, by its name and the values of its arguments
abbrev pub asked_by : Text × List Row → Option RequestSeen
asked_by entered =
    if bytes_eq entered.0 (codes "simulate") then simulate_by entered.1
    else if bytes_eq entered.0 (codes "routes") then routes_by entered.1
    else if bytes_eq entered.0 (codes "verify") then verify_by entered.1
    else if bytes_eq entered.0 (codes "tightest") then tightest_by entered.1
    else if bytes_eq entered.0 (codes "check") then check_by entered.1
    else if bytes_eq entered.0 (codes "trial") then trial_by entered.1
    else None

-- what the words ask for, where the fixed command takes them
unfoldable pub request_of : List Text → Option RequestSeen
request_of words = if is_taken words then option_and_then asked_by (subcommand_of rcv_app words) else None

-- the flag `--progress` is among the values of the subcommand
abbrev pub is_watched_by : Text × List Row → Bool
is_watched_by entered = is_given (codes "progress") entered.1

-- the fixed command takes the words, and they ask to be told how far a search is
unfoldable pub is_watched : List Text → Bool
is_watched words = if is_taken words then option_map_or is_watched_by (subcommand_of rcv_app words) false else false
