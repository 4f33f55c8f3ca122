-- Which words are taken.
use Rattle.std.specs.Prelude.{ℕ, List, ◌≡◌, ◌↔◌, ◌==◌, ◌⊎◌, not, Bool, true, false, [], ◌∷◌, ◌++◌, Option, Some, None, IsSome, codes}
use Rattle.clap.specs.Words.{Row, Text, first_of, subcommand_of}
use Rattle.rail_words.specs.FixedCommand.{rcv_app, is_taken}
use Rattle.rail_words.specs.declared.request.SearchMode.TheVariants.{Plain, Bounds, Any, Normal}
use Rattle.rail_words.specs.Requests.{RequestSeen, IsRequestInRange, is_given, is_watched, request_of, steps_of, conflicts_of, ticks_of, seed_of, size_of}
use Rattle.rail_words.specs.Requests.{within_of, max_ms_of}
use Rattle.rail_words.specs.Requests.{simulate, routes, verify, tightest, check, trial}

-- not empty, and not beginning with a hyphen
abbrev pub is_plain : Text → Bool
is_plain [] = false
is_plain (byte ∷ more) = not (byte == 45)

-- the words of the line, with plain values, ask for just what they say
abbrev pub SimulateIsRead : Type 0
SimulateIsRead = (program design plan : Text) → is_plain design ≡ true → is_plain plan ≡ true
    → request_of (program ∷ codes "simulate" ∷ design ∷ plan ∷ []) ≡ Some (simulate design plan)

abbrev pub RoutesIsRead : Type 0
RoutesIsRead = (program design : Text) → is_plain design ≡ true
    → request_of (program ∷ codes "routes" ∷ design ∷ []) ≡ Some (routes design)

-- the words `verify --steps N --conflicts C --ticks T DESIGN PROOF` behind the program's name
abbrev pub verify_words : Text → Text → Text → Text → Text → Text → List Text
verify_words program steps conflicts ticks design proof =
    program ∷ codes "verify"
    ∷ codes "--steps" ∷ steps ∷ codes "--conflicts" ∷ conflicts ∷ codes "--ticks" ∷ ticks
    ∷ design ∷ proof ∷ []

abbrev pub VerifyIsRead : Type 0
VerifyIsRead = (program steps conflicts ticks design proof : Text) (n c t : ℕ)
    → steps_of steps ≡ Some n
    → conflicts_of conflicts ≡ Some c
    → ticks_of ticks ≡ Some t
    → is_plain design ≡ true
    → is_plain proof ≡ true
    → request_of (verify_words program steps conflicts ticks design proof) ≡ Some (verify n c t Plain design proof)

-- the words `verify --steps N --conflicts C --ticks T --bounds DESIGN PROOF` behind the program's name
abbrev pub bounds_words : Text → Text → Text → Text → Text → Text → List Text
bounds_words program steps conflicts ticks design proof =
    program ∷ codes "verify"
    ∷ codes "--steps" ∷ steps ∷ codes "--conflicts" ∷ conflicts ∷ codes "--ticks" ∷ ticks ∷ codes "--bounds"
    ∷ design ∷ proof ∷ []

abbrev pub BoundsAreRead : Type 0
BoundsAreRead = (program steps conflicts ticks design proof : Text) (n c t : ℕ)
    → steps_of steps ≡ Some n
    → conflicts_of conflicts ≡ Some c
    → ticks_of ticks ≡ Some t
    → is_plain design ≡ true
    → is_plain proof ≡ true
    → request_of (bounds_words program steps conflicts ticks design proof) ≡ Some (verify n c t Bounds design proof)

-- the words `verify --steps N --conflicts C --ticks T --bounds --any DESIGN PROOF` behind the program's name
abbrev pub any_words : Text → Text → Text → Text → Text → Text → List Text
any_words program steps conflicts ticks design proof =
    program ∷ codes "verify"
    ∷ codes "--steps" ∷ steps ∷ codes "--conflicts" ∷ conflicts ∷ codes "--ticks" ∷ ticks ∷ codes "--bounds" ∷ codes "--any"
    ∷ design ∷ proof ∷ []

abbrev pub AnyIsRead : Type 0
AnyIsRead = (program steps conflicts ticks design proof : Text) (n c t : ℕ)
    → steps_of steps ≡ Some n
    → conflicts_of conflicts ≡ Some c
    → ticks_of ticks ≡ Some t
    → is_plain design ≡ true
    → is_plain proof ≡ true
    → request_of (any_words program steps conflicts ticks design proof) ≡ Some (verify n c t Any design proof)

-- the words `verify --steps N --conflicts C --ticks T --normal DESIGN PROOF` behind the program's name
abbrev pub normal_words : Text → Text → Text → Text → Text → Text → List Text
normal_words program steps conflicts ticks design proof =
    program ∷ codes "verify"
    ∷ codes "--steps" ∷ steps ∷ codes "--conflicts" ∷ conflicts ∷ codes "--ticks" ∷ ticks ∷ codes "--normal"
    ∷ design ∷ proof ∷ []

abbrev pub NormalIsRead : Type 0
NormalIsRead = (program steps conflicts ticks design proof : Text) (n c t : ℕ)
    → steps_of steps ≡ Some n
    → conflicts_of conflicts ≡ Some c
    → ticks_of ticks ≡ Some t
    → is_plain design ≡ true
    → is_plain proof ≡ true
    → request_of (normal_words program steps conflicts ticks design proof) ≡ Some (verify n c t Normal design proof)

-- the words `verify --steps N --conflicts C --ticks T --progress DESIGN PROOF` behind the program's name
abbrev pub progress_words : Text → Text → Text → Text → Text → Text → List Text
progress_words program steps conflicts ticks design proof =
    program ∷ codes "verify"
    ∷ codes "--steps" ∷ steps ∷ codes "--conflicts" ∷ conflicts ∷ codes "--ticks" ∷ ticks ∷ codes "--progress"
    ∷ design ∷ proof ∷ []

abbrev pub ProgressIsRead : Type 0
ProgressIsRead = (program steps conflicts ticks design proof : Text) (n c t : ℕ)
    → steps_of steps ≡ Some n
    → conflicts_of conflicts ≡ Some c
    → ticks_of ticks ≡ Some t
    → is_plain design ≡ true
    → is_plain proof ≡ true
    → (request_of (progress_words program steps conflicts ticks design proof) ≡ Some (verify n c t Plain design proof))
    × (is_watched (progress_words program steps conflicts ticks design proof) ≡ true)

-- the lines of `verify` above do not ask to be told how far a search is
abbrev pub OthersAreQuiet : Type 0
OthersAreQuiet = (program steps conflicts ticks design proof : Text) (n c t : ℕ)
    → steps_of steps ≡ Some n
    → conflicts_of conflicts ≡ Some c
    → ticks_of ticks ≡ Some t
    → is_plain design ≡ true
    → is_plain proof ≡ true
    → (is_watched (verify_words program steps conflicts ticks design proof) ≡ false)
    × (is_watched (bounds_words program steps conflicts ticks design proof) ≡ false)
    × (is_watched (any_words program steps conflicts ticks design proof) ≡ false)
    × (is_watched (normal_words program steps conflicts ticks design proof) ≡ false)

-- the words `tightest --steps N --conflicts C --ticks T --within W DESIGN PROOF` behind the program's name, with flags before the files
abbrev pub tightest_words : Text → Text → Text → Text → Text → List Text → Text → Text → List Text
tightest_words program steps conflicts ticks within flags design proof =
    program ∷ codes "tightest"
    ∷ codes "--steps" ∷ steps ∷ codes "--conflicts" ∷ conflicts ∷ codes "--ticks" ∷ ticks ∷ codes "--within" ∷ within
    ∷ (flags ++ design ∷ proof ∷ [])

-- with these flags the words ask for the tightest time by bounds or without, and to be told how far the search is or not
abbrev pub TightestWithIsRead : List Text → Bool → Bool → Type 0
TightestWithIsRead flags bounds watched = (program steps conflicts ticks within design proof : Text) (n c t w : ℕ)
    → steps_of steps ≡ Some n
    → conflicts_of conflicts ≡ Some c
    → ticks_of ticks ≡ Some t
    → within_of within ≡ Some w
    → is_plain design ≡ true
    → is_plain proof ≡ true
    → (request_of (tightest_words program steps conflicts ticks within flags design proof)
    ≡ Some (tightest n c t w bounds design proof))
    × (is_watched (tightest_words program steps conflicts ticks within flags design proof) ≡ watched)

abbrev pub TightestIsRead : Type 0
TightestIsRead = TightestWithIsRead [] false false

abbrev pub TightestBoundsAreRead : Type 0
TightestBoundsAreRead = TightestWithIsRead (codes "--bounds" ∷ []) true false

abbrev pub TightestProgressIsRead : Type 0
TightestProgressIsRead = TightestWithIsRead (codes "--progress" ∷ []) false true

abbrev pub CheckIsRead : Type 0
CheckIsRead = (program steps design proof : Text) (n : ℕ)
    → steps_of steps ≡ Some n
    → is_plain design ≡ true
    → is_plain proof ≡ true
    → request_of (program ∷ codes "check" ∷ codes "--steps" ∷ steps ∷ design ∷ proof ∷ []) ≡ Some (check n None design proof)

-- the words `check --within W --max-ms X --steps N DESIGN PROOF` behind the program's name
abbrev pub in_time_words : Text → Text → Text → Text → Text → Text → List Text
in_time_words program within max_ms steps design proof =
    program ∷ codes "check"
    ∷ codes "--within" ∷ within ∷ codes "--max-ms" ∷ max_ms ∷ codes "--steps" ∷ steps
    ∷ design ∷ proof ∷ []

abbrev pub CheckInTimeIsRead : Type 0
CheckInTimeIsRead = (program within max_ms steps design proof : Text) (w x n : ℕ)
    → within_of within ≡ Some w
    → max_ms_of max_ms ≡ Some x
    → steps_of steps ≡ Some n
    → is_plain design ≡ true
    → is_plain proof ≡ true
    → request_of (in_time_words program within max_ms steps design proof)
    ≡ Some (check n (Some (record { within = w; max_ms = x })) design proof)

abbrev pub TrialIsRead : Type 0
TrialIsRead = (program seed size : Text) (s k : ℕ)
    → seed_of seed ≡ Some s
    → size_of size ≡ Some k
    → request_of (program ∷ codes "trial" ∷ seed ∷ size ∷ []) ≡ Some (trial s k)

-- what words ask for is in range
abbrev pub RequestsAreInRange : Type 0
RequestsAreInRange = (words : List Text) (asked : RequestSeen) → request_of words ≡ Some asked → IsRequestInRange asked

-- the argument has a value, but no number in its range
abbrev pub IsOutOfRange : (Text → Option ℕ) → Text → List Row → Type 0
IsOutOfRange number_of_text name rows = (text : Text) × (first_of name rows ≡ Some text) × (number_of_text text ≡ None)

-- a number that every search has is out of range
abbrev pub SearchLacksNumber : List Row → Type 0
SearchLacksNumber rows =
    IsOutOfRange steps_of (codes "steps") rows
    ⊎ IsOutOfRange conflicts_of (codes "conflicts") rows
    ⊎ IsOutOfRange ticks_of (codes "ticks") rows

-- a number of `trial` is out of range
abbrev pub TrialLacksNumber : List Row → Type 0
TrialLacksNumber rows = IsOutOfRange seed_of (codes "SEED") rows ⊎ IsOutOfRange size_of (codes "SIZE") rows

-- one argument has a value, and the other has none
abbrev pub IsAlone : Text → Text → List Row → Type 0
IsAlone name other rows = IsSome (first_of name rows) × (first_of other rows ≡ None)

-- a number of the time that `check` is to put into a within is out of range, or one of the two is left out
abbrev pub LacksTime : List Row → Type 0
LacksTime rows =
    IsOutOfRange within_of (codes "within") rows
    ⊎ IsOutOfRange max_ms_of (codes "max-ms") rows
    ⊎ IsAlone (codes "within") (codes "max-ms") rows
    ⊎ IsAlone (codes "max-ms") (codes "within") rows

-- any number of steps is to do without bounds
abbrev pub AsksAnyAlone : List Row → Type 0
AsksAnyAlone rows = (is_given (codes "bounds") rows ≡ false) × (is_given (codes "any") rows ≡ true)

-- normal plans alone are looked for with bounds
abbrev pub AsksNormalBounds : List Row → Type 0
AsksNormalBounds rows = (is_given (codes "bounds") rows ≡ true) × (is_given (codes "normal") rows ≡ true)

-- a number of the subcommand is out of range, or its options or flags don't go together, by its name and the values of its arguments
abbrev pub IsLacking : Text × List Row → Type 0
IsLacking entered =
    (entered.0 ≡ codes "verify") × (SearchLacksNumber entered.1 ⊎ AsksAnyAlone entered.1 ⊎ AsksNormalBounds entered.1)
    ⊎ (entered.0 ≡ codes "tightest") × (SearchLacksNumber entered.1 ⊎ IsOutOfRange within_of (codes "within") entered.1)
    ⊎ (entered.0 ≡ codes "check") × (IsOutOfRange steps_of (codes "steps") entered.1 ⊎ LacksTime entered.1)
    ⊎ (entered.0 ≡ codes "trial") × TrialLacksNumber entered.1

-- a number of the subcommand that the words name is out of range, or its options or flags don't go together
abbrev pub IsFaulty : List Text → Type 0
IsFaulty words = (entered : Text × List Row)
    × (subcommand_of rcv_app words ≡ Some entered) × IsLacking entered

-- the fixed command does not take the words, or a number among them is out of range, or options or flags don't go together
abbrev pub AsksForNothing : List Text → Type 0
AsksForNothing words = (is_taken words ≡ false) ⊎ IsFaulty words

-- words make no request exactly where that is so
abbrev pub SilenceHasACause : Type 0
SilenceHasACause = (words : List Text) → (request_of words ≡ None) ↔ AsksForNothing words
