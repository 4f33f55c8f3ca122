-- What words ask for: `[--within W --max-ms X] [--steps N] DESIGN [FILE]` after the program's name, the options being taken as `rcv check`
-- takes them, those of a time only with a file and, where the steps are left out, in this order.
use Rattle.std.specs.Prelude.{ℕ, ◌≤◌, ◌&&◌, List, [], ◌∷◌, ◌++◌, Option, Some, None, is_some, bytes_eq, codes, if◌then◌else◌}
use Rattle.clap.specs.Words.{Text}
use Rattle.rail_words.specs.Laws.{is_plain}
use Rattle.rail_words.specs.declared.request.InTime.{InTime}
use Rattle.rail_words.specs.Requests.{RequestSeen, simulate, routes, verify, tightest, check, trial, in_time_of, request_of}

-- what is to be said of a design, or of it and another file, a proof or a plan, each by its file's name; for plans of so many steps,
-- where they are given; and of the design with a greatest time that is put into one of its withins, where one is given
pub record Wanted : Type 0 where
  pub steps : Option ℕ
  pub in_time : Option InTime
  pub design : Text
  pub file : Option Text

-- one name alone, neither empty nor beginning with a hyphen
abbrev pub named : Text → Option Wanted
named design =
    if is_plain design then Some (record { steps = None; in_time = None; design = design; file = None }) else None

-- two such names
abbrev pub both_named : Text → Text → Option Wanted
both_named design file =
    if is_plain design && is_plain file
    then Some (record { steps = None; in_time = None; design = design; file = Some file })
    else None

-- what `DESIGN` or `DESIGN FILE` after the program's name ask for
abbrev pub names_alone : List Text → Option Wanted
names_alone [] = None
names_alone (program ∷ []) = None
names_alone (program ∷ design ∷ []) = named design
names_alone (program ∷ design ∷ file ∷ []) = both_named design file
names_alone (program ∷ design ∷ file ∷ word ∷ words) = None

-- what is wanted with this time put in, if both are there
abbrev pub with_time : Option InTime → Option Wanted → Option Wanted
with_time (Some t) (Some w) = Some (record w { in_time = Some t })
with_time _ _ = None

-- two such names behind two options and their values, where these are the options of a time
abbrev pub options_named : Text → Text → Text → Text → Text → Text → Option Wanted
options_named first within second max_ms design file =
    if bytes_eq first (codes "--within") && bytes_eq second (codes "--max-ms")
    then with_time (in_time_of within max_ms) (both_named design file)
    else None

-- what `--within W --max-ms X DESIGN FILE` after the program's name ask for
abbrev pub names_in_time : List Text → Option Wanted
names_in_time (program ∷ first ∷ within ∷ second ∷ max_ms ∷ design ∷ file ∷ []) =
    options_named first within second max_ms design file
names_in_time words = None

-- the same words after `check`
abbrev pub check_words : List Text → List Text
check_words [] = []
check_words (program ∷ words) = program ∷ codes "check" ∷ words

-- what a check asks for
abbrev pub by_check : Option RequestSeen → Option Wanted
by_check (Some (check n in_time design proof)) =
    Some (record { steps = Some n; in_time = in_time; design = design; file = Some proof })
by_check (Some (simulate design plan)) = None
by_check (Some (routes design)) = None
by_check (Some (verify n conflicts ticks mode design proof)) = None
by_check (Some (tightest n conflicts ticks within bounds design proof)) = None
by_check (Some (trial seed size)) = None
by_check None = None

-- the words after `check`, with a name of a proof behind them
abbrev pub words_with_proof : List Text → List Text
words_with_proof words = check_words words ++ codes "PROOF" ∷ []

-- what is wanted of the design alone, into which no time is put
abbrev pub of_design : Option Wanted → Option Wanted
of_design (Some w) = if is_some w.in_time then None else Some (record w { file = None })
of_design None = None

-- the first, if there is one, or else the second
abbrev pub or_else : Option Wanted → Option Wanted → Option Wanted
or_else (Some w) other = Some w
or_else None other = other

-- what the words ask for: names alone, or behind the options of a time, or what `rcv check` asks for by the same words, or by these with
-- a proof that is left out here
abbrev pub wanted_of : List Text → Option Wanted
wanted_of words =
    or_else (names_alone words) (or_else (names_in_time words) (or_else (by_check (request_of (check_words words)))
    (of_design (by_check (request_of (words_with_proof words))))))

-- the steps, where they are given, are from 1 to 256
abbrev pub AreStepsInRange : Option ℕ → Type 0
AreStepsInRange None = Unit {0}
AreStepsInRange (Some n) = (1 ≤ n) × (n ≤ 256)
