-- Which words are taken.
use Rattle.std.specs.Prelude.{◌≡◌, ℕ, [], ◌∷◌, true, Some, None, codes}
use Rattle.clap.specs.Words.{Text}
use Rattle.rail_words.specs.Laws.{is_plain}
use Rattle.rail_words.specs.Requests.{steps_of, within_of, max_ms_of}
use Rattle.why_words.specs.Wanted.{wanted_of}

-- `DESIGN` with a plain name asks for what is to be said of it
abbrev pub NameIsRead : Type 0
NameIsRead = (program design : Text) → is_plain design ≡ true
    → wanted_of (program ∷ design ∷ []) ≡ Some (record { steps = None; in_time = None; design = design; file = None })

-- `DESIGN FILE` with plain names asks for what is to be said of both
abbrev pub NamesAreRead : Type 0
NamesAreRead = (program design file : Text) → is_plain design ≡ true → is_plain file ≡ true
    → wanted_of (program ∷ design ∷ file ∷ []) ≡ Some (record { steps = None; in_time = None; design = design; file = Some file })

-- `--steps N DESIGN FILE` with plain names asks for that with N steps
abbrev pub StepsAreRead : Type 0
StepsAreRead = (program steps design file : Text) (n : ℕ) → steps_of steps ≡ Some n
    → is_plain design ≡ true → is_plain file ≡ true
    → wanted_of (program ∷ codes "--steps" ∷ steps ∷ design ∷ file ∷ [])
    ≡ Some (record { steps = Some n; in_time = None; design = design; file = Some file })

-- `--within W --max-ms X DESIGN FILE` with plain names asks for that with the greatest time X in within W
abbrev pub TimeIsRead : Type 0
TimeIsRead = (program within max_ms design file : Text) (w x : ℕ) → within_of within ≡ Some w → max_ms_of max_ms ≡ Some x
    → is_plain design ≡ true → is_plain file ≡ true
    → wanted_of (program ∷ codes "--within" ∷ within ∷ codes "--max-ms" ∷ max_ms ∷ design ∷ file ∷ [])
    ≡ Some (record { steps = None; in_time = Some (record { within = w; max_ms = x }); design = design; file = Some file })

-- `--within W --max-ms X --steps N DESIGN FILE` with plain names asks for that with N steps
abbrev pub TimeAndStepsAreRead : Type 0
TimeAndStepsAreRead = (program within max_ms steps design file : Text) (w x n : ℕ)
    → within_of within ≡ Some w → max_ms_of max_ms ≡ Some x → steps_of steps ≡ Some n
    → is_plain design ≡ true → is_plain file ≡ true
    → wanted_of (program ∷ codes "--within" ∷ within ∷ codes "--max-ms" ∷ max_ms ∷ codes "--steps" ∷ steps ∷ design ∷ file ∷ [])
    ≡ Some (record { steps = Some n; in_time = Some (record { within = w; max_ms = x }); design = design; file = Some file })
