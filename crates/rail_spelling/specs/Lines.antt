-- Plain command lines: words in their order, with numbers in digits and names of files.
use Rattle.std.specs.Prelude.{◌≡◌, ◌≢◌, ℕ, ◌≤◌, Bool, true, false, List, [], ◌∷◌, ◌++◌, Some, codes}
use Rattle.rail_text.specs.Numbers.{number_of}
use Rattle.rail_words.specs.declared.request.SearchMode.{SearchMode}
use Rattle.rail_words.specs.declared.request.SearchMode.TheVariants.{Plain, Bounds, Any, Normal}

-- a word by its bytes
abbrev pub Word : Type 0
Word = List ℕ

-- the word is a number from 1 to a greatest, in 1 to 20 decimal digits
abbrev pub IsNumber : Word → ℕ → ℕ → Type 0
IsNumber word n greatest = (number_of word ≡ Some n) × (1 ≤ n) × (n ≤ greatest)

-- the word may be the name of a file: it is not empty, and does not begin with a hyphen
abbrev pub IsName : Word → Type 0
IsName [] = ⊥
IsName (byte ∷ bytes) = byte ≢ 45

-- `simulate DESIGN PLAN` behind the name of the program
pub record SimulateLine (words : List Word) (design plan : Word) : Type 0 where
  pub program : Word
  pub line : words ≡ program ∷ codes "simulate" ∷ design ∷ plan ∷ []
  pub names : IsName design × IsName plan

-- the flags by which a plan is looked for
abbrev pub flags_of : SearchMode → List Word
flags_of Plain = []
flags_of Bounds = codes "--bounds" ∷ []
flags_of Any = codes "--bounds" ∷ codes "--any" ∷ []
flags_of Normal = codes "--normal" ∷ []

-- `verify --steps N --conflicts C --ticks T [--normal | --bounds [--any]] DESIGN PROOF`
pub record VerifyLine (words : List Word) (n : ℕ) (design proof : Word) : Type 0 where
  pub program : Word
  pub steps_word : Word
  pub conflicts_word : Word
  pub ticks_word : Word
  pub conflicts : ℕ
  pub ticks : ℕ
  pub mode : SearchMode
  pub line : words ≡ program ∷ codes "verify" ∷ codes "--steps" ∷ steps_word ∷ codes "--conflicts" ∷ conflicts_word
      ∷ codes "--ticks" ∷ ticks_word ∷ (flags_of mode ++ design ∷ proof ∷ [])
  pub numbers : IsNumber steps_word n 256 × IsNumber conflicts_word conflicts 10_000_000
      × IsNumber ticks_word ticks 1_000_000_000_000
  pub names : IsName design × IsName proof

-- the flag by which bounds are looked for
abbrev pub bounds_flag : Bool → List Word
bounds_flag true = codes "--bounds" ∷ []
bounds_flag false = []

-- `tightest --steps N --conflicts C --ticks T --within W [--bounds] DESIGN PROOF`
pub record TightestLine (words : List Word) (n within : ℕ) (design proof : Word) : Type 0 where
  pub program : Word
  pub steps_word : Word
  pub conflicts_word : Word
  pub ticks_word : Word
  pub within_word : Word
  pub conflicts : ℕ
  pub ticks : ℕ
  pub bounds : Bool
  pub line : words ≡ program ∷ codes "tightest" ∷ codes "--steps" ∷ steps_word ∷ codes "--conflicts" ∷ conflicts_word
      ∷ codes "--ticks" ∷ ticks_word ∷ codes "--within" ∷ within_word ∷ (bounds_flag bounds ++ design ∷ proof ∷ [])
  pub numbers : IsNumber steps_word n 256 × IsNumber conflicts_word conflicts 10_000_000
      × IsNumber ticks_word ticks 1_000_000_000_000 × IsNumber within_word within 256
  pub names : IsName design × IsName proof

-- `check --steps N DESIGN PROOF`
pub record CheckLine (words : List Word) (n : ℕ) (design proof : Word) : Type 0 where
  pub program : Word
  pub steps_word : Word
  pub line : words ≡ program ∷ codes "check" ∷ codes "--steps" ∷ steps_word ∷ design ∷ proof ∷ []
  pub number : IsNumber steps_word n 256
  pub names : IsName design × IsName proof

-- `check --within W --max-ms X --steps N DESIGN PROOF`, of which the greatest time may be 0
pub record CheckInTimeLine (words : List Word) (n within max_ms : ℕ) (design proof : Word) : Type 0 where
  pub program : Word
  pub within_word : Word
  pub max_ms_word : Word
  pub steps_word : Word
  pub line : words ≡ program ∷ codes "check" ∷ codes "--within" ∷ within_word ∷ codes "--max-ms" ∷ max_ms_word
      ∷ codes "--steps" ∷ steps_word ∷ design ∷ proof ∷ []
  pub numbers : IsNumber within_word within 256 × (number_of max_ms_word ≡ Some max_ms) × (max_ms ≤ 86_400_000)
      × IsNumber steps_word n 256
  pub names : IsName design × IsName proof

-- `trial SEED SIZE`, of which the seed may be 0
pub record TrialLine (words : List Word) (seed size : ℕ) : Type 0 where
  pub program : Word
  pub seed_word : Word
  pub size_word : Word
  pub line : words ≡ program ∷ codes "trial" ∷ seed_word ∷ size_word ∷ []
  pub numbers : (number_of seed_word ≡ Some seed) × IsNumber size_word size 6
