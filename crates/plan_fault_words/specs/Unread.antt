-- What is said of a text that is no plan by its form.
use Rattle.std.specs.Prelude.{◌≡◌, ℕ, ◌≤◌, Bool, List, [], ◌∷◌, ◌++◌, codes, drop, length}
use Rattle.std.specs.Prelude.{Option, None, Some, if◌then◌else◌}
use Rattle.design_places.specs.Shown.{spot_lines}
use Rattle.serde_json.specs.Data.{Data}
use Rattle.plan_places.specs.Shapes.{shape_lines}

-- what is said of a text that is no JSON: that it ends too early, or that something can't stand at a place of it
abbrev pub said_line : Bool → List ℕ
said_line is_cut =
    if is_cut then codes "the file is no JSON: it ends too early\n"
    else codes "the file is no JSON: this can't stand here\n"

-- the text from byte n on, shown, and that line
abbrev pub stop_lines : List ℕ → ℕ → Bool → List (List ℕ)
stop_lines text n is_cut = spot_lines text (drop n text) ++ said_line is_cut ∷ []

-- for some place of the text
abbrev pub IsStop : List ℕ → List (List ℕ) → Type 0
IsStop text lines = (n : ℕ) × (is_cut : Bool) × (n ≤ length text) × (lines ≡ stop_lines text n is_cut)

-- a place of a text that is no JSON; of another what is wrong with its shape
abbrev pub SaysUnread : List ℕ → Option Data → List (List ℕ) → Type 0
SaysUnread text None lines = IsStop text lines
SaysUnread text (Some v) lines = lines ≡ shape_lines v
