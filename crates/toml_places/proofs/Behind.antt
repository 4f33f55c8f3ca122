-- What stands behind the last LF, and one byte more.
use Rattle.std.proofs.Common.{◌≡◌, ℕ, ◌+◌, true, false, ◌||◌, List, [], ◌∷◌, ◌++◌, length, filter, ⊎_elim, arith}
use Rattle.std.proofs.lemmas.Bool.{cases_Bool}
use Rattle.std.specs.List.{list_any}
use Rattle.rail_text.specs.Pieces.{is_lf}
use Rattle.toml_places.specs.Lines.{begins_character, characters_with, last_line}

any-added : (text : List ℕ) (b : ℕ) → list_any is_lf (text ++ b ∷ []) ≡ (list_any is_lf text || is_lf b)
any-added [] b = grind arith
any-added (a ∷ text) b = grind (arith, any-added text b)

-- an LF
pub ended : (text : List ℕ) (b : ℕ) → is_lf b ≡ true → last_line (text ++ b ∷ []) ≡ []
ended [] b lf = grind (arith, lf)
ended (a ∷ text) b lf = grind (arith, lf, any-added text b, ended text b lf)

-- another byte
pub longer : (text : List ℕ) (b : ℕ) → is_lf b ≡ false → last_line (text ++ b ∷ []) ≡ last_line text ++ b ∷ []
longer [] b other = grind (arith, other)
longer (a ∷ text) b other =
    ⊎_elim
    (λ y. grind (arith, other, any-added text b, longer text b other, y))
    (λ n. grind (arith, other, any-added text b, longer text b other, n))
    (cases_Bool (list_any is_lf (a ∷ text)))

pub begun-added : (text : List ℕ) (b : ℕ) → length (filter begins_character (text ++ b ∷ [])) ≡ length (filter begins_character text) + length (filter begins_character (b ∷ []))
begun-added [] b = grind arith
begun-added (a ∷ text) b = ⊎_elim (λ y. grind (arith, begun-added text b, y)) (λ n. grind (arith, begun-added text b, n)) (cases_Bool (begins_character a))

-- the characters behind the last LF
pub behind-added : (text : List ℕ) (b : ℕ) → length (filter begins_character (last_line (text ++ b ∷ []))) ≡ characters_with (length (filter begins_character (last_line text))) b
behind-added text b =
    ⊎_elim
    (λ lf. grind (arith, ended text b lf, lf))
    (λ other. ⊎_elim
    (λ y. grind (arith, longer text b other, begun-added (last_line text) b, other, y))
    (λ n. grind (arith, longer text b other, begun-added (last_line text) b, other, n))
    (cases_Bool (begins_character b)))
    (cases_Bool (is_lf b))
