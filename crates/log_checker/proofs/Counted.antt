-- How many lines a file has.
use Rattle.std.proofs.Common.{◌≡◌, ℕ, ◌+◌, ◌≤◌, List, [], ◌∷◌, length, arith, ap}
use Rattle.std.specs.List.{slice_split}
use Rattle.std.proofs.lemmas.List.Splits.{length-slice_split}
use Rattle.std.proofs.lemmas.List.Sums.{count_by-le-length}
use Rattle.rail_text.specs.Pieces.{Line, is_lf, last_piece, pieces_of_parts, pieces}

length-last : (line : ℕ) (bytes : List ℕ) → length (last_piece line bytes) ≤ 1
length-last line [] = omega arith
length-last line (byte ∷ more) = omega arith

length-parts : (line : ℕ) (parts : List (List ℕ)) → length (pieces_of_parts line parts) ≤ length parts
length-parts line [] = omega arith
length-parts line (last ∷ []) = length-last line last
length-parts line (part ∷ next ∷ more) = omega (arith, length-parts (line + 1) (next ∷ more))

-- at most one more than bytes
pub length-pieces : (bytes : List ℕ) → length (pieces bytes) ≤ length bytes + 1
length-pieces bytes = omega (arith, length-parts 1 (slice_split is_lf bytes), length-slice_split is_lf bytes, count_by-le-length is_lf bytes)

pub few : (bytes : List ℕ) (first : Line) (all more : List Line) → all ≡ pieces bytes → all ≡ first ∷ more → length more ≤ length bytes
few bytes first all more a f = omega (arith, length-pieces bytes, ap length a, ap length f)
