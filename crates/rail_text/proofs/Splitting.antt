-- A text cut at its first LF.
use Rattle.std.proofs.Common.{◌≡◌, ℕ, suc, not, inl, inr, ◌+◌, ◌-◌, ◌<◌, ◌≤◌, true, false, List, [], ◌∷◌, ◌++◌, length, take, drop, Some, None, append_assoc, refl, ap, arith, ◌∙◌}
use Rattle.std.specs.List.{slice_split, position, position_or_len, before_first, after_first, onto_first, join_with_byte}
use Rattle.std.proofs.lemmas.List.Splits.{slice_split_first, slice_split-cons_no, length-slice_split, join_with_byte-slice_split}
use Rattle.std.proofs.lemmas.List.{append-nil}
use Rattle.std.proofs.lemmas.List.Sums.{prefix_len-le-length}
use Rattle.std.proofs.lemmas.Bool.{cases_Bool}
use Rattle.std.proofs.lemmas.Bool.Decides.{nat_tests}
use Rattle.std.proofs.lemmas.Grind.{common_steps}
use Rattle.rail_text.specs.Pieces.{is_lf, pieces_of_parts, pieces_from, pieces, text_of}

part_first : (line : ℕ) (part : List ℕ) (parts : List (List ℕ)) → 0 < length parts → pieces_of_parts line (part ∷ parts) ≡ record { line = line; ended = true; bytes = part } ∷ pieces_of_parts (line + 1) parts
part_first line part [] some = absurd (omega arith)
part_first line part (next ∷ more) some = refl

-- an LF is there
pub pieces-ended : (line : ℕ) (text : List ℕ) → position_or_len is_lf text < length text
    → pieces_from line text ≡ record { line = line; ended = true; bytes = before_first is_lf text } ∷ pieces_from (line + 1) (after_first is_lf text)
pieces-ended line text there =
    let rest : List ℕ = after_first is_lf text in
    let some : 0 < length (slice_split is_lf rest) = omega (arith, length-slice_split is_lf rest) in
    ap (pieces_of_parts line) (slice_split_first is_lf text 0 there) ∙ part_first line (before_first is_lf text) (slice_split is_lf rest) some

-- the place of the first LF
place_of_first : (text : List ℕ) (end : ℕ) → Some end ≡ position is_lf text → (position_or_len is_lf text ≡ end) × (end < length text)
place_of_first text end is = grind (arith, nat_tests)

no_place : (text : List ℕ) → None ≡ position is_lf text → position_or_len is_lf text ≡ length text
no_place text is =
    let le : position_or_len is_lf text ≤ length text = prefix_len-le-length (λ byte. not (is_lf byte)) text in
    grind (arith, nat_tests, le)

pub pieces-at : (line : ℕ) (text : List ℕ) (end : ℕ) → Some end ≡ position is_lf text
    → pieces_from line text ≡ record { line = line; ended = true; bytes = take end text } ∷ pieces_from (line + 1) (take (length text - (end + 1)) (drop (end + 1) text))
pieces-at line text end is =
    let place = place_of_first text end is in
    let at : position_or_len is_lf text ≡ end = place.0 in
    let there : position_or_len is_lf text < length text = omega (arith, at, place.1) in
    let all : take (length text - (end + 1)) (drop (end + 1) text) ≡ drop (end + 1) text = grind (arith, common_steps) in
    pieces-ended line text there ∙ rw (at, all) refl

-- no LF is there
whole_part : (text : List ℕ) → position_or_len is_lf text ≡ length text → slice_split is_lf text ≡ text ∷ []
whole_part [] is = refl
whole_part (x ∷ xs) is = elim (cases_Bool (is_lf x)) [
  | inl h ↦ let here : 0 ≡ suc (length xs) = simp h at is in absurd (omega arith)
  | inr h ↦
      let after : 1 + position_or_len is_lf xs ≡ suc (length xs) = simp h at is in
      let rest : position_or_len is_lf xs ≡ length xs = omega arith in
      slice_split-cons_no is_lf x xs h ∙ ap (onto_first x) (whole_part xs rest)
]

pub pieces-last : (line : ℕ) (text : List ℕ) → None ≡ position is_lf text → 0 < length text
    → pieces_from line text ≡ record { line = line; ended = false; bytes = text } ∷ pieces_from (line + 1) []
pieces-last line [] is some = absurd (omega arith)
pieces-last line (x ∷ xs) is some = ap (pieces_of_parts line) (whole_part (x ∷ xs) (no_place (x ∷ xs) is))

-- the parts, joined by LFs
parts_joined : (line : ℕ) (part : List ℕ) (parts : List (List ℕ)) → text_of (pieces_of_parts line (part ∷ parts)) ≡ join_with_byte 10 (part ∷ parts)
parts_joined line [] [] = refl
parts_joined line (x ∷ xs) [] = ap (λ t. x ∷ t) (append-nil (xs ++ []) ∙ append-nil xs)
parts_joined line part (next ∷ more) = append_assoc part (10 ∷ []) (text_of (pieces_of_parts (line + 1) (next ∷ more))) ∙ ap (λ t. part ++ (10 ∷ t)) (parts_joined (line + 1) next more)

some_parts : (parts : List (List ℕ)) → 0 < length parts → text_of (pieces_of_parts 1 parts) ≡ join_with_byte 10 parts
some_parts [] some = absurd (omega arith)
some_parts (part ∷ parts) some = parts_joined 1 part parts

pub text_of-pieces : (text : List ℕ) → text_of (pieces text) ≡ text
text_of-pieces text =
    let some : 0 < length (slice_split is_lf text) = omega (arith, length-slice_split is_lf text) in
    some_parts (slice_split is_lf text) some ∙ join_with_byte-slice_split 10 text
