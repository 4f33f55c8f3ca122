-- A line cut at its first space.
use Rattle.std.proofs.Common.{◌≡◌, ℕ, suc, not, inl, inr, ◌+◌, ◌-◌, ◌<◌, ◌≤◌, List, [], ◌∷◌, length, take, drop, Some, None, refl, ap, arith, ◌∙◌}
use Rattle.std.specs.List.{slice_split, position, position_or_len, onto_first}
use Rattle.std.proofs.lemmas.List.Splits.{slice_split_first, slice_split-cons_no}
use Rattle.std.proofs.lemmas.List.Sums.{prefix_len-le-length}
use Rattle.std.proofs.lemmas.Bool.{cases_Bool}
use Rattle.std.proofs.lemmas.Bool.Decides.{nat_tests}
use Rattle.std.proofs.lemmas.Grind.{common_steps}
use Rattle.proof_log.specs.Words.{is_space, line_words}

place_of_first : (text : List ℕ) (end : ℕ) → Some end ≡ position is_space text → (position_or_len is_space text ≡ end) × (end < length text)
place_of_first text end is = grind (arith, nat_tests)

no_place : (text : List ℕ) → None ≡ position is_space text → position_or_len is_space text ≡ length text
no_place text is =
    let le : position_or_len is_space text ≤ length text = prefix_len-le-length (λ byte. not (is_space byte)) text in
    grind (arith, nat_tests, le)

pub words-at : (text : List ℕ) (end : ℕ) → Some end ≡ position is_space text
    → line_words text ≡ take end text ∷ line_words (take (length text - (end + 1)) (drop (end + 1) text))
words-at text end is =
    let place = place_of_first text end is in
    let at : position_or_len is_space text ≡ end = place.0 in
    let there : position_or_len is_space text < length text = omega (arith, at, place.1) in
    let all : take (length text - (end + 1)) (drop (end + 1) text) ≡ drop (end + 1) text = grind (arith, common_steps) in
    slice_split_first is_space text 0 there ∙ rw (at, all) refl

whole_part : (text : List ℕ) → position_or_len is_space text ≡ length text → slice_split is_space text ≡ text ∷ []
whole_part [] is = refl
whole_part (x ∷ xs) is = elim (cases_Bool (is_space x)) [
  | inl h ↦ let here : 0 ≡ suc (length xs) = simp h at is in absurd (omega arith)
  | inr h ↦
      let after : 1 + position_or_len is_space xs ≡ suc (length xs) = simp h at is in
      let rest : position_or_len is_space xs ≡ length xs = omega arith in
      slice_split-cons_no is_space x xs h ∙ ap (onto_first x) (whole_part xs rest)
]

pub words-last : (text : List ℕ) → None ≡ position is_space text → line_words text ≡ text ∷ []
words-last text is = whole_part text (no_place text is)
