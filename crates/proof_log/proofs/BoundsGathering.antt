-- Parts that are gathered from the words one by one, up to a mark.
use Rattle.std.proofs.Common.{◌≡◌, ℕ, zero, suc, ◌+◌, ◌-◌, ◌≤◌, Bool, true, false, List, [], ◌∷◌, ◌++◌, length, Option, Some, None, Bor, refl, sym, ap, ◌∙◌, arith, append-nil, length-append}
use Rattle.std.specs.Str.{bytes_eq}
use Rattle.proof_log.specs.Words.{line_words}
use Rattle.proof_log.specs.Parts.{WithRest, made, part_before}
use Rattle.proof_log.specs.Reading.{words_left}
use Rattle.proof_log.proofs.Gathering.{onto, onto-nil, onto-push}
use Rattle.proof_log.specs.Bounds.{parts_until}

-- no word is left, or the first is the mark
abbrev pub starts : List ℕ → List (List ℕ) → Bool
starts mark [] = true
starts mark (word ∷ more) = bytes_eq word mark

pub none-until : {X : Type 0} (mark : List ℕ) (part : List ℕ → WithRest X) (n : ℕ) (rest : List (List ℕ)) → starts mark rest ≡ true → parts_until mark part n rest ≡ Some ([], rest)
none-until mark part zero rest s = refl
none-until mark part (suc n) [] s = refl
none-until mark part (suc n) (word ∷ more) s = rw s refl

-- after some parts, all is what was gathered and what is read from the words that are left
pub record Gathered {X : Type 0} (mark : List ℕ) (part : List ℕ → WithRest X) (words : List (List ℕ)) (parts : List X) (left : List (List ℕ)) : Type 0 where
  pub same : (n : ℕ) → n + length parts ≡ length words → parts_until mark part (length words) words ≡ onto parts (parts_until mark part n left)
  pub few : length left + length parts ≤ length words

pub gathered-first : {X : Type 0} (mark : List ℕ) (part : List ℕ → WithRest X) (words : List (List ℕ)) → Gathered mark part words [] words
gathered-first mark part words = record {
  same = λ n e. ap (λ k. parts_until mark part k words) (let all : length words ≡ n = omega (arith, e) in all) ∙ sym (onto-nil (parts_until mark part n words));
  few = omega arith;
}

one-more : {X : Type 0} (mark : List ℕ) (part : List ℕ → WithRest X) (n : ℕ) (word : List ℕ) (more : List (List ℕ)) → bytes_eq word mark ≡ false → parts_until mark part (suc n) (word ∷ more) ≡ part_before (part word more) (λ w. parts_until mark part n w)
one-more mark part n word more other = rw other refl

pub gathered-more : {X : Type 0} (mark : List ℕ) (part : List ℕ → WithRest X) (words : List (List ℕ)) (parts : List X) (left : List (List ℕ)) (word : List ℕ) (more after : List (List ℕ)) (x : X) → Gathered mark part words parts left → left ≡ word ∷ more → bytes_eq word mark ≡ false → part word more ≡ Some (x, after)
    → length after ≤ length more → Gathered mark part words (parts ++ x ∷ []) after
gathered-more mark part words parts left word more after x g here other found le =
    let size : length (parts ++ x ∷ []) ≡ length parts + 1 = length-append parts (x ∷ []) in
    let lefts : length left ≡ suc (length more) = ap length here in
    record {
      same = λ n e.
          let at : suc n + length parts ≡ length words = omega (arith, e, size) in
          let step : parts_until mark part (suc n) left ≡ made (λ xs. x ∷ xs) (parts_until mark part n after) = ap (parts_until mark part (suc n)) here ∙ one-more mark part n word more other ∙ ap (λ o. part_before o (λ w. parts_until mark part n w)) found in
          g.same (suc n) at ∙ ap (onto parts) step ∙ onto-push parts x (parts_until mark part n after);
      few = omega (arith, size, lefts, le, g.few);
    }

pub gathered-none : {X : Type 0} (mark : List ℕ) (part : List ℕ → WithRest X) (words : List (List ℕ)) (parts : List X) (left : List (List ℕ)) (word : List ℕ) (more : List (List ℕ)) → Gathered mark part words parts left → left ≡ word ∷ more → bytes_eq word mark ≡ false → part word more ≡ None
    → parts_until mark part (length words) words ≡ None
gathered-none mark part words parts left word more g here other none =
    let lefts : length left ≡ suc (length more) = ap length here in
    let n : ℕ = length words - suc (length parts) in
    let at : suc n + length parts ≡ length words = omega (arith, lefts, g.few) in
    let step : parts_until mark part (suc n) left ≡ None = ap (parts_until mark part (suc n)) here ∙ one-more mark part n word more other ∙ ap (λ o. part_before o (λ w. parts_until mark part n w)) none in
    g.same (suc n) at ∙ ap (onto parts) step

pub gathered-all : {X : Type 0} (mark : List ℕ) (part : List ℕ → WithRest X) (words : List (List ℕ)) (parts : List X) (left : List (List ℕ)) → Gathered mark part words parts left → starts mark left ≡ true → parts_until mark part (length words) words ≡ Some (parts, left)
gathered-all mark part words parts left g stop =
    let n : ℕ = length words - length parts in
    let at : n + length parts ≡ length words = omega (arith, g.few) in
    g.same n at ∙ ap (onto parts) (none-until mark part n left stop) ∙ ap (λ l. Some (l, left)) (append-nil parts)

-- the words that are left, by the first of them
pub left-is : (left : Option (Bor (List ℕ))) (text : Bor (List ℕ)) (word : List ℕ) (more : List (List ℕ)) → left ≡ Some text → line_words text.now ≡ word ∷ more → words_left left ≡ word ∷ more
left-is left text word more is first = ap words_left is ∙ first

pub other-word : (word mark name : List ℕ) → name ≡ mark → false ≡ bytes_eq word name → bytes_eq word mark ≡ false
other-word word mark name named other = ap (λ n. bytes_eq word n) (sym named) ∙ sym other

pub left-starts : (left : Option (Bor (List ℕ))) (text : Bor (List ℕ)) (word mark name : List ℕ) (more : List (List ℕ)) → left ≡ Some text → line_words text.now ≡ word ∷ more → name ≡ mark → true ≡ bytes_eq word name → starts mark (words_left left) ≡ true
left-starts left text word mark name more is first named same = ap (starts mark) (left-is left text word more is first) ∙ ap (λ n. bytes_eq word n) (sym named) ∙ sym same

pub none-starts : (left : Option (Bor (List ℕ))) (mark : List ℕ) → left ≡ None → starts mark (words_left left) ≡ true
none-starts left mark is = ap (λ l. starts mark (words_left l)) is
