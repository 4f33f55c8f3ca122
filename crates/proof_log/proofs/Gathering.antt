-- Parts that are gathered from the words one by one.
use Rattle.std.proofs.Common.{◌≡◌, ℕ, suc, ◌+◌, ◌-◌, ◌≤◌, Bool, true, false, cond, not, List, [], ◌∷◌, ◌++◌, length, Option, Some, None, is_some, Bor, refl, sym, ap, ◌∙◌, arith, append_assoc, append-nil, length-append}
use Rattle.std.specs.List.{slice_split, onto_first}
use Rattle.std.specs.Str.{bytes_eq}
use Rattle.std.proofs.lemmas.Slice.Eq.{bytes_eq-Decides}
use Rattle.proof_log.specs.Words.{is_space, line_words}
use Rattle.proof_log.specs.Parts.{WithRest, made, parts_of, all_parts, part_before}
use Rattle.proof_log.specs.Lines.{if_all}
use Rattle.proof_log.specs.Reading.{words_left}
use Rattle.proof_log.proofs.Written.{IsWritten, stops, none-back, marked}

-- members that stand before those of a list that was found
abbrev pub onto : {X W : Type 0} → List X → Option (List X × W) → Option (List X × W)
onto members None = None
onto members (Some found) = Some (members ++ found.0, found.1)

onto_first-left : {X : Type 0} (x : X) (byte : ℕ) (parts : List (List ℕ)) → if_all (Some (x, onto_first byte parts)) ≡ None
onto_first-left x byte [] = refl
onto_first-left x byte (part ∷ parts) = refl

words-left : {X : Type 0} (x : X) (text : List ℕ) → if_all (Some (x, line_words text)) ≡ None
words-left x [] = refl
words-left x (byte ∷ bytes) = elim (is_space byte) as (λ b. if_all (Some (x, cond b ([] ∷ slice_split is_space bytes) (onto_first byte (slice_split is_space bytes)))) ≡ None) [
  | true ↦ refl
  | false ↦ onto_first-left x byte (slice_split is_space bytes)
]

-- a line doesn't end where words are left
pub words_are_left : {X : Type 0} (x : X) (left : Option (Bor (List ℕ))) → is_some left ≡ true → if_all (Some (x, words_left left)) ≡ None
words_are_left x None some = absurd (cc)
words_are_left x (Some text) some = words-left x text.now

-- ---- parts that begin with a mark

-- after some parts, all is what was gathered and what is read from the words that are left
pub record Gathered {X : Type 0} (mark : List ℕ) (part : WithRest X) (words : List (List ℕ)) (parts : List X) (left : List (List ℕ)) : Type 0 where
  pub same : (n : ℕ) → n + length parts ≡ length words → all_parts mark part words ≡ onto parts (parts_of mark part n left)
  pub few : length left + length parts ≤ length words

not-false : (b : Bool) → false ≡ not b → b ≡ true
not-false true h = refl
not-false false h = absurd (cc)

pub onto-nil : {X W : Type 0} (o : Option (List X × W)) → onto [] o ≡ o
onto-nil None = refl
onto-nil (Some found) = refl

pub onto-push : {X W : Type 0} (xs : List X) (x : X) (o : Option (List X × W)) → onto xs (made (λ ys. x ∷ ys) o) ≡ onto (xs ++ x ∷ []) o
onto-push xs x None = refl
onto-push xs x (Some found) = ap (λ l. Some (l, found.1)) (sym (append_assoc xs (x ∷ []) found.0))

pub gathered-first : {X : Type 0} (mark : List ℕ) (part : WithRest X) (words : List (List ℕ)) → Gathered mark part words [] words
gathered-first mark part words = record {
  same = λ n e. ap (λ k. parts_of mark part k words) (let all : length words ≡ n = omega (arith, e) in all) ∙ sym (onto-nil (parts_of mark part n words));
  few = omega arith;
}

one-more : {X : Type 0} (mark : List ℕ) (part : WithRest X) (n : ℕ) (more : List (List ℕ)) → parts_of mark part (suc n) (mark ∷ more) ≡ part_before (part more) (λ w. parts_of mark part n w)
one-more mark part n more = rw (marked mark) refl

pub gathered-more : {X : Type 0} (mark : List ℕ) (part : WithRest X) (words : List (List ℕ)) (parts : List X) (left more after : List (List ℕ)) (x : X) → Gathered mark part words parts left → left ≡ mark ∷ more → part more ≡ Some (x, after) → length after ≤ length more
    → Gathered mark part words (parts ++ x ∷ []) after
gathered-more mark part words parts left more after x g here found le =
    let size : length (parts ++ x ∷ []) ≡ length parts + 1 = length-append parts (x ∷ []) in
    let lefts : length left ≡ suc (length more) = ap length here in
    record {
      same = λ n e.
          let at : suc n + length parts ≡ length words = omega (arith, e, size) in
          let step : parts_of mark part (suc n) left ≡ made (λ xs. x ∷ xs) (parts_of mark part n after) = ap (parts_of mark part (suc n)) here ∙ one-more mark part n more ∙ ap (λ o. part_before o (λ w. parts_of mark part n w)) found in
          g.same (suc n) at ∙ ap (onto parts) step ∙ onto-push parts x (parts_of mark part n after);
      few = omega (arith, size, lefts, le, g.few);
    }

pub gathered-none : {X : Type 0} (mark : List ℕ) (part : WithRest X) (words : List (List ℕ)) (parts : List X) (left more : List (List ℕ)) → Gathered mark part words parts left → left ≡ mark ∷ more → part more ≡ None → all_parts mark part words ≡ None
gathered-none mark part words parts left more g here none =
    let lefts : length left ≡ suc (length more) = ap length here in
    let n : ℕ = length words - suc (length parts) in
    let at : suc n + length parts ≡ length words = omega (arith, lefts, g.few) in
    let step : parts_of mark part (suc n) left ≡ None = ap (parts_of mark part (suc n)) here ∙ one-more mark part n more ∙ ap (λ o. part_before o (λ w. parts_of mark part n w)) none in
    g.same (suc n) at ∙ ap (onto parts) step

pub gathered-all : {X : Type 0} (mark : List ℕ) (part : WithRest X) (words : List (List ℕ)) (parts : List X) (left : List (List ℕ)) → Gathered mark part words parts left → stops mark left ≡ true → all_parts mark part words ≡ Some (parts, left)
gathered-all mark part words parts left g stop =
    let n : ℕ = length words - length parts in
    let at : n + length parts ≡ length words = omega (arith, g.few) in
    g.same n at ∙ ap (onto parts) (none-back mark part n left stop) ∙ ap (λ l. Some (l, left)) (append-nil parts)

-- the words that are left, by the first of them
pub left-is : (left : Option (Bor (List ℕ))) (text : Bor (List ℕ)) (word mark name : List ℕ) (more : List (List ℕ)) → left ≡ Some text → line_words text.now ≡ word ∷ more → name ≡ mark → false ≡ not (bytes_eq word name) → words_left left ≡ mark ∷ more
left-is left text word mark name more is first named equal =
    let same : word ≡ name = (bytes_eq-Decides word name).0 (not-false (bytes_eq word name) equal) in
    ap words_left is ∙ first ∙ ap (λ w. w ∷ more) (same ∙ named)

pub left-stops : (left : Option (Bor (List ℕ))) (text : Bor (List ℕ)) (word mark name : List ℕ) (more : List (List ℕ)) → left ≡ Some text → line_words text.now ≡ word ∷ more → name ≡ mark → true ≡ not (bytes_eq word name) → stops mark (words_left left) ≡ true
left-stops left text word mark name more is first named other =
    ap (stops mark) (ap words_left is ∙ first) ∙ ap (λ n. not (bytes_eq word n)) (sym named) ∙ sym other

pub none-stops : (left : Option (Bor (List ℕ))) (mark : List ℕ) → left ≡ None → stops mark (words_left left) ≡ true
none-stops left mark is = ap (λ l. stops mark (words_left l)) is

pub told-shorter : {X : Type 0} (write : X → List (List ℕ)) (good : X → Bool) (words : List (List ℕ)) (o : Option (X × List (List ℕ))) (x : X) (after : List (List ℕ)) → IsWritten write good words o → o ≡ Some (x, after) → length after ≤ length words
told-shorter write good words o x after told e =
    let t = told (x, after) e in
    let sizes : length words ≡ length (write x) + length after = ap length t.0 ∙ length-append (write x) after in
    omega (arith, sizes)
