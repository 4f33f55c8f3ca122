-- The text of a head is read as that head, and what is read as a head is its text.
use Rattle.std.proofs.Common.{◌≡◌, ℕ, Bool, true, ◌&&◌, List, [], ◌∷◌, ◌++◌, codes, decimal, Option, Some, None, refl, sym, ap, subst, ◌∙◌}
use Rattle.std.specs.List.{join_with_byte}
use Rattle.std.specs.Str.{bytes_eq}
use Rattle.std.proofs.lemmas.List.Splits.{join_with_byte-slice_split}
use Rattle.rail_text.specs.Laws.{NumbersReadBack}
use Rattle.clause_spec.specs.declared.question.BaseKind.{BaseKind}
use Rattle.clause_spec.specs.declared.question.BaseKind.TheVariants.{Plain, Sorted, Normal, Live}
use Rattle.clause_spec.specs.declared.question.Turns.TheVariants.{All, Beside}
use Rattle.proof_log.specs.declared.head.Head.{Head}
use Rattle.proof_log.specs.declared.head.Head.TheVariants.{Unnamed, Of}
use Rattle.proof_log.specs.Words.{is_plain, line_words}
use Rattle.proof_log.specs.Parts.{made, three_plain_numbers, two_plain_numbers}
use Rattle.proof_log.specs.Lines.{if_all}
use Rattle.proof_log.specs.Heads.{head_words, head_text, keeps_head, keeps_within, within_words, asked_beside, asked_by, base_of_word, base_word, head_beside, head_of_question, head_of_version, head_after, head_of_words, head_of}
use Rattle.proof_log.proofs.Written.{some-told, choose, named-told, numbers_words, keeps_plain_numbers, plain_numbers-told, three_plain_numbers-told, all-told}
use Rattle.proof_log.proofs.Back.{plain_numbers-read, three_plain_numbers-read, split-back, plain_numbers-spaceless, three_plain_numbers-spaceless}
use Rattle.sat_clause.proofs.Sound.{both}

-- ---- read back

-- of a base that names no within, the two numbers
two-plain : (version steps : ℕ) → (is_plain version && is_plain steps && true) ≡ true → (is_plain version && is_plain steps) ≡ true
two-plain version steps keeps = (both (is_plain version && is_plain steps) true keeps).0

split-question : (base : BaseKind) (version steps : ℕ) → keeps_head (asked_by base (version, steps)) ≡ true → line_words (head_text (asked_by base (version, steps))) ≡ head_words (asked_by base (version, steps))
split-question Plain version steps keeps = split-back (codes "rcvlog") (codes "2" ∷ decimal version ∷ decimal steps ∷ []) refl (plain_numbers-spaceless version steps (two-plain version steps keeps))
split-question Sorted version steps keeps = split-back (codes "rcvlog") (codes "4" ∷ decimal version ∷ decimal steps ∷ []) refl (plain_numbers-spaceless version steps (two-plain version steps keeps))
split-question Normal version steps keeps = split-back (codes "rcvlog") (codes "3" ∷ decimal version ∷ decimal steps ∷ []) refl (plain_numbers-spaceless version steps (two-plain version steps keeps))
split-question (Live All) version steps keeps = split-back (codes "rcvlog") (codes "5" ∷ decimal version ∷ decimal steps ∷ []) refl (plain_numbers-spaceless version steps (two-plain version steps keeps))
split-question (Live (Beside w)) version steps keeps = split-back (codes "rcvlog") (codes "6" ∷ decimal version ∷ decimal steps ∷ decimal w ∷ []) refl (three_plain_numbers-spaceless version steps w keeps)

split-head : (h : Head) → keeps_head h ≡ true → line_words (head_text h) ≡ head_words h
split-head Unnamed keeps = split-back (codes "rcvlog") (codes "1" ∷ []) refl refl
split-head (Of q) keeps = split-question q.base q.version q.steps keeps

question-back : NumbersReadBack → (base : BaseKind) (version steps : ℕ) → keeps_head (asked_by base (version, steps)) ≡ true → head_of_words (head_words (asked_by base (version, steps))) ≡ Some (asked_by base (version, steps))
question-back back Plain version steps keeps = rw (plain_numbers-read back (version, steps) [] (two-plain version steps keeps)) refl
question-back back Sorted version steps keeps = rw (plain_numbers-read back (version, steps) [] (two-plain version steps keeps)) refl
question-back back Normal version steps keeps = rw (plain_numbers-read back (version, steps) [] (two-plain version steps keeps)) refl
question-back back (Live All) version steps keeps = rw (plain_numbers-read back (version, steps) [] (two-plain version steps keeps)) refl
question-back back (Live (Beside w)) version steps keeps = rw (three_plain_numbers-read back ((version, steps), w) [] keeps) refl

head-back : NumbersReadBack → (h : Head) → keeps_head h ≡ true → head_of_words (head_words h) ≡ Some h
head-back back Unnamed keeps = refl
head-back back (Of q) keeps = question-back back q.base q.version q.steps keeps

pub read-back : NumbersReadBack → (h : Head) → keeps_head h ≡ true → head_of (head_text h) ≡ Some h
read-back back h keeps = ap head_of_words (split-head h keeps) ∙ head-back back h keeps

-- ---- one text

-- the words of a head after the first
abbrev after_name : Head → List (List ℕ)
after_name Unnamed = codes "1" ∷ []
after_name (Of q) = base_word q.base ∷ decimal q.version ∷ decimal q.steps ∷ within_words q.base

named : (h : Head) → codes "rcvlog" ∷ after_name h ≡ head_words h
named Unnamed = refl
named (Of q) = refl

-- the word names the base, which names no within
record Names (word : List ℕ) (base : BaseKind) : Type 0 where
  named : word ≡ base_word base
  no_more : within_words base ≡ []
  kept : keeps_within base ≡ true

base-told : (word : List ℕ) (base : BaseKind) → base_of_word word ≡ Some base → Names word base
base-told word base e =
    choose word (codes "2") (Some Plain) _ base (λ n is. subst (Names word) (some-same is) (record { named = n; no_more = refl; kept = refl }))
    (choose word (codes "4") (Some Sorted) _ base (λ n is. subst (Names word) (some-same is) (record { named = n; no_more = refl; kept = refl }))
    (choose word (codes "3") (Some Normal) _ base (λ n is. subst (Names word) (some-same is) (record { named = n; no_more = refl; kept = refl }))
    (choose word (codes "5") (Some (Live All)) None base (λ n is. subst (Names word) (some-same is) (record { named = n; no_more = refl; kept = refl })) (λ none. absurd (cc)) (bytes_eq word (codes "5")) refl)
    (bytes_eq word (codes "3")) refl)
    (bytes_eq word (codes "4")) refl)
    (bytes_eq word (codes "2")) refl e
  where
    some-same : {x y : BaseKind} → Some x ≡ Some y → x ≡ y
    some-same p = cc

question-told : (version : List ℕ) (more : List (List ℕ)) (h : Head) (found : Option BaseKind) → base_of_word version ≡ found → head_of_question found more ≡ Some h → (version ∷ more ≡ after_name h) × (keeps_head h ≡ true)
question-told version more h None is e = absurd (cc)
question-told version more h (Some base) is e =
    let n = base-told version base is in
    all-told after_name keeps_head (version ∷ more) (made (asked_by base) (two_plain_numbers more)) h
    (named-told (base_word base) (asked_by base) numbers_words keeps_plain_numbers after_name keeps_head
    (λ x. ap (λ ws. base_word base ∷ decimal x.0 ∷ decimal x.1 ∷ ws) n.no_more)
    (λ x g. ap (λ b. is_plain x.0 && is_plain x.1 && b) n.kept ∙ also-true (is_plain x.0 && is_plain x.1) g)
    version more (two_plain_numbers more) (plain_numbers-told more) n.named) e
  where
    also-true : (b : Bool) → b ≡ true → (b && true) ≡ true
    also-true b g = rw g refl

beside-told : (version : List ℕ) (more : List (List ℕ)) (h : Head) → version ≡ codes "6" → head_beside more ≡ Some h → (version ∷ more ≡ after_name h) × (keeps_head h ≡ true)
beside-told version more h is e =
    all-told after_name keeps_head (version ∷ more) (made asked_beside (three_plain_numbers more)) h
    (named-told (codes "6") asked_beside (λ n. numbers_words n.0 ++ decimal n.1 ∷ []) (λ n. keeps_plain_numbers n.0 && is_plain n.1) after_name keeps_head (λ x. refl) (λ x g. g)
    version more (three_plain_numbers more) (three_plain_numbers-told more) is) e

version-told : (version : List ℕ) (more : List (List ℕ)) (h : Head) → head_of_version version more ≡ Some h → (version ∷ more ≡ after_name h) × (keeps_head h ≡ true)
version-told version more h e =
    choose version (codes "1") (if_all (Some (Unnamed, more))) _ h
    (λ n. all-told after_name keeps_head (version ∷ more) (Some (Unnamed, more)) h (some-told after_name keeps_head (version ∷ more) Unnamed more (ap (λ k. k ∷ more) n, refl)))
    (choose version (codes "6") (head_beside more) _ h (beside-told version more h) (λ is. question-told version more h (base_of_word version) refl is) (bytes_eq version (codes "6")) refl)
    (bytes_eq version (codes "1")) refl e

after-told : (words : List (List ℕ)) (h : Head) → head_after words ≡ Some h → (words ≡ after_name h) × (keeps_head h ≡ true)
after-told [] h e = absurd (cc)
after-told (version ∷ more) h e = version-told version more h e

words-told : (words : List (List ℕ)) (h : Head) → head_of_words words ≡ Some h → (words ≡ head_words h) × (keeps_head h ≡ true)
words-told [] h e = absurd (cc)
words-told (name ∷ more) h e =
    choose name (codes "rcvlog") (head_after more) None h
    (λ n is. let t = after-told more h is in (ap (λ k. k ∷ more) n ∙ ap (λ w. codes "rcvlog" ∷ w) t.0 ∙ named h, t.1))
    (λ none. absurd (cc)) (bytes_eq name (codes "rcvlog")) refl e

pub one-text : (bytes : List ℕ) (h : Head) → head_of bytes ≡ Some h → (head_text h ≡ bytes) × (keeps_head h ≡ true)
one-text bytes h is =
    let t = words-told (line_words bytes) h is in
    (ap (join_with_byte 32) (sym t.0) ∙ join_with_byte-slice_split 32 bytes, t.1)
