-- Bytes that are read as a line are the text of that line.
use Rattle.std.proofs.Common.{◌≡◌, ℕ, Bool, true, ◌&&◌, List, [], ◌∷◌, ◌++◌, append_assoc, map, codes, decimal, Option, Some, None, refl, sym, ap, ◌∙◌}
use Rattle.std.specs.List.{list_all, join_with_byte}
use Rattle.std.specs.Str.{bytes_eq}
use Rattle.std.proofs.lemmas.List.Splits.{join_with_byte-slice_split}
use Rattle.sat_clause.specs.declared.lit.Lit.{Lit}
use Rattle.proof_log.specs.declared.line.Line.{Line}
use Rattle.proof_log.specs.declared.line.Line.TheVariants.{Forget}
use Rattle.proof_log.specs.Words.{greatest_variable, greatest_clause_number, is_from_1_to, line_words, literal_of, clause_number_of, members_of}
use Rattle.proof_log.specs.Parts.{made, has_member, cone}
use Rattle.proof_log.specs.Bounds.{bound}
use Rattle.proof_log.specs.Lines.{is_increasing, if_increasing, derivation, clause_numbers, derive_by, refute_by_cone, refute_by_bound, if_all, line_of_kind, line_of_words, line_in_bytes}
use Rattle.proof_log.specs.ConeText.{literal_word, list_words, cone_line_words, keeps_cone}
use Rattle.proof_log.specs.BoundText.{bound_line_words, keeps_bound}
use Rattle.proof_log.specs.Text.{words_of_line, text_of_line, keeps_grammar}
use Rattle.proof_log.proofs.Parsed.{clause_number-parsed, literal-parsed, members-parsed}
use Rattle.proof_log.proofs.Written.{IsWritten, next-told, tested-told, any-told, choose, named-told, cone-told, all-told}
use Rattle.proof_log.proofs.BoundsWritten.{bound-told}

abbrev good_numbers : List ℕ → Bool
good_numbers = list_all (is_from_1_to greatest_clause_number)

abbrev good_variables : List Lit → Bool
good_variables = list_all (λ l. is_from_1_to greatest_variable l.var)

numbers-told : (words : List (List ℕ)) → IsWritten (list_words decimal) good_numbers words (members_of clause_number_of words)
numbers-told words = members-parsed clause_number_of decimal (is_from_1_to greatest_clause_number) clause_number-parsed words

ordered : (words : List (List ℕ)) (o : Option (List Lit × List (List ℕ))) → IsWritten (list_words literal_word) good_variables words o → IsWritten (list_words literal_word) (λ c. is_increasing c && good_variables c) words (if_increasing o)
ordered words None told = λ found e. absurd (cc)
ordered words (Some f) told =
    let t = told f refl in
    tested-told (list_words literal_word) good_variables words f (is_increasing f.0) (λ c. is_increasing c && good_variables c) (λ h. rw (h, t.1) refl) t

derivation-told : (words : List (List ℕ)) → IsWritten (λ d. list_words literal_word d.0 ++ list_words decimal d.1) (λ d. (is_increasing d.0 && good_variables d.0) && good_numbers d.1) words (derivation words)
derivation-told words =
    next-told (list_words literal_word) (λ c. is_increasing c && good_variables c) (list_words decimal) good_numbers (members_of clause_number_of) numbers-told words (if_increasing (members_of literal_of words))
    (ordered words (members_of literal_of words) (members-parsed literal_of literal_word (λ l. is_from_1_to greatest_variable l.var) literal-parsed words))

forgotten-told : (words : List (List ℕ)) → IsWritten (list_words decimal) (λ c. has_member c && good_numbers c) words (clause_numbers words)
forgotten-told words = any-told (list_words decimal) good_numbers words (members_of clause_number_of words) (numbers-told words)

-- the words of a derive line are the clause's and then those of the hints
derive-words : (d : List Lit × List ℕ) → words_of_line (derive_by d) ≡ codes "d" ∷ (list_words literal_word d.0 ++ list_words decimal d.1)
derive-words d = ap (λ w. codes "d" ∷ w) (sym (append_assoc (map literal_word d.0) (codes "0" ∷ []) (list_words decimal d.1)))

kind-told : (kind : List ℕ) (more : List (List ℕ)) (line : Line) → line_of_kind kind more ≡ Some line → (kind ∷ more ≡ words_of_line line) × (keeps_grammar line ≡ true)
kind-told kind more line e =
    choose kind (codes "d") (if_all (made derive_by (derivation more))) _ line
    (λ n. all-told words_of_line keeps_grammar (kind ∷ more) (made derive_by (derivation more)) line
    (named-told (codes "d") derive_by (λ d. list_words literal_word d.0 ++ list_words decimal d.1) (λ d. (is_increasing d.0 && good_variables d.0) && good_numbers d.1) words_of_line keeps_grammar derive-words (λ d h. h) kind more (derivation more) (derivation-told more) n))
    (choose kind (codes "r") (if_all (made refute_by_cone (cone more))) _ line
    (λ n. all-told words_of_line keeps_grammar (kind ∷ more) (made refute_by_cone (cone more)) line
    (named-told (codes "r") refute_by_cone cone_line_words keeps_cone words_of_line keeps_grammar (λ k. refl) (λ k h. h) kind more (cone more) (cone-told more) n))
    (choose kind (codes "b") (if_all (made refute_by_bound (bound more))) _ line
    (λ n. all-told words_of_line keeps_grammar (kind ∷ more) (made refute_by_bound (bound more)) line
    (named-told (codes "b") refute_by_bound bound_line_words keeps_bound words_of_line keeps_grammar (λ b. refl) (λ b h. h) kind more (bound more) (bound-told more) n))
    (choose kind (codes "x") (if_all (made Forget (clause_numbers more))) None line
    (λ n. all-told words_of_line keeps_grammar (kind ∷ more) (made Forget (clause_numbers more)) line
    (named-told (codes "x") Forget (list_words decimal) (λ c. has_member c && good_numbers c) words_of_line keeps_grammar (λ c. refl) (λ c h. h) kind more (clause_numbers more) (forgotten-told more) n))
    (λ none. absurd (cc)) (bytes_eq kind (codes "x")) refl)
    (bytes_eq kind (codes "b")) refl)
    (bytes_eq kind (codes "r")) refl)
    (bytes_eq kind (codes "d")) refl e

words-told : (words : List (List ℕ)) (line : Line) → line_of_words words ≡ Some line → (words ≡ words_of_line line) × (keeps_grammar line ≡ true)
words-told [] line is = absurd (cc)
words-told (kind ∷ more) line is = kind-told kind more line is

pub one-text : (bytes : List ℕ) (line : Line) → line_in_bytes bytes ≡ Some line → (text_of_line line ≡ bytes) × (keeps_grammar line ≡ true)
one-text bytes line is =
    let t = words-told (line_words bytes) line is in
    (ap (join_with_byte 32) (sym t.0) ∙ join_with_byte-slice_split 32 bytes, t.1)
