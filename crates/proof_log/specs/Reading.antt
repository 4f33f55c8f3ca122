-- What is left of a line while it is read.
use Rattle.std.specs.Prelude.{ℕ, List, [], Option, Some, None, option_map, ◌≡◌, Result, IfOk}
use Rattle.std.specs.Borrow.{Bor}
use Rattle.proof_log.specs.Words.{line_words}

-- the words that are left: none after the last one
abbrev pub words_left : Option (Bor (List ℕ)) → List (List ℕ)
words_left None = []
words_left (Some text) = line_words text.now

-- what was found, and the words that are left after it
abbrev pub with_words : {X : Type 0} → Option (X × Option (Bor (List ℕ))) → Option (X × List (List ℕ))
with_words found = option_map (λ f. (f.0, words_left f.1)) found

-- the part is read, and these words are left after it
abbrev pub ReadsPart : {A E : Type 0} → Result (A × Option (Bor (List ℕ))) E → Option (A × List (List ℕ)) → Type 0
ReadsPart result part = IfOk result (λ found. part ≡ Some (found.0, words_left found.1))
