-- Words that sentences are made of.
use Rattle.std.specs.Prelude.{ℕ, ℤ, List, [], ◌∷◌, ◌++◌, codes, decimal}
use Rattle.std.specs.Fmt.{signed_decimal}
use Rattle.std.specs.List.{flat_map}
use Rattle.design_table.specs.declared.key.Key.{Key}
use Rattle.design_table.specs.declared.place.EntryKind.{EntryKind}
use Rattle.design_table.specs.Keys.{key_text, kind_key}

-- the word for an entry of a kind
abbrev pub kind_text : EntryKind → List ℕ
kind_text kind = key_text (kind_key kind)

-- names, each after a comma
abbrev pub each_name : List (List ℕ) → List ℕ
each_name names = flat_map (λ name. codes ", " ++ name) names

-- `no edge`, `edge x`, `edges x, y`
abbrev pub edges_words : List (List ℕ) → List ℕ
edges_words [] = codes "no edge"
edges_words (x ∷ []) = codes "edge " ++ x
edges_words (x ∷ y ∷ more) = codes "edges " ++ x ++ each_name (y ∷ more)

-- `length_mm is 0`
abbrev pub is_words : Key → ℤ → List ℕ
is_words key n = key_text key ++ codes " is " ++ signed_decimal n

-- `, and 1 to 128 are allowed`
abbrev pub allowed_words : ℕ → ℕ → List ℕ
allowed_words low high = codes ", and " ++ decimal low ++ codes " to " ++ decimal high ++ codes " are allowed"

-- a sentence is a line, and no words are none
abbrev pub line_of : List ℕ → List ℕ
line_of [] = []
line_of (first ∷ more) = (first ∷ more) ++ codes "\n"
