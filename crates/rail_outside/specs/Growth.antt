-- Counts that rise, and lists that grow where they are known.
use Rattle.std.specs.Prelude.{◌≡◌, ℕ, ◌+◌, ◌-◌, ◌^◌, ◌≤◌, min, List, ◌++◌, Option, option_map}
use Rattle.std.specs.List.{concat}

-- the count has risen, or stands at its last value
abbrev pub Rose : ℕ → ℕ → Type 0
Rose before now = min (before + 1) (2 ^ 64 - 1) ≤ now

-- a list that is known, with more at its end
abbrev pub grown : {A : Type 0} → Option (List A) → List A → Option (List A)
grown reply_for more = option_map (λ xs. xs ++ more) reply_for

-- it has grown by a prefix of these
abbrev pub GrowsByPrefix : {A : Type 0} → Option (List A) → Option (List A) → List A → Type 0
GrowsByPrefix {A} old new all = (prefix : List A) × ((rest : List A) × (prefix ++ rest ≡ all)) × (new ≡ grown old prefix)

-- the text has grown by a prefix of the lines, each of them whole
abbrev pub GrowsByLines : Option (List ℕ) → Option (List ℕ) → List (List ℕ) → Type 0
GrowsByLines old new lines = (prefix : List (List ℕ))
    × ((rest : List (List ℕ)) × (prefix ++ rest ≡ lines))
    × (new ≡ grown old (concat prefix))
