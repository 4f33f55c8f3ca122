-- Entries of which no two clash, and the numbers of distinct names.
use Rattle.std.proofs.Common.{◌≡◌, ℕ, zero, suc, ◌+◌, ◌≤◌, ◌<◌, Bool, true, false, not, List, [], ◌∷◌, length, take, get_or, map, bytes_eq, refl, ap, ◌∙◌, arith}
use Rattle.std.proofs.lemmas.List.Sums.{position_or_len_is}
use Rattle.std.specs.List.{list_any, list_all}
use Rattle.rail_base.specs.Members.{all_pairs}
use Rattle.rail_base.specs.Numbering.{entry}
use Rattle.rail_base.proofs.Members.{and_left, and_right, list_all_at, list_any_from, is_false}
use Rattle.rail_base.proofs.Contained.{in_at}
use Rattle.rail_base.proofs.Lists.{in_entry, length-map}
use Rattle.infra_reader.specs.Names.{is_among, number_in}
use Rattle.infra_reader.proofs.Apart.{bytes_same, bytes_turned, names_apart}
use Rattle.design_text.proofs.Splitting.{neither}

module _ {X : Type 0} (clash : X → X → Bool) where
  abbrev apart : X → X → Bool
  apart a b = not (clash a b)

  -- an entry and a later one
  pub clash_free : (xs : List X) (i j : ℕ) (other : X) → all_pairs apart xs ≡ true → i < j → j < length xs → clash (get_or xs i other) (get_or xs j other) ≡ false
  clash_free [] i j other h l k = absurd (omega arith)
  clash_free (x ∷ xs) i zero other h l k = absurd (omega arith)
  clash_free (x ∷ xs) zero (suc j) other h l k = is_false (clash x (get_or xs j other)) (list_all_at (apart x) xs (get_or xs j other) (and_left (list_all (apart x) xs) (all_pairs apart xs) h) (in_at xs j other (omega arith)))
  clash_free (x ∷ xs) (suc i) (suc j) other h l k = clash_free xs i j other (and_right (list_all (apart x) xs) (all_pairs apart xs) h) (omega arith) (omega arith)

  -- an entry and all before it
  pub none_before : (xs : List X) (k : ℕ) (other : X) → all_pairs apart xs ≡ true → k < length xs → list_any (λ q. clash q (get_or xs k other)) (take k xs) ≡ false
  none_before [] k other h l = absurd (omega arith)
  none_before (x ∷ xs) zero other h l = refl
  none_before (x ∷ xs) (suc k) other h l =
      neither (clash x (get_or xs k other)) (list_any (λ q. clash q (get_or xs k other)) (take k xs))
      (is_false (clash x (get_or xs k other)) (list_all_at (apart x) xs (get_or xs k other) (and_left (list_all (apart x) xs) (all_pairs apart xs) h) (in_at xs k other (omega arith))))
      (none_before xs k other (and_right (list_all (apart x) xs) (all_pairs apart xs) h) (omega arith))

-- ---- names

number_at : (names : List (List ℕ)) (i : ℕ) → all_pairs names_apart names ≡ true → i < length names → number_in names (get_or names i []) ≡ i + 1
number_at names i h l =
    ap (λ p. p + 1) (position_or_len_is (bytes_eq (get_or names i [])) names i [] (omega arith)
    (λ k b. bytes_turned (get_or names i []) (get_or names k []) ∙ clash_free bytes_eq names k i [] h b l)
    (λ b. bytes_same (get_or names i [])))

-- the name of a number has that number
pub number_of : (names : List (List ℕ)) (n : ℕ) → all_pairs names_apart names ≡ true → 1 ≤ n → n ≤ length names → number_in names (entry [] names n) ≡ n
number_of names zero h l k = absurd (omega arith)
number_of names (suc i) h l k = let next : i + 1 ≡ suc i = omega arith in number_at names i h (omega arith) ∙ next

-- and is there
pub among : (names : List (List ℕ)) (n : ℕ) → 1 ≤ n → n ≤ length names → is_among names (entry [] names n) ≡ true
among names n l k = list_any_from (bytes_eq (entry [] names n)) names (entry [] names n) (in_entry [] names n l k) (bytes_same (entry [] names n))

-- what is made of the entry of a number
pub entry_made : {X Y : Type 0} (make : X → Y) (other : X) (xs : List X) (n : ℕ) → make (entry other xs n) ≡ entry (make other) (map make xs) n
entry_made make other xs zero = refl
entry_made make other [] (suc n) = refl
entry_made make other (x ∷ xs) (suc zero) = refl
entry_made make other (x ∷ xs) (suc (suc n)) = entry_made make other xs (suc n)

-- the same of the names of entries
module _ {X : Type 0} (name : X → List ℕ) (other : X) (xs : List X) (unnamed : name other ≡ []) (n : ℕ) (low : 1 ≤ n) (high : n ≤ length xs) where
  name_at : name (entry other xs n) ≡ entry [] (map name xs) n
  name_at = entry_made name other xs n ∙ ap (λ none. entry none (map name xs) n) unnamed

  there : n ≤ length (map name xs)
  there = rw (length-map name xs) high

  pub number_of_entry : all_pairs names_apart (map name xs) ≡ true → number_in (map name xs) (name (entry other xs n)) ≡ n
  number_of_entry h = ap (number_in (map name xs)) name_at ∙ number_of (map name xs) n h low there

  pub among_entries : is_among (map name xs) (name (entry other xs n)) ≡ true
  among_entries = ap (is_among (map name xs)) name_at ∙ among (map name xs) n low there
