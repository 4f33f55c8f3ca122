-- The numbers of names, as a look-up answers them.
use Rattle.std.proofs.Common.{position, cond, None, nat_lt, ◌≡◌, ℕ, suc, ◌+◌, ◌≤◌, Bool, true, false, not, ◌||◌, List, [], ◌∷◌, length, Some, refl, ◌∙◌, arith}
use Rattle.std.proofs.Common.{Result, Ok, Err, bytes_eq}
use Rattle.std.specs.Prelude.{IfOk, IfErr}
use Rattle.std.specs.List.{list_any, position_or_len}
use Rattle.design_table.specs.declared.fault.Code.TheVariants.{D04}
use Rattle.design_table.specs.declared.fault.DesignFault.{DesignFault}
use Rattle.design_table.specs.declared.fault.DesignFault.TheVariants as faults
use Rattle.design_table.specs.declared.place.Place.{Place}
use Rattle.design_table.specs.Reads.{ReadsOrRefuses, first}
use Rattle.infra_reader.specs.Names.{number_in}
use Rattle.infra_reader.specs.Unknown.{unless_among}

lt_suc : (a b : ℕ) → nat_lt (1 + a) (1 + b) ≡ nat_lt a b
lt_suc a b = grind arith

-- where the first that passes stands, and whether one passes
pub found_before : {X : Type 0} (p : X → Bool) (xs : List X) → list_any p xs ≡ nat_lt (position_or_len p xs) (length xs)
found_before p [] = refl
found_before p (x ∷ xs) = go (p x) (found_before p xs)
  where
    go : (b : Bool) → list_any p xs ≡ nat_lt (position_or_len p xs) (length xs) → (b || list_any p xs) ≡ nat_lt (cond (not b) (1 + position_or_len p xs) 0) (suc (length xs))
    go true e = grind arith
    go false e = grind arith

pub place_most : {X : Type 0} (p : X → Bool) (xs : List X) → position_or_len p xs ≤ length xs
place_most p [] = omega arith
place_most p (x ∷ xs) = go (p x) (place_most p xs)
  where
    go : (b : Bool) → position_or_len p xs ≤ length xs → cond (not b) (1 + position_or_len p xs) 0 ≤ suc (length xs)
    go true h = omega arith
    go false h = omega arith

pub found_at : {X : Type 0} (p : X → Bool) (xs : List X) (i : ℕ) → position p xs ≡ Some i → (list_any p xs ≡ true) × (position_or_len p xs ≡ i)
found_at p xs i h = go (nat_lt (position_or_len p xs) (length xs)) (found_before p xs) h
  where
    go : (b : Bool) → list_any p xs ≡ b → cond b (Some (position_or_len p xs)) None ≡ Some i → (list_any p xs ≡ true) × (position_or_len p xs ≡ i)
    go true e h = (e, cc)
    go false e h = absurd (cc)

pub found_nowhere : {X : Type 0} (p : X → Bool) (xs : List X) → position p xs ≡ None → (list_any p xs ≡ false) × (position_or_len p xs ≡ length xs)
found_nowhere p xs h = go (nat_lt (position_or_len p xs) (length xs)) refl h
  where
    go : (b : Bool) → nat_lt (position_or_len p xs) (length xs) ≡ b → cond b (Some (position_or_len p xs)) None ≡ None → (list_any p xs ≡ false) × (position_or_len p xs ≡ length xs)
    go true e h = absurd (cc)
    go false e h = let most = place_most p xs in (found_before p xs ∙ e, grind arith)

-- ---- the answers of a look-up

module _ (names : List (List ℕ)) (name : List ℕ) where
  pub reads_number : (place : Place) (r : Result ℕ DesignFault) (i : ℕ) → position (bytes_eq name) names ≡ Some i → IfOk r (λ n. n ≡ i + 1) → IfErr r (λ e. e ≡ faults.Memory)
      → ReadsOrRefuses (λ x. x) r D04 (unless_among names name place) (number_in names name)
  unfolding unless_among
  reads_number place (Ok n) i at ok err =
      let f = found_at (bytes_eq name) names i at in
      rw (f.0, f.1) (refl, ok)
  reads_number place (Err e) i at ok err = rw err tt

  pub refuses_name : (place : Place) → position (bytes_eq name) names ≡ None → first (unless_among names name place) ≡ Some place
  unfolding unless_among
  refuses_name place at = rw (found_nowhere (bytes_eq name) names at).0 refl

  pub number_past : (r : Result ℕ DesignFault) (count : ℕ) → position (bytes_eq name) names ≡ None → count ≡ length names → IfOk r (λ n. n ≡ count + 1) → IfOk r (λ n. n ≡ number_in names name)
  number_past (Ok n) count at len ok = ok ∙ rw ((found_nowhere (bytes_eq name) names at).1, len) refl
  number_past (Err e) count at len ok = tt
