-- What is made of the place of the first that passes.
use Rattle.std.proofs.Common.{◌≡◌, ℕ, Bool, true, false, if◌then◌else◌, List, length, Some, None, refl, ap}
use Rattle.std.specs.List.{list_any}
use Rattle.rail_base.specs.Numbering.{before_first}
use Rattle.command_set.specs.Commands.{first_place}

module _ {X L : Type 0} (test : X → Bool) (xs : List X) (made : ℕ → L) where
  pub place_made : (k : ℕ) → Some k ≡ first_place test xs → Some (made k) ≡ (if list_any test xs then Some (made (length (before_first test xs))) else None)
  place_made k h = go (list_any test xs) h
    where
      go : (b : Bool) → Some k ≡ (if b then Some (length (before_first test xs)) else None) → Some (made k) ≡ (if b then Some (made (length (before_first test xs))) else None)
      go true e = let same : k ≡ length (before_first test xs) = cc in ap (λ m. Some (made m)) same
      go false e = absurd (cc)

  pub no_place : None ≡ first_place test xs → None ≡ (if list_any test xs then Some (made (length (before_first test xs))) else None)
  no_place h = go (list_any test xs) h
    where
      go : (b : Bool) → None ≡ (if b then Some (length (before_first test xs)) else None) → None ≡ (if b then Some (made (length (before_first test xs))) else None)
      go true e = absurd (cc)
      go false e = refl
