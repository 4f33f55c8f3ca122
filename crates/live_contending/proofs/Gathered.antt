-- Lists that are filtered, and whether all members are so.
use Rattle.std.proofs.Common.{ℕ, zero, suc, ◌<◌, inl, inr, All, List, [], ◌∷◌, get_or, length, refl, arith}
use Rattle.rail_base.specs.Members.{In}

pub all_from : {X : Type 0} (P : X → Type 0) (xs : List X) → ((x : X) → In x xs → P x) → All P xs
all_from {X} P xs h = λ j other less. h (get_or xs j other) (at xs j other less)
  where
    at : (ys : List X) (j : ℕ) (other : X) → j < length ys → In (get_or ys j other) ys
    at [] j other l = absurd (omega arith)
    at (y ∷ ys) zero other l = inl refl
    at (y ∷ ys) (suc j) other l = inr (at ys j other (omega arith))
