-- Lists by their numbers.
use Rattle.std.proofs.Common.{◌≡◌, ℕ, zero, suc, ◌<◌, List, [], ◌∷◌, map, get_or, length, Vec, Global, ap, subst, arith}
use Rattle.bound_chains.specs.Tables.{list_of}

-- the list that stands there is that of the next number
pub listed : {X : Type 0} (lists : List (Vec X Global)) (k n : ℕ) (list : Vec X Global) → suc k ≡ n → k < length lists
    → ((other : Vec X Global) → list ≡ get_or lists k other) → list.items ≡ list_of lists n
listed {X} lists k n list next there at = subst (λ m. list.items ≡ list_of lists m) next (go lists k there at)
  where
    items : Vec X Global → List X
    items list = list.items

    go : (lists : List (Vec X Global)) (k : ℕ) → k < length lists
        → ((other : Vec X Global) → list ≡ get_or lists k other) → list.items ≡ get_or (map items lists) k []
    go [] k there at = absurd (omega arith)
    go (x ∷ xs) zero there at = ap items (at x)
    go (x ∷ xs) (suc k) there at = go xs k (omega arith) at
