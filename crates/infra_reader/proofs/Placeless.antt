-- What holds of entries that have no place.
use Rattle.std.proofs.Common.{◌≡◌, ℕ, zero, suc, ◌+◌, ◌<◌, inl, inr, Bool, true, false, List, [], ◌∷◌, ◌++◌, length, get_or, flat_map, refl, subst, arith}
use Rattle.std.specs.List.{enumerate_from}
use Rattle.rail_base.specs.Members.{In}
use Rattle.design_table.specs.declared.place.Place.{Place}
use Rattle.design_table.specs.Reads.{at}

pub no_left : (xs ys : List Place) → xs ++ ys ≡ [] → xs ≡ []
no_left [] ys h = refl
no_left (x ∷ xs) ys h = absurd (cc)

pub no_right : (xs ys : List Place) → xs ++ ys ≡ [] → ys ≡ []
no_right [] ys h = h
no_right (x ∷ xs) ys h = absurd (cc)

-- a member has none
pub none_of : {X : Type 0} (places : X → List Place) (xs : List X) (x : X) → flat_map places xs ≡ [] → In x xs → places x ≡ []
none_of places [] x h m = absurd m
none_of places (y ∷ ys) x h (inl e) = subst (λ z. places z ≡ []) e (no_left (places y) (flat_map places ys) h)
none_of places (y ∷ ys) x h (inr m) = none_of places ys x (no_right (places y) (flat_map places ys) h) m

-- an entry has none
pub none_in : {X : Type 0} (places : ℕ → X → List Place) (i : ℕ) (xs : List X) (x : X) → flat_map (λ e. places e.0 e.1) (enumerate_from i xs) ≡ [] → In x xs → (n : ℕ) × (places n x ≡ [])
none_in places i [] x h m = absurd m
none_in places i (y ∷ ys) x h (inl e) = (i, subst (λ z. places i z ≡ []) e (no_left (places i y) (flat_map (λ e. places e.0 e.1) (enumerate_from (i + 1) ys)) h))
none_in places i (y ∷ ys) x h (inr m) = none_in places (i + 1) ys x (no_right (places i y) (flat_map (λ e. places e.0 e.1) (enumerate_from (i + 1) ys)) h) m

-- the entry of a number has none
pub none_at : {X : Type 0} (places : ℕ → X → List Place) (i k : ℕ) (xs : List X) (d : X) → k < length xs → flat_map (λ e. places e.0 e.1) (enumerate_from i xs) ≡ [] → places (i + k) (get_or xs k d) ≡ []
none_at places i k [] d lt h = absurd (omega arith)
none_at places i zero (x ∷ xs) d lt h =
    let here : i ≡ i + 0 = omega arith in
    subst (λ n. places n x ≡ []) here (no_left (places i x) (flat_map (λ e. places e.0 e.1) (enumerate_from (i + 1) xs)) h)
none_at places i (suc k) (x ∷ xs) d lt h =
    let here : i + 1 + k ≡ i + suc k = omega arith in
    subst (λ n. places n (get_or xs k d) ≡ []) here (none_at places (i + 1) k xs d (omega arith) (no_right (places i x) (flat_map (λ e. places e.0 e.1) (enumerate_from (i + 1) xs)) h))

pub unbroken : (b : Bool) (place : Place) → at b place ≡ [] → b ≡ false
unbroken false place h = refl
unbroken true place h = absurd (cc)
