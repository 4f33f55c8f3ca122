-- Entries that have no place.
use Rattle.std.proofs.Common.{◌≡◌, ℕ, suc, ◌+◌, ◌<◌, inl, inr, Bool, true, false, not, List, [], ◌∷◌, ◌++◌, length, get_or, map, flat_map, refl, subst, arith}
use Rattle.std.specs.List.{enumerate_from}
use Rattle.rail_base.specs.Members.{In}
use Rattle.rail_base.proofs.Lists.{in_map_back}
use Rattle.design_table.specs.declared.place.Place.{Place}
use Rattle.design_table.specs.Reads.{at}

pub unmet : (b : Bool) (place : Place) → b ≡ false → at b place ≡ []
unmet b place h = rw h refl

pub met : (b : Bool) (place : Place) → b ≡ true → at (not b) place ≡ []
met b place h = rw h refl

pub nothing : (xs ys : List Place) → xs ≡ [] → ys ≡ [] → xs ++ ys ≡ []
nothing xs ys e f = rw (e, f) refl

-- no entry has one
pub nowhere : {X : Type 0} (places : ℕ → X → List Place) (i : ℕ) (xs : List X) → ((n : ℕ) (x : X) → In x xs → places n x ≡ []) → flat_map (λ e. places e.0 e.1) (enumerate_from i xs) ≡ []
nowhere places i [] h = refl
nowhere places i (x ∷ xs) h = nothing (places i x) (flat_map (λ e. places e.0 e.1) (enumerate_from (i + 1) xs)) (h i x (inl refl)) (nowhere places (i + 1) xs (λ n y m. h n y (inr m)))

-- no entry that is made of another has one
pub nowhere_made : {X Y : Type 0} (places : ℕ → Y → List Place) (make : X → Y) (xs : List X) → ((n : ℕ) (x : X) → In x xs → places n (make x) ≡ []) → flat_map (λ e. places e.0 e.1) (enumerate_from 1 (map make xs)) ≡ []
nowhere_made places make xs h = nowhere places 1 (map make xs) (λ n y m. let x = in_map_back make xs y m in subst (λ y. places n y ≡ []) x.2 (h n x.0 x.1))

-- no entry of a number has one
pub nowhere_at : {X : Type 0} (places : ℕ → X → List Place) (i : ℕ) (xs : List X) (other : X) → ((k : ℕ) → k < length xs → places (i + k) (get_or xs k other) ≡ []) → flat_map (λ e. places e.0 e.1) (enumerate_from i xs) ≡ []
nowhere_at places i [] other h = refl
nowhere_at places i (x ∷ xs) other h =
    let here : i + 0 ≡ i = omega arith in
    nothing (places i x) (flat_map (λ e. places e.0 e.1) (enumerate_from (i + 1) xs))
    (subst (λ n. places n x ≡ []) here (h 0 (omega arith)))
    (nowhere_at places (i + 1) xs other (λ k l. let there : i + suc k ≡ i + 1 + k = omega arith in subst (λ n. places n (get_or xs k other) ≡ []) there (h (suc k) (omega arith))))
