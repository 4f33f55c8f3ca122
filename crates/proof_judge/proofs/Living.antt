-- Clauses that are all live, one after another.
use Rattle.std.proofs.Common.{◌≡◌, ℕ, zero, suc, ◌+◌, ◌<◌, ◌≤◌, true, List, [], ◌∷◌, ◌++◌, length, slice_get, take, Some, IsSome, inl, inr, refl, sym, ap, subst, arith}
use Rattle.rail_base.specs.Members.{In}
use Rattle.sat_clause.specs.declared.lit.Lit.{Lit}
use Rattle.sat_clause.specs.Clauses.{Store, live_clause, if_live}
use Rattle.proof_judge.specs.Judged.{all_live}

live-at : (cs : List (List Lit)) (i : ℕ) (c : List Lit) → if_live (slice_get (all_live cs) i) ≡ Some c → In c cs
live-at [] i c e = absurd (cc)
live-at (x ∷ xs) zero c e = let same : x ≡ c = cc in inl same
live-at (x ∷ xs) (suc i) c e = inr (live-at xs i c e)

pub live-in : (cs : List (List Lit)) (id : ℕ) (c : List Lit) → live_clause (all_live cs) id ≡ Some c → In c cs
live-in cs zero c e = absurd (cc)
live-in cs (suc i) c e = live-at cs i c e

-- each is there under its number
there-at : (cs : List (List Lit)) (i : ℕ) → i < length (all_live cs) → IsSome (if_live (slice_get (all_live cs) i))
there-at [] i h = absurd (omega arith)
there-at (x ∷ xs) zero h = refl
there-at (x ∷ xs) (suc i) h = there-at xs i (omega (arith, h))

pub live-there : (cs : List (List Lit)) (store : Store) (i : ℕ) → store ≡ all_live cs → i < length store → IsSome (live_clause store (i + 1))
live-there cs store i same h =
    let e : i + 1 ≡ suc i = omega arith in
    let n : length store ≡ length (all_live cs) = ap length same in
    let there : IsSome (live_clause (all_live cs) (suc i)) = there-at cs i (omega arith) in
    subst (λ (s : Store). IsSome (live_clause s (i + 1))) (sym same) (subst (λ (j : ℕ). IsSome (live_clause (all_live cs) j)) (sym e) there)

-- one more clause
pub take-next : (cs : List (List Lit)) (store : Store) (i : ℕ) (c : List Lit) → store ≡ all_live cs → live_clause store (i + 1) ≡ Some c → take i store ++ (c, true) ∷ [] ≡ take (i + 1) store
take-next cs store i c same live =
    let e : i + 1 ≡ suc i = omega arith in
    subst (λ (s : Store). take i s ++ (c, true) ∷ [] ≡ take (i + 1) s) (sym same) (subst (λ (j : ℕ). take i (all_live cs) ++ (c, true) ∷ [] ≡ take j (all_live cs)) (sym e) (go cs i (subst (λ (s : Store). if_live (slice_get s i) ≡ Some c) same (subst (λ (j : ℕ). live_clause store j ≡ Some c) e live))))
  where
    go : (xs : List (List Lit)) (j : ℕ) → if_live (slice_get (all_live xs) j) ≡ Some c → take j (all_live xs) ++ (c, true) ∷ [] ≡ take (suc j) (all_live xs)
    go [] j h = absurd (cc)
    go (x ∷ xs) zero h = let same : x ≡ c = cc in ap (λ z. (z, true) ∷ []) (sym same)
    go (x ∷ xs) (suc j) h = ap (λ z. (x, true) ∷ z) (go xs j h)

pub take-all : (store : Store) (i : ℕ) → length store ≤ i → take i store ≡ store
take-all [] zero h = refl
take-all [] (suc i) h = refl
take-all (x ∷ xs) zero h = absurd (omega arith)
take-all (x ∷ xs) (suc i) h = ap (λ z. x ∷ z) (take-all xs i (omega (arith, h)))
