-- Lists that are put together part by part.
use Rattle.std.proofs.Common.{◌≡◌, ℕ, suc, ◌≤◌, List, [], ◌∷◌, ◌++◌, map, flat_map, drop, length, Bool, true, false, cond, filter, refl, sym, ap, ◌∙◌, arith, append-nil, zero}
use Rattle.std.proofs.lemmas.List.{append_assoc, map-append}

module _ {X Y : Type 0} (old new all : List Y) (now later : List X) (x : X) (is : now ≡ x ∷ later) where
  -- one more member
  pub push_next : (g : X → Y) → new ≡ old ++ g x ∷ [] → old ++ map g now ≡ all → new ++ map g later ≡ all
  push_next g e h = ap (λ xs. xs ++ map g later) e ∙ (append_assoc old (g x ∷ []) (map g later) ∙ (ap (λ xs. old ++ map g xs) (sym is) ∙ h))

  -- one more part
  pub part_next : (g : X → List Y) → new ≡ old ++ g x → old ++ flat_map g now ≡ all → new ++ flat_map g later ≡ all
  part_next g e h = ap (λ xs. xs ++ flat_map g later) e ∙ (append_assoc old (g x) (flat_map g later) ∙ (ap (λ xs. old ++ flat_map g xs) (sym is) ∙ h))

-- one more member, where it passes the test
pub kept_next : {X : Type 0} (old new all now later : List X) (x : X) → now ≡ x ∷ later → (test : X → Bool) {b : Bool} → test x ≡ b → new ≡ old ++ cond b (x ∷ []) [] → old ++ filter test now ≡ all → new ++ filter test later ≡ all
kept_next {X} old new all now later x is test e f h = ap (λ xs. xs ++ filter test later) f ∙ (append_assoc old (cond _ (x ∷ []) []) (filter test later) ∙ (ap (λ xs. old ++ xs) (sym (ap (filter test) is ∙ (ap (λ c. cond c (x ∷ filter test later) (filter test later)) e ∙ first _))) ∙ h))
  where
    first : (b : Bool) → cond b (x ∷ filter test later) (filter test later) ≡ cond b (x ∷ []) [] ++ filter test later
    first true = refl
    first false = refl

module _ {X L Z : Type 0} (old new all : List Z) (now later : List X) (x : X) (is : now ≡ x ∷ later) where
  -- one more part, of which each member is written so
  pub mapped_next : (g : X → List L) (num : L → Z) → new ≡ old ++ map num (g x) → old ++ map num (flat_map g now) ≡ all → new ++ map num (flat_map g later) ≡ all
  mapped_next g num e h = ap (λ xs. xs ++ map num (flat_map g later)) e ∙ (append_assoc old (map num (g x)) (map num (flat_map g later))
      ∙ (ap (λ xs. old ++ xs) (sym (ap (λ xs. map num (flat_map g xs)) is ∙ map-append num (g x) (flat_map g later))) ∙ h))

  -- one more member, written so
  pub twice_next : (g : X → L) (num : L → Z) → new ≡ old ++ num (g x) ∷ [] → old ++ map num (map g now) ≡ all → new ++ map num (map g later) ≡ all
  twice_next g num e h = ap (λ xs. xs ++ map num (map g later)) e ∙ (append_assoc old (num (g x) ∷ []) (map num (map g later)) ∙ (ap (λ xs. old ++ map num (map g xs)) (sym is) ∙ h))

  -- one more member, written so, where it passes the test
  pub chosen_next : (test : X → Bool) (g : X → L) (num : L → Z) {b : Bool} {z : Z} → test x ≡ b → z ≡ num (g x) → new ≡ old ++ cond b (z ∷ []) [] → old ++ map num (map g (filter test now)) ≡ all → new ++ map num (map g (filter test later)) ≡ all
  chosen_next test g num {b} {z} e f k h =
      ap (λ xs. xs ++ map num (map g (filter test later))) k ∙ (append_assoc old (cond b (z ∷ []) []) (map num (map g (filter test later)))
      ∙ (ap (λ xs. old ++ xs) (sym (ap (λ xs. map num (map g (filter test xs))) is ∙ (ap (λ c. map num (map g (cond c (x ∷ filter test later) (filter test later)))) e ∙ first b))) ∙ h))
    where
      first : (c : Bool) → map num (map g (cond c (x ∷ filter test later) (filter test later))) ≡ cond c (z ∷ []) [] ++ map num (map g (filter test later))
      first true = ap (λ y. y ∷ map num (map g (filter test later))) (sym f)
      first false = refl

-- nothing is left at the end
pub done_next : {X Y : Type 0} (xs all : List Y) (g : X → Y) (ys : List X) (i : ℕ) → length ys ≤ i → xs ++ map g (drop i ys) ≡ all → xs ≡ all
done_next xs all g ys i h e = sym (ap (λ zs. xs ++ map g zs) (none ys i h) ∙ append-nil xs) ∙ e
  where
    none : {X : Type 0} (ys : List X) (i : ℕ) → length ys ≤ i → drop i ys ≡ []
    none [] zero h = refl
    none [] (suc i) h = refl
    none (y ∷ ys) zero h = absurd (omega arith)
    none (y ∷ ys) (suc i) h = none ys i (omega arith)
