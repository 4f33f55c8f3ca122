-- The most visits and the least steps, pair by pair.
use Rattle.std.proofs.Common.{◌≡◌, ◌≢◌, ℕ, ◌+◌, ◌≤◌, ◌<◌, ◌⊎◌, inl, inr, true, false, List, get_or, Option, Some, None, max, min, refl, sym, ap, ◌∙◌, arith}
use Rattle.std.specs.Prelude.{is_some}
use Rattle.train_ways.specs.Reached.{Found, IsLeastTo, IsMostMade, lesser}

-- a number below the next one
split : (p i : ℕ) → p < i + 1 → (p < i) ⊎ (p ≡ i)
split p i h = grind arith

module _ (made : List ℕ) (found : List (Option ℕ)) where
  pub most_start : IsMostMade made found 0 0
  most_start = record { bound = λ p k h. absurd (omega arith); there = λ h. absurd (omega arith) }

  pub most_some : (i m k : ℕ) → Found found i k → IsMostMade made found i m → IsMostMade made found (i + 1) (max m (get_or made i 0))
  most_some i m k here most = record {
    bound = λ p j h f. go p j f (split p i h);
    there = λ h. some h (above m (get_or made i 0));
  }
    where
      go : (p j : ℕ) → Found found p j → (p < i) ⊎ (p ≡ i) → get_or made p 0 ≤ max m (get_or made i 0)
      go p j f (inl h) = let b = most.bound p j h f in omega arith
      go p j f (inr e) = let b : get_or made p 0 ≡ get_or made i 0 = ap (λ q. get_or made q 0) e in omega arith

      above : (a b : ℕ) → ((max a b ≡ a) × (b ≤ a)) ⊎ (max a b ≡ b)
      above a b = grind arith

      some : 1 ≤ max m (get_or made i 0) → ((max m (get_or made i 0) ≡ m) × (get_or made i 0 ≤ m)) ⊎ (max m (get_or made i 0) ≡ get_or made i 0) → (p : ℕ) × (p < i + 1) × (j : ℕ) × Found found p j × (get_or made p 0 ≡ max m (get_or made i 0))
      some h (inl e) = let t = most.there (let x = e.0 in omega arith) in (t.0, let l = t.1 in omega arith, t.2, t.3, t.4 ∙ sym e.0)
      some h (inr e) = (i, omega arith, k, here, sym e)

  pub most_none : (i m : ℕ) → get_or found i None ≡ None → IsMostMade made found i m → IsMostMade made found (i + 1) m
  most_none i m none most = record {
    bound = λ p j h f. go p j f (split p i h);
    there = λ h. let t = most.there h in (t.0, let l = t.1 in omega arith, t.2, t.3, t.4);
  }
    where
      go : (p j : ℕ) → Found found p j → (p < i) ⊎ (p ≡ i) → get_or made p 0 ≤ m
      go p j f (inl h) = most.bound p j h f
      go p j f (inr e) = let s : Some j ≡ None = sym f ∙ ap (λ q. get_or found q None) e ∙ none in cc

  -- ---- the least

  pub least_start : (all : ℕ) → IsLeastTo made found all 0 None
  least_start all = λ p k h. absurd (omega arith)

  pub least_other : (all i : ℕ) (o : Option ℕ) → get_or made i 0 ≢ all → IsLeastTo made found all i o → IsLeastTo made found all (i + 1) o
  least_other all i None apart least = λ p k h f e. go p k f e (split p i h)
    where
      go : (p k : ℕ) → Found found p k → get_or made p 0 ≡ all → (p < i) ⊎ (p ≡ i) → ⊥
      go p k f e (inl h) = least p k h f e
      go p k f e (inr s) = apart (sym (ap (λ q. get_or made q 0) s) ∙ e)
  least_other all i (Some n) apart least = ((least.0.0, let l = least.0.1 in omega arith, least.0.2, least.0.3), λ p k h f e. go p k f e (split p i h))
    where
      go : (p k : ℕ) → Found found p k → get_or made p 0 ≡ all → (p < i) ⊎ (p ≡ i) → n ≤ k
      go p k f e (inl h) = least.1 p k h f e
      go p k f e (inr s) = absurd (apart (sym (ap (λ q. get_or made q 0) s) ∙ e))

  least_next : (all i : ℕ) (o x : Option ℕ) → get_or found i None ≡ x → get_or made i 0 ≡ all → IsLeastTo made found all i o → IsLeastTo made found all (i + 1) (lesser o x)
  least_next all i None None here is least = λ p k h f e. go p k f e (split p i h)
    where
      go : (p k : ℕ) → Found found p k → get_or made p 0 ≡ all → (p < i) ⊎ (p ≡ i) → ⊥
      go p k f e (inl h) = least p k h f e
      go p k f e (inr s) = let z : Some k ≡ None = sym f ∙ ap (λ q. get_or found q None) s ∙ here in cc
  least_next all i None (Some b) here is least = ((i, omega arith, here, is), λ p k h f e. go p k f e (split p i h))
    where
      go : (p k : ℕ) → Found found p k → get_or made p 0 ≡ all → (p < i) ⊎ (p ≡ i) → b ≤ k
      go p k f e (inl h) = absurd (least p k h f e)
      go p k f e (inr s) = let z : Some k ≡ Some b = sym f ∙ ap (λ q. get_or found q None) s ∙ here in let y : k ≡ b = cc in omega arith
  least_next all i (Some a) None here is least = ((least.0.0, let l = least.0.1 in omega arith, least.0.2, least.0.3), λ p k h f e. go p k f e (split p i h))
    where
      go : (p k : ℕ) → Found found p k → get_or made p 0 ≡ all → (p < i) ⊎ (p ≡ i) → a ≤ k
      go p k f e (inl h) = least.1 p k h f e
      go p k f e (inr s) = let z : Some k ≡ None = sym f ∙ ap (λ q. get_or found q None) s ∙ here in cc
  least_next all i (Some a) (Some b) here is least = (there (below a b), λ p k h f e. go p k f e (split p i h))
    where
      below : (a b : ℕ) → (min a b ≡ a) ⊎ (min a b ≡ b)
      below a b = grind arith

      there : (min a b ≡ a) ⊎ (min a b ≡ b) → (p : ℕ) × (p < i + 1) × Found found p (min a b) × (get_or made p 0 ≡ all)
      there (inl e) = (least.0.0, let l = least.0.1 in omega arith, least.0.2 ∙ ap Some (sym e), least.0.3)
      there (inr e) = (i, omega arith, here ∙ ap Some (sym e), is)

      go : (p k : ℕ) → Found found p k → get_or made p 0 ≡ all → (p < i) ⊎ (p ≡ i) → min a b ≤ k
      go p k f e (inl h) = let l = least.1 p k h f e in omega arith
      go p k f e (inr s) = let z : Some k ≡ Some b = sym f ∙ ap (λ q. get_or found q None) s ∙ here in let y : k ≡ b = cc in omega arith

  pub least_here : (all i : ℕ) (o : Option ℕ) → get_or made i 0 ≡ all → IsLeastTo made found all i o → IsLeastTo made found all (i + 1) (lesser o (get_or found i None))
  least_here all i o is least = least_next all i o (get_or found i None) refl is least

-- ---- what a test of an option says

pub it_is : (o : Option ℕ) → is_some o ≡ true → (k : ℕ) × (o ≡ Some k)
it_is None h = cc
it_is (Some k) h = (k, refl)

pub none_is : (o : Option ℕ) → is_some o ≡ false → o ≡ None
none_is None h = refl
none_is (Some k) h = cc
