-- Entries by number, kept where they pass a test, in a loop over their indices.
use Rattle.std.proofs.Common.{◌≡◌, ℕ, suc, ◌+◌, ◌-◌, ◌≤◌, ◌<◌, Bool, true, false, cond, List, [], ◌∷◌, ◌++◌, map, filter, flat_map, sym, ap, ◌∙◌, arith, append_assoc, append-nil}
use Rattle.rail_base.specs.Numbering.{count_from}

-- those that are still to be looked at, of n, after k of them
abbrev pub left : {X : Type 0} → (ℕ → X) → (X → Bool) → ℕ → ℕ → List X
left make test n k = filter test (map make (count_from (k + 1) (n - k)))

pub left-more : {X : Type 0} (make : ℕ → X) (test : X → Bool) (n k : ℕ) → k < n → left make test n k ≡ cond (test (make (k + 1))) (make (k + 1) ∷ left make test n (k + 1)) (left make test n (k + 1))
left-more make test n k h = ap (λ m. filter test (map make (count_from (k + 1) m))) (let e : n - k ≡ suc (n - (k + 1)) = omega arith in e)

-- one more is kept, or not
pub kept-true : {X : Type 0} (make : ℕ → X) (test : X → Bool) (n k : ℕ) (done new all : List X) → k < n → done ++ left make test n k ≡ all → test (make (k + 1)) ≡ true → new ≡ done ++ make (k + 1) ∷ [] → new ++ left make test n (k + 1) ≡ all
kept-true make test n k done new all h e t f =
    ap (λ xs. xs ++ left make test n (k + 1)) f ∙ append_assoc done (make (k + 1) ∷ []) (left make test n (k + 1))
    ∙ ap (λ xs. done ++ xs) (sym (left-more make test n k h ∙ ap (λ b. cond b (make (k + 1) ∷ left make test n (k + 1)) (left make test n (k + 1))) t)) ∙ e

pub kept-false : {X : Type 0} (make : ℕ → X) (test : X → Bool) (n k : ℕ) (done new all : List X) → k < n → done ++ left make test n k ≡ all → test (make (k + 1)) ≡ false → new ≡ done → new ++ left make test n (k + 1) ≡ all
kept-false make test n k done new all h e t f =
    ap (λ xs. xs ++ left make test n (k + 1)) f
    ∙ ap (λ xs. done ++ xs) (sym (left-more make test n k h ∙ ap (λ b. cond b (make (k + 1) ∷ left make test n (k + 1)) (left make test n (k + 1))) t)) ∙ e

-- one more is made
pub made-more : {X : Type 0} (make : ℕ → X) (n k : ℕ) (done new all : List X) → k < n → done ++ map make (count_from (k + 1) (n - k)) ≡ all → new ≡ done ++ make (k + 1) ∷ [] → new ++ map make (count_from (k + 1 + 1) (n - (k + 1))) ≡ all
made-more make n k done new all h e f =
    ap (λ xs. xs ++ map make (count_from (k + 1 + 1) (n - (k + 1)))) f ∙ append_assoc done (make (k + 1) ∷ []) (map make (count_from (k + 1 + 1) (n - (k + 1))))
    ∙ ap (λ xs. done ++ xs) (ap (λ m. map make (count_from (k + 1) m)) (let s : suc (n - (k + 1)) ≡ n - k = omega arith in s)) ∙ e

-- what one more number gives is added
pub given-more : {X : Type 0} (gives : ℕ → List X) (n k : ℕ) (done new all : List X) → k < n → done ++ flat_map gives (count_from (k + 1) (n - k)) ≡ all → new ≡ done ++ gives (k + 1) → new ++ flat_map gives (count_from (k + 1 + 1) (n - (k + 1))) ≡ all
given-more gives n k done new all h e f =
    ap (λ xs. xs ++ flat_map gives (count_from (k + 1 + 1) (n - (k + 1)))) f ∙ append_assoc done (gives (k + 1)) (flat_map gives (count_from (k + 1 + 1) (n - (k + 1))))
    ∙ ap (λ xs. done ++ xs) (ap (λ m. flat_map gives (count_from (k + 1) m)) (let s : suc (n - (k + 1)) ≡ n - k = omega arith in s)) ∙ e

pub given-all : {X : Type 0} (gives : ℕ → List X) (n k : ℕ) (done all : List X) → n ≤ k → done ++ flat_map gives (count_from (k + 1) (n - k)) ≡ all → done ≡ all
given-all gives n k done all h e = sym (append-nil done) ∙ ap (λ xs. done ++ xs) (sym (ap (λ m. flat_map gives (count_from (k + 1) m)) (let s : n - k ≡ 0 = omega arith in s))) ∙ e
