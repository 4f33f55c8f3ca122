-- The last of what was tried.
use Rattle.std.proofs.Common.{◌≡◌, ℕ, ◌+◌, List, [], ◌∷◌, ◌++◌, map, flat_map, length, ◌⊎◌, inl, inr, refl, sym, ap, ◌∙◌, arith, append_assoc, append-nil, length-append}
use Rattle.std.proofs.lemmas.List.{length-map, map-append}
use Rattle.std.proofs.lemmas.List.Concat.{flat_map-append}
use Rattle.rail_base.specs.declared.plan.Command.{Command}
use Rattle.verify_loop.specs.declared.outcome.Tried.{Tried}
use Rattle.verify_loop.specs.Outcomes.{plans_of}
use Rattle.verify_loop.specs.Tightening.{Attempt, as_tried, asked_for, plans_in}

-- the last of a list, or this
abbrev last_or : {X : Type 0} → X → List X → X
last_or other [] = other
last_or other (x ∷ xs) = last_or x xs

last_is : {X : Type 0} (other : X) (xs : List X) (x : X) → last_or other (xs ++ x ∷ []) ≡ x
last_is other [] x = refl
last_is other (y ∷ ys) x = last_is y ys x

pub last_same : {X : Type 0} (xs ys : List X) (x y : X) → xs ++ x ∷ [] ≡ ys ++ y ∷ [] → x ≡ y
last_same xs ys x y e = sym (last_is x xs x) ∙ (ap (last_or x) e ∙ last_is x ys y)

pub not_none : {X : Type 0} (xs : List X) (x : X) → xs ++ x ∷ [] ≡ [] → ⊥
not_none xs x e = let n = length-append xs (x ∷ []) in let same = ap length e in omega (arith, n, same)

-- a list is empty, or has a last
pub ends : {X : Type 0} (xs : List X) → (xs ≡ []) ⊎ ((before : List X) × (last : X) × (xs ≡ before ++ last ∷ []))
ends [] = inl refl
ends {X} (x ∷ xs) = go (ends xs)
  where
    go : (xs ≡ []) ⊎ ((before : List X) × (last : X) × (xs ≡ before ++ last ∷ [])) → (x ∷ xs ≡ []) ⊎ ((before : List X) × (last : X) × (x ∷ xs ≡ before ++ last ∷ []))
    go (inl e) = inr ([], x, ap (λ ys. x ∷ ys) e)
    go (inr h) = inr (x ∷ h.0, h.1, ap (λ ys. x ∷ ys) h.2)

-- the plans of attempts, of which the last is the last attempt's
abbrev plans_tried : List Attempt → List (ℕ × List (List Command))
plans_tried attempts = flat_map (λ (a : Attempt). asked_for a.ticks (plans_in a)) attempts

pub tried_last : (before : List Attempt) (last : Attempt) → plans_tried (before ++ last ∷ []) ≡ (plans_tried before ++ asked_for last.ticks (plans_of last.failed)) ++ (last.ticks, last.met) ∷ []
tried_last before last =
    flat_map-append (λ (a : Attempt). asked_for a.ticks (plans_in a)) before (last ∷ [])
    ∙ (ap (λ z. plans_tried before ++ z) (append-nil (asked_for last.ticks (plans_in last)) ∙ map-append (λ plan. (last.ticks, plan)) (plans_of last.failed) (last.met ∷ []))
    ∙ sym (append_assoc (plans_tried before) (asked_for last.ticks (plans_of last.failed)) ((last.ticks, last.met) ∷ [])))

pub as_tried_last : (before : List Tried) (last : Tried) → as_tried (before ++ last ∷ []) ≡ as_tried before ++ (last.ticks, last.plan.steps) ∷ []
as_tried_last before last = map-append (λ (t : Tried). (t.ticks, t.plan.steps)) before (last ∷ [])

-- where nothing was tried there were no attempts
pub none_tried : (attempts : List Attempt) → [] ≡ plans_tried attempts → attempts ≡ []
none_tried attempts e = go (ends attempts)
  where
    go : (attempts ≡ []) ⊎ ((before : List Attempt) × (last : Attempt) × (attempts ≡ before ++ last ∷ [])) → attempts ≡ []
    go (inl is) = is
    go (inr h) = absurd (not_none (plans_tried h.0 ++ asked_for h.1.ticks (plans_of h.1.failed)) (h.1.ticks, h.1.met) (sym (e ∙ (ap plans_tried h.2 ∙ tried_last h.0 h.1))))
