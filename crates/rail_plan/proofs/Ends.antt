-- Steps without the empty ones at their end.
use Rattle.std.proofs.Common.{◌≡◌, ℕ, suc, ◌<◌, List, [], ◌∷◌, ◌++◌, length, replicate, Option, Some, None, sym, ap, ◌∙◌, arith}
use Rattle.std.specs.Prelude.{◌≢◌, IfSome}
use Rattle.std.specs.Option.{option_to_list}
use Rattle.std.proofs.lemmas.List.{append_assoc, append-nil}
use Rattle.rail_base.specs.declared.plan.Command.{Command}
use Rattle.rail_plan.specs.Earlier.{EndsFull}
use Rattle.rail_plan.specs.WellFormed.{last_of_list}
use Rattle.rail_plan.proofs.Firsts.{last_joined}

pub last_is : {X : Type 0} (xs rest : List X) (x : X) → xs ≡ rest ++ x ∷ [] → last_of_list xs ≡ Some x
last_is xs rest x e = ap last_of_list e ∙ last_joined rest (x ∷ [])

pub last_same : {X : Type 0} (xs rest : List X) (x y : X) → xs ≡ rest ++ x ∷ [] → last_of_list xs ≡ Some y → x ≡ y
last_same xs rest x y e h = let both : Some x ≡ Some y = sym (last_is xs rest x e) ∙ h in cc

pub some_last : {X : Type 0} (xs : List X) (x : X) → last_of_list xs ≡ Some x → 0 < length xs
some_last [] x h = cc
some_last (y ∷ ys) x h = omega arith

-- after an empty last step left
pub popped : (whole old new : List (List Command)) (o : Option (List Command)) → last_of_list old ≡ Some [] → old ≡ new ++ option_to_list o → (k : ℕ) × (whole ≡ old ++ replicate k []) → (k : ℕ) × (whole ≡ new ++ replicate k [])
popped whole old new None h e (k, all) = (k, all ∙ ap (λ p. p ++ replicate k []) (e ∙ append-nil new))
popped whole old new (Some x) h e (k, all) =
    (suc k, all ∙ ap (λ p. p ++ replicate k []) (e ∙ ap (λ s. new ++ s ∷ []) (last_same old new x [] e h)) ∙ append_assoc new ([] ∷ []) (replicate k []))

-- one that isn't empty stays
pub ends_full : (plan : List (List Command)) → (last_of_list plan ≡ Some [] → ⊥) → EndsFull plan
ends_full plan h = go (last_of_list plan) h
  where
    go : (o : Option (List Command)) → (o ≡ Some [] → ⊥) → IfSome o (λ step. step ≢ [])
    go None k = tt
    go (Some s) k = λ e. k (ap Some e)
