-- Empty steps at the end.
use Rattle.std.proofs.Common.{◌≡◌, ℕ, zero, suc, ◌+◌, ◌-◌, Bool, true, false, List, [], ◌∷◌, ◌++◌, length, take, Some, refl, ap, sym, ◌∙◌, arith}
use Rattle.std.specs.Prelude.{slice_get, IsTrue, IsFalse}
use Rattle.rail_base.specs.declared.plan.Command.{Command}
use Rattle.clause_spec.specs.Models.{cut_off, with_step}

-- an empty step more at the end is cut off
cut_empty : (xs : List (List Command)) → cut_off (xs ++ [] ∷ []) ≡ cut_off xs
cut_empty [] = refl
cut_empty (x ∷ xs) = ap (with_step x) (cut_empty xs)

-- where the last step is empty, the others give all
pub cut_next : (steps prefix : List (List Command)) → steps ≡ take (length steps - 1) steps ++ [] ∷ [] → prefix ≡ take (length steps - 1) steps → cut_off prefix ≡ cut_off steps
cut_next steps prefix e h = ap cut_off h ∙ (sym (cut_empty (take (length steps - 1) steps)) ∙ sym (ap cut_off e))

-- a step stays before others
before_some : (s t : List Command) (ts : List (List Command)) → with_step s (t ∷ ts) ≡ s ∷ t ∷ ts
before_some [] t ts = refl
before_some (c ∷ cs) t ts = refl

-- a step with commands stays
alone : (s : List Command) (c : Command) (cs : List Command) → Some s ≡ Some (c ∷ cs) → with_step s [] ≡ s ∷ []
alone [] c cs e = absurd (cc)
alone (d ∷ ds) c cs e = refl

-- where the last step is not empty, nothing is cut off
kept_at : (xs : List (List Command)) (i : ℕ) (c : Command) (cs : List Command) → i + 1 ≡ length xs → slice_get xs i ≡ Some (c ∷ cs) → cut_off xs ≡ xs
kept_at [] i c cs h e = refl
kept_at (x ∷ []) zero c cs h e = alone x c cs e
kept_at (x ∷ []) (suc i) c cs h e = absurd (omega arith)
kept_at (x ∷ y ∷ ys) zero c cs h e = absurd (omega arith)
kept_at (x ∷ y ∷ ys) (suc i) c cs h e = ap (with_step x) (kept_at (y ∷ ys) i c cs (omega arith) e) ∙ before_some x y ys

pub kept : (xs : List (List Command)) (c : Command) (cs : List Command) → slice_get xs (length xs - 1) ≡ Some (c ∷ cs) → cut_off xs ≡ xs
kept [] c cs e = refl
kept (x ∷ xs) c cs e = kept_at (x ∷ xs) (length (x ∷ xs) - 1) c cs (omega arith) e

-- the same where a test says whether the last step is empty
pub kept_last : (xs : List (List Command)) (s : List Command) (b : Bool) → Some s ≡ slice_get xs (length xs - 1) → (s ≡ [] → IsTrue b) → IsFalse b → cut_off xs ≡ xs
kept_last xs [] b e h f = absurd (not_both b (h refl) f)
  where
    not_both : (b : Bool) → IsTrue b → IsFalse b → ⊥
    not_both true t f = cc
    not_both false t f = cc
kept_last xs (c ∷ cs) b e h f = kept xs c cs (sym e)
