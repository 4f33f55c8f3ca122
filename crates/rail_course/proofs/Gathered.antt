-- The waits of all trains, gathered one after the other.
use Rattle.std.proofs.Common.{◌≡◌, ℕ, zero, suc, ◌+◌, ◌-◌, ◌≤◌, ◌<◌, ◌⊎◌, inl, inr, List, [], ◌∷◌, ◌++◌, length, map, get_or, refl, sym, ap, subst, ◌∙◌, arith}
use Rattle.std.specs.Global.{Vec}
use Rattle.std.proofs.lemmas.List.{get_or_append_left, get_or-append_right}
use Rattle.rail_base.specs.declared.station.TrainNo.{TrainNo}
use Rattle.rail_base.specs.Numbering.{entry}
use Rattle.rail_base.proofs.Members.{below_or_not}
use Rattle.rail_course.specs.declared.waits.Wait.{Wait}
use Rattle.rail_course.specs.Ready.{own_waits}

pub one_more : (P : TrainNo → List (List Wait) → Type 0) (waits new : List (List (Vec Wait))) (own : List (Vec Wait)) (n : ℕ) → length waits + 1 ≡ n → new ≡ waits ++ own ∷ []
    → ((t : TrainNo) → 1 ≤ t.0 → t.0 < n → P t (own_waits waits t)) → P (record { 0 = n }) (map (λ (v : Vec Wait). v.items) own)
    → (t : TrainNo) → 1 ≤ t.0 → t.0 < n + 1 → P t (own_waits new t)
one_more P waits new own n count made before here t low high = go (below_or_not t.0 n)
  where
    early : (k : ℕ) → 1 ≤ k → k < n → entry [] new k ≡ entry [] waits k
    early zero one less = absurd (omega arith)
    early (suc i) one less = ap (λ ws. get_or ws i []) made ∙ get_or_append_left waits (own ∷ []) [] i (omega arith)

    last : (k : ℕ) → k ≡ n → entry [] new k ≡ own
    last zero e = absurd (omega arith)
    last (suc i) e =
        let first : i - length waits ≡ 0 = omega arith in
        ap (λ ws. get_or ws i []) made ∙ get_or-append_right waits (own ∷ []) (length waits) i [] refl (omega arith) ∙ ap (λ j. get_or (own ∷ []) j []) first

    go : (t.0 < n) ⊎ (n ≤ t.0) → P t (own_waits new t)
    go (inl less) = subst (λ ws. P t (map (λ (v : Vec Wait). v.items) ws)) (sym (early t.0 low less)) (before t low less)
    go (inr past) =
        let same : t.0 ≡ n = omega arith in
        subst (λ ws. P t (map (λ (v : Vec Wait). v.items) ws)) (sym (last t.0 same))
        (subst (λ k. P (record { 0 = k }) (map (λ (v : Vec Wait). v.items) own)) (sym same) here)
