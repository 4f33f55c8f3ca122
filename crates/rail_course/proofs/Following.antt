-- Ticks to stand at visits, one after the other, and the sums of the first of them.
use Rattle.std.proofs.Common.{◌≡◌, ℕ, zero, suc, ◌+◌, ◌-◌, ◌≤◌, ◌<◌, ◌⊎◌, inl, inr, if◌then◌else◌, nat_lt, List, [], ◌∷◌, ◌++◌, length, take, Option, refl, sym, ap, subst, ◌∙◌, append_assoc, arith, le-leb}
use Rattle.std.specs.List.{sum}
use Rattle.std.proofs.lemmas.List.Sums.{sum_by-cons}
use Rattle.rail_base.specs.declared.state.PathNode.{PathNode}
use Rattle.rail_base.specs.Members.{In}
use Rattle.rail_base.specs.Numbering.{entry}
use Rattle.rail_laws.proofs.Standing.{not_le}
use Rattle.rail_spec.specs.Places.{next_stop}
use Rattle.rail_course.specs.declared.dwells.Dwell.{Dwell}
use Rattle.rail_course.specs.Dwells.{dwells_from}

-- from this number on they are these, where it has stood so many in all before them
abbrev pub Follow : List ℕ → ℕ → ℕ → List ℕ → Type 0
Follow all a u [] = Unit {0}
Follow all a u (w ∷ ws) = (entry 0 all a ≡ w) × (sum (take a all) ≡ u + w) × Follow all (a + 1) (u + w) ws

pub sum-cons : (w : ℕ) (ws : List ℕ) → sum (w ∷ ws) ≡ w + sum ws
sum-cons w ws = sum_by-cons (λ (x : ℕ). x) w ws

entry_behind : (before : List ℕ) (w : ℕ) (ws : List ℕ) (a : ℕ) → a ≡ length before + 1 → entry 0 (before ++ w ∷ ws) a ≡ w
entry_behind before w ws zero e = absurd (omega arith)
entry_behind [] w ws (suc zero) e = refl
entry_behind [] w ws (suc (suc a)) e = absurd (omega arith)
entry_behind (b ∷ bs) w ws (suc zero) e = absurd (omega arith)
entry_behind (b ∷ bs) w ws (suc (suc a)) e = entry_behind bs w ws (suc a) (omega arith)

sum_behind : (before : List ℕ) (w : ℕ) (ws : List ℕ) (a : ℕ) → a ≡ length before + 1 → sum (take a (before ++ w ∷ ws)) ≡ sum before + w
sum_behind before w ws zero e = absurd (omega arith)
sum_behind [] w ws (suc zero) e = let c = sum-cons w [] in omega arith
sum_behind [] w ws (suc (suc a)) e = absurd (omega arith)
sum_behind (b ∷ bs) w ws (suc a) e = let c = sum-cons b (take a (bs ++ w ∷ ws)) in let k = sum-cons b bs in let h = sum_behind bs w ws a (omega arith) in omega arith

length_one_more : (before : List ℕ) (w : ℕ) → length (before ++ w ∷ []) ≡ length before + 1
length_one_more [] w = refl
length_one_more (b ∷ bs) w = let h = length_one_more bs w in omega arith

sum_one_more : (before : List ℕ) (w : ℕ) → sum (before ++ w ∷ []) ≡ sum before + w
sum_one_more [] w = let c = sum-cons w [] in omega arith
sum_one_more (b ∷ bs) w = let c = sum-cons b (bs ++ w ∷ []) in let k = sum-cons b bs in let h = sum_one_more bs w in omega arith

follow_behind : (all before ws : List ℕ) (a : ℕ) → before ++ ws ≡ all → a ≡ length before + 1 → Follow all a (sum before) ws
follow_behind all before [] a same e = tt
follow_behind all before (w ∷ ws) a same e = (
  subst (λ zs. entry 0 zs a ≡ w) same (entry_behind before w ws a e),
  subst (λ zs. sum (take a zs) ≡ sum before + w) same (sum_behind before w ws a e),
  subst (λ u. Follow all (a + 1) u ws) (sum_one_more before w) (follow_behind all (before ++ w ∷ []) ws (a + 1) (append_assoc before (w ∷ []) ws ∙ same) (let l = length_one_more before w in omega arith)),
)

pub follow_all : (all : List ℕ) → Follow all 1 0 all
follow_all all = follow_behind all [] all 1 refl refl

-- ---- the ends of stands

-- no end of a stand comes after so many ticks stood and before the end
abbrev pub NoneBefore : List Dwell → ℕ → ℕ → Type 0
NoneBefore dwells stood end = (w : Dwell) → In w dwells → (w.until ≤ stood) ⊎ (end ≤ w.until)

-- so where it has to stand stays
pub same_stop : (ws : List ℕ) (ps : List (Option PathNode)) (u n m end : ℕ) → NoneBefore (dwells_from u ws) (u + n) end → n ≤ m → u + m < end → next_stop ws ps m ≡ next_stop ws ps n
same_stop [] ps u n m end h l k = refl
same_stop (w ∷ ws) [] u n m end h l k = refl
same_stop (w ∷ ws) (p ∷ ps) u n m end h l k = go (h (record { ticks = w; until = u + w }) (inl refl)) (same_stop ws ps (u + w) (n - w) (m - w) end)
  where
    later : u + w ≤ u + n → NoneBefore (dwells_from (u + w) ws) (u + w + (n - w)) end
    later past v i = let e : u + n ≡ u + w + (n - w) = omega arith in subst (λ x. (v.until ≤ x) ⊎ (end ≤ v.until)) e (h v (inr i))

    go : (u + w ≤ u + n) ⊎ (end ≤ u + w)
        → (NoneBefore (dwells_from (u + w) ws) (u + w + (n - w)) end → n - w ≤ m - w → u + w + (m - w) < end → next_stop ws ps (m - w) ≡ next_stop ws ps (n - w))
        → (if nat_lt m w then p else next_stop ws ps (m - w)) ≡ (if nat_lt n w then p else next_stop ws ps (n - w))
    go (inl past) rest =
        ap (λ b. if b then p else next_stop ws ps (m - w)) (not_le (suc m) w (omega arith))
        ∙ rest (later past) (omega arith) (omega arith)
        ∙ sym (ap (λ b. if b then p else next_stop ws ps (n - w)) (not_le (suc n) w (omega arith)))
    go (inr ahead) rest =
        ap (λ b. if b then p else next_stop ws ps (m - w)) (le-leb (suc m) w (omega arith))
        ∙ sym (ap (λ b. if b then p else next_stop ws ps (n - w)) (le-leb (suc n) w (omega arith)))

-- and of the sums of the first ticks none is come to
pub sums_apart : (ws : List ℕ) (u x y end : ℕ) → NoneBefore (dwells_from u ws) x end → u ≤ x → y < end → (j : ℕ) → (u + sum (take j ws) ≤ x) ⊎ (y < u + sum (take j ws))
sums_apart [] u x y end h l k zero = inl (omega arith)
sums_apart [] u x y end h l k (suc j) = inl (omega arith)
sums_apart (w ∷ ws) u x y end h l k zero = inl (omega arith)
sums_apart (w ∷ ws) u x y end h l k (suc j) = go (h (record { ticks = w; until = u + w }) (inl refl)) (λ past. sums_apart ws (u + w) x y end (λ v i. h v (inr i)) past k j)
  where
    c : sum (w ∷ take j ws) ≡ w + sum (take j ws)
    c = sum-cons w (take j ws)

    all : u + w + sum (take j ws) ≡ u + sum (w ∷ take j ws)
    all = let e = c in omega arith

    go : (u + w ≤ x) ⊎ (end ≤ u + w) → (u + w ≤ x → (u + w + sum (take j ws) ≤ x) ⊎ (y < u + w + sum (take j ws))) → (u + sum (w ∷ take j ws) ≤ x) ⊎ (y < u + sum (w ∷ take j ws))
    go (inl past) rest = subst (λ s. (s ≤ x) ⊎ (y < s)) all (rest past)
    go (inr ahead) rest = let e = c in inr (omega arith)

-- each end of a stand is such a sum
pub end_is_sum : (ws : List ℕ) (u : ℕ) (w : Dwell) → In w (dwells_from u ws) → (j : ℕ) × (w.until ≡ u + sum (take j ws))
end_is_sum [] u w m = absurd m
end_is_sum (v ∷ vs) u w (inl e) = (1, let c = sum-cons v [] in let same : u + v ≡ w.until = ap (λ (x : Dwell). x.until) e in omega arith)
end_is_sum (v ∷ vs) u w (inr m) = go (end_is_sum vs (u + v) w m)
  where
    go : ((j : ℕ) × (w.until ≡ u + v + sum (take j vs))) → (j : ℕ) × (w.until ≡ u + sum (take j (v ∷ vs)))
    go (j, e) = (suc j, let c = sum-cons v (take j vs) in omega arith)
