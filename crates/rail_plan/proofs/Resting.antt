-- What is left of a length after routes.
use Rattle.std.proofs.Common.{◌≡◌, ℕ, ◌+◌, ◌-◌, max, Bool, true, false, ◌||◌, ◌==◌, nat_le, if◌then◌else◌, List, [], ◌∷◌, ◌++◌, sum_by, refl, sym, ap, ◌∙◌, arith, leb-true, le-leb, eqb-true, eq-eqb}
use Rattle.std.specs.List.{list_any}
use Rattle.std.proofs.lemmas.List.Sums.{sum_by-cons}
use Rattle.rail_base.specs.declared.route.Route.{Route}
use Rattle.rail_spec.specs.Plans.{length_mm, exits}
use Rattle.rail_plan.specs.Holds.{rest_after}
use Rattle.rail_base.proofs.Members.{same_bool, or_right}

-- nothing stays nothing
pub rest_none : (rs : List Route) → rest_after 0 rs ≡ 0
rest_none [] = refl
rest_none (r ∷ rs) = go (exits r) (ap (λ k. rest_after k rs) nothing ∙ rest_none rs)
  where
    nothing : 0 - length_mm r ≡ 0
    nothing = omega arith

    go : (b : Bool) → rest_after (0 - length_mm r) rs ≡ 0 → (if b then 0 else rest_after (0 - length_mm r) rs) ≡ 0
    go true e = refl
    go false e = e

-- what is left after more routes is what is left of that
pub rest_more : (n : ℕ) (rs qs : List Route) → rest_after n (rs ++ qs) ≡ rest_after (rest_after n rs) qs
rest_more n [] qs = refl
rest_more n (r ∷ rs) qs = go (exits r) (rest_more (n - length_mm r) rs qs)
  where
    go : (b : Bool) → rest_after (n - length_mm r) (rs ++ qs) ≡ rest_after (rest_after (n - length_mm r) rs) qs
        → (if b then 0 else rest_after (n - length_mm r) (rs ++ qs)) ≡ rest_after (if b then 0 else rest_after (n - length_mm r) rs) qs
    go true e = sym (rest_none qs)
    go false e = e

-- of the greater length the greater is left
pub rest_max : (n m : ℕ) (rs : List Route) → rest_after (max n m) rs ≡ max (rest_after n rs) (rest_after m rs)
rest_max n m [] = refl
rest_max n m (r ∷ rs) = go (exits r) (rest_max (n - length_mm r) (m - length_mm r) rs)
  where
    apart : max n m - length_mm r ≡ max (n - length_mm r) (m - length_mm r)
    apart = omega arith

    none : 0 ≡ max 0 0
    none = omega arith

    go : (b : Bool) → rest_after (max (n - length_mm r) (m - length_mm r)) rs ≡ max (rest_after (n - length_mm r) rs) (rest_after (m - length_mm r) rs)
        → (if b then 0 else rest_after (max n m - length_mm r) rs) ≡ max (if b then 0 else rest_after (n - length_mm r) rs) (if b then 0 else rest_after (m - length_mm r) rs)
    go true e = none
    go false e = ap (λ k. rest_after k rs) apart ∙ e

-- ---- nothing is left exactly where the routes are as long, or one exits

less_left : (need prefix rest : ℕ) → nat_le (need - prefix) rest ≡ nat_le need (prefix + rest)
less_left need prefix rest = same_bool (nat_le (need - prefix) rest) (nat_le need (prefix + rest))
    (λ h. let l = leb-true (need - prefix) rest h in le-leb need (prefix + rest) (omega arith))
    (λ h. let l = leb-true need (prefix + rest) h in le-leb (need - prefix) rest (omega arith))

pub rest_is : (need : ℕ) (given : List Route) → (rest_after need given == 0) ≡ (nat_le need (sum_by length_mm given) || list_any exits given)
rest_is need [] = same_bool (need == 0) (nat_le need 0 || false)
    (λ h. let e = eqb-true need 0 h in ap (λ b. b || false) (le-leb need 0 (omega arith)))
    (λ h. zero_of (nat_le need 0) refl h)
  where
    zero_of : (b : Bool) → nat_le need 0 ≡ b → (b || false) ≡ true → (need == 0) ≡ true
    zero_of true e h = let l = leb-true need 0 e in eq-eqb need 0 (omega arith)
    zero_of false e h = cc
rest_is need (r ∷ rs) = go (exits r) (rest_is (need - length_mm r) rs)
  where
    go : (b : Bool) → (rest_after (need - length_mm r) rs == 0) ≡ (nat_le (need - length_mm r) (sum_by length_mm rs) || list_any exits rs)
        → ((if b then 0 else rest_after (need - length_mm r) rs) == 0) ≡ (nat_le need (sum_by length_mm (r ∷ rs)) || (b || list_any exits rs))
    go true e = sym (or_right (nat_le need (sum_by length_mm (r ∷ rs))) true refl)
    go false e = e ∙ ap (λ b. b || list_any exits rs) (less_left need (length_mm r) (sum_by length_mm rs) ∙ ap (nat_le need) (sym (sum_by-cons length_mm r rs)))
