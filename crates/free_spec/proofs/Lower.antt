-- Lower moves are free too, and a rise is a sum.
use Rattle.std.proofs.Common.{◌≡◌, ℕ, zero, suc, ◌+◌, ◌-◌, ◌*◌, ◌/◌, ◌≤◌, ◌<◌, max, Bool, true, false, not, ◌&&◌, ◌||◌, if◌then◌else◌, nat_le, nat_lt, List, [], ◌∷◌, Option, refl, ap, ◌∙◌, arith, leb-true, leb-false, le-leb, le_refl, mul-le-mul}
use Rattle.std.proofs.lemmas.Nat.{div-add-mod', div_below}
use Rattle.std.proofs.Math.Nat.{lt-div-mul-add}
use Rattle.rail_spec.specs.Motion.{MotorSeen, SpanSeen, can_brake}
use Rattle.rail_base.proofs.Members.{and_left, and_right, and_both}
use Rattle.rail_laws.proofs.MotionLaws.{can_brake_keeps, can_brake_slower}
use Rattle.free_spec.specs.Free.{climb, rise, behind, is_free, steps}
use Rattle.free_spec.proofs.Moves.{climb_more, climb_none}

rise_more : (a w u l : ℕ) → w ≤ u → rise a w l ≤ rise a u l
rise_more a w u l h = climb_more w u a w u l h h

lower_test : (a w u l x : ℕ) (skip : Bool) → w ≤ u → (skip || nat_le (rise a u l) x) ≡ true → (skip || nat_le (rise a w l) x) ≡ true
lower_test a w u l x true h k = refl
lower_test a w u l x false h k = let i = leb-true (rise a u l) x k in let m = rise_more a w u l h in le-leb (rise a w l) x (omega arith)

lower_behind : (a tail first : ℕ) (ss : List SpanSeen) (x w u : ℕ) → w ≤ u → behind a tail first ss x u ≡ true → behind a tail first ss x w ≡ true
lower_behind a tail first [] x w u h k = refl
lower_behind a tail first (s ∷ rest) x w u h k =
    and_both _ _ (lower_test a w u s.limit (x - (s.end + tail)) (not (nat_lt first s.end && nat_le (s.end + tail) x)) h (and_left _ (behind a tail (max first s.end) rest x u) k))
    (lower_behind a tail (max first s.end) rest x w u h (and_right (not (nat_lt first s.end && nat_le (s.end + tail) x) || nat_le (rise a u s.limit) (x - (s.end + tail))) _ k))

pub lower : (m : MotorSeen) (ss : List SpanSeen) (end : Option ℕ) (rest : Bool) (x u w : ℕ) → 1 ≤ m.brake → u ≤ m.top → w ≤ u → is_free m ss end rest x u ≡ true → is_free m ss end rest x w ≡ true
lower m ss end rest x u w slows fast less h =
    let both = and_left (can_brake u m.brake m.tail ss end x u && behind m.accel m.tail 0 ss x u) (not rest || nat_le (rise m.accel u 0) x) h in
    let start = and_right (can_brake u m.brake m.tail ss end x u && behind m.accel m.tail 0 ss x u) (not rest || nat_le (rise m.accel u 0) x) h in
    let brakes = and_left (can_brake u m.brake m.tail ss end x u) (behind m.accel m.tail 0 ss x u) both in
    let since = and_right (can_brake u m.brake m.tail ss end x u) (behind m.accel m.tail 0 ss x u) both in
    and_both _ _ (and_both _ _ (can_brake_slower u w m.brake m.tail m.top ss end x x u w slows fast less (omega arith) (omega arith) (λ p l k. slower (can_brake_keeps u m.brake m.tail m.top ss end x u fast brakes p l (omega arith))) brakes) (lower_behind m.accel m.tail 0 ss x w u less since))
    (lower_test m.accel w u 0 x (not rest) less start)
  where
    slower : {l : ℕ} → u ≤ l → w ≤ l
    slower k = omega arith

-- ---- the sum

-- one speed more
one_more : (a c u v distance : ℕ) → u ≡ v + a → 2 * distance + a * (c * (c + 1)) ≡ 2 * (c * v) → 2 * (v + distance) + a * ((c + 1) * (c + 1 + 1)) ≡ 2 * ((c + 1) * u)
one_more a c u v distance more h =
    let e : (c + 1) * u ≡ (c + 1) * (v + a) = ap (λ n. (c + 1) * n) more in
    let f : (c + 1) * (v + a) ≡ c * v + v + c * a + a = omega arith in
    let g : a * ((c + 1) * (c + 1 + 1)) ≡ a * (c * (c + 1)) + 2 * (c * a) + 2 * a = omega arith in
    omega (arith, e, f, g, h)

climb_is : (n a c u l : ℕ) → c ≤ n → l + 1 + c * a ≤ u → u < l + 1 + (c + 1) * a → 2 * climb n a u l + a * (c * (c + 1)) ≡ 2 * (c * u)
climb_is zero a zero u l fuel low high = omega arith
climb_is zero a (suc c) u l fuel low high = absurd (omega arith)
climb_is (suc n) a zero u l fuel low high = go (nat_lt l (u - a)) refl
  where
    go : (b : Bool) → nat_lt l (u - a) ≡ b → 2 * (if b then (u - a) + climb n a (u - a) l else 0) + a * (0 * (0 + 1)) ≡ 2 * (0 * u)
    go true e = let i = leb-true (suc l) (u - a) e in absurd (omega arith)
    go false e = omega arith
climb_is (suc n) a (suc c) u l fuel low high = go (nat_lt l (u - a)) refl (climb_is n a c (u - a) l (omega arith) (omega arith) (omega arith))
  where
    go : (b : Bool) → nat_lt l (u - a) ≡ b → 2 * climb n a (u - a) l + a * (c * (c + 1)) ≡ 2 * (c * (u - a)) → 2 * (if b then (u - a) + climb n a (u - a) l else 0) + a * (suc c * (suc c + 1)) ≡ 2 * (suc c * u)
    go true e h =
        let s : suc c * a ≡ c * a + a = omega arith in
        let o = one_more a c u (u - a) (climb n a (u - a) l) (omega arith) h in
        let p : suc c ≡ c + 1 = omega arith in
        let q = ap (λ m. a * (m * (m + 1))) p in
        let r = ap (λ m. 2 * (m * u)) p in
        omega (arith, o, q, r)
    go false e h = let i = leb-false (suc l) (u - a) e in let s : suc c * a ≡ c * a + a = omega arith in absurd (omega arith)

pub rise_is : (a u l : ℕ) → 1 ≤ a → let c = (u - (l + 1)) / a in 2 * rise a u l + a * (c * (c + 1)) ≡ 2 * (c * u)
rise_is a u l gains = go (nat_le u l) refl
  where
    at_zero : (c : ℕ) → c ≡ 0 → climb u a u l ≤ 0 → 2 * climb u a u l + a * (c * (c + 1)) ≡ 2 * (c * u)
    at_zero c none h = let e = ap (λ m. a * (m * (m + 1))) none in let f = ap (λ m. 2 * (m * u)) none in omega (arith, e, f, h)

    at_least : (c : ℕ) → c ≤ c * a
    at_least c = let k : c * 1 ≤ c * a = mul-le-mul (le_refl c) gains in omega arith

    go : (b : Bool) → nat_le u l ≡ b → 2 * rise a u l + a * (((u - (l + 1)) / a) * ((u - (l + 1)) / a + 1)) ≡ 2 * (((u - (l + 1)) / a) * u)
    go true e =
        let i = leb-true u l e in
        let none : u - (l + 1) ≡ 0 = omega arith in
        let below = div_below (u - (l + 1)) a 1 (omega arith) (omega arith) in
        at_zero ((u - (l + 1)) / a) (omega arith) (climb_none u a u l i)
    go false e =
        let i = leb-false u l e in
        let c = (u - (l + 1)) / a in
        let m = div-add-mod' (u - (l + 1)) a in
        let h : u - (l + 1) < (u - (l + 1)) / a * a + a = lt-div-mul-add {a = u - (l + 1)} {b = a} (omega arith) in
        let s : ((u - (l + 1)) / a + 1) * a ≡ (u - (l + 1)) / a * a + a = omega arith in
        let few : (u - (l + 1)) / a ≤ (u - (l + 1)) / a * a = at_least ((u - (l + 1)) / a) in
        climb_is u a ((u - (l + 1)) / a) u l (omega arith) (omega arith) (omega arith)

-- where a train cannot move no step reaches what is ahead
pub stuck : (move : ℕ → ℕ) (h x y : ℕ) → move x ≡ 0 → x < y → steps move h x y ≡ suc h
stuck move zero x y none ahead = go (nat_le y x) refl
  where
    go : (b : Bool) → nat_le y x ≡ b → ◌≡◌ {A = ℕ} (if b then 0 else 1) 1
    go true e = let i = leb-true y x e in absurd (omega arith)
    go false e = refl
stuck move (suc h) x y none ahead = go (nat_le y x) refl (ap (λ z. steps move h z y) same ∙ stuck move h x y none ahead)
  where
    same : x + move x ≡ x
    same = omega arith

    go : (b : Bool) → nat_le y x ≡ b → steps move h (x + move x) y ≡ suc h → ◌≡◌ {A = ℕ} (if b then 0 else suc (steps move h (x + move x) y)) (suc (suc h))
    go true e k = let i = leb-true y x e in absurd (omega arith)
    go false e k = ap (λ n. suc n) k
