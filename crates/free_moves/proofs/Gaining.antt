-- The distance of the speeds gained, and the greatest free move.
use Rattle.std.proofs.Common.{◌≡◌, ℕ, zero, suc, ◌+◌, ◌-◌, ◌*◌, ◌/◌, ◌≤◌, ◌<◌, max, nat_abs, Bool, true, false, not, ◌&&◌, ◌||◌, nat_lt, nat_le, List, [], ◌∷◌, drop, length, slice_index_or, Option, refl, sym, ap, ap₂, subst, arith, leb-true, leb-false}
use Rattle.std.proofs.lemmas.List.{get_or-drop, length-drop}
use Rattle.rail_motion.specs.declared.Span.{Span}
use Rattle.rail_motion.specs.Track.{stretches_of, IsRising}
use Rattle.rail_motion.proofs.Rising.{ends_rise}
use Rattle.rail_base.specs.Numbering.{greatest}
use Rattle.rail_spec.specs.Motion.{MotorSeen, SpanSeen}
use Rattle.free_spec.specs.Free.{rise, behind, is_free, free}
use Rattle.free_spec.proofs.Lower.{lower, rise_is}
use Rattle.rail_laws.proofs.MotionLaws.{greatest_step}

pub rise_found : (a u l gap : ℕ) → 1 ≤ a → gap ≡ u - (l + 1) → 2 * rise a u l + a * (gap / a * (gap / a + 1)) ≡ 2 * (gap / a * u)
rise_found a u l gap gains same = subst (λ n. 2 * rise a u l + a * (n / a * (n / a + 1)) ≡ 2 * (n / a * u)) (sym same) (rise_is a u l gains)

-- the greatest is r where r passes, or is 0, and none above it does
greatest_found : (test : ℕ → Bool) (n r : ℕ) → r ≤ n → (1 ≤ r → test r ≡ true) → ((w : ℕ) → r < w → w ≤ n → test w ≡ false) → greatest test n ≡ r
greatest_found test zero r within passes above = omega arith
greatest_found test (suc n) r within passes above =
    greatest_step (test (suc n)) (greatest test n) n r within (λ e. subst (λ k. test k ≡ true) e (passes (omega arith))) (λ h. above (suc n) (omega arith) (omega arith))
    (λ h. greatest_found test n r h passes (λ w l m. above w l (omega arith)))

-- a free move is the greatest where the next is none
pub free_found : (m : MotorSeen) (ss : List SpanSeen) (end : Option ℕ) (rest : Bool) (x low high : ℕ) → 1 ≤ m.brake → low < high → high ≤ m.top + 1 → high ≤ low + 1
    → (1 ≤ low → is_free m ss end rest x low ≡ true) → (high ≤ m.top → is_free m ss end rest x high ≡ false) → low ≡ free m ss end rest x
free_found m ss end rest x low high slows apart within close passes above =
    sym (greatest_found (is_free m ss end rest x) m.top low (omega arith) passes (λ w more most. go w more most (is_free m ss end rest x w) refl))
  where
    go : (w : ℕ) → low < w → w ≤ m.top → (t : Bool) → is_free m ss end rest x w ≡ t → is_free m ss end rest x w ≡ false
    go w more most false e = e
    go w more most true e = let k = lower m ss end rest x w high slows most (omega arith) e in let l = above (omega arith) in cc

-- ---- what the tail has left

-- whether the limits of stretches that end up to a place allow a move, counted from their ends
abbrev pub allowed_at : ℕ → ℕ → List SpanSeen → ℕ → ℕ → Bool
allowed_at a from [] x u = true
allowed_at a from (s ∷ rest) x u =
    (not (nat_lt from s.end && nat_le s.end x) || nat_le (rise a u s.limit) (x - s.end)) && allowed_at a (max from s.end) rest x u

left_same : (from e tail x : ℕ) → nat_lt from e ≡ true → (b : Bool) → nat_le (e + tail) x ≡ b → (c : Bool) → nat_le e (x - tail) ≡ c → b ≡ c
left_same from e tail x h true k true l = refl
left_same from e tail x h false k false l = refl
left_same from e tail x h true k false l = let m = leb-true (e + tail) x k in let n = leb-false e (x - tail) l in absurd (omega arith)
left_same from e tail x h false k true l = let m = leb-false (e + tail) x k in let n = leb-true e (x - tail) l in let o = leb-true (suc from) e h in absurd (omega arith)

-- the limits behind are those that end up to the tail
pub seen_from_tail : (a tail from : ℕ) (ss : List SpanSeen) (x u : ℕ) → behind a tail from ss x u ≡ allowed_at a from ss (x - tail) u
seen_from_tail a tail from [] x u = refl
seen_from_tail a tail from (s ∷ rest) x u = ap₂ (λ b c. b && c) (test (nat_lt from s.end) refl) (seen_from_tail a tail (max from s.end) rest x u)
  where
    far : x - (s.end + tail) ≡ x - tail - s.end
    far = omega arith

    test : (b : Bool) → nat_lt from s.end ≡ b
        → (not (b && nat_le (s.end + tail) x) || nat_le (rise a u s.limit) (x - (s.end + tail))) ≡ (not (b && nat_le s.end (x - tail)) || nat_le (rise a u s.limit) (x - tail - s.end))
    test true h = ap₂ (λ c n. not c || nat_le (rise a u s.limit) n) (left_same from s.end tail x h (nat_le (s.end + tail) x) refl (nat_le s.end (x - tail)) refl) far
    test false h = refl

-- ---- spans past a place

skipped : (from e x : ℕ) (b c : Bool) → x < e → c ≡ true → ((not (nat_lt from e && nat_le e x) || b) && c) ≡ true
skipped from e x b c past h = grind arith

all_past : (a from : ℕ) (spans : List Span) (x u : ℕ) (d : Span) → ((j : ℕ) → j < length spans → x < nat_abs (slice_index_or spans j d).end) → allowed_at a from (stretches_of spans) x u ≡ true
all_past a from [] x u d past = refl
all_past a from (s ∷ spans) x u d past =
    skipped from (nat_abs s.end) x (nat_le (rise a u (nat_abs s.limit)) (x - nat_abs s.end)) (allowed_at a (max from (nat_abs s.end)) (stretches_of spans) x u) (past 0 (omega arith))
    (all_past a (max from (nat_abs s.end)) spans x u d (λ j less. past (suc j) (omega arith)))

-- where one of rising spans ends past a place so do all from there on
pub rest_past : (a from : ℕ) (spans : List Span) (i x u : ℕ) (s : Span) → IsRising spans → s ≡ slice_index_or spans i s → x < nat_abs s.end → allowed_at a from (stretches_of (drop i spans)) x u ≡ true
rest_past a from spans i x u s rising here past =
    all_past a from (drop i spans) x u s (λ j less.
    let long = length-drop i spans in
    let later = ends_rise spans rising i (i + j) s (omega arith) (omega arith) in
    let first = ap (λ (t : Span). nat_abs t.end) here in
    let same = ap (λ (t : Span). nat_abs t.end) (get_or-drop i spans j s) in
    omega arith)
