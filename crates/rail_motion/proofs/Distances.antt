-- The closed forms of the distance of braking, and of its part above a limit.
use Rattle.std.proofs.Common.{◌≡◌, ℕ, zero, suc, ◌+◌, ◌-◌, ◌*◌, ◌/◌, ◌%◌, ◌≤◌, ◌<◌, ◌⊎◌, inl, inr, refl, arith, mul-le-mul, le_refl, le-leb, suc-mul}
use Rattle.std.proofs.lemmas.Bool.{lt-leb, cases_lt}
use Rattle.std.specs.Int.{div_ceil}
use Rattle.std.proofs.lemmas.Grind.{div_ceil_times}
use Rattle.rail_spec.specs.Motion.{braking_distance}
use Rattle.rail_motion.specs.Braking.{faster_distance}
use Rattle.rail_laws.proofs.MotionLaws.{braking_distance_is}

-- twice the way, and what is taken off, make the product of moves and speed
pub twice_distance : (u b : ℕ) → 1 ≤ b → 2 * braking_distance u b u + b * (u / b * (u / b + 1)) ≡ 2 * (u / b * u)
twice_distance u b slows = braking_distance_is u b (u / b) (u % b) u slows (omega arith) (omega arith) (omega arith)

pub product_small : (b q u : ℕ) → q * b ≤ u → u ≤ 100000 → 1 ≤ b → b * (q * (q + 1)) ≤ 100000 * 100001
product_small b q u few slow slows =
    let moves : q * 1 ≤ q * b = mul-le-mul (le_refl q) slows in
    let way : q * b ≤ 100000 = omega arith in
    let count : q + 1 ≤ 100001 = omega arith in
    let h : (q * b) * (q + 1) ≤ 100000 * 100001 = mul-le-mul way count in
    omega (arith, h)

-- ---- the moves above a limit

pub faster_none : (n b limit u : ℕ) → u ≤ limit → faster_distance n b limit u ≡ 0
faster_none zero b limit u slow = refl
faster_none (suc n) b limit u slow = rw (le-leb u limit slow) refl

pub faster_more : (n b limit u : ℕ) → limit < u → faster_distance (suc n) b limit u ≡ u + faster_distance n b limit (u - b)
faster_more n b limit u fast = rw (lt-leb u limit fast) refl

-- they are among all moves
pub faster_within : (n b limit u : ℕ) → faster_distance n b limit u ≤ u + braking_distance n b u
faster_within zero b limit u = omega arith
faster_within (suc n) b limit zero = let none = faster_none (suc n) b limit zero (omega arith) in omega arith
faster_within (suc n) b limit (suc u) = go (faster_within n b limit (suc u - b)) (cases_lt limit (suc u))
  where
    go : faster_distance n b limit (suc u - b) ≤ (suc u - b) + braking_distance n b (suc u - b) → (limit < suc u) ⊎ (suc u ≤ limit) → faster_distance (suc n) b limit (suc u) ≤ suc u + braking_distance (suc n) b (suc u)
    go less (inl fast) = omega (arith, faster_more n b limit (suc u) fast)
    go less (inr slow) = omega (arith, faster_none (suc n) b limit (suc u) slow)

-- one move more at the front
more_moves : (b r q p u w way : ℕ) → q ≡ r + 1 → p ≡ q + 1 → u ≡ w + b → 2 * way + b * (q * r) ≡ 2 * (q * w) → 2 * (u + way) + b * (p * q) ≡ 2 * (p * u)
more_moves b r q p u w way one two more h = rw (two, more, one) (let k = rw one at h in omega arith)

-- m moves are faster than the limit, and the next is not
pub faster_distance_is : (n b limit m u : ℕ) → 1 ≤ b → u ≤ n → ((k : ℕ) → k < m → limit + k * b < u) → u ≤ limit + m * b → 2 * faster_distance n b limit u + b * (m * (m - 1)) ≡ 2 * (m * u)
faster_distance_is n b limit zero u slows bound fast slow = let none = faster_none n b limit u (omega arith) in omega arith
faster_distance_is zero b limit (suc q) u slows bound fast slow = let first = fast 0 (omega arith) in absurd (omega arith)
faster_distance_is (suc n) b limit (suc q) u slows bound fast slow =
    let first : limit + 0 * b < u = fast 0 (omega arith) in
    let before : suc q - 1 ≡ q = omega arith in
    rw (faster_more n b limit u (omega arith), before)
    (go q fast (faster_distance_is n b limit q (u - b) slows (omega arith)
    (λ k l. let next : limit + suc k * b < u = fast (suc k) (omega arith) in omega (arith, suc-mul k b))
    (omega (arith, suc-mul q b))))
  where
    go : (q : ℕ) → ((k : ℕ) → k < suc q → limit + k * b < u) → 2 * faster_distance n b limit (u - b) + b * (q * (q - 1)) ≡ 2 * (q * (u - b)) → 2 * (u + faster_distance n b limit (u - b)) + b * (suc q * q) ≡ 2 * (suc q * u)
    go zero fast h = omega arith
    go (suc r) fast h =
        let next : limit + 1 * b < u = fast 1 (omega arith) in
        let before : suc r - 1 ≡ r = omega arith in
        more_moves b r (suc r) (suc (suc r)) u (u - b) (faster_distance n b limit (u - b)) (omega arith) (omega arith) (omega arith) (rw before at h)

-- so many moves are faster than the limit
counts : (d b m : ℕ) → 1 ≤ b → m ≡ div_ceil d b → (d ≤ m * b) × (m * b < d + b)
counts d b m slows is = rw is (div_ceil_times d b slows)

pub twice_faster : (u b limit d m less : ℕ) → 1 ≤ b → d ≡ u - limit → m ≡ div_ceil d b → less ≡ m - 1 → 2 * faster_distance u b limit u + b * (m * less) ≡ 2 * (m * u)
twice_faster u b limit d m less slows over count before = rw before (go (counts d b m slows count))
  where
    go : (d ≤ m * b) × (m * b < d + b) → 2 * faster_distance u b limit u + b * (m * (m - 1)) ≡ 2 * (m * u)
    go (enough, few) =
        faster_distance_is u b limit m u slows (omega arith)
        (λ k l. let below : suc k * b ≤ m * b = mul-le-mul l (le_refl b) in omega (arith, suc-mul k b))
        (omega arith)

pub faster_small : (u b limit d m less : ℕ) → 1 ≤ b → u ≤ 100000 → d ≡ u - limit → m ≡ div_ceil d b → less ≡ m - 1 → b * (m * less) ≤ 100000 * 100001
faster_small u b limit d zero less slows slow over count before = omega arith
faster_small u b limit d (suc q) less slows slow over count before = go (counts d b (suc q) slows count)
  where
    go : (d ≤ suc q * b) × (suc q * b < d + b) → b * (suc q * less) ≤ 100000 * 100001
    go (enough, few) =
        let same : less ≡ q = omega arith in
        let more : suc q ≡ q + 1 = omega arith in
        let way : q * b ≤ 100000 = omega (arith, suc-mul q b) in
        let moves : q * 1 ≤ q * b = mul-le-mul (le_refl q) slows in
        let top : q + 1 ≤ 100001 = omega arith in
        let h : (q * b) * (q + 1) ≤ 100000 * 100001 = mul-le-mul way top in
        rw (same, more) (omega (arith, h))

-- each of the moves above a limit is at most the first
pub faster_at_most : (u b limit d track : ℕ) → 1 ≤ b → d ≡ u - limit → (d + b) * u ≤ b * track → faster_distance u b limit u ≤ track
faster_at_most u b limit d track slows over enough = go (div_ceil d b) (counts d b (div_ceil d b) slows refl) (twice_faster u b limit d (div_ceil d b) (div_ceil d b - 1) slows over refl refl) (cases_lt track (faster_distance u b limit u))
  where
    go : (m : ℕ) → (d ≤ m * b) × (m * b < d + b) → 2 * faster_distance u b limit u + b * (m * (m - 1)) ≡ 2 * (m * u) → (track < faster_distance u b limit u) ⊎ (faster_distance u b limit u ≤ track) → faster_distance u b limit u ≤ track
    go m (reached, few) twice (inr within) = within
    go m (reached, few) twice (inl past) =
        let first : faster_distance u b limit u ≤ m * u = omega arith in
        let more : track + 1 ≤ m * u = omega arith in
        let product : b * (track + 1) ≤ b * (m * u) = mul-le-mul (le_refl b) more in
        let moves : (m * b) * u ≤ (d + b) * u = mul-le-mul (let l = few in omega arith) (le_refl u) in
        let turned : b * (m * u) ≡ (m * b) * u = omega arith in
        let taken : b * (track + 1) ≡ b * track + b = omega arith in
        absurd (omega arith)
