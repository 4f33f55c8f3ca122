-- Withins that differ in their greatest times alone, of which none is greater than the other.
use Rattle.std.proofs.Common.{◌≡◌, ℕ, zero, suc, ◌*◌, ◌/◌, ◌≤◌, List, [], ◌∷◌, length, slice_set, refl, sym, ◌∙◌, arith, length-set, div-mul-le_self, le_trans}
use Rattle.std.proofs.lemmas.Nat.{le-div}
use Rattle.std.proofs.Math.Nat.{div-zero}
use Rattle.rail_base.specs.declared.station.Within.{Within}
use Rattle.rail_base.specs.Numbering.{entry}
use Rattle.rail_base.specs.Stations.{no_within}
use Rattle.greatest_time.specs.Times.{within_in}

-- the first is the second with at most its greatest time
pub record IsTighter (v w : Within) : Type 0 where
  pub ms : ℕ
  pub less : ms ≤ w.max_ms
  pub is : v ≡ within_in w ms

-- so each is as the one of its number
pub record AreTighter (vs ws : List Within) : Type 0 where
  pub many : length vs ≡ length ws
  pub each : (n : ℕ) → IsTighter (entry no_within vs n) (entry no_within ws n)

as_it_is : (v : Within) → IsTighter v v
as_it_is v = record { ms = v.max_ms; less = omega arith; is = refl }

entries_tighter : (ws : List Within) (i : ℕ) (v : Within) (less ms : ℕ) → less ≤ ms → (n : ℕ) → IsTighter (entry no_within (slice_set ws i (within_in v less)) n) (entry no_within (slice_set ws i (within_in v ms)) n)
entries_tighter ws i v less ms h zero = as_it_is no_within
entries_tighter [] i v less ms h (suc n) = as_it_is no_within
entries_tighter (w ∷ ws) zero v less ms h (suc zero) = record { ms = less; less = h; is = refl }
entries_tighter (w ∷ ws) zero v less ms h (suc (suc n)) = as_it_is (entry no_within ws (suc n))
entries_tighter (w ∷ ws) (suc i) v less ms h (suc zero) = as_it_is w
entries_tighter (w ∷ ws) (suc i) v less ms h (suc (suc n)) = entries_tighter ws i v less ms h (suc n)

-- withins with less time in one of them
pub tighter : (ws : List Within) (i : ℕ) (v : Within) (less ms : ℕ) → less ≤ ms → AreTighter (slice_set ws i (within_in v less)) (slice_set ws i (within_in v ms))
tighter ws i v less ms h = record {
  many = length-set ws i (within_in v less) ∙ sym (length-set ws i (within_in v ms));
  each = entries_tighter ws i v less ms h;
}

-- less time is no more ticks
pub fewer_ticks : (less ms tick : ℕ) → less ≤ ms → less / tick ≤ ms / tick
fewer_ticks less ms zero h = let a = div-zero less in let b = div-zero ms in omega arith
fewer_ticks less ms (suc tick) h =
    let e : less / suc tick * suc tick ≤ less = div-mul-le_self less (suc tick) in
    le-div (less / suc tick) ms (suc tick) (omega arith) (le_trans e h)
