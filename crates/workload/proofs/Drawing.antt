-- Draws one after the other.
use Rattle.std.proofs.Common.{◌≡◌, ℕ, zero, suc, ◌+◌, ◌-◌, ◌*◌, ◌%◌, ◌^◌, ◌≤◌, ◌==◌, ap, ◌∙◌, arith}
use Rattle.std.proofs.Math.Nat.{mod-add-mod}
use Rattle.workload.specs.Draws.{next, drawn, below, runs_east, time_of}

-- the wrapped product and sum are the next number
pub next_wrapped : (x : ℕ) → (x * 6364136223846793005 % 2 ^ 64 + 1442695040888963407) % 2 ^ 64 ≡ next x
unfolding next
next_wrapped x = mod-add-mod (x * 6364136223846793005) (2 ^ 64) 1442695040888963407

-- the draw of a track
pub track_drawn : (x i old new : ℕ) → 1 ≤ i → old ≡ drawn x (i - 1) → new ≡ next old → new ≡ drawn x i
track_drawn x i old new h e f = f ∙ (ap next e ∙ ap (drawn x) (one_more i h))
  where
    one_more : (i : ℕ) → 1 ≤ i → suc (i - 1) ≡ i
    one_more i h = omega arith

-- the next track
pub next_track : (x i new : ℕ) → new ≡ drawn x i → new ≡ drawn x (i + 1 - 1)
next_track x i new e = e ∙ ap (drawn x) (same i)
  where
    same : (i : ℕ) → i ≡ i + 1 - 1
    same i = omega arith

-- the first draw of a train
pub first_drawn : (x j old : ℕ) → old ≡ drawn x (2 * (j - 1)) → next old ≡ drawn x (0 + 2 * (j - 1) + 1)
first_drawn x j old e = ap next e ∙ ap (drawn x) (one_more (2 * (j - 1)))
  where
    one_more : (n : ℕ) → suc n ≡ 0 + n + 1
    one_more n = omega arith

-- the second draw of a train
pub second_drawn : (x j old : ℕ) → old ≡ drawn x (2 * (j - 1)) → next (next old) ≡ drawn x (0 + 2 * (j - 1) + 2)
second_drawn x j old e = ap (λ n. next (next n)) e ∙ ap (drawn x) (two_more (2 * (j - 1)))
  where
    two_more : (n : ℕ) → suc (suc n) ≡ 0 + n + 2
    two_more n = omega arith

-- the next train
pub next_train : (x j old new : ℕ) → 1 ≤ j → old ≡ drawn x (2 * (j - 1)) → new ≡ next (next old) → new ≡ drawn x (2 * (j + 1 - 1))
next_train x j old new h e f = f ∙ (ap (λ n. next (next n)) e ∙ ap (drawn x) (two_more j h))
  where
    two_more : (j : ℕ) → 1 ≤ j → suc (suc (2 * (j - 1))) ≡ 2 * (j + 1 - 1)
    two_more j h = omega arith

-- draws after draws
pub drawn_after : (x m n : ℕ) → drawn (drawn x m) n ≡ drawn x (m + n)
drawn_after x m zero = ap (drawn x) (none m)
  where
    none : (m : ℕ) → m ≡ m + 0
    none m = omega arith
drawn_after x m (suc n) = ap next (drawn_after x m n) ∙ ap (drawn x) (more m n)
  where
    more : (m n : ℕ) → suc (m + n) ≡ m + suc n
    more m n = omega arith

-- the ways of trains, after the draws of the tracks
pub ways_after : (x size : ℕ) → runs_east (drawn x size) 0 ≡ runs_east x size
ways_after x size = λ i j. below 2 (same j i) == 0
  where
    same : (j : ℕ) → drawn (drawn x size) (0 + 2 * (j - 1) + 1) ≡ drawn x (size + 2 * (j - 1) + 1)
    same j = drawn_after x size (0 + 2 * (j - 1) + 1) ∙ ap (drawn x) (shift size (2 * (j - 1)))
      where
        shift : (m n : ℕ) → m + (0 + n + 1) ≡ m + n + 1
        shift m n = omega arith

-- the times of trains, after the draws of the tracks
pub times_after : (x size : ℕ) → time_of (drawn x size) 0 ≡ time_of x size
times_after x size = λ i j. 120000 + 1000 * below 240 (same j i)
  where
    same : (j : ℕ) → drawn (drawn x size) (0 + 2 * (j - 1) + 2) ≡ drawn x (size + 2 * (j - 1) + 2)
    same j = drawn_after x size (0 + 2 * (j - 1) + 2) ∙ ap (drawn x) (shift size (2 * (j - 1)))
      where
        shift : (m n : ℕ) → m + (0 + n + 2) ≡ m + n + 2
        shift m n = omega arith
