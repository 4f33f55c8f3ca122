-- Limits that bind a train until its tail has left, point by point.
use Rattle.std.specs.Prelude.{ℕ, ◌+◌, ◌≤◌, ◌<◌, List}
use Rattle.rail_spec.specs.Motion.{SpanSeen, limit_at}

-- each point after x up to y, and each from there back over the tail, has a limit of at least u
abbrev pub KeepsUnderTrain : ℕ → List SpanSeen → ℕ → ℕ → ℕ → ℕ → Type 0
KeepsUnderTrain top stretches tail x y u =
    (p q : ℕ) → x < p → p ≤ y → 1 ≤ q → q ≤ p → p ≤ q + tail → u ≤ limit_at top stretches q
