-- The track ahead as the definitions of motion have it.
use Rattle.std.specs.Prelude.{◌≡◌, ℕ, ℤ, ◌+◌, ◌*◌, ◌/◌, ◌<◌, ◌≤◌, ◌<ℤ◌, ◌≤ℤ◌, List, map, length, slice_index_or, AllPairs, nat_abs, Option, option_map, ◌⊎◌}
use Rattle.rail_motion.specs.declared.Span.{Span}
use Rattle.rail_spec.specs.Motion.{SpanSeen}

-- a span as a stretch of track
abbrev pub stretch_of : Span → SpanSeen
stretch_of s = record { end = nat_abs s.end; limit = nat_abs s.limit }

-- the spans as stretches
abbrev pub stretches_of : List Span → List SpanSeen
stretches_of spans = map stretch_of spans

-- where the authority ends, if it does
abbrev pub end_of : Option ℤ → Option ℕ
end_of end = option_map nat_abs end

-- each span ends before those after it
abbrev pub IsRising : List Span → Type 0
IsRising spans = AllPairs (λ s t. s.end <ℤ t.end) spans

-- of two spans, counted from 0, the first has the lower limit
abbrev pub IsSlower : List Span → ℕ → ℕ → Type 0
IsSlower spans i j = (d : Span) → (slice_index_or spans i d).limit <ℤ (slice_index_or spans j d).limit

-- the first has no higher limit
abbrev pub IsNoFaster : List Span → ℕ → ℕ → Type 0
IsNoFaster spans i j = (d : Span) → (slice_index_or spans i d).limit ≤ℤ (slice_index_or spans j d).limit

-- a span is the nearest after another with a lower limit, or is past the last
pub record IsNextSlower (spans : List Span) (i next : ℕ) : Type 0 where
  pub after : i < next
  pub within : next ≤ length spans
  pub none : (j : ℕ) → i < j → j < next → IsNoFaster spans i j
  pub slower : next < length spans → IsSlower spans next i

-- no span has a lower limit than one before it, from which on none is slower for so many spans
abbrev pub NoneSlower : List Span → Type 0
NoneSlower spans = (i j : ℕ) (d : Span) → i < j → j < length spans → j < i + (slice_index_or spans i d).slower_in
    → (slice_index_or spans i d).limit ≤ℤ (slice_index_or spans j d).limit

-- the last of the spans with which one is compared: blocks of 32 are looked over
abbrev pub block_end : ℕ → ℕ
block_end i = i / 32 * 32 + 32

-- a span is the last of the slowest after another up to the end of its block, or is past the last span where none is after it
pub record IsSlowestOfBlock (spans : List Span) (i slowest : ℕ) : Type 0 where
  pub after : i < slowest
  pub within : slowest ≤ length spans
  pub in_block : slowest ≤ block_end i
  pub some : i + 1 < length spans → slowest < length spans
  pub before : (j : ℕ) → i < j → j < slowest → slowest < length spans → IsNoFaster spans slowest j
  pub past : (j : ℕ) → slowest < j → j ≤ block_end i → j < length spans → IsSlower spans slowest j

-- no span after one has a lower limit than that which is so many spans on, up to which it lies
abbrev pub LeastAhead : List Span → Type 0
LeastAhead spans = (i j m : ℕ) (d : Span) → i < j → j < m → m < length spans → m ≡ i + (slice_index_or spans i d).least_in
    → (slice_index_or spans m d).limit ≤ℤ (slice_index_or spans j d).limit

-- from a span on each is marked with where the limit is lower
abbrev pub AreMarkedSlower : List Span → ℕ → Type 0
AreMarkedSlower spans from = (i : ℕ) (d : Span) → from ≤ i → i < length spans
    → IsNextSlower spans i (i + (slice_index_or spans i d).slower_in)

-- each is marked with the slowest of its block
abbrev pub AreMarkedSlowest : List Span → Type 0
AreMarkedSlowest spans = (i : ℕ) (d : Span) → i < length spans
    → IsSlowestOfBlock spans i (i + (slice_index_or spans i d).least_in)

-- the spans between one and the one that is so many on have limits that are not lower, or that allow a speed
abbrev pub NoneInTheWay : List Span → ℕ → ℕ → ℕ → Type 0
NoneInTheWay spans index further speed = (j : ℕ) (d : Span) → index < j → j < index + further → j < length spans
    → ((slice_index_or spans index d).limit ≤ℤ (slice_index_or spans j d).limit)
    ⊎ (speed ≤ nat_abs (slice_index_or spans j d).limit)
