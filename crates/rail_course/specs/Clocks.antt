-- How long ago something happened to a train, in the ticks that concern it.
use Rattle.std.specs.Prelude.{◌≡◌, ℕ, zero, suc, ◌+◌, ◌≤◌, Bool, true, false, nat_le, if◌then◌else◌, Option, None, Some}
use Rattle.rail_base.specs.declared.station.TrainNo.{TrainNo}
use Rattle.rail_spec.specs.Dispatches.{Dispatch}

-- what happened at this tick, if at any, was so many ticks ago by the clock, or more
abbrev pub comes_by : Option ℕ → ℕ → ℕ → Bool
comes_by None ticks clock = false
comes_by (Some tick) ticks clock = nat_le (tick + ticks) clock

module _ (p : Dispatch) where
  -- a train's clock: how many of the ticks up to k concern it
  abbrev pub own_ticks : ℕ → TrainNo → ℕ
  own_ticks zero t = 0
  own_ticks (suc k) t = if p.concerns (suc k) t then suc (own_ticks k t) else own_ticks k t

  -- the ticks that concern the train are the first ones
  abbrev pub IsConcernedFirst : TrainNo → Type 0
  IsConcernedFirst t = (k : ℕ) → 1 ≤ k → p.concerns (suc k) t ≡ true → p.concerns k t ≡ true
