-- What a put leaves.
use Rattle.std.specs.Prelude.{◌≡◌, ℕ, Bool, true, false, List, [], ◌∷◌, Option, Result, Ok, Err}
use Rattle.rail_outside.specs.Growth.{Rose, grown, GrowsByPrefix}
use Rattle.rail_outside.specs.declared.sink.SinkFault.{SinkFault}
use Rattle.rail_outside.specs.declared.sink.SinkFault.TheVariants.{Failed, Memory}

-- all of the piece is written, or after a failure a prefix of it, or for want of memory nothing
abbrev pub PutLeaves : {X : Type 0} → Result X SinkFault → Option (List ℕ) → Option (List ℕ) → List ℕ → Type 0
PutLeaves (Ok x) old new bytes = new ≡ grown old bytes
PutLeaves (Err Failed) old new bytes = GrowsByPrefix old new bytes
PutLeaves (Err Memory) old new bytes = new ≡ old

-- `Failed` comes only where the count rose
abbrev pub PutHasCause : {X : Type 0} → Result X SinkFault → ℕ → ℕ → Type 0
PutHasCause (Err Failed) before now = Rose before now
PutHasCause _ before now = Unit {0}

-- a call appends its piece, unless it answers want of memory
abbrev pub put_pieces : {X : Type 0} → Result X SinkFault → List ℕ → List (List ℕ)
put_pieces (Err Memory) bytes = []
put_pieces _ bytes = bytes ∷ []

-- `Failed` comes exactly where this is so, want of memory aside
abbrev pub PutFailsWhere : {X : Type 0} → Result X SinkFault → Bool → Type 0
PutFailsWhere (Ok x) fails = fails ≡ false
PutFailsWhere (Err Failed) fails = fails ≡ true
PutFailsWhere (Err Memory) fails = Unit {0}
