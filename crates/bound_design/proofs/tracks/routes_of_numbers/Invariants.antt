use Rattle.std.proofs.Common.{take}
use Rattle.bound_design.specs.Covering.{AreOf}
use Rattle.bound_design.proofs.tracks.routes_of_numbers.Given as goal

-- these are the routes of the numbers so far
abbrev pub invariant-loop-number : goal.invariant-loop-number
invariant-loop-number l = AreOf l.table (take l.number-index l.numbers) l.routes.items
