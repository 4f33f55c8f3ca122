use Rattle.std.proofs.Common.{◌≡◌, ◌++◌, drop}
use Rattle.rail_spec.specs.Track.{overlap_sections}
use Rattle.rail_routes.proofs.Held.{to_hold}
use Rattle.rail_routes.proofs.overlap.not_own.Given as goal

abbrev pub invariant-loop-section : goal.invariant-loop-section
invariant-loop-section l = l.held ++ to_hold l.overlap l.own l.held (drop l.section-index l.section-items) ≡ overlap_sections l.overlap l.own
