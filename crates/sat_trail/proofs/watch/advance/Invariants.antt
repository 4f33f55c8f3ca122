use Rattle.std.proofs.Common.{length, ◌-◌, ◌≡◌}
use Rattle.sat_trail.specs.Trails.{IsTrail}
use Rattle.sat_trail.specs.Forced.{IsForced}
use Rattle.sat_trail.specs.Watches.{rows, IsWatching}
use Rattle.sat_trail.specs.Blockers.{AllBlocked}
use Rattle.sat_trail.proofs.watch.advance.Given as goal

abbrev pub invariant-ahead : goal.invariant-ahead
invariant-ahead l = record { trail : IsTrail l.arena l.trail.steps; forced : IsForced l.fn.trail l.trail; watching : IsWatching l.trail l.watches.loose.items (rows l.watches.lists.items) l.watches.pairs.items l.head; blocked : AllBlocked l.trail.attached l.watches.loose.items (length l.watches.pairs.items) l.watches.lists.items; loose : l.watches.loose.items ≡ l.fn.watches.loose.items }

abbrev pub decreases-ahead : goal.decreases-ahead
decreases-ahead l = l.trail.vars - l.head
