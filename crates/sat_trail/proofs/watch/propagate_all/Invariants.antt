use Rattle.std.proofs.Common.{◌≡◌, ◌-◌, ◌+◌, length}
use Rattle.sat_trail.specs.Trails.{IsTrail}
use Rattle.sat_trail.specs.Forced.{IsForced}
use Rattle.sat_trail.specs.Watches.{rows, IsWatching}
use Rattle.sat_trail.specs.Blockers.{AllBlocked}
use Rattle.sat_trail.proofs.watch.propagate_all.Given as goal

abbrev pub invariant-forced : goal.invariant-forced
invariant-forced l = record { trail : IsTrail l.arena l.trail.steps; forced : IsForced l.fn.trail l.trail; watching : IsWatching l.trail l.watches.loose.items (rows l.watches.lists.items) l.watches.pairs.items l.head; blocked : AllBlocked l.trail.attached l.watches.loose.items (length l.watches.pairs.items) l.watches.lists.items; loose : l.watches.loose.items ≡ l.fn.watches.loose.items }

abbrev pub decreases-forced : goal.decreases-forced
decreases-forced l = l.trail.vars + 1 - length l.trail.steps
