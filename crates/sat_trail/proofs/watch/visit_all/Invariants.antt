use Rattle.std.proofs.Common.{◌≡◌, ◌-◌, length, drop, true}
use Rattle.sat_clause.specs.Clauses.{opposite}
use Rattle.sat_clause.specs.Hints.{is_assigned}
use Rattle.sat_trail.specs.Trails.{lits, IsTrail}
use Rattle.sat_trail.specs.Forced.{IsForced}
use Rattle.sat_trail.specs.Watches.{rows, row_at, code_of, IsWatching, Pending}
use Rattle.sat_trail.specs.Blockers.{AllBlocked}
use Rattle.sat_trail.proofs.watch.visit_all.Given as goal

abbrev pub invariant-list : goal.invariant-list
invariant-list l = record { is_false : is_assigned (lits l.trail.steps) (opposite l.w) ≡ true; trail : IsTrail l.arena l.trail.steps; forced : IsForced l.fn.trail l.trail; watching : IsWatching l.trail l.watches.loose.items (rows l.watches.lists.items) l.watches.pairs.items l.head; blocked : AllBlocked l.trail.attached l.watches.loose.items (length l.watches.pairs.items) l.watches.lists.items; loose : l.watches.loose.items ≡ l.fn.watches.loose.items; pending : Pending l.trail l.watches.loose.items l.watches.pairs.items l.w (drop l.i (row_at (rows l.watches.lists.items) (code_of l.w))) }

abbrev pub decreases-list : goal.decreases-list
decreases-list l = length (row_at (rows l.watches.lists.items) (code_of l.w)) - l.i
