use Rattle.std.proofs.Common.{◌≡◌, ◌++◌, map, take, drop, length}
use Rattle.std.specs.Prelude.{nat_eq, not}
use Rattle.std.specs.List.{filter}
use Rattle.sat_trail.specs.declared.entry.Entry.{Entry}
use Rattle.sat_trail.specs.Watches.{entries}
use Rattle.sat_trail.proofs.watch.take_out_all.Given as goal

abbrev pub invariant-loop-i : goal.invariant-loop-i
invariant-loop-i l = record { size : length l.lists.items ≡ length l.fn.lists.items; done : entries l.lists.items ≡ map (filter (λ (e : Entry). not (nat_eq e.id l.id))) (take l.i (entries l.fn.lists.items)) ++ drop l.i (entries l.fn.lists.items) }
