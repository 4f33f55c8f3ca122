use Rattle.std.proofs.Common.{◌≡◌, ◌++◌, drop, filter}
use Rattle.live_contending.specs.Rows.{shares}
use Rattle.live_contending.proofs.sharing.routes_sharing.Given as goal

-- what is found and what is left to find make all of it
abbrev pub invariant-loop-other : goal.invariant-loop-other
invariant-loop-other l = l.found.items ++ filter (shares l.interlocking.routes l.route) (drop l.other-index l.among) ≡ filter (shares l.interlocking.routes l.route) l.among
