use Rattle.std.proofs.Common.{◌≡◌, drop}
use Rattle.bound_ticks.specs.Ahead.{all_past}
use Rattle.bound_ticks.proofs.ahead.Between.all_past.Given as goal

-- those left decide
abbrev pub invariant-loop-route : goal.invariant-loop-route
invariant-loop-route l = all_past l.self.interlocking.now l.train l.walk l.place (drop l.route-index l.next) ≡ all_past l.self.interlocking.now l.train l.walk l.place l.next
