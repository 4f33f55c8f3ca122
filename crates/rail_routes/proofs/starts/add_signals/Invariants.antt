use Rattle.std.proofs.Common.{◌≡◌, ◌++◌, map, drop}
use Rattle.rail_base.specs.declared.route.Start.TheVariants as start
use Rattle.rail_routes.proofs.starts.add_signals.Given as goal

abbrev pub invariant-loop-signal : goal.invariant-loop-signal
invariant-loop-signal l = l.starts.items ++ map start.Signal (drop l.signal-index l.signals) ≡ l.fn.starts.items ++ map start.Signal l.signals
