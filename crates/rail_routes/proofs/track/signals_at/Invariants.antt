use Rattle.std.proofs.Common.{◌≡◌, ◌++◌, length}
use Rattle.rail_base.specs.Stations.{is_end, signal_of}
use Rattle.rail_base.specs.declared.station.SignalNo.{SignalNo}
use Rattle.rail_spec.specs.Track.{signals_at}
use Rattle.rail_routes.proofs.Numbered.{left}
use Rattle.rail_routes.proofs.track.signals_at.Given as goal

abbrev pub invariant-loop-index : goal.invariant-loop-index
invariant-loop-index l = l.signals ++ left (λ n. let s : SignalNo = record { 0 = n } in s) (λ s. is_end (record { node = (signal_of l.design.station s).node; side = (signal_of l.design.station s).toward }) l.end) (length l.design.station.signals) l.index ≡ signals_at l.design.station l.end
