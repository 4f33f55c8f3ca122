use Rattle.std.proofs.Common.{refl}
use Rattle.design_table.specs.Parsed.{node_seen, edge_seen, signal_seen, vehicle_seen, train_seen, overlap_seen}
use Rattle.fault_words.proofs.Seen.{names_read}
use Rattle.fault_words.proofs.names.names_of.Goals as goal

pub returns-in-Node : goal.returns-in-Node
returns-in-Node c = rw (c.in-Node.is) (names_read (λ x. x.name) (λ x. x.name) node_seen (λ x. refl) _ _ (rw (← c.as_slice.ensures.value) c.node_names.ensures))

pub returns-in-Edge : goal.returns-in-Edge
returns-in-Edge c = rw (c.in-Edge.is) (names_read (λ x. x.name) (λ x. x.name) edge_seen (λ x. refl) _ _ (rw (← c.as_slice-in-Edge.ensures.value) c.edge_names.ensures))

pub returns-in-Signal : goal.returns-in-Signal
returns-in-Signal c = rw (c.in-Signal.is) (names_read (λ x. x.name) (λ x. x.name) signal_seen (λ x. refl) _ _ (rw (← c.as_slice-in-Signal.ensures.value) c.signal_names.ensures))

pub returns-in-Vehicle : goal.returns-in-Vehicle
returns-in-Vehicle c = rw (c.in-Vehicle.is) (names_read (λ x. x.name) (λ x. x.name) vehicle_seen (λ x. refl) _ _ (rw (← c.as_slice-in-Vehicle.ensures.value) c.vehicle_names.ensures))

pub returns-in-Train : goal.returns-in-Train
returns-in-Train c = rw (c.in-Train.is) (names_read (λ x. x.name) (λ x. x.name) train_seen (λ x. refl) _ _ (rw (← c.as_slice-in-Train.ensures.value) c.train_names.ensures))

pub returns-in-Overlap : goal.returns-in-Overlap
returns-in-Overlap c = rw (c.in-Overlap.is) (names_read (λ x. x.signal) (λ x. x.signal) overlap_seen (λ x. refl) _ _ (rw (← c.as_slice-in-Overlap.ensures.value) c.overlap_signals.ensures))
