-- Names of nodes, signals, vehicles and trains that are not there, and sections that stand on no edge. An edge's own
-- section need not be declared.
use Rattle.std.specs.Prelude.{ℕ, List, ◌++◌, not}
use Rattle.std.specs.List.{list_all}
use Rattle.design_table.specs.declared.key.Key.TheVariants as keys
use Rattle.design_table.specs.declared.place.EntryKind.TheVariants as kinds
use Rattle.design_table.specs.declared.place.Place.{Place}
use Rattle.design_table.specs.declared.place.Place.TheVariants.{Field}
use Rattle.design_table.specs.Reads.{at, in_each}
use Rattle.design_table.specs.Parsed.{ParsedEdge, ParsedSignal, ParsedTrain, ParsedOrder, ParsedWithin}
use Rattle.design_table.specs.Parsed.{ParsedOverlap, ParsedSheet}
use Rattle.infra_reader.specs.Names.{Names, names_of, is_among}

-- the place, where the name is none of these
unfoldable pub unless_among : List (List ℕ) → List ℕ → Place → List Place
unless_among names name place = at (not (is_among names name)) place

-- the nodes at the ends of an edge
abbrev pub edge_unknown : Names → ℕ → ParsedEdge → List Place
edge_unknown names i e =
    unless_among names.nodes e.from (Field kinds.Edge i keys.From)
    ++ unless_among names.nodes e.to (Field kinds.Edge i keys.To)

-- the node of a signal
abbrev pub signal_unknown : Names → ℕ → ParsedSignal → List Place
signal_unknown names i s = unless_among names.nodes s.node (Field kinds.Signal i keys.Node)

-- the vehicle of a train, and the nodes of its visits
abbrev pub train_unknown : Names → ℕ → ParsedTrain → List Place
train_unknown names i t =
    unless_among names.vehicles t.vehicle (Field kinds.Train i keys.Vehicle)
    ++ at (not (list_all (list_all (is_among names.nodes)) t.visits)) (Field kinds.Train i keys.Visits)

-- the trains of an order
abbrev pub order_unknown : Names → ℕ → ParsedOrder → List Place
order_unknown names i o =
    unless_among names.trains o.first_train (Field kinds.Order i keys.FirstTrain)
    ++ unless_among names.trains o.then_train (Field kinds.Order i keys.ThenTrain)

-- the trains of a within
abbrev pub within_unknown : Names → ℕ → ParsedWithin → List Place
within_unknown names i w =
    unless_among names.trains w.from_train (Field kinds.Within i keys.FromTrain)
    ++ unless_among names.trains w.to_train (Field kinds.Within i keys.ToTrain)

-- the signal of an overlap, and its sections
abbrev pub overlap_unknown : Names → ℕ → ParsedOverlap → List Place
overlap_unknown names i o =
    unless_among names.signals o.signal (Field kinds.Overlap i keys.Signal)
    ++ at (not (list_all (is_among names.sections) o.sections)) (Field kinds.Overlap i keys.Sections)

-- names at edges and signals that are not there
unfoldable pub track_unknown : Names → ParsedSheet → List Place
track_unknown names s = in_each (edge_unknown names) s.edges ++ in_each (signal_unknown names) s.signals

-- and at trains, orders, withins and overlaps
unfoldable pub traffic_unknown : Names → ParsedSheet → List Place
traffic_unknown names s =
    in_each (train_unknown names) s.trains
    ++ (in_each (order_unknown names) s.orders
    ++ (in_each (within_unknown names) s.withins
    ++ in_each (overlap_unknown names) s.overlaps))

-- D04: names that are not there
abbrev pub unknown_names : ParsedSheet → List Place
unknown_names s = track_unknown (names_of s) s ++ traffic_unknown (names_of s) s
