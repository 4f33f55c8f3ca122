-- What happens to a train on its path.
use Rattle.std.specs.Prelude.{Bool, ◌&&◌, nat_le}
use Rattle.rail_base.specs.declared.state.Event.{Event}
use Rattle.rail_base.specs.declared.state.TrainState.{TrainState}

-- so many commands are granted, and the head is at the place or past it
abbrev pub has_happened : TrainState → Event → Bool
has_happened s e = nat_le e.granted s.granted && nat_le e.place s.x
