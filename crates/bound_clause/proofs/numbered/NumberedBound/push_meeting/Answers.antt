use Rattle.bound_clause.specs.Spoken.{routes_in, station_of}
use Rattle.bound_clause.proofs.Numbering.{mirrored}
use Rattle.bound_clause.proofs.numbered.NumberedBound.push_meeting.Goals as goal

pub say_before-requires-else-named : goal.say_before-requires-else-named
say_before-requires-else-named c = mirrored (station_of c.args.self.now) (routes_in c.args.self.now) c.args.last c.args.first c.requires
