use Rattle.std.proofs.Common.{ap, ◌∙◌, arith}
use Rattle.rail_motion.specs.Motor.{rates_of}
use Rattle.rail_motion.specs.Track.{stretches_of}
use Rattle.rail_course.specs.Tracks.{routes_at}
use Rattle.free_moves.proofs.Least.{short_path, on_leg}
use Rattle.free_moves.proofs.trips.Trip.leg_ticks.Goals as goal

pub spans_of-requires-clause-below_2_47 : goal.spans_of-requires-clause-below_2_47
spans_of-requires-clause-below_2_47 c = short_path c.args.self.now.interlocking.now c.args.path.now c.requires.at_most_65

pub length_of-requires-clause-below_2_47 : goal.length_of-requires-clause-below_2_47
length_of-requires-clause-below_2_47 c = short_path c.args.self.now.interlocking.now c.args.path.now c.requires.at_most_65

pub end_of-requires : goal.end_of-requires
end_of-requires c =
    let long = c.length_of.ensures in
    let short = short_path c.args.self.now.interlocking.now c.args.path.now c.requires.at_most_65 in
    omega arith

pub returns : goal.returns
returns c =
    let p = c.args.self.now in
    let d = p.interlocking.now.design.station in
    on_leg d p.train (routes_at p.interlocking.now.routes c.args.path.now) c.args.closed c.args.rest p.waits p.most p.from p.to (rates_of c.motor_of.result) (stretches_of c.deref.result.now) _ c.length_of.result c.ticks_on.result
    c.motor_of.ensures (ap stretches_of c.deref.ensures.value ∙ c.in_ok-spans.ensures.track) c.length_of.ensures c.end_of.ensures.value c.ticks_on.ensures
