use Rattle.std.proofs.Common.{◌∙◌}
use Rattle.workload.proofs.Making.{made_of_parts, same_admitted}
use Rattle.workload.proofs.design.make.Goals as goal

pub invariant_of-result : goal.invariant_of-result
invariant_of-result c =
    let same = made_of_parts c.args.seed c.args.size c.in_ok-track.track.nodes c.in_ok-track.track.edges c.in_ok-track.track.sections c.in_ok-track.track.signals c.in_ok-vehicles.vehicles c.from_vec.result c.new.result c.from_vec-2.result c.new-2.result c.make_track.new.draws.state
    c.in_ok-track.ensures.nodes c.in_ok-track.ensures.edges c.in_ok-track.ensures.sections c.in_ok-track.ensures.signals c.in_ok-vehicles.ensures c.in_ok-track.ensures.draws
    (c.from_vec.ensures ∙ c.in_ok-traffic.ensures.trains) c.new.ensures (c.from_vec-2.ensures ∙ c.in_ok-traffic.ensures.withins) c.new-2.ensures in
    record { admitted = same_admitted c.args.seed c.args.size _ same c.requires.at_least_one c.requires.at_most_six }

pub returns : goal.returns
returns c =
    made_of_parts c.args.seed c.args.size c.in_ok-track.track.nodes c.in_ok-track.track.edges c.in_ok-track.track.sections c.in_ok-track.track.signals c.in_ok-vehicles.vehicles c.from_vec.result c.new.result c.from_vec-2.result c.new-2.result c.make_track.new.draws.state
    c.in_ok-track.ensures.nodes c.in_ok-track.ensures.edges c.in_ok-track.ensures.sections c.in_ok-track.ensures.signals c.in_ok-vehicles.ensures c.in_ok-track.ensures.draws
    (c.from_vec.ensures ∙ c.in_ok-traffic.ensures.trains) c.new.ensures (c.from_vec-2.ensures ∙ c.in_ok-traffic.ensures.withins) c.new-2.ensures
