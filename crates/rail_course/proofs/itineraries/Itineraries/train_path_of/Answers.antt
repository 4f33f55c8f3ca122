use Rattle.std.proofs.Common.{◌≡◌, length, ap, ◌∙◌, arith}
use Rattle.rail_base.specs.declared.station.Train.{Train}
use Rattle.rail_base.specs.Stations.{train_of}
use Rattle.rail_base.proofs.Admitting.{admitted}
use Rattle.rail_course.proofs.Granting.{few_edges, few_held}
use Rattle.rail_course.proofs.itineraries.Itineraries.train_path_of.Goals as goal

pub prefixes_of-requires-clause-spans : goal.prefixes_of-requires-clause-spans
prefixes_of-requires-clause-spans c =
    let few = few_edges c.args.self.now.interlocking.now c.path-path.result.now in
    let short = c.path-path.ensures.range.below_2_47 in
    omega arith

pub prefixes_of-requires-clause-holds : goal.prefixes_of-requires-clause-holds
prefixes_of-requires-clause-holds c =
    let few = few_held c.args.self.now.interlocking.now c.path-path.result.now c.path-path.ensures.range.named in
    let short = c.path-path.ensures.range.below_2_47 in
    omega arith

pub dwells_of-requires : goal.dwells_of-requires
dwells_of-requires c =
    let design = c.args.self.now.interlocking.now.design in
    let good = (admitted design.station design.admitted).train c.args.train c.requires.train in
    let times : c.as_slice-2.result.now ≡ (train_of design.station c.args.train).dwell_ms = c.as_slice-2.ensures ∙ ap (λ (t : Train). t.dwell_ms) c.train-2.ensures in
    let many = ap length times in
    let as_many = good.dwells in
    let few = good.visits.1 in
    omega arith
