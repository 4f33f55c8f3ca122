use Rattle.std.proofs.Common.{ap, sym, ◌∙◌}
use Rattle.rail_base.specs.declared.station.Side.{Side}
use Rattle.rail_base.specs.declared.station.Side.TheVariants.{A, B}
use Rattle.rail_routes.specs.Ends.{edges_at_end}
use Rattle.rail_routes.proofs.Places.{side-index, side-place}
use Rattle.rail_routes.proofs.track.Track.at.Goals as goal

pub bounds-as_slice-index : goal.bounds-as_slice-index
bounds-as_slice-index c = side-index c.args.self.now.design.now.station c.args.end.node A _ c.requires (c.as_slice.ensures ∙ c.args.self.now.on_a)

pub bounds-as_slice-index-in-B : goal.bounds-as_slice-index-in-B
bounds-as_slice-index-in-B c = side-index c.args.self.now.design.now.station c.args.end.node B _ c.requires (c.as_slice-in-B.ensures ∙ c.args.self.now.on_b)

pub returns-in-A : goal.returns-in-A
returns-in-A c =
    side-place c.args.self.now.design.now.station c.args.end.node A _ _ c.requires (c.as_slice.ensures ∙ c.args.self.now.on_a) c.index-as_slice-index.is
    ∙ ap (λ (s : Side). edges_at_end c.args.self.now.design.now.station (record { node = c.args.end.node; side = s })) (sym c.in-A.is)

pub returns-in-B : goal.returns-in-B
returns-in-B c =
    side-place c.args.self.now.design.now.station c.args.end.node B _ _ c.requires (c.as_slice-in-B.ensures ∙ c.args.self.now.on_b) c.index-as_slice-index-in-B.is
    ∙ ap (λ (s : Side). edges_at_end c.args.self.now.design.now.station (record { node = c.args.end.node; side = s })) (sym c.in-B.is)
