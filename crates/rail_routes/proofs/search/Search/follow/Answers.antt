use Rattle.std.proofs.Common.{◌≡◌, ◌≤◌, ◌⊎◌, ◌++◌, inl, inr, List, [], ◌∷◌, length, sym, ap, subst, ◌∙◌, arith, length-append}
use Rattle.rail_base.specs.declared.station.End.{End}
use Rattle.rail_base.specs.declared.station.Edge.{Edge}
use Rattle.rail_base.specs.declared.station.EdgeNo.{EdgeNo}
use Rattle.rail_base.specs.Stations.{far_end, edge_of, through, leave, IsNode}
use Rattle.rail_base.proofs.Admitting.{admitted}
use Rattle.rail_spec.specs.Track.{finish_at}
use Rattle.rail_routes.proofs.Searching.{far_node, levels_longer, levels_of, on_either, some_leaves, closed_over, further_over}
use Rattle.rail_routes.proofs.search.Search.follow.Goals as goal

pub finish_at-requires : goal.finish_at-requires
finish_at-requires c =
    let d = c.args.self.now.track.now.design.now.station in
    let there : c.far_end-there.result ≡ far_end (edge_of d c.args.edge) c.args.from = c.far_end-there.ensures ∙ ap (λ (e : Edge). far_end e c.args.from) c.edge.ensures in
    subst (λ (x : End). IsNode d x.node) (sym there) (far_node d (admitted d c.args.self.now.track.now.design.now.admitted) c.args.edge c.args.from c.requires)

pub returns-in-Some-clause-same : goal.returns-in-Some-clause-same
returns-in-Some-clause-same c =
    let d = c.args.self.now.track.now.design.now.station in
    let s = c.args.self.now in
    let there : c.far_end-there.result ≡ far_end (edge_of d c.args.edge) c.args.from = c.far_end-there.ensures ∙ ap (λ (e : Edge). far_end e c.args.from) c.edge.ensures in
    closed_over d _ s.path.edges.items c.push.new.self.edges.items s.levels.items c.args.from c.args.edge c.in-Some.finish (sym c.has.ensures ∙ c.if-has.false) (ap (finish_at d) (sym there) ∙ sym c.finish_at.ensures ∙ c.in-Some.is) c.in_ok-push.ensures.longer s.tried

pub returns-in-None-clause-goes_on : goal.returns-in-None-clause-goes_on
returns-in-None-clause-goes_on c =
    let d = c.args.self.now.track.now.design.now.station in
    let there : c.far_end-there.result ≡ far_end (edge_of d c.args.edge) c.args.from = c.far_end-there.ensures ∙ ap (λ (e : Edge). far_end e c.args.from) c.edge.ensures in
    let on = c.through.ensures in (
      subst (λ (x : End). IsNode d x.node) (sym on) (subst (λ (x : End). IsNode d x.node) (sym there) (far_node d (admitted d c.args.self.now.track.now.design.now.admitted) c.args.edge c.args.from c.requires)),
      subst (λ (x : End). 1 ≤ length (leave d x)) (sym on) (some_leaves d c.far_end-there.result (sym c.finish_at.ensures ∙ c.in-None.is)),
    )

pub returns-in-None-clause-same : goal.returns-in-None-clause-same
returns-in-None-clause-same c =
    let d = c.args.self.now.track.now.design.now.station in
    let s = c.args.self.now in
    let there : c.far_end-there.result ≡ far_end (edge_of d c.args.edge) c.args.from = c.far_end-there.ensures ∙ ap (λ (e : Edge). far_end e c.args.from) c.edge.ensures in
    further_over d s.path.edges.items c.push.new.self.edges.items s.levels.items c.args.from c.through.result c.args.edge (sym c.has.ensures ∙ c.if-has.false) (ap (finish_at d) (sym there) ∙ sym c.finish_at.ensures ∙ c.in-None.is) c.in_ok-push.ensures.longer (c.through.ensures ∙ ap through there) s.tried

pub returns-in-None-clause-longer : goal.returns-in-None-clause-longer
returns-in-None-clause-longer c = ap length c.in_ok-push.ensures.longer ∙ length-append c.args.self.now.path.edges.items (c.args.edge ∷ [])

pub invariant_of-self : goal.invariant_of-self
invariant_of-self c =
    let s = c.args.self.now in
    let old = s.path.edges.items in
    let new = c.push.new.self.edges.items in
    let more = at_least old new c.args.edge (on_either c.push.result (new ≡ old ++ c.args.edge ∷ []) (new ≡ old) c.push.ensures.longer c.push.ensures.kept) in
    let levels = levels_longer s.track.now.design.now.station (length old) (length new) s.levels.items more (levels_of s) in
    record { marks = c.push.ensures.marks ∙ s.marks; tried = levels.tried; nested = levels.nested }
  where
    at_least : (old new : List EdgeNo) (e : EdgeNo) → (new ≡ old ++ e ∷ []) ⊎ (new ≡ old) → length old ≤ length new
    at_least old new e (inl h) = let k = ap length h in let n = length-append old (e ∷ []) in omega arith
    at_least old new e (inr h) = let k = ap length h in omega arith
