use Rattle.std.proofs.Common.{◌≡◌, ◌*◌, ◌≤◌, ◌<◌, All, length, sym, ap, subst, ◌∙◌}
use Rattle.rail_base.specs.Stations.{train_of}
use Rattle.graph_steps.specs.Graphs.{IsGraph, IsTurned}
use Rattle.way_spec.specs.Ways.{AreLive}
use Rattle.train_ways.specs.Reached.{live_among}
use Rattle.train_ways.proofs.Answering.{are_live, ending_of, ends_within, found_many, least_found, left_many}
use Rattle.train_ways.proofs.Pairing.{is_graph}
use Rattle.train_ways.proofs.Standing.{has_nodes, visits_in_range}
use Rattle.train_ways.proofs.onward.OnwardRoutes.live_routes.Goals as goal

pub turned_back-requires : goal.turned_back-requires
turned_back-requires c =
    let i = c.args.self.now.interlocking.now in
    let d = i.design.station in
    let r = visits_in_range d i.design.admitted c.args.train c.requires in
    let s = c.in_ok-search.ensures in
    subst IsGraph (sym (c.deref.ensures.value ∙ s.next)) (is_graph i.routes (train_of d c.args.train).visits r.0)

pub least_steps-requires : goal.least_steps-requires
least_steps-requires c =
    let i = c.args.self.now.interlocking.now in
    let d = i.design.station in
    let r = visits_in_range d i.design.admitted c.args.train c.requires in
    let s = c.in_ok-search.ensures in
    let sets = (train_of d c.args.train).visits in
    let back = c.in_ok-back.back.items in
    let turn = subst (λ g. IsTurned g back) (c.deref.ensures.value ∙ s.next) c.in_ok-back.ensures in
    let ends = c.in_ok-ends.ensures ∙ ending_of c.deref-2.result.now c.in_ok-search.search.made.items c.in_ok-search.search.width (length sets) c.deref-2.ensures.value s.width in
    let within = ends_within d i.routes c.args.train (has_nodes d i.routes i.table) r.0 c.in_ok-search.search.made.items s.made c.in_ok-search.search.found.items s.found back turn c.in_ok-ends.ends.items ends in
    record {
      graph = subst IsGraph (sym c.deref-3.ensures.value) turn.is_graph;
      starts = subst (λ g. All (λ p. p < length g) c.deref-4.result.now) (sym c.deref-3.ensures.value) (subst (λ xs. All (λ p. p < length back) xs) (sym c.deref-4.ensures.value) within);
    }

pub live_among-requires : goal.live_among-requires
live_among-requires c =
    let i = c.args.self.now.interlocking.now in
    let d = i.design.station in
    let r = visits_in_range d i.design.admitted c.args.train c.requires in
    let s = c.in_ok-search.ensures in
    let sets = (train_of d c.args.train).visits in
    let has = has_nodes d i.routes i.table in
    let kept = c.in_ok-search.search.made.items in
    let found = c.in_ok-search.search.found.items in
    let back = c.in_ok-back.back.items in
    let turn = subst (λ g. IsTurned g back) (c.deref.ensures.value ∙ s.next) c.in_ok-back.ensures in
    let ends = c.in_ok-ends.ensures ∙ ending_of c.deref-2.result.now kept c.in_ok-search.search.width (length sets) c.deref-2.ensures.value s.width in
    let left = least_found c.deref-3.result.now back c.deref-4.result.now c.in_ok-ends.ends.items c.in_ok-left.left.items c.deref-3.ensures.value c.deref-4.ensures.value c.in_ok-left.ensures.least in
    record {
      low = subst (λ n. 1 ≤ n) (sym s.width) r.0;
      high = subst (λ n. n ≤ 16) (sym s.width) r.1;
      few = i.at_most_2000;
      found = ap length c.deref-5.ensures.value ∙ found_many d i.routes c.args.train has r.0 kept s.made found s.found back turn c.in_ok-ends.ends.items ends c.in_ok-left.left.items left ∙ ap (λ n. length i.routes * n) (sym s.width);
      left = ap length c.deref-6.ensures.value ∙ left_many d i.routes c.args.train has r.0 kept s.made found s.found back turn c.in_ok-ends.ends.items ends c.in_ok-left.left.items left ∙ sym (ap length c.deref-5.ensures.value);
    }

pub returns : goal.returns
returns c =
    let i = c.args.self.now.interlocking.now in
    let d = i.design.station in
    let r = visits_in_range d i.design.admitted c.args.train c.requires in
    let s = c.in_ok-search.ensures in
    let sets = (train_of d c.args.train).visits in
    let has = has_nodes d i.routes i.table in
    let kept = c.in_ok-search.search.made.items in
    let found = c.in_ok-search.search.found.items in
    let back = c.in_ok-back.back.items in
    let turn = subst (λ g. IsTurned g back) (c.deref.ensures.value ∙ s.next) c.in_ok-back.ensures in
    let ends = c.in_ok-ends.ensures ∙ ending_of c.deref-2.result.now kept c.in_ok-search.search.width (length sets) c.deref-2.ensures.value s.width in
    let left = least_found c.deref-3.result.now back c.deref-4.result.now c.in_ok-ends.ends.items c.in_ok-left.left.items c.deref-3.ensures.value c.deref-4.ensures.value c.in_ok-left.ensures.least in
    let is : c.in_ok-live.live.items ≡ live_among (length sets) found c.in_ok-left.left.items i.routes =
    c.in_ok-live.ensures
    ∙ ap (λ n. live_among n c.deref-5.result.now c.deref-6.result.now i.routes) s.width
    ∙ ap (λ f. live_among (length sets) f c.deref-6.result.now i.routes) c.deref-5.ensures.value
    ∙ ap (λ l. live_among (length sets) found l i.routes) c.deref-6.ensures.value in
    subst (AreLive d i.routes c.args.train) (sym is) (are_live d i.routes c.args.train has r.0 kept s.made found s.found back turn c.in_ok-ends.ends.items ends c.in_ok-left.left.items left)
