use Rattle.std.proofs.Common.{◌≡◌, ◌≤◌, ◌<◌, All, length, sym, ap, subst, ◌∙◌}
use Rattle.rail_base.specs.declared.station.Train.{Train}
use Rattle.rail_base.specs.Stations.{train_of}
use Rattle.graph_steps.specs.Graphs.{AreWithin, IsGraph}
use Rattle.graph_steps.proofs.Leading.{all_from}
use Rattle.train_ways.specs.Pairs.{all_made, graph, many, starts}
use Rattle.train_ways.proofs.Answering.{least_found}
use Rattle.train_ways.proofs.Pairing.{is_graph, many_nodes, starts_within}
use Rattle.train_ways.proofs.Standing.{visits_in_range}
use Rattle.train_ways.proofs.onward.OnwardRoutes.search.Goals as goal

pub all_made-requires : goal.all_made-requires
all_made-requires c =
    let r = visits_in_range c.args.self.now.interlocking.now.design.station c.args.self.now.interlocking.now.design.admitted c.args.train c.requires in
    let is = c.as_slice-visits.ensures ∙ ap (λ (t : Train). t.visits) c.train.ensures in
    record { low = subst (λ v. 1 ≤ length v) (sym is) r.0; high = subst (λ v. length v ≤ 16) (sym is) r.1 }

pub next_pairs-requires : goal.next_pairs-requires
next_pairs-requires c =
    let r = visits_in_range c.args.self.now.interlocking.now.design.station c.args.self.now.interlocking.now.design.admitted c.args.train c.requires in
    let is = c.as_slice-visits.ensures ∙ ap (λ (t : Train). t.visits) c.train.ensures in
    record {
      low = subst (λ v. 1 ≤ length v) (sym is) r.0;
      high = subst (λ v. length v ≤ 16) (sym is) r.1;
      onward = c.deref.ensures.value ∙ c.args.self.now.onward;
      made = c.deref-2.ensures.value ∙ c.in_ok-made.ensures;
    }

pub starts-requires : goal.starts-requires
starts-requires c =
    let r = visits_in_range c.args.self.now.interlocking.now.design.station c.args.self.now.interlocking.now.design.admitted c.args.train c.requires in
    let is = c.as_slice-visits.ensures ∙ ap (λ (t : Train). t.visits) c.train.ensures in
    record { low = subst (λ v. 1 ≤ length v) (sym is) r.0; high = subst (λ v. length v ≤ 16) (sym is) r.1 }

pub least_steps-requires : goal.least_steps-requires
least_steps-requires c =
    let routes = c.args.self.now.interlocking.now.routes in
    let sets = c.as_slice-visits.result.now in
    let r = visits_in_range c.args.self.now.interlocking.now.design.station c.args.self.now.interlocking.now.design.admitted c.args.train c.requires in
    let is = c.as_slice-visits.ensures ∙ ap (λ (t : Train). t.visits) c.train.ensures in
    let some : 1 ≤ length sets = subst (λ v. 1 ≤ length v) (sym is) r.0 in
    let next : c.deref-3.result.now ≡ graph routes sets = c.deref-3.ensures.value ∙ c.in_ok-next.ensures in
    let begin : c.deref-4.result.now ≡ starts routes sets = c.deref-4.ensures.value ∙ c.in_ok-starts.ensures in
    record {
      graph = subst IsGraph (sym next) (is_graph routes sets some);
      starts = subst (λ n. All (λ p. p < n) c.deref-4.result.now) (sym (ap length next ∙ many_nodes routes sets some)) (subst (λ xs. All (λ p. p < many routes sets) xs) (sym begin) (all_from (λ p. p < many routes sets) (starts routes sets) (starts_within routes sets some)));
    }

pub returns : goal.returns
returns c =
    let routes = c.args.self.now.interlocking.now.routes in
    let visits = c.as_slice-visits.result.now in
    let sets = (train_of c.args.self.now.interlocking.now.design.station c.args.train).visits in
    let r = visits_in_range c.args.self.now.interlocking.now.design.station c.args.self.now.interlocking.now.design.admitted c.args.train c.requires in
    let is : visits ≡ sets = c.as_slice-visits.ensures ∙ ap (λ (t : Train). t.visits) c.train.ensures in
    let next : c.deref-3.result.now ≡ graph routes sets = c.deref-3.ensures.value ∙ c.in_ok-next.ensures ∙ ap (graph routes) is in
    let begin : c.deref-4.result.now ≡ starts routes sets = c.deref-4.ensures.value ∙ c.in_ok-starts.ensures ∙ ap (starts routes) is in
    record {
      width = ap length is;
      made = c.in_ok-made.ensures ∙ ap (all_made routes) is;
      next = c.in_ok-next.ensures ∙ ap (graph routes) is;
      found = least_found c.deref-3.result.now (graph routes sets) c.deref-4.result.now (starts routes sets) c.in_ok-found.found.items next begin c.in_ok-found.ensures.least;
      few = subst (λ n. AreWithin n c.in_ok-found.found.items) (ap length next ∙ many_nodes routes sets r.0) c.in_ok-found.ensures.few;
    }
