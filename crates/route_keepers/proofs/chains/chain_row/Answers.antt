use Rattle.std.proofs.Common.{◌≡◌, ◌-◌, Bool, List, [], ◌∷◌, length, map, refl, sym, ap, subst, ◌∙◌}
use Rattle.std.specs.Prelude.{IfOk, is_some}
use Rattle.graph_steps.specs.Graphs.{AreLeast, IsGraph}
use Rattle.route_keepers.specs.Chains.{graph_from}
use Rattle.route_keepers.proofs.Stepping.{is_graph, many_nodes, row_found, start_within}
use Rattle.route_keepers.proofs.chains.chain_row.Goals as goal

pub least_steps-requires-clause-graph : goal.least_steps-requires-clause-graph
least_steps-requires-clause-graph c = subst IsGraph (sym (c.deref.ensures.value ∙ c.in_ok-graph.ensures)) (is_graph c.args.interlocking.now.routes c.args.first)

pub least_steps-requires-clause-starts : goal.least_steps-requires-clause-starts
least_steps-requires-clause-starts c =
    let routes = c.args.interlocking.now.routes in
    let first = c.args.first in
    start_within routes first c.requires.first ((first.0 - 1) ∷ []) refl (length c.deref.result.now) (ap length (c.deref.ensures.value ∙ c.in_ok-graph.ensures) ∙ many_nodes routes first)

pub returns : goal.returns
returns c =
    let routes = c.args.interlocking.now.routes in
    let first = c.args.first in
    let graph : c.deref.result.now ≡ graph_from routes first = c.deref.ensures.value ∙ c.in_ok-graph.ensures in
    let least : AreLeast (graph_from routes first) ((first.0 - 1) ∷ []) c.in_ok-found.found.items = subst (λ g. AreLeast g ((first.0 - 1) ∷ []) c.in_ok-found.found.items) graph c.in_ok-found.ensures.least in
    subst (λ (bs : List Bool). IfOk c.are_found.result (λ row. row ≡ bs)) (ap (map is_some) c.deref-2.ensures.value ∙ row_found routes first c.requires.first c.in_ok-found.found.items least) c.are_found.ensures
