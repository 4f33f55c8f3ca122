-- What is known of the pairs of a train after a search.
use Rattle.std.specs.Prelude.{◌≡◌, List, length}
use Rattle.rail_base.specs.declared.station.NodeNo.{NodeNo}
use Rattle.rail_base.specs.declared.route.Route.{Route}
use Rattle.graph_steps.specs.Graphs.{AreLeast, AreWithin}
use Rattle.train_ways.specs.Pairs.{all_made, graph, many, starts}
use Rattle.train_ways.specs.declared.ways.Search.{Search}

-- the pairs of a train with these visits, each with the least number of steps to it
pub record IsSearch (routes : List Route) (sets : List (List NodeNo)) (s : Search) : Type 0 where
  pub width : s.width ≡ length sets
  pub made : s.made.items ≡ all_made routes sets
  pub next : s.next.items ≡ graph routes sets
  pub found : AreLeast (graph routes sets) (starts routes sets) s.found.items
  pub few : AreWithin (many routes sets) s.found.items
