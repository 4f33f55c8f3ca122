-- The nodes of a route as nodes of a path.
use Rattle.std.specs.Prelude.{ℕ, ◌+◌, ◌<◌, ℤ, nat_abs, ◌≡◌, ◌++◌, List, Vec}
use Rattle.rail_base.specs.declared.station.NodeNo.{NodeNo}
use Rattle.rail_base.specs.declared.state.PathNode.{PathNode}
use Rattle.rail_base.specs.Members.{In}
use Rattle.std.specs.declared.alloc.Global.{Global}
use Rattle.rail_base.specs.declared.route.Route.{Route}
use Rattle.rail_spec.specs.Places.{path_nodes_after}

-- a node of a route that begins there and has that number in the path
abbrev pub path_node_at : ℕ → ℕ → NodeNo × ℤ → PathNode
path_node_at offset j p = record { node = p.0; event = record { granted = j; place = offset + nat_abs p.1 } }

-- the nodes lie before that place
abbrev pub LieBelow : ℕ → List PathNode → Type 0
LieBelow end ps = (n : PathNode) → In n ps → n.event.place < end

-- the nodes of these routes, as those after the first of a path, are added from where they begin
abbrev pub AddsNodes : Vec PathNode Global → Vec PathNode Global → ℕ → List Route → Type 0
AddsNodes before after begin rs = after.items ≡ before.items ++ path_nodes_after begin 2 rs
