-- What stands at an end is found by its node.
use Rattle.std.proofs.Common.{◌≡◌, ℕ, ◌+◌, ◌-◌, ◌<◌, List, length, get_or, ap, ◌∙◌, arith}
use Rattle.rail_base.specs.declared.station.Station.{Station}
use Rattle.rail_base.specs.declared.station.Side.{Side}
use Rattle.rail_base.specs.declared.station.NodeNo.{NodeNo}
use Rattle.rail_base.specs.Numbering.{one_to}
use Rattle.rail_base.specs.Stations.{IsNode}
use Rattle.rail_base.proofs.Lists.{length-map, length-count}
use Rattle.rail_base.proofs.Members.{get_or-counted}
use Rattle.rail_routes.specs.Ends.{edges_at_end, at_side}
use Rattle.rail_routes.specs.declared.track.AtEnd.{AtEnd}

pub side-length : (d : Station) (side : Side) → length (at_side d side) ≡ length d.nodes
side-length d side = length-map (λ n. edges_at_end d (record { node = record { 0 = n }; side = side })) (one_to (length d.nodes)) ∙ length-count 1 (length d.nodes)

pub side-index : (d : Station) (n : NodeNo) (side : Side) (places : List AtEnd) → IsNode d n → places ≡ at_side d side → n.0 - 1 < length places
side-index d n side places h e = let l = side-length d side in let k = ap length e in let low = h.0 in let high = h.1 in omega arith

pub side-place : (d : Station) (n : NodeNo) (side : Side) (places : List AtEnd) (x : AtEnd) → IsNode d n → places ≡ at_side d side → x ≡ get_or places (n.0 - 1) x → x ≡ edges_at_end d (record { node = n; side = side })
side-place d n side places x h e g =
    let low = h.0 in let high = h.1 in
    let less : n.0 - 1 < length d.nodes = omega arith in
    let same : 1 + (n.0 - 1) ≡ n.0 = omega arith in
    let here : ℕ → AtEnd = λ n. edges_at_end d (record { node = record { 0 = n }; side = side }) in
    g ∙ ap (λ ps. get_or ps (n.0 - 1) x) e ∙ get_or-counted here 1 (length d.nodes) (n.0 - 1) x less ∙ ap here same
