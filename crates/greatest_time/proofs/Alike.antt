-- The routes of a design are the same whatever its withins are.
use Rattle.std.proofs.Common.{◌≡◌, ℕ, zero, suc, ◌+◌, if◌then◌else◌, List, [], ◌∷◌, ◌++◌, flat_map, length, refl}
use Rattle.std.specs.Prelude.{option_map, unwrap_or}
use Rattle.rail_base.specs.declared.station.Station.{Station}
use Rattle.rail_base.specs.declared.station.Within.{Within}
use Rattle.rail_base.specs.declared.station.End.{End}
use Rattle.rail_base.specs.declared.station.EdgeNo.{EdgeNo}
use Rattle.rail_base.specs.Stations.{far_end, through, edge_of, leave}
use Rattle.rail_spec.specs.Track.{walks, start_end, route_from, routes_of, starts, has_edge, finish_at, Whole, RepeatsEdge}

module _ (d : Station) (ws : List Within) where
  -- the design with these withins
  abbrev pub asking : Station
  asking = record d { withins = ws }

  walks_alike : (n : ℕ) (path : List EdgeNo) (end : End) → walks n asking path end ≡ walks n d path end
  walks_alike zero path end = refl
  walks_alike (suc n) path end = λ i. flat_map (λ e.
      let there = far_end (edge_of d e) end in
      let longer = path ++ e ∷ [] in
      let further = walks_alike n longer (through there) i in
      let closed = option_map (λ f. Whole longer f ∷ []) (finish_at d there) in
      if has_edge path e then RepeatsEdge e ∷ [] else unwrap_or closed further) (leave d end)

  -- all else that routes are made of holds by computation
  pub routes_alike : routes_of asking ≡ routes_of d
  routes_alike = λ i. flat_map (λ s. flat_map (route_from d s) (walks_alike (length d.edges + 1) [] (start_end d s) i)) (starts d)
