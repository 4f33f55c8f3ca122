-- Live routes and live bases of small designs, by hand.
use Rattle.std.specs.Prelude.{◌≡◌, ℕ, zero, suc, Bool, true, false, List, [], ◌∷◌, map, ℤ, pos, negsuc, refl}
use Rattle.sat_clause.specs.declared.lit.Lit.{Lit}
use Rattle.rail_base.specs.declared.route.RouteNo.{RouteNo}
use Rattle.rail_base.specs.declared.station.NodeNo.{NodeNo}
use Rattle.rail_base.specs.declared.station.Station.{Station}
use Rattle.rail_spec.specs.Track.{routes_of}
use Rattle.rail_laws.proofs.Stations.{follow, halt, node, train}
use Rattle.clause_spec.specs.declared.question.Turns.TheVariants.{All}
use Rattle.live_clause_spec.specs.Clauses.{live_base}
use Rattle.live_clause_spec.specs.Listed.{live_routes}
use Rattle.live_clause_spec.specs.Live.{is_live}

-- a literal as a whole number
abbrev signed : Lit → ℤ
signed l = sign l.negated l.var
  where
    sign : Bool → ℕ → ℤ
    sign false v = pos v
    sign true zero = pos 0
    sign true (suc v) = negsuc v

-- the numbers of a train's live routes
abbrev live_of : Station → ℕ → List ℕ
live_of d t = map (λ (r : RouteNo). r.0) (live_routes (is_live d (routes_of d)) (routes_of d) (record { 0 = t }))

-- a train that makes these visits, over two routes to the east and one back
abbrev halt_with : List (List NodeNo) → Station
halt_with visits = record halt { trains = train "A" visits ∷ [] }

-- to the east
live_east : live_of halt 1 ≡ 1 ∷ 2 ∷ []
live_east = refl

-- a route behind the last visit is live
live_behind : live_of (halt_with ((node 1 ∷ []) ∷ (node 2 ∷ []) ∷ [])) 1 ≡ 1 ∷ 2 ∷ []
live_behind = refl

-- back, and in both ways
live_west : live_of (halt_with ((node 3 ∷ []) ∷ (node 1 ∷ []) ∷ [])) 1 ≡ 3 ∷ []
live_west = refl

live_both : live_of (halt_with ((node 1 ∷ node 3 ∷ []) ∷ (node 2 ∷ []) ∷ [])) 1 ≡ 1 ∷ 2 ∷ 3 ∷ []
live_both = refl

-- where the train can't begin, or can't make its visits in order, none is live, and what is left of each visit is the empty clause
live_nowhere : live_of (halt_with ((node 2 ∷ []) ∷ (node 3 ∷ []) ∷ [])) 1 ≡ []
live_nowhere = refl

live_in_no_order : live_of (halt_with ((node 1 ∷ []) ∷ (node 3 ∷ []) ∷ (node 2 ∷ []) ∷ [])) 1 ≡ []
live_in_no_order = refl

nothing_left : live_base All (halt_with ((node 2 ∷ []) ∷ (node 3 ∷ []) ∷ [])) (routes_of (halt_with ((node 2 ∷ []) ∷ (node 3 ∷ []) ∷ []))) 1 ≡ [] ∷ [] ∷ []
nothing_left = refl

-- ---- clauses

live_base_of_halt : map (map signed) (live_base All halt (routes_of halt) 2) ≡
    (negsuc 0 ∷ pos 2 ∷ []) ∷
    (negsuc 2 ∷ pos 4 ∷ []) ∷
    (negsuc 2 ∷ []) ∷
    (negsuc 3 ∷ pos 1 ∷ []) ∷
    (pos 2 ∷ []) ∷
    (pos 4 ∷ []) ∷
    (negsuc 4 ∷ negsuc 1 ∷ pos 1 ∷ []) ∷
    (negsuc 4 ∷ negsuc 3 ∷ pos 3 ∷ []) ∷ []
live_base_of_halt = refl

live_base_of_follow : map (map signed) (live_base All follow (routes_of follow) 2) ≡
    (negsuc 0 ∷ pos 2 ∷ []) ∷
    (negsuc 2 ∷ pos 4 ∷ []) ∷
    (negsuc 4 ∷ pos 6 ∷ []) ∷
    (negsuc 6 ∷ pos 8 ∷ []) ∷
    (negsuc 2 ∷ []) ∷
    (negsuc 3 ∷ pos 1 ∷ []) ∷
    (negsuc 6 ∷ []) ∷
    (negsuc 7 ∷ pos 5 ∷ []) ∷
    (negsuc 0 ∷ negsuc 4 ∷ []) ∷
    (negsuc 1 ∷ pos 1 ∷ negsuc 5 ∷ pos 5 ∷ []) ∷
    (negsuc 2 ∷ negsuc 6 ∷ []) ∷
    (negsuc 3 ∷ pos 3 ∷ negsuc 7 ∷ pos 7 ∷ []) ∷
    (negsuc 0 ∷ negsuc 5 ∷ pos 5 ∷ pos 3 ∷ []) ∷
    (negsuc 4 ∷ negsuc 1 ∷ pos 1 ∷ pos 7 ∷ []) ∷
    (pos 2 ∷ []) ∷
    (pos 4 ∷ []) ∷
    (pos 6 ∷ []) ∷
    (pos 8 ∷ []) ∷
    (negsuc 8 ∷ pos 6 ∷ []) ∷
    (negsuc 8 ∷ negsuc 4 ∷ []) ∷
    (negsuc 8 ∷ negsuc 5 ∷ pos 1 ∷ []) ∷
    (pos 9 ∷ negsuc 0 ∷ pos 5 ∷ negsuc 5 ∷ []) ∷
    (negsuc 9 ∷ pos 8 ∷ []) ∷
    (negsuc 9 ∷ negsuc 6 ∷ []) ∷
    (negsuc 9 ∷ negsuc 7 ∷ pos 3 ∷ []) ∷
    (pos 10 ∷ negsuc 2 ∷ pos 7 ∷ negsuc 7 ∷ []) ∷
    (negsuc 10 ∷ pos 2 ∷ []) ∷
    (negsuc 10 ∷ negsuc 0 ∷ []) ∷
    (negsuc 10 ∷ negsuc 1 ∷ pos 5 ∷ []) ∷
    (pos 11 ∷ negsuc 4 ∷ pos 1 ∷ negsuc 1 ∷ []) ∷
    (negsuc 11 ∷ pos 4 ∷ []) ∷
    (negsuc 11 ∷ negsuc 2 ∷ []) ∷
    (negsuc 11 ∷ negsuc 3 ∷ pos 7 ∷ []) ∷
    (pos 12 ∷ negsuc 6 ∷ pos 3 ∷ negsuc 3 ∷ []) ∷
    (negsuc 12 ∷ negsuc 1 ∷ pos 1 ∷ []) ∷
    (negsuc 12 ∷ negsuc 3 ∷ pos 3 ∷ []) ∷
    (negsuc 12 ∷ negsuc 5 ∷ pos 5 ∷ []) ∷
    (negsuc 12 ∷ negsuc 7 ∷ pos 7 ∷ []) ∷
    (negsuc 4 ∷ pos 1 ∷ []) ∷
    (negsuc 5 ∷ pos 2 ∷ []) ∷ []
live_base_of_follow = refl
