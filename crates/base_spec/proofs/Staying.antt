-- Beside a within the base of live commands says nothing of its greatest time.
use Rattle.std.proofs.Common.{◌≡◌, ℕ, ◌≤◌, List, ◌++◌, map, flat_map, length, ap}
use Rattle.rail_base.specs.declared.station.Station.{Station}
use Rattle.rail_base.specs.declared.route.Route.{Route}
use Rattle.rail_alike.specs.Alike.{with_max_ms}
use Rattle.rail_alike.proofs.Beside.{beside_same}
use Rattle.clause_spec.specs.declared.question.BaseKind.TheVariants.{Live}
use Rattle.clause_spec.specs.declared.question.Turns.TheVariants.{Beside}
use Rattle.clause_spec.specs.Clauses.{clauses}
use Rattle.alike_clause_spec.specs.Turns.{in_turn}
use Rattle.live_clause_spec.specs.Clauses.{with_dead_false}
use Rattle.live_clause_spec.specs.Live.{is_live}
use Rattle.live_clause_spec.specs.Variables.{live_numbered}
use Rattle.base_spec.specs.Bases.{clauses_of}

pub clauses_stay : (d : Station) (routes : List Route) (n w ms : ℕ) → 1 ≤ w → w ≤ length d.withins → clauses_of (Live (Beside w)) (with_max_ms d w ms) routes n ≡ clauses_of (Live (Beside w)) d routes n
clauses_stay d routes n w ms low high =
    ap (λ pairs. map (map (live_numbered (is_live d routes) d routes n)) (with_dead_false (is_live d routes) (clauses d routes n ++ flat_map (in_turn d routes n) pairs))) (beside_same d w ms low high)
