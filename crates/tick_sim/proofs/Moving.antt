-- All trains, one tick further.
use Rattle.std.proofs.Common.{◌≡◌, ℕ, suc, List, ◌∷◌, map, sym}
use Rattle.rail_base.specs.declared.station.TrainNo.{TrainNo}
use Rattle.rail_base.specs.declared.state.TrainState.{TrainState}
use Rattle.rail_base.specs.Stations.{trains}
use Rattle.rail_base.proofs.Members.{map-map}
use Rattle.rail_spec.specs.Dispatches.{ago, past_of, pasts_at}
use Rattle.rail_course.specs.declared.journeys.PlannedJourneys.{PlannedJourneys}
use Rattle.tick_sim.specs.Running.{dispatch_in, moved_next, states_in}

-- each train has moved on by the tick
pub states_next : (r : PlannedJourneys) (k : ℕ) → map (moved_next r k) (trains r.interlocking.now.design.station) ≡ states_in r (suc k)
states_next r k =
    let d = r.interlocking.now.design.station in
    let past : TrainNo → List TrainState = λ t. moved_next r k t ∷ past_of (pasts_at d r.interlocking.now.routes (dispatch_in r) k) t in
    sym (map-map (ago 0) past (trains d))
