use Rattle.std.proofs.Common.{List, ap, sym}
use Rattle.rail_base.specs.declared.route.Route.{Route}
use Rattle.bound_spec.specs.Certificates.{ride_of}
use Rattle.bound_spec.specs.Rides.{least_route, release_place, run_ticks}
use Rattle.bound_spec.specs.Walks.{least_walk, walks}
use Rattle.bound_ticks.proofs.Chained.{chain_from, chain_to, first_place_is}
use Rattle.evidence_words.proofs.laws.ticks_are_those_of_bounds.Goals as goal

pub returns-clause-chain : goal.returns-clause-chain
returns-clause-chain c = chain_to

pub returns-clause-from_visit : goal.returns-clause-from_visit
returns-clause-from_visit c = chain_from

pub returns-clause-release : goal.returns-clause-release
returns-clause-release c = λ d routes h l m legs.
    ap (λ (qs : List Route). least_walk (λ rs. least_route (λ q. run_ticks d routes h l.train rs (release_place d l.train rs q)) h qs) h (walks (ride_of routes l).places)) (sym (first_place_is routes m))
