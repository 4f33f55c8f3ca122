-- Lists with no pair.
use Rattle.std.proofs.Common.{◌≡◌, ◌↔◌, IsTrue, Bool, true, false, List, [], ◌∷◌, refl}
use Rattle.rail_base.specs.declared.station.Station.{Station}
use Rattle.rail_base.specs.declared.route.Route.{Route}
use Rattle.rail_base.specs.declared.plan.Command.{Command}
use Rattle.cone_spec.specs.declared.Cone.{Cone}
use Rattle.cone_spec.specs.Validity.{no_pairs}

pub empty_is : (d : Station) (routes : List Route) (k : Cone) (b : Bool) (ps : List (Command × Command)) → IsTrue b ↔ (ps ≡ []) → b ≡ no_pairs d routes k ps
empty_is d routes k true [] h = refl
empty_is d routes k false [] h = h.1 refl
empty_is d routes k true (p ∷ ps) h = absurd (let e = h.0 refl in cc)
empty_is d routes k false (p ∷ ps) h = refl
