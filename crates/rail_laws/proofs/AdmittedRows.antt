-- The small designs are admitted, so that the laws speak of something.
use Rattle.std.specs.Prelude.{◌≡◌, true, false, [], ◌∷◌, refl}
use Rattle.rail_base.specs.Admitted.{IsAdmitted}
use Rattle.rail_base.specs.Admission.{is_admitted}
use Rattle.rail_base.proofs.Admitting.{admitted}
use Rattle.rail_spec.specs.Track.{routes_of}
use Rattle.rail_spec.specs.Feasible.{IsRunnable, IsFeasible}
use Rattle.rail_laws.specs.Progress.{last_grant}
use Rattle.rail_laws.proofs.Stations.{halt, halt_for, halt_within, follow, follow_over, follow_short, follow_within, slow_zone, parallel, ring, plan_two}

halts : is_admitted halt ≡ true
halts = refl

halts_within : is_admitted (halt_within 9000) ≡ true
halts_within = refl

follows : is_admitted follow ≡ true
follows = refl

follows_short : is_admitted follow_short ≡ true
follows_short = refl

follows_within : IsAdmitted (follow_within 8000)
follows_within = admitted (follow_within 8000) refl

slows_down : is_admitted slow_zone ≡ true
slows_down = refl

runs_beside : is_admitted parallel ≡ true
runs_beside = refl

goes_round : is_admitted ring ≡ true
goes_round = refl

-- before version 3 no train stands at a visit
stands_nowhere : is_admitted (halt_for 0) ≡ true
stands_nowhere = refl

may_not_stand : is_admitted (halt_for 3000) ≡ false
may_not_stand = refl

-- nor has any an overlap before version 4
may_not_hold : is_admitted (record (follow_over (record { 0 = 2 } ∷ [])) { version = 3 }) ≡ false
may_not_hold = refl

runnable : IsRunnable (follow_within 8000) (routes_of (follow_within 8000)) 256 plan_two
runnable = record { well_formed = record { named = refl; formed = refl }; executable = refl }

feasible : IsFeasible (follow_within 8000) 4 plan_two
feasible = record { runnable = record { well_formed = record { named = refl; formed = refl }; executable = refl }; met = refl }

bound : last_grant (follow_within 8000) (routes_of (follow_within 8000)) plan_two ≡ 36004
bound = refl
