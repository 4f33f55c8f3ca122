-- The laws of runs, over the routes that the design has.
use Rattle.std.proofs.Common.{◌≡◌, ℕ, true, List, sym, subst}
use Rattle.rail_base.specs.declared.station.Station.{Station}
use Rattle.rail_base.specs.declared.route.Route.{Route}
use Rattle.rail_base.specs.declared.plan.Command.{Command}
use Rattle.rail_base.specs.Admission.{is_admitted}
use Rattle.rail_spec.specs.Track.{routes_of}
use Rattle.rail_spec.specs.Plans.{is_executable}
use Rattle.rail_spec.specs.Feasible.{IsWellFormed}
use Rattle.rail_spec.specs.Safety.{Clash, KeepsToTrack}
use Rattle.rail_laws.specs.Overlaps.{OverlapsStayFree}
use Rattle.rail_laws.specs.Progress.{IsGrantedInTime}
use Rattle.rail_base.proofs.Admitting.{admitted}
use Rattle.rail_spec.specs.Dispatches.{of_plan}
use Rattle.rail_laws.proofs.Admits.{never_clash, sound}
use Rattle.rail_laws.proofs.Authority.{stands_at_visit}
use Rattle.rail_laws.proofs.KeptFree.{stay_free}
use Rattle.rail_laws.proofs.Keeping.{keeps_authority, keeps_all_limits}
use Rattle.rail_laws.proofs.Lively.{no_deadlock}
use Rattle.rail_course.specs.Standing.{StandsAtVisits}

module _ (d : Station) (good : is_admitted d ≡ true) (routes : List Route) (same : routes ≡ routes_of d) (plan : List (List Command)) (formed : IsWellFormed d routes 256 plan) where
  over_these : IsWellFormed d (routes_of d) 256 plan
  over_these = subst (λ rs. IsWellFormed d rs 256 plan) same formed

  -- no two trains are in one section
  pub apart : is_executable d routes plan ≡ true → (k : ℕ) → Clash d routes plan k → ⊥
  apart executable =
      subst (λ rs. (k : ℕ) → Clash d rs plan k → ⊥) (sym same)
      (never_clash d (admitted d good) 256 plan over_these.formed (subst (λ rs. is_executable d rs plan ≡ true) same executable))

  -- overlaps are kept free of other trains
  pub free : OverlapsStayFree d routes plan
  free = subst (λ rs. OverlapsStayFree d rs plan) (sym same) (stay_free d (admitted d good) 256 plan over_these.formed)

  -- each is within its authority and its limits
  pub keeps : KeepsToTrack d routes plan
  keeps = subst (λ rs. KeepsToTrack d rs plan) (sym same) (record {
    in_authority = keeps_authority d (admitted d good) 256 plan over_these.formed;
    in_limits = keeps_all_limits d (admitted d good) 256 plan over_these.formed;
  })

  -- each stands at its visits
  pub stands : StandsAtVisits d routes plan
  stands = subst (λ rs. StandsAtVisits d rs plan) (sym same) (stands_at_visit d (routes_of d) (of_plan (routes_of d) plan) (sound d (admitted d good) 256 plan over_these.formed))

  -- and each command is granted
  pub granted : is_executable d routes plan ≡ true → IsGrantedInTime d routes plan
  granted executable = subst (λ rs. IsGrantedInTime d rs plan) (sym same)
      (no_deadlock d (admitted d good) 256 plan (record { well_formed = over_these; executable = subst (λ rs. is_executable d rs plan ≡ true) same executable }))
