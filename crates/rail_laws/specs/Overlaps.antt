-- What overlaps are for: the track behind a red signal stays free for a train that brakes late.
use Rattle.std.specs.Prelude.{◌≡◌, ℕ, true, false, List}
use Rattle.rail_base.specs.declared.station.Station.{Station}
use Rattle.rail_base.specs.declared.station.SectionNo.{SectionNo}
use Rattle.rail_base.specs.declared.station.TrainNo.{TrainNo}
use Rattle.rail_base.specs.declared.route.Route.{Route}
use Rattle.rail_base.specs.declared.plan.Command.{Command}
use Rattle.rail_base.specs.Members.{In}
use Rattle.rail_base.specs.Routes.{overlaps}
use Rattle.rail_spec.specs.Plans.{commands, is_executable, is_train, route_at}
use Rattle.rail_spec.specs.Dispatches.{has_come, is_granted, of_plan, pasts_at, release_of_overlap, state_at}
use Rattle.rail_spec.specs.Safety.{holds, stands_on}

module _ (d : Station) (routes : List Route) (plan : List (List Command)) where
  -- no train but this one holds the section or stands on it
  abbrev pub IsFreeOfOthers : ℕ → TrainNo → SectionNo → Type 0
  IsFreeOfOthers k t z = (u : TrainNo) → is_train u t ≡ false
      → (holds d routes plan k u z ≡ false) × (stands_on d routes plan k u z ≡ false)

  -- the command is granted, and its train hasn't been at the route's end for as long as this section of the overlap is
  -- held
  abbrev pub KeepsFree : ℕ → Command → SectionNo → Type 0
  KeepsFree k c z = let p = of_plan routes plan in (is_granted d routes p (state_at d routes p k) c ≡ true)
      × (has_come (pasts_at d routes p k) (release_of_overlap d routes p c z) ≡ false)

  -- where the plan can be carried out, each section of a command's overlap is free of other trains for so long
  abbrev pub OverlapsStayFree : Type 0
  OverlapsStayFree = is_executable d routes plan ≡ true → (k : ℕ) (c : Command) (z : SectionNo) → In c (commands plan)
      → overlaps (route_at routes c.route) z ≡ true → KeepsFree k c z → IsFreeOfOthers k c.train z
