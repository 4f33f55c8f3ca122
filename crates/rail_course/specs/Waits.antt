-- What a command waits for: other trains that are to release the sections that it shares with them.
use Rattle.std.specs.Prelude.{◌≡◌, ◌<◌, ◌⊎◌, ℕ, Bool, true, ◌&&◌, List, ◌++◌, map}
use Rattle.std.specs.Prelude.{filter, flat_map, length, slice_get, None, Some}
use Rattle.std.specs.List.{list_all, enumerate_from}
use Rattle.rail_base.specs.declared.station.Station.{Station}
use Rattle.rail_base.specs.declared.station.SectionNo.{SectionNo}
use Rattle.rail_base.specs.declared.station.TrainNo.{TrainNo}
use Rattle.rail_base.specs.declared.route.Route.{Route}
use Rattle.rail_base.specs.declared.plan.Command.{Command}
use Rattle.rail_base.specs.declared.state.TrainState.{TrainState}
use Rattle.rail_base.specs.Members.{In}
use Rattle.rail_base.specs.Routes.{route_at, goes_over, has_section, own_sections, held_sections}
use Rattle.rail_spec.specs.Dispatches.{Dispatch, has_come, routes_before, release, is_ready}
use Rattle.rail_course.specs.declared.journey.Hold.{Hold}
use Rattle.rail_course.specs.declared.waits.Wait.{Wait}
use Rattle.rail_course.specs.Holds.{holds_of_train}

-- what the wait is for has come
abbrev pub is_over : List (List TrainState) → Wait → Bool
is_over ps w = has_come ps w.event

module _ (d : Station) (routes : List Route) (p : Dispatch) where
  -- how many holds a train has on its path before a command
  abbrev pub holds_before : Command → ℕ
  holds_before e = length (flat_map (λ r. r.overlaps) (routes_before d routes p e))

  -- the wait for a command to release an own section
  abbrev pub wait_for_own : Command → SectionNo → SectionNo × Wait
  wait_for_own e z = (z, record { event = release d routes p e z; hold = None })

  -- the wait for it to release a section of its overlap, which its train has by a hold of this number
  abbrev pub wait_for_held : Command → ℕ × SectionNo → SectionNo × Wait
  wait_for_held e n = (n.1, record { event = release d routes p e n.1; hold = Some n.0 })

  -- for each own section of a command's route, and each of its overlap, the wait for the command to release it
  abbrev pub own_waits : Command → List (SectionNo × Wait)
  own_waits e = map (wait_for_own e) (own_sections (route_at routes e.route))

  abbrev pub hold_waits : Command → List (SectionNo × Wait)
  hold_waits e = map (wait_for_held e) (enumerate_from (holds_before e) (held_sections (route_at routes e.route)))

  -- c's waits for e: one for each section that the two share
  abbrev pub waits_for : Command → Command → List Wait
  waits_for c e = map (λ w. w.1) (filter (λ w. has_section (route_at routes c.route) w.0) (own_waits e ++ hold_waits e))

  -- c's waits for each command that is to come before it
  abbrev pub waits_of : Command → List Wait
  waits_of c = flat_map (waits_for c) (p.before c)

  -- the waits of each command of a train's path
  abbrev pub waits_of_train : TrainNo → List (List Wait)
  waits_of_train t = map (λ r. waits_of (record { train = t; route = r })) (p.path t)

  -- the wait is for the release of an own section
  pub record IsForOwn (w : Wait) : Type 0 where
    pub command : Command
    pub section : SectionNo
    pub own : goes_over (route_at routes command.route) section ≡ true
    pub event : w.event ≡ release d routes p command section
    pub no_hold : w.hold ≡ None

  -- the wait is for the end of one of its train's holds, and says which
  pub record IsForHold (w : Wait) : Type 0 where
    pub number : ℕ
    pub hold : Hold
    pub there : slice_get (holds_of_train d routes p w.event.train) number ≡ Some hold
    pub event : w.event ≡ hold.event
    pub which : w.hold ≡ Some number

  -- the wait is for a command that its train is never granted, and so for none of its train's holds
  pub record IsForNone (w : Wait) : Type 0 where
    pub number : ℕ
    pub none : slice_get (holds_of_train d routes p w.event.train) number ≡ None
    pub never : length (p.path w.event.train) < w.event.event.granted
    pub which : w.hold ≡ Some number

  -- it is known how the wait ends, or that it never does
  abbrev pub IsWait : Wait → Type 0
  IsWait w = IsForOwn w ⊎ IsForHold w ⊎ IsForNone w

  -- the command's waits are over exactly where it is ready, and it is known how each ends
  pub record AreWaits (c : Command) (own : List Wait) : Type 0 where
    pub over : (ps : List (List TrainState)) → list_all (is_over ps) own ≡ is_ready d routes p ps c
    pub known : (w : Wait) → In w own → IsWait w

-- the waits after are over where those before are and so much more is so; each is one of those before, or such a one
pub record AddsWaits (before after : List Wait) (more : List (List TrainState) → Bool)
    (Is : Wait → Type 0) : Type 0 where
  pub over : (ps : List (List TrainState)) → list_all (is_over ps) after ≡ (list_all (is_over ps) before && more ps)
  pub known : (w : Wait) → In w after → In w before ⊎ Is w

-- what is waited for by a command has come exactly where it is ready
abbrev pub IsReadyWhenOver : Station → List Route → Dispatch → Type 0
IsReadyWhenOver d routes p = (ps : List (List TrainState)) (c : Command)
    → list_all (is_over ps) (waits_of d routes p c) ≡ is_ready d routes p ps c
