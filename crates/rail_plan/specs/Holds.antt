-- The trains that stand last on sections, and how much track each is still to be given before it can leave its section.
use Rattle.std.specs.Prelude.{◌≡◌, ℕ, ℤ, ◌+◌, ◌-◌, ◌≤◌, nat_abs, max, Bool, not, ◌&&◌, ◌||◌, ◌==◌, if◌then◌else◌}
use Rattle.std.specs.Prelude.{List, [], ◌∷◌, map, filter, length}
use Rattle.std.specs.List.{list_any}
use Rattle.rail_base.specs.declared.station.Station.{Station}
use Rattle.rail_base.specs.declared.station.TrainNo.{TrainNo}
use Rattle.rail_base.specs.declared.station.SectionNo.{SectionNo}
use Rattle.rail_base.specs.declared.route.Route.{Route}
use Rattle.rail_base.specs.declared.plan.Command.{Command}
use Rattle.rail_base.specs.Numbering.{entry}
use Rattle.rail_base.specs.Stations.{train_length}
use Rattle.rail_spec.specs.Plans.{is_train, route_at, length_mm, sections, has_section, goes_over, release_offset}
use Rattle.rail_spec.specs.Plans.{exits, routes_given, path_routes}
use Rattle.rail_plan.specs.declared.holds.Hold.{Hold}

-- how much of this length is left after the routes: nothing where one of them exits
abbrev pub rest_after : ℕ → List Route → ℕ
rest_after left [] = left
rest_after left (r ∷ rs) = if exits r then 0 else rest_after (left - length_mm r) rs

-- ---- holds

-- no train stands there
abbrev pub no_hold : Hold
no_hold = record { train = record { 0 = 0 }; left = 0 }

-- who stands on the section
abbrev pub hold_at : List Hold → SectionNo → Hold
hold_at holds z = entry no_hold holds z.0

-- it is another train than this one, and can't leave
abbrev pub keeps_out : Hold → TrainNo → Bool
keeps_out h t = not (is_train h.train t) && not (h.left == 0)

-- how much track a train lacks by a hold
abbrev pub lacks : Hold → TrainNo → ℕ
lacks h t = if is_train t h.train then h.left else 0

-- the hold after a train that lacks so much took the section
abbrev pub taken : Hold → TrainNo → ℕ → Hold
taken h t left = record { train = t; left = if is_train h.train t then max h.left left else left }

-- the hold after its train was given the routes that the step has for it
abbrev pub given_step : List Route → List Command → Hold → Hold
given_step routes step h = record {
  train = h.train;
  left = rest_after h.left (map (route_at routes) (routes_given h.train step));
}

-- ---- what keeps a command from sections

module _ (routes : List Route) where
  -- a command is for another train, and has the section
  abbrev pub takes : TrainNo → SectionNo → Command → Bool
  takes t z e = not (is_train e.train t) && has_section (route_at routes e.route) z

  -- the holds or the commands of the step keep the train from the section
  abbrev pub is_kept_from : List Hold → List Command → TrainNo → SectionNo → Bool
  is_kept_from holds step t z = keeps_out (hold_at holds z) t || list_any (takes t z) step

  -- the sections of a command's route from which they keep it
  abbrev pub kept_sections : List Hold → List Command → Command → List SectionNo
  kept_sections holds step c = filter (is_kept_from holds step c.train) (sections (route_at routes c.route))

-- ---- steps

module _ (d : Station) (routes : List Route) where
  -- how much track the train of a command lacks after the command's route, for a release at this offset of the route
  abbrev pub lack_after : Command → ℕ → ℕ
  lack_after c offset = rest_after (offset + train_length d c.train) (route_at routes c.route ∷ [])

  -- the hold on a section after a command took these parts of its route
  abbrev pub taken_by_parts : SectionNo → Command → List (SectionNo × ℤ) → Hold → Hold
  taken_by_parts z c [] h = h
  taken_by_parts z c (p ∷ ps) h =
      taken_by_parts z c ps (if p.0.0 == z.0 then taken h c.train (lack_after c (nat_abs p.1)) else h)

  -- and after the command took its whole route
  abbrev pub taken_by : SectionNo → Command → Hold → Hold
  taken_by z c h = taken_by_parts z c (route_at routes c.route).sections h

  -- and after the commands of a step took theirs
  abbrev pub taken_by_step : SectionNo → List Command → Hold → Hold
  taken_by_step z [] h = h
  taken_by_step z (c ∷ cs) h = taken_by_step z cs (taken_by z c h)

  -- the hold on a section after a step
  abbrev pub turned : SectionNo → List Command → Hold → Hold
  turned z step h = taken_by_step z step (given_step routes step h)

  module _ (z : SectionNo) (t : TrainNo) where
    -- how much track the train lacks to leave the section after a command, where it is given these routes from the command on
    abbrev pub lack_of : List Route → Command → ℕ
    lack_of given e = if is_train e.train t && goes_over (route_at routes e.route) z
        then rest_after (release_offset (route_at routes e.route) z + train_length d t) given
        else 0

    -- and after the commands of a step
    abbrev pub lack_in : List Route → List Command → ℕ
    lack_in given [] = 0
    lack_in given (e ∷ es) = max (lack_of given e) (lack_in given es)

    -- and after steps
    abbrev pub lack : List (List Command) → ℕ
    lack [] = 0
    lack (s ∷ ss) = max (lack_in (path_routes routes (s ∷ ss) t) s) (lack ss)

  -- the holds say for each section the one train that can't leave it after these steps
  pub record AreHolds (before : List (List Command)) (holds : List Hold) : Type 0 where
    pub hold_a_section : length d.sections ≤ length holds
    pub each : (z : SectionNo) (t : TrainNo) → lack z t before ≡ lacks (hold_at holds z) t
