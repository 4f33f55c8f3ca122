-- Normal plans: each command stands as early as it can.
use Rattle.std.specs.Prelude.{◌≡◌, ℕ, ◌+◌, ◌-◌, ◌≤◌, Bool, true, not, ◌&&◌, ◌||◌, List, [], map, filter, nat_le, nat_lt, sum_by}
use Rattle.std.specs.List.{list_any, list_all}
use Rattle.rail_base.specs.declared.station.Station.{Station}
use Rattle.rail_base.specs.declared.station.SectionNo.{SectionNo}
use Rattle.rail_base.specs.declared.route.Route.{Route}
use Rattle.rail_base.specs.declared.plan.Command.{Command}
use Rattle.rail_base.specs.Members.{In}
use Rattle.rail_base.specs.Numbering.{entry}
use Rattle.rail_base.specs.Stations.{train_length}
use Rattle.rail_spec.specs.Plans.{is_train, route_at, length_mm, own_shared, release_offset, exits, commands}
use Rattle.rail_spec.specs.Plans.{contend, precedes, step_of}

-- the commands of e's train from e on, in steps before this one
abbrev pub given_before : List (List Command) → Command → ℕ → List Command
given_before plan e n = filter (λ g. is_train g.train e.train
    && nat_le (step_of plan e) (step_of plan g) && nat_lt (step_of plan g) n) (commands plan)

-- the two can't stand in one step: they are for one train, or for two and share a section
abbrev pub excludes : List Route → Command → Command → Bool
excludes routes c e = is_train e.train c.train || contend routes e c

module _ (d : Station) (routes : List Route) (plan : List (List Command)) where
  -- before this step, e's train has been given so much track that it can leave the section
  abbrev pub can_clear_by : ℕ → Command → SectionNo → Bool
  can_clear_by n e z =
      let given = map (λ g. route_at routes g.route) (given_before plan e n) in
      nat_le (release_offset (route_at routes e.route) z + train_length d e.train) (sum_by length_mm given)
      || list_any exits given

  -- e precedes c, and before this step can't clear all its own sections that they share
  abbrev pub is_in_the_way : ℕ → Command → Command → Bool
  is_in_the_way n c e = precedes routes plan e c
      && not (list_all (can_clear_by n e) (own_shared (route_at routes e.route) (route_at routes c.route)))

  -- c can't stand in the step before its own: one of that step excludes it, or another command is in the way there
  abbrev pub is_held : Command → Bool
  is_held c =
      let previous = step_of plan c - 1 in
      list_any (excludes routes c) (entry [] plan previous) || list_any (is_in_the_way previous c) (commands plan)

  -- no command of a later step than the first can stand a step earlier
  abbrev pub IsNormal : Type 0
  IsNormal = (c : Command) → In c (commands plan) → 2 ≤ step_of plan c → is_held c ≡ true
