-- Of a plan's run: what a train that waits is held up by, and how far the trains have to be followed to show a failure.
use Rattle.std.specs.Prelude.{◌≡◌, ◌≤◌, ℕ, ◌+◌, ◌-◌, Bool, true, false, not, ◌&&◌, ◌||◌, ◌==◌, if◌then◌else◌, List}
use Rattle.std.specs.Prelude.{fold, length, slice_get, nat_le, nat_lt, Option, None, Some}
use Rattle.std.specs.List.{list_any, list_all}
use Rattle.rail_base.specs.declared.station.Station.{Station}
use Rattle.rail_base.specs.declared.station.TrainNo.{TrainNo}
use Rattle.rail_base.specs.declared.route.Route.{Route}
use Rattle.rail_base.specs.declared.route.RouteNo.{RouteNo}
use Rattle.rail_base.specs.declared.plan.Command.{Command}
use Rattle.rail_base.specs.declared.plan.Violation.{Violation}
use Rattle.rail_base.specs.declared.plan.Violation.TheVariants as violation
use Rattle.rail_base.specs.Numbering.{least}
use Rattle.rail_base.specs.Stations.{IsTrain, trains, horizon, within_of, order_of}
use Rattle.rail_spec.specs.Plans.{path, preceding, is_command, commands}
use Rattle.rail_spec.specs.Dispatches.{state_of, of_plan, is_granted, has_cleared, pasts_at, state_at}
use Rattle.rail_spec.specs.Requirements.{most_ticks}
use Rattle.rail_spec.specs.Visits.{visit_tick}
use Rattle.cone_spec.specs.Validity.{is_before}

-- every train has a command
abbrev pub GivesEach : Station → List (List Command) → Type 0
GivesEach d plan = (t : TrainNo) → IsTrain d t → 1 ≤ length (path plan t)

-- one tick is later than another, where no tick is later than any
abbrev pub is_later : Option ℕ → Option ℕ → Bool
is_later None (Some b) = true
is_later None None = false
is_later (Some a) None = false
is_later (Some a) (Some b) = nat_lt b a

-- it is this command
abbrev pub is_the : Command → Option Command → Bool
is_the c None = false
is_the c (Some e) = is_command e c

-- there is such a tick, and the rest holds of it
abbrev pub is_within : Option ℕ → (ℕ → Bool) → Bool
is_within None rest = false
is_within (Some a) rest = rest a

module _ (d : Station) (routes : List Route) (plan : List (List Command)) where
  -- how many commands of the train are granted by a tick
  abbrev pub count_at : ℕ → TrainNo → ℕ
  count_at k t = (state_of (state_at d routes (of_plan routes plan) k) t).granted

  -- the first command that is not
  abbrev pub next_at : ℕ → TrainNo → Option RouteNo
  next_at k t = slice_get (path plan t) (count_at k t)

  module _ (last : ℕ) where
    -- ---- holders

    -- the tick, up to the last, at which a command has released all that it shares with c
    abbrev pub clear_tick : Command → Command → Option ℕ
    clear_tick c e =
        let run = of_plan routes plan in
        least (λ k. has_cleared d routes run (pasts_at d routes run k) c e) last

    -- of two the one that clears c later; where they clear it at one tick that of the lower train, and then of the lower route
    abbrev pub later_of : Command → Option Command → Command → Option Command
    later_of c None e = Some e
    later_of c (Some f) e =
        if is_later (clear_tick c e) (clear_tick c f)
        || not (is_later (clear_tick c f) (clear_tick c e)) && is_before e f
        then Some e
        else Some f

    -- of these the one that clears c last
    abbrev pub latest : Command → List Command → Option Command
    latest c es = fold (later_of c) None es

    -- what a command waits for longest
    abbrev pub holder_for : TrainNo → Option RouteNo → Option Command
    holder_for t None = None
    holder_for t (Some r) = let c : Command = record { train = t; route = r } in latest c (preceding routes plan c)

    module _ (h : TrainNo → ℕ) where
      -- no command of the train is granted at its horizon, which is not 0
      abbrev pub is_held_up : TrainNo → Bool
      is_held_up t = nat_le 1 (h t) && (count_at (h t - 1) t == count_at (h t) t)

      -- what such a train's first command not granted by then waits for longest
      abbrev pub holder_at : TrainNo → Option Command
      holder_at t = if is_held_up t then holder_for t (next_at (h t) t) else None

      -- some train is held up by this command
      abbrev pub is_holder : Command → Bool
      is_holder c = list_any (λ t. is_the c (holder_at t)) (trains d)

      -- ---- horizons

      -- they reach the ticks that the violation speaks of
      abbrev pub reaches : Violation → Bool
      reaches (violation.Path t j) = true
      reaches (violation.Within w) = let within = within_of d w in
          is_within (visit_tick d routes (of_plan routes plan) last within.from_train within.from_visit) (λ a.
          nat_le a (h within.from_train) && nat_le (a + most_ticks d within) (h within.to_train))
      reaches (violation.Order o) = let order = order_of d o in
          is_within (visit_tick d routes (of_plan routes plan) last order.then_train order.then_visit) (λ a.
          nat_le a (h order.then_train) && nat_le a (h order.first_train + 1))
      reaches (violation.Grant t j) = nat_le (horizon d) (h t)
      reaches (violation.Visit t j) = nat_le (horizon d) (h t)

      -- what was granted by its train's horizon was cleared by the horizons of the trains that it waited for
      abbrev pub grants_reach : Command → Bool
      grants_reach c =
          let before = preceding routes plan c in
          not (is_granted d routes (of_plan routes plan) (state_at d routes (of_plan routes plan) (h c.train)) c)
          || list_all (λ e.
          has_cleared d routes (of_plan routes plan) (pasts_at d routes (of_plan routes plan) (h e.train)) c e) before

      -- the train of a holder is followed up to the tick before
      abbrev pub reaches_holder : TrainNo → Option Command → Bool
      reaches_holder t None = true
      reaches_holder t (Some e) = nat_le (h t) (h e.train + 1)

      -- up to their horizons, none past the last tick, the trains show the violation and all that their grants wait for
      pub record IsClosedFamily (v : Violation) : Type 0 where
        pub soon : list_all (λ t. nat_le (h t) last) (trains d) ≡ true
        pub own : reaches v ≡ true
        pub grants : list_all grants_reach (commands plan) ≡ true
        pub holders : list_all (λ t. reaches_holder t (holder_at t)) (trains d) ≡ true
