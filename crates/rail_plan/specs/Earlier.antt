-- How commands move to the step before, and what of the plan stays.
use Rattle.std.specs.Prelude.{◌≡◌, ◌≢◌, ℕ, ◌+◌, ◌≤◌, Bool, not, ◌&&◌, if◌then◌else◌, List, [], ◌∷◌, ◌++◌, length, is_none}
use Rattle.std.specs.Prelude.{IfSome}
use Rattle.std.specs.List.{list_any}
use Rattle.rail_base.specs.declared.station.Station.{Station}
use Rattle.rail_base.specs.declared.station.TrainNo.{TrainNo}
use Rattle.rail_base.specs.declared.route.Route.{Route}
use Rattle.rail_base.specs.declared.plan.Command.{Command}
use Rattle.rail_base.specs.Numbering.{first_of_list}
use Rattle.rail_spec.specs.Plans.{is_train, commands, path, precedes}
use Rattle.rail_spec.specs.Feasible.{IsRunnable}
use Rattle.rail_plan.specs.declared.holds.Hold.{Hold}
use Rattle.rail_plan.specs.Holds.{kept_sections}
use Rattle.rail_plan.specs.WellFormed.{last_of_list}

-- ---- one step and the next

module _ (routes : List Route) (holds : List Hold) where
  -- the step has no command of c's train, and nothing keeps c from a section there
  abbrev pub can_join : List Command → Command → Bool
  can_join step c = not (list_any (λ e. is_train e.train c.train) step)
      && is_none (first_of_list (kept_sections routes holds step c))

  -- the step with those of the commands that can join it, one after the other
  abbrev pub joined : List Command → List Command → List Command
  joined step [] = step
  joined step (c ∷ cs) = if can_join step c then joined (step ++ c ∷ []) cs else joined step cs

  -- the commands that can't
  abbrev pub left_over : List Command → List Command → List Command
  left_over step [] = []
  left_over step (c ∷ cs) = if can_join step c then left_over (step ++ c ∷ []) cs else c ∷ left_over step cs

-- ---- plans

-- how many steps stand before each command, in all
abbrev pub delay : List (List Command) → ℕ
delay [] = 0
delay (step ∷ steps) = length (commands steps) + delay steps

-- the second plan runs where the first does, by the same paths and in the same order, and has no more steps
pub record IsAsGood (d : Station) (routes : List Route) (plan other : List (List Command)) : Type 0 where
  pub runnable : (n : ℕ) → IsRunnable d routes n plan → IsRunnable d routes n other
  pub paths : (t : TrainNo) → path other t ≡ path plan t
  pub order : (e c : Command) → precedes routes other e c ≡ precedes routes plan e c
  pub fewer : length other ≤ length plan

-- its last step, if it has one, is not empty
abbrev pub EndsFull : List (List Command) → Type 0
EndsFull plan = IfSome (last_of_list plan) (λ step. step ≢ [])
