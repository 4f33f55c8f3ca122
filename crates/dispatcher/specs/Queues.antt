-- Which commands stand last on a section.
use Rattle.std.specs.Prelude.{ℕ, Bool, ◌≤◌, List, [], ◌∷◌, ◌++◌, filter}
use Rattle.std.specs.List.{list_all}
use Rattle.rail_base.specs.declared.station.SectionNo.{SectionNo}
use Rattle.rail_base.specs.declared.station.TrainNo.{TrainNo}
use Rattle.rail_base.specs.declared.route.Route.{Route}
use Rattle.rail_base.specs.declared.plan.Command.{Command}
use Rattle.rail_base.specs.Numbering.{entry}
use Rattle.rail_base.specs.Routes.{route_at, has_section}
use Rattle.rail_spec.specs.Plans.{is_train}

-- there are so many sections, and this is one of them
abbrev pub IsWithin : ℕ → SectionNo → Type 0
IsWithin many z = (1 ≤ z.0) × (z.0 ≤ many)

-- the queue of a section
abbrev pub queue_at : {X : Type 0} → List (List X) → SectionNo → List X
queue_at queues z = entry [] queues z.0

-- all these commands are of the train
abbrev pub are_of : TrainNo → List Command → Bool
are_of t cs = list_all (λ f. is_train t f.train) cs

-- those that stood on the section before and that none of these, of another train, follows there, and these
abbrev pub followed_by : List Command → List Command → List Command
followed_by before these = filter (λ e. are_of e.train these) before ++ these

module _ (routes : List Route) (z : SectionNo) where
  -- the commands of a step on the section
  abbrev pub on_section : List Command → List Command
  on_section step = filter (λ c. has_section (route_at routes c.route) z) step

  -- the commands of these steps on the section that none of another train follows there; before the steps these stood
  -- on it
  abbrev pub last_on : List Command → List (List Command) → List Command
  last_on before [] = before
  last_on before (step ∷ steps) = last_on (followed_by before (on_section step)) steps
