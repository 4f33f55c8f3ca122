-- What a step does to the queues of sections.
use Rattle.std.specs.Prelude.{◌≡◌, ℕ, ◌==◌, if◌then◌else◌, List, [], ◌∷◌, ◌++◌, filter, flat_map, length}
use Rattle.std.specs.List.{list_all, list_any}
use Rattle.rail_base.specs.declared.station.SectionNo.{SectionNo}
use Rattle.rail_base.specs.declared.station.TrainNo.{TrainNo}
use Rattle.rail_base.specs.declared.route.Route.{Route}
use Rattle.rail_base.specs.declared.plan.Command.{Command}
use Rattle.rail_base.specs.Members.{In}
use Rattle.rail_base.specs.Numbering.{entry}
use Rattle.rail_base.specs.Routes.{route_at, sections}
use Rattle.rail_spec.specs.Plans.{is_train}
use Rattle.rail_course.specs.declared.itineraries.Itineraries.{Itineraries}
use Rattle.rail_course.specs.declared.waits.Wait.{Wait}
use Rattle.rail_course.specs.Waits.{AddsWaits}
use Rattle.dispatcher.specs.Queues.{are_of, on_section, queue_at}
use Rattle.dispatcher.specs.Waits.{for_section, lets_pass, waits_at}

-- a list of lists, where that of a number has an item more
abbrev pub with_item : {X : Type 0} → ℕ → X → List (List X) → ℕ → List X
with_item number item lists n = if number == n then entry [] lists n ++ item ∷ [] else entry [] lists n

-- the waits for a train
abbrev pub of_train : TrainNo → List Wait → List Wait
of_train t ws = filter (λ w. is_train w.event.train t) ws

-- a list of lists, where that of a number has the waits for one train alone
abbrev pub with_train : ℕ → TrainNo → List (List Wait) → ℕ → List Wait
with_train number t lists n = if number == n then of_train t (entry [] lists n) else entry [] lists n

-- there is a queue for each section
abbrev pub HasQueues : Itineraries → List (List Wait) → Type 0
HasQueues i queues = length queues ≡ length i.interlocking.now.design.station.sections

module _ (queues : List (List Wait)) (z : SectionNo) where
  -- the queue of a section as a train's command on these sections leaves it
  abbrev pub left_by : TrainNo → List SectionNo → List Wait
  left_by t zs = if list_any (λ y. y.0 == z.0) zs then of_train t (queue_at queues z) else queue_at queues z

  -- with those of the waits that are for the section
  abbrev pub entered_by : List (SectionNo × Wait) → List Wait
  entered_by ws = queue_at queues z ++ for_section z ws

  module _ (i : Itineraries) (step : List Command) where
    -- without the waits that a command of the step, of another train, follows on the section
    abbrev pub left_by_step : List Wait
    left_by_step = filter (λ w. are_of w.event.train (on_section i.interlocking.now.routes z step)) (queue_at queues z)

    -- with the waits for the commands of the step
    abbrev pub entered_by_step : List Wait
    entered_by_step = queue_at queues z ++ flat_map (waits_at i z) (on_section i.interlocking.now.routes z step)

    -- both
    abbrev pub turned_by_step : List Wait
    turned_by_step = left_by_step ++ flat_map (waits_at i z) (on_section i.interlocking.now.routes z step)

-- each queue is as a train's command on these sections leaves it
abbrev pub LeavesTrain : List (List Wait) → List (List Wait) → TrainNo → List SectionNo → Type 0
LeavesTrain before after t zs = (z : SectionNo) → queue_at after z ≡ left_by before z t zs

-- each queue has those of the waits that are for its section
abbrev pub PutsWaits : List (List Wait) → List (List Wait) → List (SectionNo × Wait) → Type 0
PutsWaits before after ws = (z : SectionNo) → queue_at after z ≡ entered_by before z ws

-- the waits of a command are over where all queues on its route let its train pass, and stand in these queues
abbrev pub AsksQueues : List Route → List (List Wait) → Command → List Wait → Type 0
AsksQueues routes queues c own = AddsWaits [] own
    (λ ps. list_all (λ z. list_all (lets_pass ps c.train) (queue_at queues z)) (sections (route_at routes c.route)))
    (λ w. (z : SectionNo) × In z (sections (route_at routes c.route)) × In w (queue_at queues z))

module _ (before after : List (List Wait)) (i : Itineraries) (step : List Command) where
  -- each queue is as the step leaves it
  abbrev pub AreLeft : Type 0
  AreLeft = (z : SectionNo) → queue_at after z ≡ left_by_step before z i step

  -- as it enters it
  abbrev pub AreEntered : Type 0
  AreEntered = (z : SectionNo) → queue_at after z ≡ entered_by_step before z i step

  -- as it turns it
  abbrev pub AreTurned : Type 0
  AreTurned = (z : SectionNo) → queue_at after z ≡ turned_by_step before z i step
