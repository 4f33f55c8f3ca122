-- The waits of commands for those that stand last on their sections.
use Rattle.std.specs.Prelude.{◌≡◌, Bool, ◌||◌, ◌==◌, List, ◌∷◌, [], ◌++◌, filter, map}
use Rattle.std.specs.List.{list_all}
use Rattle.rail_base.specs.declared.station.Station.{Station}
use Rattle.rail_base.specs.declared.station.SectionNo.{SectionNo}
use Rattle.rail_base.specs.declared.station.TrainNo.{TrainNo}
use Rattle.rail_base.specs.declared.route.Route.{Route}
use Rattle.rail_base.specs.declared.route.RouteNo.{RouteNo}
use Rattle.rail_base.specs.declared.plan.Command.{Command}
use Rattle.rail_base.specs.declared.state.TrainState.{TrainState}
use Rattle.rail_base.specs.Members.{In}
use Rattle.rail_base.specs.Routes.{route_at, sections}
use Rattle.rail_spec.specs.Plans.{is_train}
use Rattle.rail_spec.specs.Dispatches.{Dispatch, has_released}
use Rattle.rail_course.specs.declared.itineraries.Itineraries.{Itineraries}
use Rattle.rail_course.specs.declared.waits.Wait.{Wait}
use Rattle.rail_course.specs.Itineraries.{own_waits_in, hold_waits_in}
use Rattle.rail_course.specs.Waits.{IsWait, is_over}
use Rattle.dispatcher.specs.Queues.{last_on}

-- the train need not wait: it is its own wait, or it is over
abbrev pub lets_pass : List (List TrainState) → TrainNo → Wait → Bool
lets_pass ps t w = is_train w.event.train t || is_over ps w

-- of waits for sections those for this one
abbrev pub for_section : SectionNo → List (SectionNo × Wait) → List Wait
for_section z ws = map (λ w. w.1) (filter (λ w. w.0.0 == z.0) ws)

-- the waits for a command to release the section, over paths that are given
abbrev pub waits_at : Itineraries → SectionNo → Command → List Wait
waits_at i z e = for_section z (own_waits_in i e) ++ for_section z (hold_waits_in i e)

module _ (d : Station) (routes : List Route) (p : Dispatch) where
  -- each other train has released each section of the route by what stands last on it after these steps
  abbrev pub is_free : List (List Command) → List (List TrainState) → Command → Bool
  is_free steps ps c = list_all (λ z. list_all (λ e. is_train e.train c.train || has_released d routes p ps e z)
      (last_on routes z [] steps)) (sections (route_at routes c.route))

  -- the command stands in the step after some steps of the plan, its waits are over exactly where it is free after
  -- these, and it is known how each ends
  pub record AreWaits (plan : List (List Command)) (c : Command) (own : List Wait) : Type 0 where
    pub before : List (List Command)
    pub step : List Command
    pub later : List (List Command)
    pub split : plan ≡ before ++ step ∷ later
    pub given : In c step
    pub over : (ps : List (List TrainState)) → list_all (is_over ps) own ≡ is_free before ps c
    pub known : (w : Wait) → In w own → IsWait d routes p w

  -- these are the waits of the commands of a train that give it these routes
  abbrev pub AreWaitsOf : List (List Command) → TrainNo → List RouteNo → List (List Wait) → Type 0
  AreWaitsOf plan t [] [] = Unit {0}
  AreWaitsOf plan t [] (own ∷ waits) = ⊥
  AreWaitsOf plan t (r ∷ rs) [] = ⊥
  AreWaitsOf plan t (r ∷ rs) (own ∷ waits) =
      AreWaits plan (record { train = t; route = r }) own × AreWaitsOf plan t rs waits
