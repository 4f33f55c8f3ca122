-- The waits of a free command of a cone, gathered from the pairs that are listed.
use Rattle.std.proofs.Common.{◌≡◌, ◌⊎◌, inl, inr, Bool, true, false, ◌||◌, not, List, [], filter, refl, sym, ap, ◌∙◌}
use Rattle.std.specs.List.{list_all}
use Rattle.std.proofs.lemmas.List.Folds.{list_all-map}
use Rattle.rail_base.specs.declared.plan.Command.{Command}
use Rattle.rail_base.specs.declared.state.TrainState.{TrainState}
use Rattle.rail_base.specs.Members.{In}
use Rattle.rail_spec.specs.Plans.{is_command}
use Rattle.rail_course.specs.declared.itineraries.Itineraries.{Itineraries}
use Rattle.rail_course.specs.declared.waits.Wait.{Wait}
use Rattle.rail_course.specs.Itineraries.{IsWaitIn, going_in, has_cleared_in, waiting_in}
use Rattle.rail_course.specs.Waits.{AddsWaits, IsWait}
use Rattle.rail_course.proofs.Holding.{wait_elsewhere}
use Rattle.rail_course.proofs.Merging.{as_more, none_more}
use Rattle.rail_course.proofs.Waiting.{kept_all}
use Rattle.cone_spec.specs.Cones.{of_cone}
use Rattle.cone_run.specs.declared.paths.ConePaths.{ConePaths}
use Rattle.cone_run.specs.Paths.{AreWaitsInCone}

module _ (p : ConePaths) (c : Command) where
  abbrev given : Itineraries
  given = p.train_paths.given

  abbrev before : Command → List Command
  before = (of_cone p.layout.cone.now).before

  abbrev listed : List (Command × Command)
  listed = p.layout.cone.now.pairs

  -- what a listed pair asks: where its second command is this one, its first has cleared
  abbrev pub lets : List (List TrainState) → Command × Command → Bool
  lets ps q = not (is_command q.1 c) || has_cleared_in given ps c q.0

  pub added : (old new : List Wait) (q : Command × Command) → is_command q.1 c ≡ true → AddsWaits old new (λ ps. has_cleared_in given ps c q.0) (IsWaitIn given) → AddsWaits old new (λ ps. lets ps q) (IsWaitIn given)
  added old new q same adds = as_more old new (λ ps. has_cleared_in given ps c q.0) (λ ps. lets ps q) (IsWaitIn given) (IsWaitIn given) (λ ps. ap (λ b. not b || has_cleared_in given ps c q.0) (sym same)) (λ w h. h) adds

  pub passed_by : (old : List Wait) (q : Command × Command) → is_command q.1 c ≡ false → AddsWaits old old (λ ps. lets ps q) (IsWaitIn given)
  passed_by old q other = none_more old (IsWaitIn given) (λ ps. lets ps q) (λ ps. ap (λ b. not b || has_cleared_in given ps c q.0) other)

  -- the waits for the first commands of those listed pairs whose second is this one are its waits
  pub waits_are : (own : List Wait)
      → AddsWaits [] own (λ ps. list_all (lets ps) listed) (λ w. (q : Command × Command) × In q listed × IsWaitIn given w)
      → AreWaitsInCone p c own
  waits_are own adds = record {
    over = λ ps. adds.over ps
        ∙ kept_all (λ q. has_cleared_in given ps c q.0) (λ q. is_command q.1 c) listed
        ∙ sym (list_all-map (has_cleared_in given ps c) (λ q. q.0) (filter (λ q. is_command q.1 c) listed));
    known = λ w m. go w (adds.known w m);
  }
    where
      go : (w : Wait) → In w [] ⊎ ((q : Command × Command) × In q listed × IsWaitIn given w) → IsWait given.interlocking.now.design.station given.interlocking.now.routes (waiting_in given before) w
      go w (inl none) = absurd none
      go w (inr (q, k, is)) = wait_elsewhere given.interlocking.now.design.station given.interlocking.now.routes (going_in given) (waiting_in given before) refl w is
