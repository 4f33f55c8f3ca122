use Rattle.std.proofs.Common.{◌≡◌, ℕ, ◌+◌, ◌<◌, true, List, [], ◌∷◌, ◌++◌, length, flat_map, take, get_or, None, sym, ap, subst, ◌∙◌, arith}
use Rattle.std.proofs.lemmas.List.{take_more}
use Rattle.rail_base.specs.declared.station.Station.{Station}
use Rattle.rail_base.specs.declared.station.SectionNo.{SectionNo}
use Rattle.rail_base.specs.declared.route.Route.{Route}
use Rattle.rail_base.specs.declared.plan.Command.{Command}
use Rattle.rail_base.specs.Numbering.{first_of_list}
use Rattle.rail_base.specs.Stations.{trains}
use Rattle.rail_base.proofs.Contained.{in_at}
use Rattle.rail_base.proofs.Members.{list_all_at}
use Rattle.rail_spec.specs.Feasible.{IsWellFormed}
use Rattle.rail_spec.specs.Plans.{one_each}
use Rattle.rail_plan.specs.declared.place.PlanPlace.{PlanPlace}
use Rattle.rail_plan.specs.Executable.{blocked_in}
use Rattle.rail_plan.specs.Ahead.{stopped}
use Rattle.rail_plan.specs.declared.holds.Hold.{Hold}
use Rattle.rail_plan.specs.Holds.{AreHolds, hold_at, turned}
use Rattle.rail_plan.specs.Named.{HaveRoutes, HaveTrains}
use Rattle.rail_plan.proofs.Blocked.{blocked_step}
use Rattle.rail_plan.proofs.Empties.{empty_of}
use Rattle.rail_plan.proofs.Firsts.{walk_start, walk_on, walk_kept, walk_end, is_none_of}
use Rattle.rail_plan.proofs.Named.{all_have_routes, all_have_trains, all_here}
use Rattle.rail_plan.proofs.Taking.{holds_more, holds_none}
use Rattle.rail_plan.proofs.Within.{few_sections}
use Rattle.rail_plan.proofs.WellFormed.{one_each_of, paths_of_formed}
use Rattle.rail_plan.proofs.clearance.first_blocked.Goals as goal

-- the places of the step of a number
abbrev places : Station → List Route → List (List Command) → ℕ → List PlanPlace
places d routes plan i = flat_map (blocked_in d routes plan i) (trains d)

-- the places of the step of an index are those that are found from the steps up to it
here : (d : Station) (routes : List Route) (steps : List (List Command)) → (n : ℕ) × IsWellFormed d routes n steps → (i : ℕ) (step : List Command) → i < length steps → step ≡ get_or steps i step
    → places d routes steps (i + 1) ≡ stopped d routes (take i steps) step
here d routes steps (n, w) i step h e = blocked_step d routes steps w.named (paths_of_formed d routes steps n w.formed) i step h e

-- the holds one step further, where it has no place
further : (d : Station) (routes : List Route) (steps : List (List Command)) → (n : ℕ) × IsWellFormed d routes n steps → (i : ℕ) (step : List Command) → i < length steps → step ≡ get_or steps i step
    → None ≡ first_of_list (stopped d routes (take i steps) step) → (old new : List Hold) → AreHolds d routes (take i steps) old → length new ≡ length old → ((z : SectionNo) → hold_at new z ≡ turned d routes z step (hold_at old z)) → AreHolds d routes (take (i + 1) steps) new
further d routes steps (n, w) i step h e none old new are many turns =
    subst (λ p. AreHolds d routes p new) (sym (take_more steps i step h ∙ ap (λ s. take i steps ++ s ∷ []) (sym e)))
    (holds_more d routes (take i steps) step (all_here (HaveTrains d) steps i step h e (all_have_trains d routes steps w.named))
    (subst (λ s. one_each s ≡ true) (sym e) (list_all_at one_each steps (get_or steps i step) (one_each_of d routes steps n w.formed) (in_at steps i step h)))
    (empty_of (stopped d routes (take i steps) step) none) old new are many turns)

pub loop-index-init : goal.loop-index-init
loop-index-init c =
    let d = c.args.interlocking.now.design.station in
    let routes = c.args.interlocking.now.routes in
    record {
      left = walk_start (places d routes c.args.steps.now) (length c.args.steps.now);
      holds = holds_none d routes c.no_holds-holds.result (let few = few_sections d c.args.interlocking.now.design.admitted in let many = c.no_holds-holds.ensures.count in omega (arith, few, many)) c.no_holds-holds.ensures.none;
    }

pub stopped_step-place-requires-clause-routes : goal.stopped_step-place-requires-clause-routes
stopped_step-place-requires-clause-routes c = all_here (HaveRoutes c.args.interlocking.now.routes) c.args.steps.now c.loop-index.index c.index-steps-index.result c.loop-index-test.true c.index-steps-index.is (all_have_routes c.args.interlocking.now.design.station c.args.interlocking.now.routes c.args.steps.now c.requires.1.named)

pub turn-requires-clause-trains : goal.turn-requires-clause-trains
turn-requires-clause-trains c = all_here (HaveTrains c.args.interlocking.now.design.station) c.args.steps.now c.loop-index.index c.index-steps-index.result c.loop-index-test.true c.index-steps-index.is (all_have_trains c.args.interlocking.now.design.station c.args.interlocking.now.routes c.args.steps.now c.requires.1.named)

pub turn-requires-clause-routes : goal.turn-requires-clause-routes
turn-requires-clause-routes c = all_here (HaveRoutes c.args.interlocking.now.routes) c.args.steps.now c.loop-index.index c.index-steps-index.result c.loop-index-test.true c.index-steps-index.is (all_have_routes c.args.interlocking.now.design.station c.args.interlocking.now.routes c.args.steps.now c.requires.1.named)

pub returns-then-is_some : goal.returns-then-is_some
returns-then-is_some c =
    let d = c.args.interlocking.now.design.station in
    let same = here d c.args.interlocking.now.routes c.args.steps.now c.requires c.loop-index.index c.index-steps-index.result c.loop-index-test.true c.index-steps-index.is in
    sym (walk_kept (places d c.args.interlocking.now.routes c.args.steps.now) (length c.args.steps.now) c.loop-index.index c.stopped_step-place.result c.loop-index-test.true (c.stopped_step-place.ensures ∙ ap first_of_list (sym same)) (sym c.is_some.ensures ∙ c.if-is_some.true)) ∙ c.loop-index.invariant.left

pub loop-index-preserved : goal.loop-index-preserved
loop-index-preserved c =
    let d = c.args.interlocking.now.design.station in
    let routes = c.args.interlocking.now.routes in
    let i = c.loop-index.index in
    let step = c.index-steps-index.result in
    let same = here d routes c.args.steps.now c.requires i step c.loop-index-test.true c.index-steps-index.is in
    let none = is_none_of c.stopped_step-place.result (sym c.is_some.ensures ∙ c.if-is_some.false) ∙ c.stopped_step-place.ensures in
    record {
      left = sym (walk_on (places d routes c.args.steps.now) (length c.args.steps.now) i c.loop-index-test.true (none ∙ ap first_of_list (sym same))) ∙ c.loop-index.invariant.left;
      holds = further d routes c.args.steps.now c.requires i step c.loop-index-test.true c.index-steps-index.is none c.loop-index.holds c.turn.new.holds c.loop-index.invariant.holds c.turn.ensures.same_length c.turn.ensures.turned;
    }

pub returns : goal.returns
returns c = sym (walk_end (places c.args.interlocking.now.design.station c.args.interlocking.now.routes c.args.steps.now) (length c.args.steps.now) c.loop-index.index c.loop-index-test.false) ∙ c.loop-index.invariant.left
