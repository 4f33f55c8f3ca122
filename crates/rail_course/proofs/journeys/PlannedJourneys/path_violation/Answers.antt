use Rattle.std.proofs.Common.{◌≡◌, List, All, ◌+◌, ◌∷◌, drop, map, flat_map, find, is_none, length, ap, sym, subst, ◌∙◌, arith}
use Rattle.std.specs.List.{position_from}
use Rattle.std.proofs.lemmas.List.{drop_more}
use Rattle.rail_base.proofs.Admitting.{admitted}
use Rattle.rail_base.specs.Stations.{train_of}
use Rattle.rail_base.specs.declared.plan.Violation.TheVariants as violation
use Rattle.rail_spec.specs.Requirements.{is_certain, visit_numbers}
use Rattle.rail_spec.specs.Dispatches.{of_plan}
use Rattle.rail_spec.specs.Visits.{path_nodes_of_train, visits_of_train}
use Rattle.rail_course.specs.declared.journey.Journey.{Journey}
use Rattle.rail_course.specs.Journeys.{IsJourney}
use Rattle.rail_require.proofs.Verdicting.{length-visits_on, path_here, path_later}
use Rattle.rail_course.proofs.journeys.PlannedJourneys.path_violation.Goals as goal

pub loop-journey-init : goal.loop-journey-init
loop-journey-init c = ap (λ (js : List Journey). find (is_certain c.args.self.now.interlocking.now.design.station c.args.self.now.interlocking.now.routes c.args.self.now.plan.now.steps 1) (flat_map (λ t. map (violation.Path t) (visit_numbers c.args.self.now.interlocking.now.design.station t)) (map (λ (j : Journey). j.train_path.train) js))) c.as_slice-journey-items.ensures.value
    ∙ ap (λ ts. find (is_certain c.args.self.now.interlocking.now.design.station c.args.self.now.interlocking.now.routes c.args.self.now.plan.now.steps 1) (flat_map (λ t. map (violation.Path t) (visit_numbers c.args.self.now.interlocking.now.design.station t)) ts)) c.args.self.now.led.all

pub first_missed-requires : goal.first_missed-requires
first_missed-requires c =
    let d = c.args.self.now.interlocking.now.design.station in
    let routes = c.args.self.now.interlocking.now.routes in
    let plan = c.args.self.now.plan.now.steps in
    let j = c.journey-item.result in
    let is : IsJourney d routes (of_plan routes plan) j = subst (IsJourney d routes (of_plan routes plan)) (sym c.journey-item.is) (subst (All (IsJourney d routes (of_plan routes plan))) (sym c.as_slice-journey-items.ensures.value) c.args.self.now.led.each c.loop-journey.journey-index j c.loop-journey-test.true) in
    let many = ap length (c.as_slice.ensures.value ∙ is.train_path.visits) ∙ length-visits_on d routes plan (train_of d j.train_path.train).visits (path_nodes_of_train d routes (of_plan routes plan) j.train_path.train) in
    let few = ((admitted d c.args.self.now.interlocking.now.design.admitted).train j.train_path.train is.train_path.train).visits.1 in
    omega arith

pub returns-in-Some : goal.returns-in-Some
returns-in-Some c =
    let d = c.args.self.now.interlocking.now.design.station in
    let routes = c.args.self.now.interlocking.now.routes in
    let plan = c.args.self.now.plan.now.steps in
    let js = c.as_slice-journey-items.result.now in
    let j = c.journey-item.result in
    let t = j.train_path.train in
    let train = λ (x : Journey). x.train_path.train in
    let is : IsJourney d routes (of_plan routes plan) j = subst (IsJourney d routes (of_plan routes plan)) (sym c.journey-item.is) (subst (All (IsJourney d routes (of_plan routes plan))) (sym c.as_slice-journey-items.ensures.value) c.args.self.now.led.each c.loop-journey.journey-index j c.loop-journey-test.true) in
    let rest = drop (c.loop-journey.journey-index + 1) js in
    let cut : drop c.loop-journey.journey-index js ≡ j ∷ rest = drop_more js c.loop-journey.journey-index j c.loop-journey-test.true ∙ ap (λ x. x ∷ rest) (sym c.journey-item.is) in
    let found : c.first_missed.result ≡ position_from is_none 1 (visits_of_train d routes (of_plan routes plan) t) = c.first_missed.ensures ∙ ap (position_from is_none 1) (c.as_slice.ensures.value ∙ is.train_path.visits) in
    let so_far = ap (λ xs. find (is_certain d routes plan 1) (flat_map (λ t. map (violation.Path t) (visit_numbers d t)) (map train xs))) (sym cut) ∙ c.loop-journey.invariant in
    sym (path_here d routes plan t (map train rest) c.first_missed.result c.in-Some.visit found c.in-Some.is) ∙ so_far

pub loop-journey-preserved : goal.loop-journey-preserved
loop-journey-preserved c =
    let d = c.args.self.now.interlocking.now.design.station in
    let routes = c.args.self.now.interlocking.now.routes in
    let plan = c.args.self.now.plan.now.steps in
    let js = c.as_slice-journey-items.result.now in
    let j = c.journey-item.result in
    let t = j.train_path.train in
    let train = λ (x : Journey). x.train_path.train in
    let is : IsJourney d routes (of_plan routes plan) j = subst (IsJourney d routes (of_plan routes plan)) (sym c.journey-item.is) (subst (All (IsJourney d routes (of_plan routes plan))) (sym c.as_slice-journey-items.ensures.value) c.args.self.now.led.each c.loop-journey.journey-index j c.loop-journey-test.true) in
    let rest = drop (c.loop-journey.journey-index + 1) js in
    let cut : drop c.loop-journey.journey-index js ≡ j ∷ rest = drop_more js c.loop-journey.journey-index j c.loop-journey-test.true ∙ ap (λ x. x ∷ rest) (sym c.journey-item.is) in
    let found : c.first_missed.result ≡ position_from is_none 1 (visits_of_train d routes (of_plan routes plan) t) = c.first_missed.ensures ∙ ap (position_from is_none 1) (c.as_slice.ensures.value ∙ is.train_path.visits) in
    let so_far = ap (λ xs. find (is_certain d routes plan 1) (flat_map (λ t. map (violation.Path t) (visit_numbers d t)) (map train xs))) (sym cut) ∙ c.loop-journey.invariant in
    sym (path_later d routes plan t (map train rest) c.first_missed.result found c.in_default.is) ∙ so_far
