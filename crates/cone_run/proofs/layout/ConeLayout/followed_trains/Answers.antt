use Rattle.std.proofs.Common.{◌≡◌, ◌<◌, ◌+◌, ◌++◌, [], All, drop, get_or, length, map, Some, refl, sym, ap, subst, ◌∙◌, arith}
use Rattle.std.proofs.lemmas.List.{append-nil, drop_all}
use Rattle.std.proofs.lemmas.List.Elements.{All-push}
use Rattle.cone_spec.specs.Cones.{of_cone}
use Rattle.rail_course.specs.declared.journey.Journey.{Journey}
use Rattle.rail_course.specs.Journeys.{IsJourney}
use Rattle.rail_course.proofs.Numbered.{map_step}
use Rattle.rail_course.proofs.Told.{first_left, rest_left, some_left}
use Rattle.dispatch_run.specs.declared.traffic.FollowedTrain.{FollowedTrain}
use Rattle.dispatch_run.specs.FollowedTrains.{IsFollowedTrain}
use Rattle.cone_run.proofs.Leading.{followed_train_is}
use Rattle.cone_run.proofs.layout.ConeLayout.followed_trains.Goals as goal

pub remove-journey-requires : goal.remove-journey-requires
remove-journey-requires c =
    let js = c.args.journeys.items in
    let n = c.loop-number._number in
    let count = c.len-number-end.ensures in
    let less = c.loop-number-test.true in
    let some = some_left js n (omega (arith, count, less)) in
    let left = ap length c.loop-number.invariant.left in
    let len = c.loop-number.left.ok.0 in
    omega (arith, left, some, len)

pub loop-number-preserved : goal.loop-number-preserved
loop-number-preserved c =
    let i = c.args.self.now.interlocking.now in
    let d = i.design.station in
    let routes = i.routes in
    let cone = c.args.self.now.cone.now in
    let js = c.args.journeys.items in
    let n = c.loop-number._number in
    let here = c.remove-journey.result in
    let count = c.len-number-end.ensures in
    let test = c.loop-number-test.true in
    let less : n < length js = omega (arith, count, test) in
    let is = c.remove-journey.ensures.value ∙ ap (λ ts. get_or ts 0 here) c.loop-number.invariant.left ∙ first_left js n here in
    let led : IsJourney d routes (of_cone cone) here = subst (IsJourney d routes (of_cone cone)) (sym is) (c.requires.each n here less) in
    let items = c.in_ok-push.ensures.items in
    record {
      left = c.remove-journey.ensures.items ∙ ap (drop 1) c.loop-number.invariant.left ∙ rest_left js n (n + 1) refl;
      each = subst (All (IsFollowedTrain d routes (of_cone cone))) (sym items) (All-push (IsFollowedTrain d routes (of_cone cone)) c.loop-number.followed_trains.items _ c.loop-number.invariant.each (followed_train_is d routes cone _ led (ap Some c.horizon_of.ensures)));
      all = map_step (λ (f : FollowedTrain). f.journey.train_path.train) (λ (j : Journey). j.train_path.train) c.loop-number.followed_trains.items c.push.new.self.items _ js n here _ less is items refl c.loop-number.invariant.all;
    }

pub returns : goal.returns
returns c =
    let js = c.args.journeys.items in
    let trains = map (λ (f : FollowedTrain). f.journey.train_path.train) c.loop-number.followed_trains.items in
    let count = c.len-number-end.ensures in
    let test = c.loop-number-test.false in
    let none : drop c.loop-number._number js ≡ [] = drop_all c.loop-number._number js (omega (arith, count, test)) in
    record {
      all = sym (append-nil trains) ∙ ap (λ ts. trains ++ map (λ (j : Journey). j.train_path.train) ts) (sym none) ∙ c.loop-number.invariant.all;
      each = c.loop-number.invariant.each;
    }
