use Rattle.std.proofs.Common.{◌≡◌, List, [], ◌∷◌, ◌++◌, map, take, get_or, sym, ap, subst, ◌∙◌, arith}
use Rattle.std.specs.Global.{Vec}
use Rattle.std.proofs.lemmas.List.{map-append, take_all, take_more}
use Rattle.rail_base.specs.declared.route.RouteNo.{RouteNo}
use Rattle.rail_course.specs.declared.waits.Wait.{Wait}
use Rattle.rail_course.specs.Itineraries.{path_in, waiting_in}
use Rattle.rail_course.specs.Ready.{AreWaitsOf}
use Rattle.rail_course.proofs.Giving.{one_route_more}
use Rattle.cone_spec.specs.Cones.{of_cone}
use Rattle.cone_run.proofs.paths.ConePaths.waits_of_train.Goals as goal

pub loop-route-init : goal.loop-route-init
loop-route-init c = let items = c.new-waits.ensures.items in rw items tt

pub loop-route-preserved : goal.loop-route-preserved
loop-route-preserved c =
    let self = c.args.self.now in
    let given = self.train_paths.given in
    let d = given.interlocking.now.design.station in
    let routes = given.interlocking.now.routes in
    let run = waiting_in given (of_cone self.layout.cone.now).before in
    let rs = c.deref-route-items.result.now in
    let i = c.loop-route.route-index in
    let r = get_or rs i (record { 0 = 0 }) in
    let old = map (λ (v : Vec Wait). v.items) c.loop-route.waits.items in
    let own = c.in_ok-own.own.items in
    let made : map (λ (v : Vec Wait). v.items) c.push.new.self.items ≡ old ++ own ∷ [] = ap (map (λ (v : Vec Wait). v.items)) c.in_ok-push.ensures.items ∙ map-append (λ (v : Vec Wait). v.items) c.loop-route.waits.items (c.in_ok-own.own ∷ []) in
    subst (λ (qs : List RouteNo). AreWaitsOf d routes run c.args.train qs (map (λ (v : Vec Wait). v.items) c.push.new.self.items)) (sym (take_more rs i (record { 0 = 0 }) c.loop-route-test.true))
    (subst (AreWaitsOf d routes run c.args.train (take i rs ++ r ∷ [])) (sym made) (one_route_more d routes run c.args.train (take i rs) old r own c.loop-route.invariant c.in_ok-own.ensures))

pub returns : goal.returns
returns c =
    let self = c.args.self.now in
    let given = self.train_paths.given in
    let past = c.loop-route-test.false in
    let path : take c.loop-route.route-index c.deref-route-items.result.now ≡ path_in given c.args.train =
    take_all c.loop-route.route-index c.deref-route-items.result.now (omega (arith, past)) ∙ c.deref-route-items.ensures.value ∙ c.train_path-train_path.ensures.train_path.given ∙ ap (path_in given) c.train_path-train_path.ensures.train in
    subst (λ (qs : List RouteNo). AreWaitsOf given.interlocking.now.design.station given.interlocking.now.routes (waiting_in given (of_cone self.layout.cone.now).before) c.args.train qs (map (λ (v : Vec Wait). v.items) c.loop-route.waits.items)) path c.loop-route.invariant
