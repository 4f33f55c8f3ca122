use Rattle.std.proofs.Common.{◌≡◌, map, slice_get, ap, ap₂, sym, ◌∙◌, subst}
use Rattle.rail_base.proofs.Admitting.{admitted}
use Rattle.rail_base.specs.declared.state.TrainState.{TrainState}
use Rattle.rail_spec.specs.Dispatches.{of_plan, moved, state_of}
use Rattle.rail_course.specs.Ready.{GiveWhatIsReady}
use Rattle.rail_course.specs.Granting.{granted_on}
use Rattle.rail_course.specs.Runs.{CanMove}
use Rattle.rail_course.proofs.Reaching.{granted_is, can_move_on}
use Rattle.tick_sim.specs.Running.{granted_in}
use Rattle.tick_sim.proofs.ride.Ride.next_state.Goals as goal

pub move_train-requires : goal.move_train-requires
move_train-requires c =
    let r = c.args.self.now.run.now in
    let d = r.interlocking.now.design.station in
    let routes = r.interlocking.now.routes in
    let plan = r.plan.now.steps in
    let t = c.args.self.now.journey.now.train_path.train in
    let s = c.args.states.now in
    let hs = c.args.histories.now in
    let k = c.requires.0 in
    let train = c.args.self.now.led.train_path.train in
    let here = c.state_of-state.ensures in
    let tell = subst (GiveWhatIsReady d routes (of_plan routes plan) t) (sym (ap (map (λ v. v.items)) c.as_slice.ensures.value)) c.args.self.now.led.telling in
    let grant : c.granted_on-granted.result ≡ granted_in r k t =
    c.granted_on-granted.ensures ∙ ap (λ (x : TrainState). granted_on s hs x.granted (slice_get (map (λ v. v.items) c.as_slice.result.now) x.granted)) here
    ∙ granted_is d routes plan k s hs c.requires.1 t train (map (λ v. v.items) c.as_slice.result.now) tell in
    let able = can_move_on d (admitted d r.interlocking.now.design.admitted) routes r.interlocking.now.table plan r.formed k s hs c.requires.1 t train in
    subst (λ g. CanMove d routes plan t g c.state_of-state.result) (sym grant) (subst (λ x. CanMove d routes plan t (granted_in r k t) x) (sym here) able)

pub returns : goal.returns
returns c = λ k reached.
    let r = c.args.self.now.run.now in
    let d = r.interlocking.now.design.station in
    let routes = r.interlocking.now.routes in
    let plan = r.plan.now.steps in
    let t = c.args.self.now.journey.now.train_path.train in
    let s = c.args.states.now in
    let hs = c.args.histories.now in
    let here = c.state_of-state.ensures in
    let tell = subst (GiveWhatIsReady d routes (of_plan routes plan) t) (sym (ap (map (λ v. v.items)) c.as_slice.ensures.value)) c.args.self.now.led.telling in
    let grant : c.granted_on-granted.result ≡ granted_in r k t =
    c.granted_on-granted.ensures ∙ ap (λ (x : TrainState). granted_on s hs x.granted (slice_get (map (λ v. v.items) c.as_slice.result.now) x.granted)) here
    ∙ granted_is d routes plan k s hs reached t c.args.self.now.led.train_path.train (map (λ v. v.items) c.as_slice.result.now) tell in
    c.move_train.ensures ∙ ap₂ (moved d routes (of_plan routes plan) t) (here ∙ ap (λ x. state_of x t) reached.is) grant
