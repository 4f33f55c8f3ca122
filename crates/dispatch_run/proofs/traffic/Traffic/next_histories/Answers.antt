use Rattle.std.proofs.Common.{◌≡◌, suc, ◌+◌, get_or, length, map, set, ap, sym, ◌∙◌, arith}
use Rattle.rail_base.specs.declared.history.TrainHistory.{TrainHistory}
use Rattle.rail_base.proofs.Members.{map-map}
use Rattle.quiet_spec.specs.Histories.{train_history}
use Rattle.dispatch_run.specs.declared.traffic.FollowedTrain.{FollowedTrain}
use Rattle.dispatch_run.proofs.Filling.{filled, none_filled, next_is, one_more, length-filled, all_made}
use Rattle.dispatch_run.proofs.Turning.{many_journeys, train_at, comes_off}
use Rattle.dispatch_run.proofs.traffic.Traffic.next_histories.Goals as goal

pub loop-i-init : goal.loop-i-init
loop-i-init g c =
    none_filled (λ (f : FollowedTrain) (h : TrainHistory). train_history c.args.self.now.interlocking.now.design.station c.args.self.now.interlocking.now.routes g.dispatch c.args.tick f.journey.train_path.train) c.args.self.now.followed_trains.now c.args.histories.items

pub index_mut-requires : goal.index_mut-requires
index_mut-requires g c =
    let make : FollowedTrain → TrainHistory → TrainHistory = λ f h. train_history c.args.self.now.interlocking.now.design.station c.args.self.now.interlocking.now.routes g.dispatch c.args.tick f.journey.train_path.train in
    let long = length-filled make c.loop-i.i c.args.self.now.followed_trains.now c.args.histories.items in
    let now = ap length c.loop-i.invariant in
    let len = c.loop-i.next.ok.0 in
    let many = many_journeys c.args.self.now.interlocking.now.design.station c.args.self.now.followed_trains.now c.requires.0.followed_trains.all in
    let count = c.requires.1.count in
    let less = c.loop-i-test.true in
    omega arith

pub mark_history-requires : goal.mark_history-requires
mark_history-requires g c =
    let d = c.args.self.now.interlocking.now.design.station in
    let make : FollowedTrain → TrainHistory → TrainHistory = λ f h. train_history d c.args.self.now.interlocking.now.routes g.dispatch c.args.tick f.journey.train_path.train in
    let js = c.args.self.now.followed_trains.now in
    let i = c.loop-i.i in
    let many = many_journeys d js c.requires.0.followed_trains.all in
    let less = c.loop-i-test.true in
    let number = train_at d js i c.index-self-i.result c.requires.0.followed_trains.all less in
    let off = c.index_mut.ensures.value ∙ ap (λ hs. get_or hs i c.index_mut.result.now) c.loop-i.invariant ∙ next_is make i js c.args.histories.items c.index_mut.result.now in (
      c.requires.0.followed_trains.each i c.index-self-i.result less,
      (
        c.requires.1.at_least_one,
        comes_off d c.args.self.now.interlocking.now.routes g.dispatch c.args.tick c.args.states.now c.args.looks.now c.args.histories.items i (get_or js i c.index-self-i.result).journey.train_path.train c.state_of.result c.look_of.result c.index_mut.result.now
            c.requires.1 number (omega arith) c.state_of.ensures c.look_of.ensures off,
      ),
    )

pub loop-i-preserved : goal.loop-i-preserved
loop-i-preserved g c =
    let d = c.args.self.now.interlocking.now.design.station in
    let make : FollowedTrain → TrainHistory → TrainHistory = λ f h. train_history d c.args.self.now.interlocking.now.routes g.dispatch c.args.tick f.journey.train_path.train in
    let js = c.args.self.now.followed_trains.now in
    let i = c.loop-i.i in
    let many = many_journeys d js c.requires.0.followed_trains.all in
    let count = c.requires.1.count in
    let less = c.loop-i-test.true in
    let one : suc i ≡ i + 1 = omega arith in
    ap (λ hs. set hs i c.mark_history.new.history) c.loop-i.invariant ∙ ap (set (filled make i js c.args.histories.items) i) c.in_ok-mark_history.ensures
    ∙ one_more make i js c.args.histories.items c.index-self-i.result c.index_mut.result.now less (omega arith) ∙ ap (λ n. filled make n js c.args.histories.items) one

pub returns : goal.returns
returns g c =
    let d = c.args.self.now.interlocking.now.design.station in
    let history = train_history d c.args.self.now.interlocking.now.routes g.dispatch c.args.tick in
    let js = c.args.self.now.followed_trains.now in
    let many = many_journeys d js c.requires.0.followed_trains.all in
    let count = c.requires.1.count in
    c.loop-i.invariant ∙ all_made (λ (f : FollowedTrain). history f.journey.train_path.train) c.loop-i.i js c.args.histories.items c.loop-i-test.false (omega arith)
    ∙ sym (map-map history (λ (f : FollowedTrain). f.journey.train_path.train) js) ∙ ap (map history) c.requires.0.followed_trains.all
