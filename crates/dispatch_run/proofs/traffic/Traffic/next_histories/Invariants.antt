use Rattle.std.proofs.Common.{◌≡◌}
use Rattle.rail_base.specs.declared.history.TrainHistory.{TrainHistory}
use Rattle.quiet_spec.specs.Histories.{train_history}
use Rattle.dispatch_run.specs.declared.traffic.FollowedTrain.{FollowedTrain}
use Rattle.dispatch_run.proofs.Filling.{filled}
use Rattle.dispatch_run.proofs.traffic.Traffic.next_histories.Given as goal

-- the first histories are those of the tick, and the others as they were
abbrev pub invariant-loop-i : goal.invariant-loop-i
invariant-loop-i g l =
    l.next.items
    ≡ filled (λ (f : FollowedTrain) (h : TrainHistory). train_history l.self.interlocking.now.design.station l.self.interlocking.now.routes g.dispatch l.tick f.journey.train_path.train) l.i l.self.followed_trains.now l.fn.histories.items

abbrev pub ghost-mark_history : goal.ghost-mark_history
ghost-mark_history g a = g.dispatch
