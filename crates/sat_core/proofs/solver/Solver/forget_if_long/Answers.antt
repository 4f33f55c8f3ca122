use Rattle.std.proofs.Common.{◌≡◌}
use Rattle.sat_core.specs.Runs.{State, IsForgot, Forgot, state_of}
use Rattle.sat_trail.proofs.Attaching.{on-either}
use Rattle.sat_core.proofs.Forgets.{forgot-one, forgot-none, forgot-same}
use Rattle.sat_core.proofs.solver.Solver.forget_if_long.Goals as goal

pub returns-then-not-may_forget-clause-gone : goal.returns-then-not-may_forget-clause-gone
returns-then-not-may_forget-clause-gone g c = λ a. forgot-none a _

pub returns-clause-gone : goal.returns-clause-gone
returns-clause-gone g c = λ a.
    let old : State = (state_of c.args.self.now.arena (g.R.Recorder.text c.args.self.now.recorder) (g.R.Recorder.limit c.args.self.now.recorder) c.args.self.now.learnt.items c.args.self.now.derives) in
    let new : State = (state_of c.forget.new.self.arena (g.R.Recorder.text c.forget.new.self.recorder) (g.R.Recorder.limit c.forget.new.self.recorder) c.forget.new.self.learnt.items c.forget.new.self.derives) in
    on-either c.forget.result (IsForgot old new c.index-id.result.now) (new ≡ old) (Forgot a old new) c.forget.ensures.gone c.forget.ensures.err
    (λ f. forgot-one a old new c.index-id.result.now (c.may_forget.ensures.may c.if-not-may_forget.false) f)
    (λ e. forgot-same a old old new e (forgot-none a old))
