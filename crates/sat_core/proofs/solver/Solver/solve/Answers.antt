use Rattle.std.proofs.Common.{ℕ, ◌∙◌, ap, subst}
use Rattle.sat_trail.specs.declared.pace.Parts.{Parts}
use Rattle.sat_core.specs.Runs.{State, state_of}
use Rattle.sat_core.specs.Sparing.{IsSparing}
use Rattle.sat_core.proofs.Goes.{ends-same}
use Rattle.sat_core.proofs.solver.Solver.solve.Goals as goal

pub returns-clause-run : goal.returns-clause-run
returns-clause-run g c =
    let old : State = state_of c.args.self.now.arena (g.R.Recorder.text c.args.self.now.recorder) (g.R.Recorder.limit c.args.self.now.recorder) c.args.self.now.learnt.items c.args.self.now.derives in
    let start : State = state_of c.begin.new.self.arena (g.R.Recorder.text c.begin.new.self.recorder) (g.R.Recorder.limit c.begin.new.self.recorder) c.begin.new.self.learnt.items c.begin.new.self.derives in
    let end : State = state_of c.search-answer.new.self.arena (g.R.Recorder.text c.search-answer.new.self.recorder) (g.R.Recorder.limit c.search-answer.new.self.recorder) c.search-answer.new.self.learnt.items c.search-answer.new.self.derives in
    let new : State = state_of c.go_back.new.self.arena (g.R.Recorder.text c.go_back.new.self.recorder) (g.R.Recorder.limit c.go_back.new.self.recorder) c.go_back.new.self.learnt.items c.go_back.new.self.derives in
    ends-same c.args.assumptions.now old start end new c.args.self.now.vars c.begin.new.self.vars c.args.left c.search-answer.result c.begin.ensures.state c.go_back.ensures.state c.begin.ensures.vars c.search-answer.ensures.run

pub returns-clause-sparing : goal.returns-clause-sparing
returns-clause-sparing g c =
    let new = c.go_back.new.self in
    let P : ℕ → Type 0 = λ z. IsSparing z new.trail in
    subst P (c.go_back.ensures.vars ∙ c.search-answer.ensures.vars ∙ c.begin.ensures.vars) new.holds.4

pub returns-clause-parts : goal.returns-clause-parts
returns-clause-parts g c = (ap (λ (p : Parts). p.questions) c.go_back.ensures.parts ∙ c.search-answer.ensures.questions ∙ c.begin.ensures.questions, c.go_back.new.self.lines)
