use Rattle.std.proofs.Common.{◌≡◌, sym, subst, IfOk}
use Rattle.log_checker.specs.Verdict.{log_verdict}
use Rattle.log_checker.proofs.ShownSo.{shown-so}
use Rattle.log_checker.proofs.judge.judge_log.Goals as goal

pub returns-clause-sound : goal.returns-clause-sound
returns-clause-sound g c = λ k e.
    shown-so c.args.head (g.R.Refuter.refute c.args.refuter.now) c.args.variables c.args.base k c.args.bytes.now
    (sym (subst (λ r. IfOk r (λ shown. shown ≡ log_verdict c.args.head (g.R.Refuter.refute c.args.refuter.now) c.args.variables c.args.base c.args.bytes.now)) e c.result_of.ensures))
