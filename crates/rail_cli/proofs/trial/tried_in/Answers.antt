use Rattle.std.proofs.Common.{◌*◌, subst}
use Rattle.verify_loop.specs.declared.outcome.Aim.{Aim}
use Rattle.verify_loop.specs.declared.outcome.Budgets.{Budgets}
use Rattle.verify_loop.specs.Outcomes.{IsOutcome, Fits}
use Rattle.verify_loop.specs.Telling.{TellsHowFar}
use Rattle.rail_cli.specs.Answers.{budgets_of, trial_conflicts, trial_ticks}
use Rattle.rail_cli.proofs.trial.tried_in.Goals as goal

pub returns-clause-replies : goal.returns-clause-replies
returns-clause-replies g c =
    let d = c.args.interlocking.now.design.station in
    let found = c.verify-found.result in
    let says = subst (λ (b : Budgets). IsOutcome c.aim_of.result d (2 * c.args.size) b found) c.budgets-budgets.ensures c.verify-found.ensures.says in (
      found,
      subst (λ (m : Aim). IsOutcome m d (2 * c.args.size) (budgets_of trial_conflicts trial_ticks) found) c.aim_of.ensures says,
      subst (λ (m : Aim). Fits m d (2 * c.args.size) found) c.aim_of.ensures c.verify-found.ensures.fits,
      c.make_reply.ensures.replies,
    )

pub returns-clause-tells : goal.returns-clause-tells
returns-clause-tells g c = subst (λ (m : Aim). TellsHowFar m c.args.interlocking.now.design.station (2 * c.args.size) (g.P.Sink.puts c.args.progress.now) (g.P.Sink.puts c.verify-found.new.progress)) c.aim_of.ensures c.verify-found.ensures.tells
