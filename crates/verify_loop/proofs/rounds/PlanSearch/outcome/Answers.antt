use Rattle.std.proofs.Common.{sym, subst}
use Rattle.verify_loop.specs.Asking.{StopsAt}
use Rattle.verify_loop.specs.declared.rounds.Stop.TheVariants as stop
use Rattle.verify_loop.proofs.Alone.{ends_so, met_so}
use Rattle.verify_loop.proofs.rounds.PlanSearch.outcome.Goals as goal

pub returns-in-Met : goal.returns-in-Met
returns-in-Met c = met_so c.args.self.now c.requires.alone c.in-Met.search c.in-Met.plan c.in-Met.history c.in-Met.tick (subst (StopsAt c.args.self.now) c.in-Met.is c.requires.stops)

pub returns : goal.returns
returns c = ends_so c.args.self.now c.requires.alone c.in-Over.outcome (subst (StopsAt c.args.self.now) c.in-Over.is c.requires.stops)
