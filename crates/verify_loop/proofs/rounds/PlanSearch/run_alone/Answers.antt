use Rattle.verify_loop.proofs.Alone.{ends_so, tells_alone}
use Rattle.verify_loop.proofs.rounds.PlanSearch.run_alone.Goals as goal

pub returns-in-Ok-clause-tells : goal.returns-in-Ok-clause-tells
returns-in-Ok-clause-tells g c = tells_alone c.args.self.now c.requires.alone _ _ c.run_rounds.ensures.tells

pub returns-in-Err-clause-says : goal.returns-in-Err-clause-says
returns-in-Err-clause-says g c = ends_so c.args.self.now c.requires.alone c.in-Err.outcome c.in-Err.ensures.ends
