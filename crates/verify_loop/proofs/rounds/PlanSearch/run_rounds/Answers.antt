use Rattle.verify_loop.specs.Asking.{TellsItself}
use Rattle.verify_loop.proofs.Told.{none_told, told_more}
use Rattle.verify_loop.proofs.rounds.PlanSearch.run_rounds.Goals as goal

pub rounds-init : goal.rounds-init
rounds-init g c = record {
  search = c.requires;
  told = none_told (TellsItself c.args.self.now) _;
}

pub rounds-preserved : goal.rounds-preserved
rounds-preserved g c = record {
  search = c.in-Ok.ensures.goes_on.0;
  told = told_more (TellsItself c.args.self.now) _ _ _ c.rounds.invariant.told c.refine.ensures.tells;
}

pub returns-in-Err-clause-tells : goal.returns-in-Err-clause-tells
returns-in-Err-clause-tells g c = told_more (TellsItself c.args.self.now) _ _ _ c.rounds.invariant.told c.refine.ensures.tells
