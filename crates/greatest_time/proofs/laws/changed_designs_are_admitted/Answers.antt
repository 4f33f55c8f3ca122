use Rattle.greatest_time.proofs.Admitted.{stays_admitted, passes_admission}
use Rattle.greatest_time.proofs.laws.changed_designs_are_admitted.Goals as goal

pub returns-clause-admitted : goal.returns-clause-admitted
returns-clause-admitted c = stays_admitted

pub returns-clause-test : goal.returns-clause-test
returns-clause-test c = passes_admission
