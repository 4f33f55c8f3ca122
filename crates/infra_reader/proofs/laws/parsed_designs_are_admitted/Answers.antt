use Rattle.infra_reader.proofs.Reading.{spelled_admitted}
use Rattle.infra_reader.proofs.laws.parsed_designs_are_admitted.Goals as goal

pub returns : goal.returns
returns c = spelled_admitted
