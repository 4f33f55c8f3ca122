use Rattle.bound_spec.proofs.Rides.{chain_takes, waits_take, chain_takes_from}
use Rattle.bound_spec.proofs.laws.chains_of_rides_take_their_ticks.Goals as goal

pub returns-clause-granted : goal.returns-clause-granted
returns-clause-granted c d adm n plan well r i ss ch h = chain_takes d adm n plan well h r i ss ch

pub returns-clause-waits : goal.returns-clause-waits
returns-clause-waits c d adm n plan well r i ss ch h = waits_take d adm n plan well h r i ss ch

pub returns-clause-passed : goal.returns-clause-passed
returns-clause-passed c d adm n plan well r i ss ch h from target ahead k = chain_takes_from d adm n plan well h from r i ss ch target k ahead
