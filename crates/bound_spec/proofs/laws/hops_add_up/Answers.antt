use Rattle.bound_spec.proofs.Links.{clear, next, add, fewer}
use Rattle.bound_spec.proofs.laws.hops_add_up.Goals as goal

pub returns-clause-clear : goal.returns-clause-clear
returns-clause-clear c d routes plan e f z pre there x near k = clear d routes plan e f z pre there x k near

pub returns-clause-next : goal.returns-clause-next
returns-clause-next c d adm n plan well t i j order k = next d adm n plan well t i j k order

pub returns-clause-sum : goal.returns-clause-sum
returns-clause-sum c = add

pub returns-clause-fewer : goal.returns-clause-fewer
returns-clause-fewer c = fewer
