use Rattle.bound_spec.proofs.HopLaws.{run, on}
use Rattle.bound_spec.proofs.laws.hops_take_their_least_ticks.Goals as goal

pub returns-clause-run : goal.returns-clause-run
returns-clause-run c d adm n plan well t before l has some h y j later k = run d adm n plan well t before l has some h y j k later

pub returns-clause-on : goal.returns-clause-on
returns-clause-on c d adm n plan well t before l has h x y walk k = on d adm n plan well t before l has h x y k walk
