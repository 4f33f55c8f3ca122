use Rattle.rail_course.proofs.Granting.{in_range}
use Rattle.rail_course.proofs.laws.plans_are_in_range.Goals as goal

pub returns : goal.returns
returns c = λ d adm n plan formed many. in_range d adm n plan formed many
