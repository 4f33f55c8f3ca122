use Rattle.rail_course.proofs.Giving.{all_waits_tell}
use Rattle.rail_course.proofs.laws.all_waits_give_what_is_ready.Goals as goal

pub returns : goal.returns
returns c = λ d routes p t. all_waits_tell d routes p t
