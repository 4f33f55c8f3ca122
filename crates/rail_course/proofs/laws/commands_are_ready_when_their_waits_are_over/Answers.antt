use Rattle.rail_course.proofs.Waiting.{ready_when_over}
use Rattle.rail_course.proofs.laws.commands_are_ready_when_their_waits_are_over.Goals as goal

pub returns : goal.returns
returns c = λ d routes p ps e. ready_when_over d routes p ps e
