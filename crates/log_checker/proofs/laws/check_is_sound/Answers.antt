use Rattle.log_checker.proofs.ShownSo.{shown-so}
use Rattle.log_checker.proofs.laws.check_is_sound.Goals as goal

pub returns : goal.returns
returns c = shown-so
