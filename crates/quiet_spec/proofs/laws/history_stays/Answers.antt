use Rattle.quiet_spec.proofs.Staying.{history_same}
use Rattle.quiet_spec.proofs.laws.history_stays.Goals as goal

pub returns : goal.returns
returns c = λ d routes p k n quiet j near some. history_same d routes p k n some quiet j near
