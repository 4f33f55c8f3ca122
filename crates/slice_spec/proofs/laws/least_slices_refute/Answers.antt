use Rattle.slice_spec.proofs.Alone.{least_refutes}
use Rattle.slice_spec.proofs.laws.least_slices_refute.Goals as goal

pub returns : goal.returns
returns c = λ d admitted routes n plan formed each last v in_time at k least. least_refutes d routes plan last n v admitted formed each in_time at k least
