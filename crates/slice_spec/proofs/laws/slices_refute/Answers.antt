use Rattle.slice_spec.proofs.Slices.{slice_refutes}
use Rattle.slice_spec.proofs.laws.slices_refute.Goals as goal

pub returns : goal.returns
returns c = λ d admitted routes n plan formed each last v in_time at h closed. slice_refutes d routes n plan last v admitted formed each in_time at h closed
