use Rattle.slice_spec.proofs.Slices.{whole_refutes}
use Rattle.slice_spec.proofs.laws.whole_cones_refute.Goals as goal

pub returns : goal.returns
returns c = λ d admitted routes n plan formed each last v in_time at. whole_refutes d routes n plan last v admitted formed each in_time at
