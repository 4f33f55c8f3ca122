use Rattle.slice_spec.proofs.PathSlices.{path_refutes}
use Rattle.slice_spec.proofs.laws.path_cones_refute.Goals as goal

pub returns : goal.returns
returns c = λ d routes n plan formed t j given visit missed. path_refutes d routes n plan t j formed given visit missed
