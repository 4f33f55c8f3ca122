use Rattle.cone_spec.proofs.Failing.{path_is}
use Rattle.cone_spec.proofs.Refusing.{rests_of}
use Rattle.cone_spec.proofs.laws.path_cones_name_whole_paths.Goals as goal

pub returns : goal.returns
returns c = λ d routes n k plan r t j e. path_is d routes n k plan (rests_of d routes n k plan r) t j e
