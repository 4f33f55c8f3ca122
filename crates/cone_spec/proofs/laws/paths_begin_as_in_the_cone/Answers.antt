use Rattle.cone_spec.proofs.Fitting.{whole_prefix}
use Rattle.cone_spec.proofs.Refusing.{rests_of}
use Rattle.cone_spec.proofs.laws.paths_begin_as_in_the_cone.Goals as goal

pub returns : goal.returns
returns c = λ d routes n k plan r t. let f = whole_prefix d routes n k plan (rests_of d routes n k plan r) t in record { rest = f.0; whole = f.1 }
