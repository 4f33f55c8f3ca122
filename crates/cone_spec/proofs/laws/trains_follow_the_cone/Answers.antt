use Rattle.cone_spec.proofs.Failing.{follows}
use Rattle.cone_spec.proofs.Refusing.{rests_of}
use Rattle.cone_spec.proofs.laws.trains_follow_the_cone.Goals as goal

pub returns : goal.returns
returns c = λ d routes n k plan r tick t l. let f = follows d routes n k plan (rests_of d routes n k plan r) tick t l in (f.state, f.no_waiting)
