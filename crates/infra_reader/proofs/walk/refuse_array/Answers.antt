use Rattle.std.proofs.Common.{arith}
use Rattle.std.proofs.lemmas.Grind.{common_steps}
use Rattle.infra_reader.specs.Limits.{array_outside}
use Rattle.infra_reader.proofs.Places.{walk}
use Rattle.infra_reader.proofs.Visits.{count_seen}
use Rattle.infra_reader.proofs.walk.refuse_array.Goals as goal

pub returns : goal.returns
unfolding array_outside
returns g c = simp count_seen (grind (arith, common_steps, walk))

pub returns-in_err-refuse_count : goal.returns-in_err-refuse_count
unfolding array_outside
returns-in_err-refuse_count g c = simp count_seen (grind (arith, common_steps, walk))
