use Rattle.base_spec.proofs.Alike.{begins_with_plain}
use Rattle.base_spec.proofs.laws.bases_begin_with_the_plain_one.Goals as goal

pub returns : goal.returns
returns c = begins_with_plain
