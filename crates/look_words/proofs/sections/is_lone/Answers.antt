use Rattle.std.proofs.Common.{refl}
use Rattle.look_words.proofs.sections.is_lone.Goals as goal

pub returns : goal.returns
returns c = rw (c.count_edges.ensures, c.as_slice.ensures) refl
