use Rattle.std.proofs.Common.{refl, ◌∙◌}
use Rattle.fault_words.proofs.Seen.{got}
use Rattle.fault_words.proofs.entries.entry.Goals as goal

pub returns : goal.returns
returns g c = got _ _ _ c.get.ensures.lookup.3 ∙ rw c.saturating_sub.ensures refl
