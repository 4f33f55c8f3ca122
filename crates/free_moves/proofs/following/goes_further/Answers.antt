use Rattle.std.proofs.Common.{sym, ◌∙◌}
use Rattle.free_moves.proofs.following.goes_further.Goals as goal

pub returns-else-is_next : goal.returns-else-is_next
returns-else-is_next c = c.if-is_next.false ∙ sym (c.is_next.ensures c.if-is_next.false)
