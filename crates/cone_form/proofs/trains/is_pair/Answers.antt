use Rattle.std.proofs.Common.{sym, ◌∙◌, true≢false}
use Rattle.cone_form.proofs.trains.is_pair.Goals.{then-is_marked, else-is_marked}
use Rattle.cone_form.proofs.trains.is_pair.Goals as goal

pub contend-requires-clause-first : goal.contend-requires-clause-first
contend-requires-clause-first c = elim c.if-is_marked.branch [
  | then-is_marked w ↦ c.requires c.args.pair.0 (sym c.is_marked.ensures ∙ w.if-is_marked.true)
  | else-is_marked w ↦ absurd (true≢false (sym c.if-is_marked-2.true ∙ (w.value-is ∙ w.if-is_marked.false)))
]

pub contend-requires-clause-second : goal.contend-requires-clause-second
contend-requires-clause-second c = elim c.if-is_marked.branch [
  | then-is_marked w ↦ c.requires c.args.pair.1 (sym w.is_marked-then-is_marked.ensures ∙ (sym w.value-is ∙ c.if-is_marked-2.true))
  | else-is_marked w ↦ absurd (true≢false (sym c.if-is_marked-2.true ∙ (w.value-is ∙ w.if-is_marked.false)))
]
