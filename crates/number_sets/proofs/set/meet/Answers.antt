use Rattle.std.proofs.Common.{sym, ◌∙◌}
use Rattle.std.proofs.lemmas.Bool.{false_from_ne_true}
use Rattle.number_sets.proofs.Words.{touch_at, touch_gives}
use Rattle.number_sets.proofs.set.meet.Goals as goal

pub returns-clause-common : goal.returns-clause-common
returns-clause-common c = λ h. touch_gives c.args.one.now c.args.other.now c.type_inv.one (sym c.touch.ensures ∙ h)

pub returns-clause-apart : goal.returns-clause-apart
returns-clause-apart c = λ h k p. false_from_ne_true _ (λ q. let e = sym h ∙ (c.touch.ensures ∙ touch_at c.args.one.now c.args.other.now k p q) in absurd (cc))
