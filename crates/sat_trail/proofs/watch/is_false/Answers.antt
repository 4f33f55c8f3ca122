use Rattle.std.proofs.Common.{◌≡◌, Bool, not, true, false, refl, ap, sym, ◌∙◌, subst, inl, inr}
use Rattle.sat_clause.specs.Clauses.{opposite}
use Rattle.sat_clause.specs.Hints.{same_lit, is_assigned}
use Rattle.sat_trail.specs.Trails.{lits}
use Rattle.sat_trail.proofs.Members.{told, same-equal, open-none}
use Rattle.sat_trail.proofs.Watched.{unit-only}
use Rattle.sat_trail.proofs.watch.is_false.Goals as goal

not-true : (b : Bool) → not b ≡ true → b ≡ false
not-true true h = absurd (cc)
not-true false h = refl

not-false : (b : Bool) → not b ≡ false → b ≡ true
not-false true h = refl
not-false false h = absurd (cc)

pub returns-then-holds-clause-yes : goal.returns-then-holds-clause-yes
returns-then-holds-clause-yes c = λ t.
    let assigned = lits c.args.trail.now.steps in
    let f : is_assigned assigned (opposite c.args.other) ≡ true = ap (is_assigned assigned) (sym c.negate.ensures) ∙ sym c.if-holds.ensures in
    open-none assigned c.args.clause.now (λ l m. elim (told (same_lit l c.args.other)) [
      | inl s ↦ subst (λ z. is_assigned assigned (opposite z) ≡ true) (sym (same-equal l c.args.other s)) f
      | inr s ↦ c.requires.others l m s
    ])

pub returns-else-holds-clause-yes : goal.returns-else-holds-clause-yes
returns-else-holds-clause-yes c = λ t.
    let assigned = lits c.args.trail.now.steps in
    open-none assigned c.args.clause.now (λ l m. elim (told (same_lit l c.args.other)) [
      | inl s ↦ (let y : is_assigned c.args.clause.now c.args.other ≡ true = subst (λ z. is_assigned c.args.clause.now z ≡ true) (same-equal l c.args.other s) m in let h = not-true c.has.result t in let k = c.has.ensures in let z : true ≡ false = sym y ∙ sym k ∙ h in absurd (cc))
      | inr s ↦ c.requires.others l m s
    ])

pub returns-else-holds-clause-no : goal.returns-else-holds-clause-no
returns-else-holds-clause-no c = λ t.
    let assigned = lits c.args.trail.now.steps in
    let h : is_assigned c.args.clause.now c.args.other ≡ true = sym c.has.ensures ∙ not-false c.has.result t in
    let f : is_assigned assigned (opposite c.args.other) ≡ false = ap (is_assigned assigned) (sym c.negate.ensures) ∙ sym c.if-holds.ensures in
    unit-only assigned c.args.clause.now c.args.other h c.requires.not_true f c.requires.others
