use Rattle.std.proofs.Common.{◌≡◌, true, false, sym, subst, List, inl, inr}
use Rattle.sat_clause.specs.declared.lit.Lit.{Lit}
use Rattle.sat_clause.specs.Clauses.{opposite}
use Rattle.sat_clause.specs.Hints.{same_lit, is_assigned}
use Rattle.sat_trail.specs.Trails.{lits}
use Rattle.sat_trail.proofs.Members.{assigned-split, assigned-before, assigned-from, some-map, none-map}
use Rattle.sat_trail.proofs.watch.replacement.Goals as goal

pub returns-in-Some-clause-member : goal.returns-in-Some-clause-member
returns-in-Some-clause-member c = assigned-from c.if-start-clause.first c.args.clause.now c.in-Some.l (subst (λ z. is_assigned z c.in-Some.l ≡ true) c.from_place.ensures c.in-Some.ensures.member)

pub returns-clause-member : goal.returns-clause-member
returns-clause-member c = some-map c.open_literal-2.result (λ l. is_assigned c.before-2.result.now l ≡ true) (λ l. is_assigned c.args.clause.now l ≡ true) (λ l m. assigned-before c.if-start-clause.first c.args.clause.now l (subst (λ z. is_assigned z l ≡ true) c.before-2.ensures m)) c.open_literal-2.ensures.member

pub returns-clause-none : goal.returns-clause-none
returns-clause-none c =
    let AllFalse : List Lit → Type 0 = λ ls. (l : Lit) → is_assigned ls l ≡ true → same_lit l c.args.other ≡ false → is_assigned (lits c.args.trail.now.steps) (opposite l) ≡ true in
    none-map c.open_literal-2.result (AllFalse c.before-2.result.now) (AllFalse c.args.clause.now)
    (λ f l m ne. elim (assigned-split c.if-start-clause.first c.args.clause.now l m) [
      | inl q ↦ f l (subst (λ z. is_assigned z l ≡ true) (sym c.before-2.ensures) q) ne
      | inr q ↦ c.in_default.ensures.none l (subst (λ z. is_assigned z l ≡ true) (sym c.from_place.ensures) q) ne
    ])
    c.open_literal-2.ensures.none
