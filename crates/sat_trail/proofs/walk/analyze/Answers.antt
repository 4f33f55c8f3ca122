use Rattle.std.proofs.Common.{◌≡◌, ◌∷◌, [], ap, sym, ◌∙◌, subst, arith, take, true, List, map, ℕ, inl, inr}
use Rattle.std.proofs.lemmas.List.{take-map}
use Rattle.sat_clause.specs.declared.lit.Lit.{Lit}
use Rattle.sat_clause.specs.Clauses.{opposite}
use Rattle.sat_clause.specs.Hints.{is_assigned}
use Rattle.sat_trail.specs.declared.step.Step.{Step}
use Rattle.sat_trail.specs.Trails.{lits}
use Rattle.sat_trail.specs.Walks.{KeepsOf}
use Rattle.sat_trail.proofs.Standing.{stands-start, apart-one, all-stand}
use Rattle.sat_trail.proofs.Members.{assigned-one, assigned-self, opposites-assigned, opposite-twice}
use Rattle.sat_trail.proofs.Explains.{walk-start}
use Rattle.sat_trail.proofs.Closes.{none-open, new-clause}
use Rattle.sat_trail.proofs.Places.{prefix-trail, trail-consistent, some-same, prefix-assigned}
use Rattle.std.proofs.lemmas.Grind.{common_steps}
use Rattle.sat_trail.proofs.walk.analyze.Goals as goal

-- the literals of the trail's prefix, either way
prefix : (steps : List Step) (base : ℕ) → take base (lits steps) ≡ lits (take base steps)
prefix steps base = take-map (λ (z : Step). z.lit) base steps

pub to_unique-requires-clause-walk : goal.to_unique-requires-clause-walk
to_unique-requires-clause-walk c =
    let f = c.requires.conflict in
    let e : f.clause ≡ c.clause.result.now = some-same f.clause c.clause.result.now (sym f.is_live ∙ c.clause.ensures) in
    let n : c.add_opposites.new.self ≡ map opposite c.clause.result.now = grind (arith, common_steps) in
    let b : c.push.new.self.items ≡ c.args.conflict ∷ [] = grind (arith, common_steps) in
    rw (n, b, ← e) (walk-start c.args.arena.now (lits c.args.steps.now) c.args.conflict f.clause f.is_live (λ l m. none-open (lits c.args.steps.now) f.clause l f.none_open m))

pub to_start-requires-clause-trail : goal.to_start-requires-clause-trail
to_start-requires-clause-trail c = prefix-trail c.args.arena.now c.args.steps.now c.args.base c.requires.base c.requires.trail

pub to_start-requires-clause-walk : goal.to_start-requires-clause-walk
to_start-requires-clause-walk c =
    let k : c.push-2.new.self.items ≡ c.in_ok-unique.unique ∷ [] = grind (arith, common_steps) in
    rw (k, ← prefix c.args.steps.now c.args.base) c.in_ok-unique.ensures.walk

pub returns-clause-new : goal.returns-clause-new
returns-clause-new c =
    let u = c.in_ok-unique.unique in
    let k : c.push-2.new.self.items ≡ u ∷ [] = grind (arith, common_steps) in
    let w = c.in_ok-unique.ensures.walk in
    let kept = c.to_start.new.kept.items in
    let fresh = w.apart u (assigned-self u) in
    let names : (l : Lit) → is_assigned (map opposite c.in_ok-clause.clause.items) l ≡ is_assigned kept l = λ l. (c.in_ok-clause.ensures.names l ∙ ap (λ z. is_assigned z l) c.deref.ensures.value) in
    new-clause c.args.arena.now (take c.args.base (lits c.args.steps.now)) kept c.in_ok-clause.clause.items u c.requires.closed
    (trail-consistent c.args.arena.now c.args.steps.now c.args.base c.requires.trail c.requires.base)
    fresh.not_negated
    (c.in_ok-levels.ensures.grows u (rw k (assigned-self u)))
    (λ l m. elim (c.in_ok-levels.ensures.kept l m) [
      | inl q ↦ inl (assigned-one u l (subst (λ z. is_assigned z l ≡ true) k q))
      | inr q ↦ inr (subst (λ z. is_assigned z l ≡ true) (sym (prefix c.args.steps.now c.args.base)) q)
    ])
    (λ l m. names l ∙ m)
    (λ l m. sym (names l) ∙ m)

pub returns-clause-only : goal.returns-clause-only
returns-clause-only c = λ l m.
    let u = c.in_ok-unique.unique in
    let k : c.push-2.new.self.items ≡ u ∷ [] = grind (arith, common_steps) in
    let kept : is_assigned c.to_start.new.kept.items l ≡ true = sym (c.in_ok-clause.ensures.names l ∙ ap (λ z. is_assigned z l) c.deref.ensures.value) ∙ m in
    elim (c.in_ok-levels.ensures.kept l kept) [
      | inl q ↦ subst (λ z. is_assigned (lits c.args.steps.now) z ≡ true) (sym (assigned-one u l (subst (λ z. is_assigned z l ≡ true) k q))) c.in_ok-unique.ensures.member
      | inr q ↦ prefix-assigned c.args.steps.now c.args.base l q
    ]

pub returns-clause-beyond : goal.returns-clause-beyond
returns-clause-beyond c =
    let u = c.in_ok-unique.unique in
    let k : c.push-2.new.self.items ≡ u ∷ [] = grind (arith, common_steps) in
    let fresh = c.in_ok-unique.ensures.walk.apart u (assigned-self u) in
    let kept : is_assigned c.to_start.new.kept.items u ≡ true = c.in_ok-levels.ensures.grows u (rw k (assigned-self u)) in
    let named : is_assigned (map opposite c.in_ok-clause.clause.items) u ≡ true = c.in_ok-clause.ensures.names u ∙ ap (λ z. is_assigned z u) c.deref.ensures.value ∙ kept in
    (opposite u, opposites-assigned c.in_ok-clause.clause.items u named, ap (λ z. is_assigned (take c.args.base (lits c.args.steps.now)) z) (opposite-twice u) ∙ fresh.not_assigned)

pub to_unique-requires-clause-stands : goal.to_unique-requires-clause-stands
to_unique-requires-clause-stands c =
    let n : c.add_opposites.new.self ≡ map opposite c.clause.result.now = grind (arith, common_steps) in
    stands-start c.args.arena.now _ c.clause.result.now c.args.conflict c.clause.ensures n

pub to_start-requires-clause-apart : goal.to_start-requires-clause-apart
to_start-requires-clause-apart c =
    let k : c.push-2.new.self.items ≡ c.in_ok-unique.unique ∷ [] = grind (arith, common_steps) in
    apart-one c.in_ok-unique.unique _ k

pub returns-clause-stand : goal.returns-clause-stand
returns-clause-stand c =
    let u = c.in_ok-unique.unique in
    let k : c.push-2.new.self.items ≡ u ∷ [] = grind (arith, common_steps) in
    let kept = c.to_start.new.kept.items in
    let names : (l : Lit) → is_assigned (map opposite c.in_ok-clause.clause.items) l ≡ is_assigned kept l = λ l. (c.in_ok-clause.ensures.names l ∙ ap (λ z. is_assigned z l) c.deref.ensures.value) in
    let P : List Lit → Type 0 = λ z. KeepsOf z kept c.to_start.new.needed in
    all-stand c.args.arena.now kept c.in_ok-clause.clause.items c.to_start.new.needed u names (subst P k c.in_ok-levels.ensures.needed) c.in_ok-unique.ensures.stands_too c.in_ok-levels.ensures.stands
