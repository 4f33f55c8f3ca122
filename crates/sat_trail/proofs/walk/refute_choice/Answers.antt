use Rattle.std.proofs.Common.{◌≡◌, ◌∷◌, [], ap, sym, ◌∙◌, map, arith, refl, subst, true, false, None, inl, inr, get_or}
use Rattle.std.proofs.lemmas.Grind.{common_steps}
use Rattle.std.proofs.lemmas.List.{get_or_default}
use Rattle.sat_clause.specs.Clauses.{opposite}
use Rattle.sat_clause.specs.Hints.{same_lit, is_assigned}
use Rattle.sat_trail.specs.declared.step.Step.{Step}
use Rattle.sat_trail.specs.Walks.{decided}
use Rattle.sat_trail.proofs.Standing.{stands-start, apart-one}
use Rattle.sat_trail.proofs.Members.{or-left, or-right, same-self, assigned-one}
use Rattle.sat_trail.proofs.Choice.{choice-walk, decided-take}
use Rattle.sat_trail.proofs.Places.{decided-at, behind-live, prefix-trail}
use Rattle.sat_trail.proofs.walk.refute_choice.Goals as goal

abbrev no_step : Step
no_step = record { lit = record { var = 0; negated = false }; level = 0; reason = None }

pub unreachable-requires : goal.unreachable-requires
unreachable-requires c =
    let k = c.place_of-place.result in
    let s = get_or c.args.steps.now k no_step in
    let e : s.lit ≡ opposite c.args.l = c.place_of-place.ensures.there no_step ∙ c.negate.ensures in
    c.requires.forced (subst (λ z. is_assigned (decided c.args.steps.now) z ≡ true) e (decided-at c.args.steps.now k s c.place_of-place.ensures.within (get_or_default c.args.steps.now k no_step s c.place_of-place.ensures.within) c.in_default.is))

pub clause-requires : goal.clause-requires
clause-requires c =
    let k = c.place_of-place.result in
    let s = get_or c.args.steps.now k no_step in
    let b = behind-live c.args.arena.now c.args.steps.now k c.in-Some.id s c.place_of-place.ensures.within (get_or_default c.args.steps.now k no_step s c.place_of-place.ensures.within) c.in-Some.is c.requires.trail in
    rw b.is_live refl

pub to_start-requires-clause-trail : goal.to_start-requires-clause-trail
to_start-requires-clause-trail c =
    let w = c.place_of-place.ensures.within in
    prefix-trail c.args.arena.now c.args.steps.now c.place_of-place.result (omega arith) c.requires.trail

pub to_start-requires-clause-walk : goal.to_start-requires-clause-walk
to_start-requires-clause-walk c =
    let k = c.place_of-place.result in
    let s = get_or c.args.steps.now k no_step in
    let e : s.lit ≡ opposite c.args.l = c.place_of-place.ensures.there no_step ∙ c.negate.ensures in
    let n : c.add_opposites.new.self ≡ map opposite c.clause.result.now = grind (arith, common_steps) in
    let b : c.push.new.self.items ≡ c.in-Some.id ∷ [] = grind (arith, common_steps) in
    let o : c.push-2.new.self.items ≡ c.args.l ∷ [] = grind (arith, common_steps) in
    rw (n, b, o) (choice-walk c.args.arena.now c.args.steps.now k c.in-Some.id s c.args.l c.clause.result.now c.place_of-place.ensures.within (get_or_default c.args.steps.now k no_step s c.place_of-place.ensures.within) e c.in-Some.is c.requires.trail c.clause.ensures)

pub returns-clause-only : goal.returns-clause-only
returns-clause-only c = λ k m.
    let o : c.push-2.new.self.items ≡ c.args.l ∷ [] = grind (arith, common_steps) in
    let kept : is_assigned c.to_start.new.kept.items k ≡ true = sym (c.in_ok-clause.ensures.names k ∙ ap (λ z. is_assigned z k) c.deref.ensures.value) ∙ m in
    elim (c.in_ok-levels.ensures.decided refl k kept) [
      | inl q ↦ (let e = assigned-one c.args.l k (subst (λ z. is_assigned z k ≡ true) o q) in or-left (same_lit k c.args.l) (is_assigned (decided c.args.steps.now) k) (subst (λ z. same_lit k z ≡ true) e (same-self k)))
      | inr q ↦ or-right (same_lit k c.args.l) (is_assigned (decided c.args.steps.now) k) (decided-take c.args.steps.now c.place_of-place.result k q)
    ]

pub to_start-requires-clause-stands : goal.to_start-requires-clause-stands
to_start-requires-clause-stands c =
    let n : c.add_opposites.new.self ≡ map opposite c.clause.result.now = grind (arith, common_steps) in
    stands-start c.args.arena.now _ c.clause.result.now c.in-Some.id c.clause.ensures n

pub to_start-requires-clause-apart : goal.to_start-requires-clause-apart
to_start-requires-clause-apart c =
    let o : c.push-2.new.self.items ≡ c.args.l ∷ [] = grind (arith, common_steps) in
    apart-one c.args.l _ o
