-- Clauses are true where what is left of them is, with dead variables false.
use Rattle.std.proofs.Common.{◌≡◌, Bool, true, false, cond, not, ◌&&◌, ◌||◌, List, [], ◌∷◌, map, filter, refl, sym, ap, ◌∙◌}
use Rattle.std.specs.List.{list_all}
use Rattle.rail_base.specs.declared.plan.Command.{Command}
use Rattle.rail_base.proofs.Members.{and_left, and_right, list_any_gives, list_any_from}
use Rattle.clause_spec.specs.Variables.{Variable, Literal}
use Rattle.clause_spec.specs.Clauses.{Clause}
use Rattle.clause_spec.specs.Models.{literal_holds, holds}
use Rattle.live_clause_spec.specs.Variables.{is_dead}
use Rattle.live_clause_spec.specs.Clauses.{denies_dead, without_dead, with_dead_false}
use Rattle.live_clause_spec.proofs.Lists.{first_false, second_false}

module _ (live : Command → Bool) (says alive : Variable → Bool) (dead : (v : Variable) → is_dead live v ≡ true → says v ≡ false) (same : (v : Variable) → is_dead live v ≡ false → says v ≡ alive v) where
  denied : (l : Literal) → l.negated ≡ true → is_dead live l.variable ≡ true → literal_holds says l ≡ true
  denied l a b = ap (λ x. cond x (not (says l.variable)) (says l.variable)) a ∙ ap not (dead l.variable b)

  -- one that denies a dead variable is true
  pub denied_true : (cl : Clause) → denies_dead live cl ≡ true → holds says cl ≡ true
  denied_true cl h =
      let test : Literal → Bool = λ l. l.negated && is_dead live l.variable in
      let g = list_any_gives test cl h in
      list_any_from (literal_holds says) cl g.0 g.1 (denied g.0 (and_left g.0.negated (is_dead live g.0.variable) g.2) (and_right g.0.negated (is_dead live g.0.variable) g.2))

  -- in any other the literals of dead variables are false
  pub left_alike : (cl : Clause) → denies_dead live cl ≡ false → holds says cl ≡ holds alive (without_dead live cl)
  left_alike [] h = refl
  left_alike (l ∷ ls) h = go (is_dead live l.variable) refl h (left_alike ls)
    where
      not_said : l.negated ≡ false → is_dead live l.variable ≡ true → literal_holds says l ≡ false
      not_said a b = ap (λ x. cond x (not (says l.variable)) (says l.variable)) a ∙ dead l.variable b

      both_true : (a : Bool) → (a && true) ≡ false → a ≡ false
      both_true true e = e
      both_true false e = refl

      go : (b : Bool) → is_dead live l.variable ≡ b → (l.negated && b || denies_dead live ls) ≡ false → (denies_dead live ls ≡ false → holds says ls ≡ holds alive (without_dead live ls))
          → (literal_holds says l || holds says ls) ≡ holds alive (cond (not b) (l ∷ without_dead live ls) (without_dead live ls))
      go true e k rest =
          ap (λ x. x || holds says ls) (not_said (both_true l.negated (first_false (l.negated && true) (denies_dead live ls) k)) e)
          ∙ rest (second_false (l.negated && true) (denies_dead live ls) k)
      go false e k rest =
          let a : literal_holds says l ≡ literal_holds alive l = ap (λ b. cond l.negated (not b) b) (same l.variable e) in
          ap (λ x. x || holds says ls) a ∙ ap (λ x. literal_holds alive l || x) (rest (second_false (l.negated && false) (denies_dead live ls) k))

  pub all_left : (cls : List Clause) → list_all (holds alive) (with_dead_false live cls) ≡ list_all (holds says) cls
  all_left [] = refl
  all_left (cl ∷ cls) = go (denies_dead live cl) refl (all_left cls)
    where
      go : (b : Bool) → denies_dead live cl ≡ b → list_all (holds alive) (with_dead_false live cls) ≡ list_all (holds says) cls
          → list_all (holds alive) (map (without_dead live) (cond (not b) (cl ∷ filter (λ c. not (denies_dead live c)) cls) (filter (λ c. not (denies_dead live c)) cls))) ≡ (holds says cl && list_all (holds says) cls)
      go true e rest = rest ∙ sym (ap (λ x. x && list_all (holds says) cls) (denied_true cl e))
      go false e rest = ap (λ x. x && list_all (holds alive) (with_dead_false live cls)) (sym (left_alike cl e)) ∙ ap (λ x. holds says cl && x) rest
