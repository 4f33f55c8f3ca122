use Rattle.std.proofs.Common.{rules, ◌≡◌, Bool, true, false, ◌==◌, refl, ap₂, true≢false, eqb-true, eq-eqb, sym}
use Rattle.std.proofs.lemmas.List.Filters.{dedup_is}
use Rattle.std.proofs.lemmas.List.Sorted.{IsNonDecreasingBy-from_sort_by_key}
use Rattle.rail_base.proofs.Members.{and_left, and_right, and_both}
use Rattle.sat_clause.specs.declared.lit.Lit.{Lit}
use Rattle.bound_clause.proofs.Ordering.{put_in_order}
use Rattle.bound_clause.proofs.order.put_in_order.Goals as goal
use mathlib.Core.Bool.{beq}

same_sign : (a b : Bool) → beq a b ≡ true → a ≡ b
same_sign true true h = refl
same_sign true false h = absurd (true≢false (sym h))
same_sign false true h = absurd (true≢false (sym h))
same_sign false false h = refl

sign_same : (a : Bool) → beq a a ≡ true
sign_same true = refl
sign_same false = refl

pub returns : goal.returns
returns c = put_in_order _
    (λ (x y : Lit) h. ap₂ (λ v s. record { var = v; negated = s }) (eqb-true x.var y.var (and_left (x.var == y.var) (beq x.negated y.negated) h)) (same_sign x.negated y.negated (and_right (x.var == y.var) (beq x.negated y.negated) h)))
    (λ (x : Lit). and_both (x.var == x.var) (beq x.negated x.negated) (eq-eqb x.var x.var refl) (sign_same x.negated))
    c.args.clause.now.items c.sort_unstable_by_key.new.self.items c.dedup.new.self.items c.sort_unstable_by_key.ensures.permutation
    (IsNonDecreasingBy-from_sort_by_key (λ (l : Lit). l.var) _ c.sort_unstable_by_key.ensures.sorted (λ a r q k. search rules)) (dedup_is _ _ _ c.dedup.ensures.filtered)
