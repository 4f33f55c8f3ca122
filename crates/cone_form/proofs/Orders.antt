-- The order of commands and of pairs of them, and lists in that order.
use Rattle.std.proofs.Common.{◌≡◌, ℕ, zero, suc, ◌<◌, ◌⊎◌, inl, inr, Bool, true, ◌&&◌, ◌==◌, nat_lt, List, [], ◌∷◌, get_or, length, refl, sym, subst, ◌∙◌, arith, leb-true, le-leb, eqb-true, eq-eqb}
use Rattle.std.specs.List.{list_all}
use Rattle.rail_base.specs.declared.plan.Command.{Command}
use Rattle.rail_base.specs.Members.{all_pairs, all_neighbors}
use Rattle.rail_base.proofs.Members.{In, and_left, and_right, and_both, either, or_left, or_right, list_all_at}
use Rattle.rail_base.proofs.Lists.{list_all_from}
use Rattle.rail_spec.specs.Plans.{is_command}
use Rattle.cone_spec.specs.Validity.{is_before, is_pair_before}
use Rattle.cone_spec.proofs.Saying.{is_command_same, is_command_self}

-- what `is_before` says
abbrev pub Less : Command → Command → Type 0
Less c e = (c.train.0 < e.train.0) ⊎ ((c.train.0 ≡ e.train.0) × (c.route.0 < e.route.0))

pub less : (c e : Command) → is_before c e ≡ true → Less c e
less c e h = go (either (nat_lt c.train.0 e.train.0) ((c.train.0 == e.train.0) && nat_lt c.route.0 e.route.0) h)
  where
    go : (nat_lt c.train.0 e.train.0 ≡ true) ⊎ (((c.train.0 == e.train.0) && nat_lt c.route.0 e.route.0) ≡ true) → Less c e
    go (inl x) = inl (leb-true _ _ x)
    go (inr x) = inr (eqb-true c.train.0 e.train.0 (and_left (c.train.0 == e.train.0) (nat_lt c.route.0 e.route.0) x), leb-true _ _ (and_right (c.train.0 == e.train.0) (nat_lt c.route.0 e.route.0) x))

pub from_less : (c e : Command) → Less c e → is_before c e ≡ true
from_less c e (inl x) = or_left (nat_lt c.train.0 e.train.0) _ (le-leb _ _ x)
from_less c e (inr (x, y)) = or_right (nat_lt c.train.0 e.train.0) _ (and_both _ _ (eq-eqb c.train.0 e.train.0 x) (le-leb _ _ y))

pub less_on : (c e f : Command) → Less c e → Less e f → Less c f
less_on c e f (inl x) (inl y) = inl (omega arith)
less_on c e f (inl x) (inr (y, z)) = inl (omega arith)
less_on c e f (inr (x, w)) (inl y) = inl (omega arith)
less_on c e f (inr (x, w)) (inr (y, z)) = inr (omega arith, omega arith)

pub not_both : (c e : Command) → Less c e → Less e c → ⊥
not_both c e (inl x) (inl y) = absurd (omega arith)
not_both c e (inl x) (inr (y, z)) = absurd (omega arith)
not_both c e (inr (x, w)) (inl y) = absurd (omega arith)
not_both c e (inr (x, w)) (inr (y, z)) = absurd (omega arith)

-- ---- pairs

-- what `is_pair_before` says
abbrev pub PairLess : Command × Command → Command × Command → Type 0
PairLess p q = Less p.0 q.0 ⊎ ((p.0 ≡ q.0) × Less p.1 q.1)

pub pair_less : (p q : Command × Command) → is_pair_before p q ≡ true → PairLess p q
pair_less p q h = go (either (is_before p.0 q.0) (is_command p.0 q.0 && is_before p.1 q.1) h)
  where
    go : (is_before p.0 q.0 ≡ true) ⊎ ((is_command p.0 q.0 && is_before p.1 q.1) ≡ true) → PairLess p q
    go (inl x) = inl (less p.0 q.0 x)
    go (inr x) = inr (is_command_same p.0 q.0 (and_left (is_command p.0 q.0) (is_before p.1 q.1) x), less p.1 q.1 (and_right (is_command p.0 q.0) (is_before p.1 q.1) x))

from_pair_less : (p q : Command × Command) → PairLess p q → is_pair_before p q ≡ true
from_pair_less p q (inl x) = or_left (is_before p.0 q.0) _ (from_less p.0 q.0 x)
from_pair_less p q (inr (e, y)) = or_right (is_before p.0 q.0) _ (and_both _ _ (subst (λ c. is_command p.0 c ≡ true) e (is_command_self p.0)) (from_less p.1 q.1 y))

pub pair_on : (p q r : Command × Command) → is_pair_before p q ≡ true → is_pair_before q r ≡ true → is_pair_before p r ≡ true
pair_on p q r h k = from_pair_less p r (go (pair_less p q h) (pair_less q r k))
  where
    go : PairLess p q → PairLess q r → PairLess p r
    go (inl x) (inl y) = inl (less_on p.0 q.0 r.0 x y)
    go (inl x) (inr (e, y)) = inl (subst (Less p.0) e x)
    go (inr (e, x)) (inl y) = inl (subst (λ c. Less c r.0) (sym e) y)
    go (inr (e, x)) (inr (f, y)) = inr (e ∙ f, less_on p.1 q.1 r.1 x y)

pub not_both_pairs : (p q : Command × Command) → is_pair_before p q ≡ true → is_pair_before q p ≡ true → ⊥
not_both_pairs p q h k = go (pair_less p q h) (pair_less q p k)
  where
    go : PairLess p q → PairLess q p → ⊥
    go (inl x) (inl y) = not_both p.0 q.0 x y
    go (inl x) (inr (e, y)) = not_both p.0 p.0 (subst (Less p.0) e x) (subst (Less p.0) e x)
    go (inr (e, x)) (inl y) = not_both q.0 q.0 (subst (Less q.0) e y) (subst (Less q.0) e y)
    go (inr (e, x)) (inr (f, y)) = not_both p.1 q.1 x y

-- ---- lists

-- where each two neighbors stand so, each two members do
pub neighbors_pairs : (xs : List (Command × Command)) → all_neighbors is_pair_before xs ≡ true → all_pairs is_pair_before xs ≡ true
neighbors_pairs [] h = refl
neighbors_pairs (x ∷ []) h = refl
neighbors_pairs (x ∷ y ∷ xs) h =
    let first : is_pair_before x y ≡ true = and_left (is_pair_before x y) (all_neighbors is_pair_before (y ∷ xs)) h in
    let rest : all_pairs is_pair_before (y ∷ xs) ≡ true = neighbors_pairs (y ∷ xs) (and_right (is_pair_before x y) (all_neighbors is_pair_before (y ∷ xs)) h) in
    and_both _ _ (and_both _ _ first (list_all_from (is_pair_before x) xs (λ z m. pair_on x y z first (list_all_at (is_pair_before y) xs z (and_left (list_all (is_pair_before y) xs) _ rest) m)))) rest

pub member_at : {X : Type 0} (xs : List X) (i : ℕ) (other : X) → i < length xs → In (get_or xs i other) xs
member_at [] i other h = absurd (omega arith)
member_at (x ∷ xs) zero other h = inl refl
member_at (x ∷ xs) (suc i) other h = inr (member_at xs i other (omega arith))

-- the members of two places
pub pairs_at : {X : Type 0} (test : X → X → Bool) (xs : List X) (i j : ℕ) (other : X) → all_pairs test xs ≡ true → i < j → j < length xs → test (get_or xs i other) (get_or xs j other) ≡ true
pairs_at test [] i j other h l m = absurd (omega arith)
pairs_at test (x ∷ xs) i zero other h l m = absurd (omega arith)
pairs_at test (x ∷ xs) zero (suc j) other h l m = list_all_at (test x) xs (get_or xs j other) (and_left (list_all (test x) xs) _ h) (member_at xs j other (omega arith))
pairs_at test (x ∷ xs) (suc i) (suc j) other h l m = pairs_at test xs i j other (and_right (list_all (test x) xs) _ h) (omega arith) (omega arith)
