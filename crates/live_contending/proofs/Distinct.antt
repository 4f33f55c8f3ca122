-- No pair stands twice.
use Rattle.std.proofs.Common.{◌≡◌, ℕ, zero, suc, inl, inr, Bool, true, false, ◌||◌, ◌&&◌, ◌==◌, if◌then◌else◌, List, [], ◌∷◌, length, Option, Some, None, refl, sym, ap, ap₂, subst, ◌∙◌, arith}
use Rattle.std.specs.List.{list_any, slice_get}
use Rattle.rail_base.specs.declared.route.RouteNo.{RouteNo}
use Rattle.rail_base.specs.declared.plan.Command.{Command}
use Rattle.rail_base.specs.Members.{Differ, In}
use Rattle.rail_base.specs.Numbering.{before_first, one_to}
use Rattle.rail_base.proofs.Lists.{in_map_back}
use Rattle.rail_base.proofs.Members.{and_both, and_left, and_right, false_unless, same_bool}
use Rattle.rail_spec.specs.Plans.{is_command}
use Rattle.clause_spec.specs.Variables.{is_pair}
use Rattle.clause_spec.proofs.Lists.{Distinct, distinct_count, distinct_flat_map, distinct_map}
use Rattle.clause_spec.proofs.Steps.{is_command_same, is_command_self}
use Rattle.command_set.specs.Commands.{AreRising, commands_in, first_place}
use Rattle.command_set.proofs.Blocks.{any_same}
use Rattle.live_contending.specs.Pairs.{pairs_by_rows, pairs_from, rivals, rivals_of_train}
use Rattle.live_contending.proofs.Placing.{first_of}

pub to_distinct : {X : Type 0} (xs : List X) → Differ xs → Distinct xs
to_distinct [] h = tt
to_distinct (x ∷ xs) h = ((λ m. h.0 x m refl), to_distinct xs h.1)

pub from_distinct : {X : Type 0} (xs : List X) → Distinct xs → Differ xs
from_distinct [] h = tt
from_distinct {X} (x ∷ xs) h = ((λ y m e. h.0 (subst (λ (z : X). In z xs) (sym e) m)), from_distinct xs h.1)

-- routes that rise differ
distinct_rising : (row : List RouteNo) → AreRising row → Distinct row
distinct_rising [] h = tt
distinct_rising (r ∷ row) h = ((λ m. let l = h.0 r m in absurd (omega arith)), distinct_rising row h.1)

module _ (trains : ℕ) (row : ℕ → RouteNo → List RouteNo) (rising : (t : ℕ) (r : RouteNo) → AreRising (row t r)) where
  distinct_in : (e : Command) (t : ℕ) → Distinct (rivals_of_train row e t)
  distinct_in e t = go (e.train.0 == t)
    where
      go : (b : Bool) → Distinct (if b then [] else commands_in t (row t e.route))
      go true = tt
      go false = distinct_map (λ (r : RouteNo). record { train = record { 0 = t }; route = r }) (row t e.route) (λ x y same. ap (λ (c : Command). c.route) same)
          (distinct_rising (row t e.route) (rising t e.route))

  train_in : (e : Command) (t : ℕ) (c : Command) → In c (rivals_of_train row e t) → c.train.0 ≡ t
  train_in e t c m = go (e.train.0 == t) m
    where
      go : (b : Bool) → In c (if b then [] else commands_in t (row t e.route)) → c.train.0 ≡ t
      go true k = absurd k
      go false k = let back = in_map_back (λ (r : RouteNo). record { train = record { 0 = t }; route = r }) (row t e.route) c k in sym (ap (λ (x : Command). x.train.0) back.2)

  distinct_of : (e : Command) → Distinct (pairs_from trains row e)
  distinct_of e = distinct_map (λ (c : Command). (e, c)) (rivals trains row e) (λ x y same. ap (λ (p : Command × Command). p.1) same)
      (distinct_flat_map (rivals_of_train row e) (λ (c : Command). c.train.0) (one_to trains) (distinct_in e) (train_in e) (distinct_count 1 trains))

  pub distinct_pairs : (cs : List Command) → Distinct cs → Distinct (pairs_by_rows trains row cs)
  distinct_pairs cs d = distinct_flat_map (pairs_from trains row) (λ (p : Command × Command). p.0) cs distinct_of (first_of (rivals trains row)) d

-- ---- the index of a pair

-- the one member that passes stands after those before the first that does
module _ {X : Type 0} (test : X → Bool) (p : X) (passes : test p ≡ true) (alone : (q : X) → test q ≡ true → q ≡ p) where
  some_same : {a b : X} → Some a ≡ Some b → a ≡ b
  some_same h = cc

  from_place : (xs : List X) (i : ℕ) → slice_get xs i ≡ Some p → In p xs
  from_place [] i h = cc
  from_place (x ∷ xs) zero h = inl (some_same h)
  from_place (x ∷ xs) (suc i) h = inr (from_place xs i h)

  pub index_is : (xs : List X) (i : ℕ) → Distinct xs → slice_get xs i ≡ Some p → (list_any test xs ≡ true) × (length (before_first test xs) ≡ i)
  index_is [] i d h = cc
  index_is (x ∷ xs) zero d h =
      let is : test x ≡ true = subst (λ y. test y ≡ true) (sym (some_same h)) passes in
      (ap (λ b. b || list_any test xs) is, ap (λ b. length (if b then [] else x ∷ before_first test xs)) is)
  index_is (x ∷ xs) (suc i) d h =
      let rest = index_is xs i d.1 h in
      let is : test x ≡ false = false_unless (test x) (λ t. d.0 (subst (λ y. In y xs) (sym (alone x t)) (from_place xs i h))) in
      (ap (λ b. b || list_any test xs) is ∙ rest.0, ap (λ b. length (if b then [] else x ∷ before_first test xs)) is ∙ ap suc rest.1)

pair_itself : (e c : Command) → is_pair e c (e, c) ≡ true
pair_itself e c = and_both _ _ (is_command_self e) (is_command_self c)

same_pair : (e c : Command) (p : Command × Command) → is_pair e c p ≡ true → p ≡ (e, c)
same_pair e c p h =
    let a = is_command_same e p.0 (and_left (is_command e p.0) (is_command c p.1) h) in
    let b = is_command_same c p.1 (and_right (is_command e p.0) (is_command c p.1) h) in
    ap (λ x. (x, p.1)) a ∙ ap (λ x. (e, x)) b

-- it is the index of a pair that is there
pub place_index : (pairs : List (Command × Command)) → Distinct pairs → (e c : Command) (o : Option ℕ) → o ≡ first_place (is_pair e c) pairs → (i : ℕ) → slice_get pairs i ≡ Some (e, c) → o ≡ Some i
place_index pairs d e c o is i h =
    let k = index_is (is_pair e c) (e, c) (pair_itself e c) (λ q t. same_pair e c q t) pairs i d h in
    is ∙ ap₂ (λ b m. if b then Some m else None) k.0 k.1

-- two commands are a pair where there is one
pub pair_turned : (pairs : List (Command × Command)) (e c : Command) → list_any (is_pair e c) pairs ≡ list_any (λ p. is_command p.0 e && is_command p.1 c) pairs
pair_turned pairs e c = any_same (is_pair e c) (λ p. is_command p.0 e && is_command p.1 c) turned pairs
  where
    both_ways : (x y : Command) → is_command x y ≡ is_command y x
    both_ways x y = same_bool (is_command x y) (is_command y x)
        (λ h. subst (λ (z : Command). is_command z x ≡ true) (sym (is_command_same x y h)) (is_command_self x))
        (λ h. subst (λ (z : Command). is_command z y ≡ true) (sym (is_command_same y x h)) (is_command_self y))

    turned : (p : Command × Command) → is_pair e c p ≡ (is_command p.0 e && is_command p.1 c)
    turned p = ap₂ (λ a b. a && b) (both_ways e p.0) (both_ways c p.1)
