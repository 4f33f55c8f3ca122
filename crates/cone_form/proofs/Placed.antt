-- Pairs in order, found by halves.
use Rattle.std.proofs.Common.{◌≡◌, ℕ, zero, suc, ◌≤◌, ◌<◌, ◌⊎◌, inl, inr, Bool, true, false, List, [], ◌∷◌, get_or, length, Option, Some, None, sym, ap, subst, ◌∙◌, arith, true≢false}
use Rattle.std.proofs.lemmas.Option.{slice_get-get_or}
use Rattle.std.specs.List.{list_any, slice_get}
use Rattle.std.specs.List.Sorted.{IsPartitionedBy, IsPartitionPoint}
use Rattle.rail_base.specs.declared.plan.Command.{Command}
use Rattle.rail_base.specs.Members.{all_pairs}
use Rattle.rail_base.proofs.Members.{In, and_left, and_right, and_both, list_any_gives, list_any_from, false_unless, same_bool, below_or_not}
use Rattle.rail_spec.specs.Plans.{is_command}
use Rattle.cone_spec.specs.Cones.{is_pair}
use Rattle.cone_spec.specs.Validity.{is_pair_before}
use Rattle.cone_spec.proofs.Saying.{is_command_same, is_command_self}
use Rattle.cone_form.proofs.Orders.{pair_on, not_both_pairs, pairs_at}

-- a place is before another, or it is the same
before_or_same : (i j : ℕ) → i ≤ j → (i < j) ⊎ (i ≡ j)
before_or_same i j h = go (below_or_not i j)
  where
    go : (i < j) ⊎ (j ≤ i) → (i < j) ⊎ (i ≡ j)
    go (inl l) = inl l
    go (inr l) = inr (omega arith)

module _ (xs : List (Command × Command)) (sorted : all_pairs is_pair_before xs ≡ true) where
  -- a test that holds of what is before a pair of which it holds parts the list
  parted : (test : Command × Command → Bool) → ((p q : Command × Command) → is_pair_before p q ≡ true → test q ≡ true → test p ≡ true) → IsPartitionedBy test xs
  parted test down = λ i j other l m h. go i j other m h (before_or_same i j l)
    where
      go : (i j : ℕ) (other : Command × Command) → j < length xs → test (get_or xs j other) ≡ true → (i < j) ⊎ (i ≡ j) → test (get_or xs i other) ≡ true
      go i j other m h (inl l) = down _ _ (pairs_at is_pair_before xs i j other sorted l m) h
      go i j other m h (inr e) = subst (λ n. test (get_or xs n other) ≡ true) (sym e) h

  pub parted_pair : (pair : Command × Command) → IsPartitionedBy (λ p. is_pair_before p pair) xs
  parted_pair pair = parted (λ p. is_pair_before p pair) (λ p q h k. pair_on p q pair h k)

  -- the place of a pair that is there
  pub place_index : (pair : Command × Command) (place : ℕ) → place ≤ length xs → IsPartitionPoint (λ p. is_pair_before p pair ≡ true) (λ p. is_pair_before p pair ≡ false) xs place
      → (i : ℕ) → slice_get xs i ≡ Some pair → place ≡ i
  place_index pair place bound point i e = go (below_or_not i (length xs))
    where
      here : (ys : List (Command × Command)) (j : ℕ) → j < length ys → slice_get ys j ≡ Some pair → get_or ys j pair ≡ pair
      here ys j l h = some_same (sym (slice_get-get_or ys j pair l) ∙ h)
        where
          some_same : {X : Type 0} {a b : X} → Some a ≡ Some b → a ≡ b
          some_same h = cc

      past : (ys : List (Command × Command)) (j : ℕ) → length ys ≤ j → slice_get ys j ≡ Some pair → ⊥
      past [] j l h = cc
      past (y ∷ ys) zero l h = absurd (omega arith)
      past (y ∷ ys) (suc j) l h = past ys j (omega arith) h

      not_self : is_pair_before pair pair ≡ true → ⊥
      not_self h = not_both_pairs pair pair h h

      inside : i < length xs → (i < place) ⊎ (place ≤ i) → (place < i) ⊎ (i ≤ place) → place ≡ i
      inside l (inl b) f = absurd (not_self (subst (λ p. is_pair_before p pair ≡ true) (here xs i l e) (point.0 i pair (omega arith) b)))
      inside l (inr b) (inl f) =
          let before : is_pair_before (get_or xs place pair) pair ≡ true = subst (λ p. is_pair_before (get_or xs place pair) p ≡ true) (here xs i l e) (pairs_at is_pair_before xs place i pair sorted f l) in
          absurd (true≢false (sym before ∙ point.1 place pair (omega arith) (omega arith)))
      inside l (inr b) (inr f) = omega arith

      go : (i < length xs) ⊎ (length xs ≤ i) → place ≡ i
      go (inl l) = inside l (below_or_not i place) (below_or_not place i)
      go (inr l) = absurd (past xs i l e)

-- ---- one pair

-- the pair of a place is one of them
from_place : (xs : List (Command × Command)) (i : ℕ) (p : Command × Command) → slice_get xs i ≡ Some p → In p xs
from_place [] i p h = cc
from_place (x ∷ xs) zero p h = inl (some_same h)
  where
    some_same : {X : Type 0} {a b : X} → Some a ≡ Some b → a ≡ b
    some_same h = cc
from_place (x ∷ xs) (suc i) p h = inr (from_place xs i p h)

pub to_place : (xs : List (Command × Command)) (p : Command × Command) → In p xs → (i : ℕ) × (slice_get xs i ≡ Some p)
to_place [] p m = absurd m
to_place (x ∷ xs) p (inl e) = (zero, ap Some e)
to_place (x ∷ xs) p (inr m) = let k = to_place xs p m in (suc k.0, k.1)

pub is_pair_same : (e c : Command) (p : Command × Command) → is_pair e c p ≡ true → p ≡ (e, c)
is_pair_same e c p h =
    let a = is_command_same p.0 e (and_left (is_command p.0 e) (is_command p.1 c) h) in
    let b = is_command_same p.1 c (and_right (is_command p.0 e) (is_command p.1 c) h) in
    ap (λ x. (x, p.1)) a ∙ ap (λ x. (e, x)) b

pub pair_itself : (e c : Command) → is_pair e c (e, c) ≡ true
pair_itself e c = and_both _ _ (is_command_self e) (is_command_self c)

module _ (xs : List (Command × Command)) (e c : Command) (place : ℕ) (index : (i : ℕ) → slice_get xs i ≡ Some (e, c) → place ≡ i) where
  among_place : list_any (is_pair e c) xs ≡ true → slice_get xs place ≡ Some (e, c)
  among_place h =
      let found = list_any_gives (is_pair e c) xs h in
      let there = to_place xs found.0 found.1 in
      let is : slice_get xs there.0 ≡ Some (e, c) = there.1 ∙ ap Some (is_pair_same e c found.0 found.2) in
      subst (λ i. slice_get xs i ≡ Some (e, c)) (sym (index there.0 is)) is

  -- a pair is there exactly where it stands at its place
  among_some : (p : Command × Command) → slice_get xs place ≡ Some p → is_pair e c p ≡ list_any (is_pair e c) xs
  among_some p h = same_bool (is_pair e c p) (list_any (is_pair e c) xs) (λ t. list_any_from (is_pair e c) xs p (from_place xs place p h) t)
      (λ t. let s : Some p ≡ Some (e, c) = sym h ∙ among_place t in subst (λ (x : Option (Command × Command)). says x ≡ true) (sym s) (pair_itself e c))
    where
      says : Option (Command × Command) → Bool
      says None = false
      says (Some p) = is_pair e c p

  pub among_here : (other : Command × Command) → place ≤ length xs → (place ≡ length xs → ⊥) → is_pair e c (get_or xs place other) ≡ list_any (is_pair e c) xs
  among_here other bound inside = among_some (get_or xs place other) (slice_get-get_or xs place other (omega arith))

  pub among_past : place ≡ length xs → false ≡ list_any (is_pair e c) xs
  among_past h = sym (false_unless (list_any (is_pair e c) xs) (λ t. nothing xs place (omega arith) (among_place t)))
    where
      nothing : (ys : List (Command × Command)) (j : ℕ) → length ys ≤ j → slice_get ys j ≡ Some (e, c) → ⊥
      nothing [] j l h = cc
      nothing (y ∷ ys) zero l h = absurd (omega arith)
      nothing (y ∷ ys) (suc j) l h = nothing ys j (omega arith) h
