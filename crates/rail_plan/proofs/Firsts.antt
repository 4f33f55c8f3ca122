-- First and last members of lists that are made of others.
use Rattle.std.proofs.Common.{◌≡◌, ℕ, suc, ◌+◌, ◌-◌, ◌<◌, ◌≤◌, Bool, true, false, cond, List, [], ◌∷◌, ◌++◌, map, filter, flat_map, length, drop, get_or, Option, None, Some, option_map, refl, ap, ◌∙◌, sym, arith, add-one, is_some, true≢false}
use Rattle.std.specs.Option.{option_or}
use Rattle.std.specs.List.{find}
use Rattle.std.proofs.lemmas.List.{length-map, drop_more, get_or_default}
use Rattle.rail_base.specs.Numbering.{count_from, one_to, entry, first_of_list}
use Rattle.rail_base.specs.declared.station.TrainNo.{TrainNo}
use Rattle.rail_base.specs.declared.route.RouteNo.{RouteNo}
use Rattle.rail_base.specs.declared.plan.Command.{Command}
use Rattle.rail_base.proofs.Members.{filter-append}
use Rattle.rail_spec.specs.Plans.{path, routes_given}
use Rattle.rail_plan.specs.WellFormed.{last_of_list}

pub first_kept : {X : Type 0} (p : X → Bool) (xs : List X) → first_of_list (filter p xs) ≡ find p xs
first_kept p [] = refl
first_kept p (x ∷ xs) = go (p x) (first_kept p xs)
  where
    go : (b : Bool) → first_of_list (filter p xs) ≡ find p xs → first_of_list (cond b (x ∷ filter p xs) (filter p xs)) ≡ cond b (Some x) (find p xs)
    go true e = refl
    go false e = e

pub first_mapped : {X Y : Type 0} (f : X → Y) (xs : List X) → first_of_list (map f xs) ≡ option_map f (first_of_list xs)
first_mapped f [] = refl
first_mapped f (x ∷ xs) = refl

pub first_found : {X Y : Type 0} (f : X → Y) (p : X → Bool) (xs : List X) → first_of_list (map f (filter p xs)) ≡ option_map f (find p xs)
first_found f p xs = first_mapped f (filter p xs) ∙ ap (option_map f) (first_kept p xs)

pub first_joined : {X : Type 0} (xs ys : List X) → first_of_list (xs ++ ys) ≡ option_or (first_of_list xs) (first_of_list ys)
first_joined [] ys = refl
first_joined (x ∷ xs) ys = refl

-- the first that is kept of a list that goes on is one of its front, or else of what follows
pub kept_in_front : {X : Type 0} (test : X → Bool) (xs ys : List X) (o : Option X) → o ≡ first_of_list (filter test xs) → is_some o ≡ true → o ≡ first_of_list (filter test (xs ++ ys))
kept_in_front test xs ys None e s = absurd (true≢false (sym s))
kept_in_front test xs ys (Some x) e s =
    ap (λ a. option_or a (first_of_list (filter test ys))) e ∙ sym (first_joined (filter test xs) (filter test ys)) ∙ ap first_of_list (sym (filter-append test xs ys))

pub kept_behind : {X : Type 0} (test : X → Bool) (xs ys : List X) (o p : Option X) → o ≡ first_of_list (filter test xs) → is_some o ≡ false → p ≡ first_of_list (filter test ys) → p ≡ first_of_list (filter test (xs ++ ys))
kept_behind test xs ys (Some x) p e s f = absurd (true≢false s)
kept_behind test xs ys None p e s f =
    f ∙ ap (λ a. option_or a (first_of_list (filter test ys))) e ∙ sym (first_joined (filter test xs) (filter test ys)) ∙ ap first_of_list (sym (filter-append test xs ys))

pub or_joined : {X : Type 0} (a b c : Option X) → option_or (option_or a b) c ≡ option_or a (option_or b c)
or_joined None b c = refl
or_joined (Some x) b c = refl

pub or_none : {X : Type 0} (a : Option X) → option_or a None ≡ a
or_none None = refl
or_none (Some x) = refl

pub last_joined : {X : Type 0} (xs ys : List X) → last_of_list (xs ++ ys) ≡ option_or (last_of_list ys) (last_of_list xs)
last_joined [] ys = sym (or_none (last_of_list ys))
last_joined (x ∷ xs) ys = ap (λ o. option_or o (Some x)) (last_joined xs ys) ∙ or_joined (last_of_list ys) (last_of_list xs) (Some x)

pub last_mapped : {X Y : Type 0} (f : X → Y) (xs : List X) → last_of_list (map f xs) ≡ option_map f (last_of_list xs)
last_mapped f [] = refl
last_mapped f (x ∷ xs) = ap (λ o. option_or o (Some (f x))) (last_mapped f xs) ∙ swap (last_of_list xs)
  where
    swap : (o : Option _) → option_or (option_map f o) (Some (f x)) ≡ option_map f (option_or o (Some x))
    swap None = refl
    swap (Some y) = refl

pub ruleset counts = (length-map, first_found)

-- the last of the rest of the steps, or else of those before, is found one step on
pub last_step : (steps : List (List Command)) (t : TrainNo) (i : ℕ) (step : List Command) (o : Option RouteNo) → i < length steps → step ≡ get_or steps i step
    → option_or (last_of_list (path (drop (i + 1) steps) t)) (option_or (last_of_list (routes_given t step)) o) ≡ option_or (last_of_list (path (drop i steps) t)) o
last_step steps t i step o h e =
    sym (or_joined (last_of_list (path (drop (i + 1) steps) t)) (last_of_list (routes_given t step)) o)
    ∙ ap (λ l. option_or l o) (sym (last_joined (routes_given t step) (path (drop (i + 1) steps) t)))
    ∙ ap (λ rest. option_or (last_of_list (path rest t)) o) (sym (drop_more steps i step h ∙ ap (λ x. x ∷ drop (i + 1) steps) (sym e)))

pub ruleset lasts = (last_step, last_joined, last_mapped, or_joined, or_none)

-- ---- what is found by going over numbers in a row

pub count_step : (n i : ℕ) → i < n → count_from (i + 1) (n - i) ≡ (i + 1) ∷ count_from (i + 1 + 1) (n - (i + 1))
count_step n i h = go (n - i) (n - (i + 1)) (omega arith)
  where
    go : (a b : ℕ) → a ≡ suc b → count_from (i + 1) a ≡ (i + 1) ∷ count_from (i + 1 + 1) b
    go a b e = ap (count_from (i + 1)) e

pub count_end : (n i : ℕ) → n ≤ i → count_from (i + 1) (n - i) ≡ []
count_end n i h = let none : n - i ≡ 0 = omega arith in ap (count_from (i + 1)) none

pub ruleset counting = (count_step, count_end)

-- nothing is found at a number: so it is to be found later
pub walk_on : {X : Type 0} (f : ℕ → List X) (n i : ℕ) → i < n → None ≡ first_of_list (f (i + 1)) → first_of_list (flat_map f (count_from (i + 1) (n - i))) ≡ first_of_list (flat_map f (count_from (i + 1 + 1) (n - (i + 1))))
walk_on f n i h e =
    ap (λ ks. first_of_list (flat_map f ks)) (count_step n i h)
    ∙ first_joined (f (i + 1)) (flat_map f (count_from (i + 1 + 1) (n - (i + 1))))
    ∙ ap (λ o. option_or o (first_of_list (flat_map f (count_from (i + 1 + 1) (n - (i + 1)))))) (sym e)

-- something is
pub walk_found : {X : Type 0} (f : ℕ → List X) (n i : ℕ) (x : X) → i < n → Some x ≡ first_of_list (f (i + 1)) → first_of_list (flat_map f (count_from (i + 1) (n - i))) ≡ Some x
walk_found f n i x h e =
    ap (λ ks. first_of_list (flat_map f ks)) (count_step n i h)
    ∙ first_joined (f (i + 1)) (flat_map f (count_from (i + 1 + 1) (n - (i + 1))))
    ∙ ap (λ o. option_or o (first_of_list (flat_map f (count_from (i + 1 + 1) (n - (i + 1)))))) (sym e)

pub walk_end : {X : Type 0} (f : ℕ → List X) (n i : ℕ) → n ≤ i → first_of_list (flat_map f (count_from (i + 1) (n - i))) ≡ None
walk_end f n i h = ap (λ ks. first_of_list (flat_map f ks)) (count_end n i h)

pub walk_start : {X : Type 0} (f : ℕ → List X) (n : ℕ) → first_of_list (flat_map f (count_from (0 + 1) (n - 0))) ≡ first_of_list (flat_map f (one_to n))
walk_start f n = let all : n - 0 ≡ n = omega arith in ap (λ m. first_of_list (flat_map f (count_from 1 m))) all

-- the member of a number, counted from 1, by its index
pub entry_read : {X : Type 0} (other : X) (xs : List X) (i : ℕ) (x : X) → i < length xs → x ≡ get_or xs i x → entry other xs (i + 1) ≡ x
entry_read other xs i x h e = ap (entry other xs) (add-one i) ∙ get_or_default xs i other x h ∙ sym e

pub first_mapped_none : {X Y : Type 0} (f : X → Y) (xs : List X) → None ≡ first_of_list xs → None ≡ first_of_list (map f xs)
first_mapped_none f [] e = refl
first_mapped_none f (x ∷ xs) e = cc

pub first_mapped_some : {X Y : Type 0} (f : X → Y) (xs : List X) (x : X) → Some x ≡ first_of_list xs → Some (f x) ≡ first_of_list (map f xs)
first_mapped_some f [] x e = cc
first_mapped_some f (y ∷ ys) x e = let same : x ≡ y = cc in ap (λ z. Some (f z)) same

pub flat_map-map : {X Y Z : Type 0} (f : Y → List Z) (g : X → Y) (xs : List X) → flat_map f (map g xs) ≡ flat_map (λ x. f (g x)) xs
flat_map-map f g [] = refl
flat_map-map f g (x ∷ xs) = ap (λ zs. f (g x) ++ zs) (flat_map-map f g xs)

-- the same of an optional that was tested
pub is_none_of : {X : Type 0} (o : Option X) → is_some o ≡ false → None ≡ o
is_none_of None e = refl
is_none_of (Some x) e = cc

pub walk_kept : {X : Type 0} (f : ℕ → List X) (n i : ℕ) (o : Option X) → i < n → o ≡ first_of_list (f (i + 1)) → is_some o ≡ true → first_of_list (flat_map f (count_from (i + 1) (n - i))) ≡ o
walk_kept f n i None h e s = cc
walk_kept f n i (Some x) h e s = walk_found f n i x h e
