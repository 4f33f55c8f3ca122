-- Lists that are made in loops over numbers.
use Rattle.std.proofs.Common.{◌≡◌, ℕ, ◌+◌, ◌-◌, ◌≤◌, ◌<◌, Bool, true, false, ◌||◌, ◌&&◌, cond, List, [], ◌∷◌, ◌++◌, map, filter, length, get_or, refl, sym, ap, ap₂, ◌∙◌, arith, append_assoc, append-nil, suc}
use Rattle.std.specs.List.{list_any}
use Rattle.rail_base.specs.declared.route.Route.{Route}
use Rattle.rail_base.specs.declared.route.RouteNo.{RouteNo}
use Rattle.rail_base.specs.Numbering.{count_from}
use Rattle.rail_spec.specs.Plans.{route_numbers}
use Rattle.rail_base.proofs.Lists.{count_next}

-- one item more, of those that are left
pub one_more : {X : Type 0} (xs : List X) (y : X) (ys : List X) → (xs ++ y ∷ []) ++ ys ≡ xs ++ (y ∷ ys)
one_more xs y ys = append_assoc xs (y ∷ []) ys

-- each number in turn has its item
pub each_next : {X : Type 0} (f : ℕ → X) (xs new : List X) (y : X) (n end : ℕ) (all : List X) → n < end → new ≡ xs ++ y ∷ [] → y ≡ f n → xs ++ map f (count_from n (end - n)) ≡ all → new ++ map f (count_from (n + 1) (end - (n + 1))) ≡ all
each_next f xs new y n end all h made is left =
    ap (λ zs. zs ++ map f (count_from (n + 1) (end - (n + 1)))) (made ∙ ap (λ z. xs ++ z ∷ []) is)
    ∙ one_more xs (f n) (map f (count_from (n + 1) (end - (n + 1))))
    ∙ sym (ap (λ ns. xs ++ map f ns) (count_next n end h)) ∙ left

-- a number that passes the test has one, and another has none
pub kept_next : {X : Type 0} (test : X → Bool) (f : ℕ → X) (xs : List X) (n end : ℕ) (all : List X) → n < end → test (f n) ≡ true → xs ++ filter test (map f (count_from n (end - n))) ≡ all → (xs ++ f n ∷ []) ++ filter test (map f (count_from (n + 1) (end - (n + 1)))) ≡ all
kept_next test f xs n end all h passes left =
    let rest = map f (count_from (n + 1) (end - (n + 1))) in
    one_more xs (f n) (filter test rest)
    ∙ ap (λ b. xs ++ cond b (f n ∷ filter test rest) (filter test rest)) (sym passes)
    ∙ sym (ap (λ ns. xs ++ filter test (map f ns)) (count_next n end h)) ∙ left

pub left_out : {X : Type 0} (test : X → Bool) (f : ℕ → X) (xs : List X) (n end : ℕ) (all : List X) → n < end → test (f n) ≡ false → xs ++ filter test (map f (count_from n (end - n))) ≡ all → xs ++ filter test (map f (count_from (n + 1) (end - (n + 1)))) ≡ all
left_out test f xs n end all h fails left =
    let rest = map f (count_from (n + 1) (end - (n + 1))) in
    ap (λ b. xs ++ cond b (f n ∷ filter test rest) (filter test rest)) (sym fails)
    ∙ sym (ap (λ ns. xs ++ filter test (map f ns)) (count_next n end h)) ∙ left

none_left : (n end : ℕ) → end ≤ n → count_from n (end - n) ≡ []
none_left n end h = let z : end - n ≡ 0 = omega arith in ap (count_from n) z

pub each_done : {X : Type 0} (f : ℕ → X) (xs : List X) (n end : ℕ) (all : List X) → end ≤ n → xs ++ map f (count_from n (end - n)) ≡ all → xs ≡ all
each_done f xs n end all h left = sym (append-nil xs) ∙ sym (ap (λ ns. xs ++ map f ns) (none_left n end h)) ∙ left

pub kept_done : {X : Type 0} (test : X → Bool) (f : ℕ → X) (xs : List X) (n end : ℕ) (all : List X) → end ≤ n → xs ++ filter test (map f (count_from n (end - n))) ≡ all → xs ≡ all
kept_done test f xs n end all h left = sym (append-nil xs) ∙ sym (ap (λ ns. xs ++ filter test (map f ns)) (none_left n end h)) ∙ left

-- ---- routes by their numbers

abbrev pub route_no : ℕ → RouteNo
route_no n = record { 0 = n }

pub all_numbers : (routes : List Route) (n : ℕ) → n ≡ length routes → map route_no (count_from 1 (n + 1 - 1)) ≡ route_numbers routes
all_numbers routes n is = let same : n + 1 - 1 ≡ length routes = omega arith in ap (λ k. map route_no (count_from 1 k)) same

-- ---- tests of those that pass another

pub two_filters : {X : Type 0} (f g h : X → Bool) (xs : List X) → ((x : X) → (f x && g x) ≡ h x) → filter g (filter f xs) ≡ filter h xs
two_filters f g h [] same = refl
two_filters f g h (x ∷ xs) same = go (f x) (same x) (two_filters f g h xs same)
  where
    go : (a : Bool) → (a && g x) ≡ h x → filter g (filter f xs) ≡ filter h xs → filter g (cond a (x ∷ filter f xs) (filter f xs)) ≡ cond (h x) (x ∷ filter h xs) (filter h xs)
    go true e rest = ap₂ (λ b ys. cond b (x ∷ ys) ys) e rest
    go false e rest = rest ∙ ap (λ b. cond b (x ∷ filter h xs) (filter h xs)) e

pub any_among : {X : Type 0} (f g : X → Bool) (xs : List X) → list_any g (filter f xs) ≡ list_any (λ x. f x && g x) xs
any_among f g [] = refl
any_among f g (x ∷ xs) = go (f x) (any_among f g xs)
  where
    go : (a : Bool) → list_any g (filter f xs) ≡ list_any (λ x. f x && g x) xs → list_any g (cond a (x ∷ filter f xs) (filter f xs)) ≡ ((a && g x) || list_any (λ x. f x && g x) xs)
    go true e = ap (λ b. g x || b) e
    go false e = e

-- what is made of each entry is made of each number
pub by_number : {X Y : Type 0} (f : X → Y) (g : ℕ → Y) (xs : List X) (a : ℕ) (other : X) → ((i : ℕ) → i < length xs → f (get_or xs i other) ≡ g (a + i)) → map f xs ≡ map g (count_from a (length xs))
by_number f g [] a other same = refl
by_number f g (x ∷ xs) a other same =
    ap₂ (λ y ys. y ∷ ys) (same 0 (omega arith) ∙ ap g (omega arith)) (by_number f g xs (a + 1) other (λ i h. same (suc i) (omega arith) ∙ ap g (omega arith)))

-- ---- lists that are made in loops over the items of others

pub placed_next : {X Y : Type 0} (g : X → Y) (test : X → Bool) (ys new : List Y) (x : X) (left rest : List X) (all : List Y) → map g (filter test left) ≡ map g (filter test (x ∷ rest)) → test x ≡ true → new ≡ ys ++ g x ∷ [] → ys ++ map g (filter test left) ≡ all → new ++ map g (filter test rest) ≡ all
placed_next g test ys new x left rest all step passes made is =
    ap (λ zs. zs ++ map g (filter test rest)) made
    ∙ one_more ys (g x) (map g (filter test rest))
    ∙ ap (λ b. ys ++ map g (cond b (x ∷ filter test rest) (filter test rest))) (sym passes)
    ∙ sym (ap (λ zs. ys ++ zs) step) ∙ is

pub placed_none : {X Y : Type 0} (g : X → Y) (test : X → Bool) (ys new : List Y) (x : X) (left rest : List X) (all : List Y) → map g (filter test left) ≡ map g (filter test (x ∷ rest)) → test x ≡ false → new ≡ ys → ys ++ map g (filter test left) ≡ all → new ++ map g (filter test rest) ≡ all
placed_none g test ys new x left rest all step fails made is =
    ap (λ zs. zs ++ map g (filter test rest)) made
    ∙ ap (λ b. ys ++ map g (cond b (x ∷ filter test rest) (filter test rest))) (sym fails)
    ∙ sym (ap (λ zs. ys ++ zs) step) ∙ is

pub item_next : {X Y : Type 0} (f : X → Y) (ys new : List Y) (x : X) (left rest : List X) (all : List Y) → map f left ≡ f x ∷ map f rest → new ≡ ys ++ f x ∷ [] → ys ++ map f left ≡ all → new ++ map f rest ≡ all
item_next f ys new x left rest all step made is =
    ap (λ zs. zs ++ map f rest) made ∙ one_more ys (f x) (map f rest) ∙ sym (ap (λ zs. ys ++ zs) step) ∙ is
