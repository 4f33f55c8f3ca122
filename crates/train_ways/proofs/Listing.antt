-- Lists that are made in loops over numbers.
use Rattle.std.proofs.Common.{◌≡◌, ℕ, ◌+◌, ◌-◌, ◌≤◌, ◌<◌, Bool, true, false, ◌||◌, cond, List, [], ◌∷◌, ◌++◌, map, filter, length, sym, ap, ◌∙◌, arith, append_assoc, append-nil}
use Rattle.std.specs.List.{list_any}
use Rattle.rail_base.specs.declared.route.Route.{Route}
use Rattle.rail_base.specs.declared.route.RouteNo.{RouteNo}
use Rattle.rail_base.specs.Numbering.{count_from}
use Rattle.rail_spec.specs.Plans.{route_numbers}
use Rattle.rail_base.proofs.Lists.{count_next}

-- one item more, of those that are left
pub one_more : {X : Type 0} (xs : List X) (y : X) (ys : List X) → (xs ++ y ∷ []) ++ ys ≡ xs ++ (y ∷ ys)
one_more xs y ys = append_assoc xs (y ∷ []) ys

-- each number in turn has its item
pub each_next : {X : Type 0} (f : ℕ → X) (xs new : List X) (y : X) (n end : ℕ) (all : List X) → n < end → new ≡ xs ++ y ∷ [] → y ≡ f n → xs ++ map f (count_from n (end - n)) ≡ all → new ++ map f (count_from (n + 1) (end - (n + 1))) ≡ all
each_next f xs new y n end all h made is left =
    ap (λ zs. zs ++ map f (count_from (n + 1) (end - (n + 1)))) (made ∙ ap (λ z. xs ++ z ∷ []) is)
    ∙ one_more xs (f n) (map f (count_from (n + 1) (end - (n + 1))))
    ∙ sym (ap (λ ns. xs ++ map f ns) (count_next n end h)) ∙ left

-- a number that passes the test has one, and another has none
pub kept_next : {X : Type 0} (test : X → Bool) (f : ℕ → X) (xs : List X) (n end : ℕ) (all : List X) → n < end → test (f n) ≡ true → xs ++ filter test (map f (count_from n (end - n))) ≡ all → (xs ++ f n ∷ []) ++ filter test (map f (count_from (n + 1) (end - (n + 1)))) ≡ all
kept_next test f xs n end all h passes left =
    let rest = map f (count_from (n + 1) (end - (n + 1))) in
    one_more xs (f n) (filter test rest)
    ∙ ap (λ b. xs ++ cond b (f n ∷ filter test rest) (filter test rest)) (sym passes)
    ∙ sym (ap (λ ns. xs ++ filter test (map f ns)) (count_next n end h)) ∙ left

pub left_out : {X : Type 0} (test : X → Bool) (f : ℕ → X) (xs : List X) (n end : ℕ) (all : List X) → n < end → test (f n) ≡ false → xs ++ filter test (map f (count_from n (end - n))) ≡ all → xs ++ filter test (map f (count_from (n + 1) (end - (n + 1)))) ≡ all
left_out test f xs n end all h fails left =
    let rest = map f (count_from (n + 1) (end - (n + 1))) in
    ap (λ b. xs ++ cond b (f n ∷ filter test rest) (filter test rest)) (sym fails)
    ∙ sym (ap (λ ns. xs ++ filter test (map f ns)) (count_next n end h)) ∙ left

none_left : (n end : ℕ) → end ≤ n → count_from n (end - n) ≡ []
none_left n end h = let z : end - n ≡ 0 = omega arith in ap (count_from n) z

pub each_done : {X : Type 0} (f : ℕ → X) (xs : List X) (n end : ℕ) (all : List X) → end ≤ n → xs ++ map f (count_from n (end - n)) ≡ all → xs ≡ all
each_done f xs n end all h left = sym (append-nil xs) ∙ sym (ap (λ ns. xs ++ map f ns) (none_left n end h)) ∙ left

pub kept_done : {X : Type 0} (test : X → Bool) (f : ℕ → X) (xs : List X) (n end : ℕ) (all : List X) → end ≤ n → xs ++ filter test (map f (count_from n (end - n))) ≡ all → xs ≡ all
kept_done test f xs n end all h left = sym (append-nil xs) ∙ sym (ap (λ ns. xs ++ filter test (map f ns)) (none_left n end h)) ∙ left

-- ---- routes by their numbers

abbrev pub route_no : ℕ → RouteNo
route_no n = record { 0 = n }

pub all_numbers : (routes : List Route) (n : ℕ) → n ≡ length routes → map route_no (count_from 1 (n + 1 - 1)) ≡ route_numbers routes
all_numbers routes n is = let same : n + 1 - 1 ≡ length routes = omega arith in ap (λ k. map route_no (count_from 1 k)) same

-- ---- what is made of those that pass a test

pub placed_next : {X Y : Type 0} (g : X → Y) (test : X → Bool) (f : ℕ → X) (xs new : List Y) (n end : ℕ) (all : List Y) → n < end → test (f n) ≡ true → new ≡ xs ++ g (f n) ∷ [] → xs ++ map g (filter test (map f (count_from n (end - n)))) ≡ all
    → new ++ map g (filter test (map f (count_from (n + 1) (end - (n + 1))))) ≡ all
placed_next g test f xs new n end all h passes made left =
    let rest = map f (count_from (n + 1) (end - (n + 1))) in
    ap (λ zs. zs ++ map g (filter test rest)) made
    ∙ one_more xs (g (f n)) (map g (filter test rest))
    ∙ ap (λ b. xs ++ map g (cond b (f n ∷ filter test rest) (filter test rest))) (sym passes)
    ∙ sym (ap (λ ns. xs ++ map g (filter test (map f ns))) (count_next n end h)) ∙ left

pub placed_none : {X Y : Type 0} (g : X → Y) (test : X → Bool) (f : ℕ → X) (xs new : List Y) (n end : ℕ) (all : List Y) → n < end → test (f n) ≡ false → new ≡ xs → xs ++ map g (filter test (map f (count_from n (end - n)))) ≡ all
    → new ++ map g (filter test (map f (count_from (n + 1) (end - (n + 1))))) ≡ all
placed_none g test f xs new n end all h fails made left =
    let rest = map f (count_from (n + 1) (end - (n + 1))) in
    ap (λ zs. zs ++ map g (filter test rest)) made
    ∙ ap (λ b. xs ++ map g (cond b (f n ∷ filter test rest) (filter test rest))) (sym fails)
    ∙ sym (ap (λ ns. xs ++ map g (filter test (map f ns))) (count_next n end h)) ∙ left

pub placed_done : {X Y : Type 0} (g : X → Y) (test : X → Bool) (f : ℕ → X) (xs : List Y) (n end : ℕ) (all : List Y) → end ≤ n → xs ++ map g (filter test (map f (count_from n (end - n)))) ≡ all → xs ≡ all
placed_done g test f xs n end all h left = sym (append-nil xs) ∙ sym (ap (λ ns. xs ++ map g (filter test (map f ns))) (none_left n end h)) ∙ left

-- ---- whether some number passes a test

pub any_next : (test : ℕ → Bool) (n end : ℕ) (any : Bool) → n < end → test n ≡ false → list_any test (count_from n (end - n)) ≡ any → list_any test (count_from (n + 1) (end - (n + 1))) ≡ any
any_next test n end any h fails left = sym (ap (λ b. b || list_any test (count_from (n + 1) (end - (n + 1)))) fails) ∙ sym (ap (list_any test) (count_next n end h)) ∙ left

pub any_here : (test : ℕ → Bool) (n end : ℕ) (any : Bool) → n < end → test n ≡ true → list_any test (count_from n (end - n)) ≡ any → true ≡ any
any_here test n end any h passes left = sym (ap (λ b. b || list_any test (count_from (n + 1) (end - (n + 1)))) passes) ∙ sym (ap (list_any test) (count_next n end h)) ∙ left

pub any_done : (test : ℕ → Bool) (n end : ℕ) (any : Bool) → end ≤ n → list_any test (count_from n (end - n)) ≡ any → false ≡ any
any_done test n end any h left = sym (ap (list_any test) (none_left n end h)) ∙ left

-- ---- numbers that pass a test

pub number_kept : (test : ℕ → Bool) (xs new : List ℕ) (n end : ℕ) (all : List ℕ) → n < end → test n ≡ true → new ≡ xs ++ n ∷ [] → xs ++ filter test (count_from n (end - n)) ≡ all → new ++ filter test (count_from (n + 1) (end - (n + 1))) ≡ all
number_kept test xs new n end all h passes made left =
    let rest = count_from (n + 1) (end - (n + 1)) in
    ap (λ zs. zs ++ filter test rest) made
    ∙ one_more xs n (filter test rest)
    ∙ ap (λ b. xs ++ cond b (n ∷ filter test rest) (filter test rest)) (sym passes)
    ∙ sym (ap (λ ns. xs ++ filter test ns) (count_next n end h)) ∙ left

pub number_left_out : (test : ℕ → Bool) (xs new : List ℕ) (n end : ℕ) (all : List ℕ) → n < end → test n ≡ false → new ≡ xs → xs ++ filter test (count_from n (end - n)) ≡ all → new ++ filter test (count_from (n + 1) (end - (n + 1))) ≡ all
number_left_out test xs new n end all h fails made left =
    let rest = count_from (n + 1) (end - (n + 1)) in
    ap (λ zs. zs ++ filter test rest) made
    ∙ ap (λ b. xs ++ cond b (n ∷ filter test rest) (filter test rest)) (sym fails)
    ∙ sym (ap (λ ns. xs ++ filter test ns) (count_next n end h)) ∙ left

pub numbers_done : (test : ℕ → Bool) (xs : List ℕ) (n end : ℕ) (all : List ℕ) → end ≤ n → xs ++ filter test (count_from n (end - n)) ≡ all → xs ≡ all
numbers_done test xs n end all h left = sym (append-nil xs) ∙ sym (ap (λ ns. xs ++ filter test ns) (none_left n end h)) ∙ left
