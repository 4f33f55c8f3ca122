-- In which step of a plan a command stands that stands once, and in which place of its train's path.
use Rattle.std.proofs.Common.{◌≡◌, ℕ, zero, suc, ◌+◌, ◌≤◌, ◌<◌, ◌⊎◌, inl, inr, Bool, true, false, if◌then◌else◌, List, [], ◌∷◌, ◌++◌, filter, take, length, slice_get, Some, refl, sym, ap, subst, ◌∙◌, arith, eq-eqb, length-take}
use Rattle.std.specs.List.{list_any, list_all}
use Rattle.rail_base.specs.declared.station.TrainNo.{TrainNo}
use Rattle.rail_base.specs.declared.route.RouteNo.{RouteNo}
use Rattle.rail_base.specs.declared.plan.Command.{Command}
use Rattle.rail_base.specs.Members.{In, Differ, Pairs}
use Rattle.rail_base.specs.Numbering.{before_first}
use Rattle.rail_base.proofs.Members.{and_left, and_right, and_both, list_any_gives, list_any_from, in_filter, below_or_not}
use Rattle.rail_base.proofs.Lists.{in_append_left, in_append_right, in_map, pairs_across}
use Rattle.rail_spec.specs.Plans.{is_train, is_route, is_command, commands, routes_given, path, step_of, one_each}
use Rattle.rail_laws.proofs.Given.{same_train, same_route, command_in_path, steps_rise, step_some}
use Rattle.rail_laws.proofs.Admits.{once_from}

-- ---- commands

same_command : (c e : Command) → is_command c e ≡ true → c ≡ e
same_command c e h =
    let one : c.train ≡ e.train = same_train c.train e.train (and_left (is_train c.train e.train) (is_route c.route e.route) h) in
    let two : c.route ≡ e.route = same_route c.route e.route (and_right (is_train c.train e.train) (is_route c.route e.route) h) in
    ap (λ u. record { train = u; route = c.route }) one ∙ ap (λ q. record { train = e.train; route = q }) two

is_itself : (c : Command) → is_command c c ≡ true
is_itself c = and_both (is_train c.train c.train) (is_route c.route c.route) (eq-eqb c.train.0 c.train.0 refl) (eq-eqb c.route.0 c.route.0 refl)

in_when_any : (c : Command) (step : List Command) → list_any (is_command c) step ≡ true → In c step
in_when_any c step h = go (list_any_gives (is_command c) step h)
  where
    go : ((e : Command) × In e step × (is_command c e ≡ true)) → In c step
    go (e, m, k) = subst (λ x. In x step) (sym (same_command c e k)) m

any_when_in : (c : Command) (step : List Command) → In c step → list_any (is_command c) step ≡ true
any_when_in c step m = list_any_from (is_command c) step c m (is_itself c)

pub in_given : (c : Command) (step : List Command) → In c step → In c.route (routes_given c.train step)
in_given c step m = in_map (λ (e : Command). e.route) (filter (λ (e : Command). is_train e.train c.train) step) c (in_filter (λ (e : Command). is_train e.train c.train) step c m (eq-eqb c.train.0 c.train.0 refl))

pairs_right : {X : Type 0} (R : X → X → Type 0) (xs ys : List X) → Pairs R (xs ++ ys) → Pairs R ys
pairs_right R [] ys p = p
pairs_right R (x ∷ xs) ys p = pairs_right R xs ys p.1

pub in_commands : (before : List (List Command)) (step : List Command) (later : List (List Command)) (c : Command) → In c step → In c (commands (before ++ step ∷ later))
in_commands [] step later c m = in_append_left c step (commands later) m
in_commands (s ∷ before) step later c m = in_append_right c s (commands (before ++ step ∷ later)) (in_commands before step later c m)

-- ---- steps

pub step_first : (plan : List (List Command)) (c : Command) → step_of plan c ≤ 0 → ⊥
step_first plan c h = let s = step_some plan c in omega arith

-- a command whose train is given no route twice stands in no earlier step
pub step_is : (before : List (List Command)) (step : List Command) (later : List (List Command)) (c : Command) → Differ (path (before ++ step ∷ later) c.train) → In c step → step_of (before ++ step ∷ later) c ≡ length before + 1
step_is [] step later c dif m = ap (λ b. if b then 1 else step_of later c + 1) (any_when_in c step m)
step_is (s ∷ before) step later c dif m = go (step_is before step later c (pairs_right (λ (x y : RouteNo). x ≡ y → ⊥) (routes_given c.train s) (path rest c.train) dif) m) (list_any (is_command c) s) refl
  where
    rest : List (List Command)
    rest = before ++ step ∷ later

    go : step_of rest c ≡ length before + 1 → (b : Bool) → list_any (is_command c) s ≡ b → step_of (s ∷ rest) c ≡ length (s ∷ before) + 1
    go after true e = absurd (pairs_across (λ (x y : RouteNo). x ≡ y → ⊥) (routes_given c.train s) (path rest c.train) dif c.route c.route (in_given c s (in_when_any c s e)) (command_in_path rest c (in_commands before step later c m)) refl)
    go after false e = let k = ap (λ b. if b then 1 else step_of rest c + 1) e in omega (arith, k, after)

-- and a command of that number stands in the step
pub in_step : (before : List (List Command)) (step : List Command) (later : List (List Command)) (c : Command) → step_of (before ++ step ∷ later) c ≡ length before + 1 → In c step
in_step [] step later c h = go (list_any (is_command c) step) refl
  where
    go : (b : Bool) → list_any (is_command c) step ≡ b → In c step
    go true e = in_when_any c step e
    go false e = let k = ap (λ b. if b then 1 else step_of later c + 1) e in let s = step_some later c in absurd (omega (arith, k, s, h))
in_step (s ∷ before) step later c h = go (in_step before step later c) (list_any (is_command c) s) refl
  where
    rest : List (List Command)
    rest = before ++ step ∷ later

    go : (step_of rest c ≡ length before + 1 → In c step) → (b : Bool) → list_any (is_command c) s ≡ b → In c step
    go further true e = let k = ap (λ b. if b then 1 else step_of rest c + 1) e in absurd (omega (arith, k, h))
    go further false e = let k = ap (λ b. if b then 1 else step_of rest c + 1) e in further (omega (arith, k, h))

-- ---- places of a path

-- where a route stands on a path
pub record Stand (ps : List RouteNo) (r : RouteNo) : Type 0 where
  pub place : ℕ
  pub there : slice_get ps place ≡ Some r
  pub less : place < length ps
  pub first : before_first (λ q. is_route q r) ps ≡ take place ps
  pub count : length (before_first (λ q. is_route q r) ps) ≡ place

place_of : (ps : List RouteNo) (r : RouteNo) → In r ps → (i : ℕ) × (slice_get ps i ≡ Some r)
place_of [] r m = absurd m
place_of (p ∷ ps) r (inl e) = (0, ap Some e)
place_of (p ∷ ps) r (inr m) = let k = place_of ps r m in (suc k.0, k.1)

pub get_less : (ps : List RouteNo) (i : ℕ) (r : RouteNo) → slice_get ps i ≡ Some r → i < length ps
get_less [] i r e = cc
get_less (p ∷ ps) zero r e = omega arith
get_less (p ∷ ps) (suc i) r e = let k = get_less ps i r e in omega arith

abbrev pub stand_at : (ps : List RouteNo) → Differ ps → (i : ℕ) (r : RouteNo) → slice_get ps i ≡ Some r → Stand ps r
stand_at ps dif i r e =
    let less = get_less ps i r e in
    let first = once_from ps i r dif e in
    record { place = i; there = e; less = less; first = first; count = ap length first ∙ (let l = length-take i ps in omega arith) }

pub stand : (ps : List RouteNo) → Differ ps → (r : RouteNo) → In r ps → Stand ps r
stand ps dif r m = let k = place_of ps r m in stand_at ps dif k.0 r k.1

-- of two commands of a train the one in the later step stands later on its path
pub stands_later : (plan : List (List Command)) (t : TrainNo) → list_all one_each plan ≡ true → Differ (path plan t) → (r q : RouteNo) (a : Stand (path plan t) r) (b : Stand (path plan t) q)
    → step_of plan (record { train = t; route = r }) < step_of plan (record { train = t; route = q }) → a.place < b.place
stands_later plan t one dif r q a b less = go (below_or_not a.place b.place)
  where
    same : a.place ≡ b.place → ⊥
    same e =
        let is : Some r ≡ Some q = sym a.there ∙ ap (slice_get (path plan t)) e ∙ b.there in
        let route : r ≡ q = cc in
        let step = ap (λ x. step_of plan (record { train = t; route = x })) route in
        omega (arith, step, less)

    after : b.place < a.place → ⊥
    after h = let s = steps_rise plan t one dif b.place a.place q r b.there a.there h in omega (arith, s, less)

    go : (a.place < b.place) ⊎ (b.place ≤ a.place) → a.place < b.place
    go (inl h) = h
    go (inr h) = absurd (later (below_or_not b.place a.place))
      where
        later : (b.place < a.place) ⊎ (a.place ≤ b.place) → ⊥
        later (inl l) = after l
        later (inr l) = same (omega arith)
