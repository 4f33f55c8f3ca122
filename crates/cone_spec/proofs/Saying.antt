-- What it says of a plan that the clause of a cone is false of it.
use Rattle.std.proofs.Common.{◌≡◌, ◌≤◌, inl, inr, Bool, true, false, not, ◌&&◌, if◌then◌else◌, nat_le, List, [], ◌∷◌, ◌++◌, map, flat_map, length, refl, sym, ap, ap₂, subst, ◌∙◌, arith, leb-true, eqb-true, eq-eqb}
use Rattle.std.specs.List.{list_all}
use Rattle.rail_base.specs.declared.station.Station.{Station}
use Rattle.rail_base.specs.declared.station.TrainNo.{TrainNo}
use Rattle.rail_base.specs.declared.route.Route.{Route}
use Rattle.rail_base.specs.declared.plan.Command.{Command}
use Rattle.cone_spec.specs.declared.Cone.{Cone}
use Rattle.rail_base.specs.Numbering.{one_to}
use Rattle.rail_spec.specs.Plans.{route_at, is_train, is_command, contend, share, commands, has_command, commands_of, route_numbers, all_commands}
use Rattle.rail_base.specs.Stations.{trains}
use Rattle.rail_spec.specs.Feasible.{is_of}
use Rattle.rail_base.proofs.Members.{In, and_left, and_right, and_both, list_any_gives, list_any_from, is_false}
use Rattle.cone_spec.specs.Cones.{named, is_named, is_free, has_pair}
use Rattle.cone_spec.specs.Clauses.{is_closed, goes_further, Used, Before, Literal, holds_of, is_true_of, used_literals, before_literals, clause_of_cone, is_false_of}
use Rattle.rail_base.proofs.Lists.{in_map, in_flat_map, in_count}

-- ---- lists

pub is_command_same : (c e : Command) → is_command c e ≡ true → c ≡ e
is_command_same c e h =
    let t : c.train ≡ e.train = ap (λ n. record { 0 = n }) (eqb-true c.train.0 e.train.0 (and_left (is_train c.train e.train) _ h)) in
    let r : c.route ≡ e.route = ap (λ n. record { 0 = n }) (eqb-true c.route.0 e.route.0 (and_right (is_train c.train e.train) _ h)) in
    ap₂ (λ t r. record { train = t; route = r }) t r

pub is_command_self : (c : Command) → is_command c c ≡ true
is_command_self c = and_both _ _ (eq-eqb c.train.0 c.train.0 refl) (eq-eqb c.route.0 c.route.0 refl)

-- ---- commands of a plan

pub has_in : (plan : List (List Command)) (c : Command) → has_command plan c ≡ true → In c (commands plan)
has_in plan c h = go (list_any_gives (is_command c) (commands plan) h)
  where
    go : (e : Command) × In e (commands plan) × (is_command c e ≡ true) → In c (commands plan)
    go (e, m, k) = subst (λ x. In x (commands plan)) (sym (is_command_same c e k)) m

pub in_has : (plan : List (List Command)) (c : Command) → In c (commands plan) → has_command plan c ≡ true
in_has plan c m = list_any_from (is_command c) (commands plan) c m (is_command_self c)

-- ---- all commands

pub in_trains : (d : Station) (t : TrainNo) → 1 ≤ t.0 → t.0 ≤ length d.trains → In t (trains d)
in_trains d t h k = in_map (λ n. record { 0 = n }) (one_to (length d.trains)) t.0 (in_count 1 (length d.trains) t.0 h (omega arith))

pub in_all : (d : Station) (routes : List Route) (c : Command) → 1 ≤ c.train.0 → c.train.0 ≤ length d.trains → 1 ≤ c.route.0 → c.route.0 ≤ length routes → In c (all_commands d routes)
in_all d routes c a b e f =
    in_flat_map (commands_of routes) (trains d) c.train c (in_trains d c.train a b)
    (in_map (λ r. record { train = c.train; route = r }) (route_numbers routes) c.route (in_map (λ n. record { 0 = n }) (one_to (length routes)) c.route.0 (in_count 1 (length routes) c.route.0 e (omega arith))))

pub is_of_in_all : (d : Station) (routes : List Route) (c : Command) → is_of d routes c ≡ true → In c (all_commands d routes)
is_of_in_all d routes c h =
    let abc = and_left (nat_le 1 c.train.0 && nat_le c.train.0 (length d.trains) && nat_le 1 c.route.0) _ h in
    let ab = and_left (nat_le 1 c.train.0 && nat_le c.train.0 (length d.trains)) _ abc in
    in_all d routes c
    (leb-true _ _ (and_left (nat_le 1 c.train.0) _ ab)) (leb-true _ _ (and_right (nat_le 1 c.train.0) _ ab))
    (leb-true _ _ (and_right (nat_le 1 c.train.0 && nat_le c.train.0 (length d.trains)) _ abc)) (leb-true _ _ (and_right (nat_le 1 c.train.0 && nat_le c.train.0 (length d.trains) && nat_le 1 c.route.0) _ h))

-- ---- what the clause says

pub all_left : {X : Type 0} (test : X → Bool) (xs ys : List X) → list_all test (xs ++ ys) ≡ true → list_all test xs ≡ true
all_left test [] ys h = refl
all_left test (x ∷ xs) ys h = and_both _ _ (and_left (test x) _ h) (all_left test xs ys (and_right (test x) _ h))

pub all_right : {X : Type 0} (test : X → Bool) (xs ys : List X) → list_all test (xs ++ ys) ≡ true → list_all test ys ≡ true
all_right test [] ys h = h
all_right test (x ∷ xs) ys h = all_right test xs ys (and_right (test x) _ h)

pub all_of_each : {X Y : Type 0} (test : Y → Bool) (f : X → List Y) (xs : List X) (x : X) → list_all test (flat_map f xs) ≡ true → In x xs → list_all test (f x) ≡ true
all_of_each test f [] x h m = absurd m
all_of_each test f (y ∷ ys) x h (inl e) = ap (λ z. list_all test (f z)) (sym e) ∙ all_left test (f y) (flat_map f ys) h
all_of_each test f (y ∷ ys) x h (inr m) = all_of_each test f ys x (all_right test (f y) (flat_map f ys) h) m

pub not_not : (b : Bool) → not (not b) ≡ true → b ≡ true
not_not true h = refl
not_not false h = h

module _ (d : Station) (routes : List Route) (k : Cone) (plan : List (List Command)) where
  abbrev fails : Literal → Bool
  fails l = not (is_true_of plan l)

  pub record Denied : Type 0 where
    -- all commands of the cone are given
    pub used : (c : Command) → In c (all_commands d routes) → is_named k c ≡ true → has_command plan c ≡ true
    -- no train goes on where the cone says that it doesn't
    pub ends : (c : Command) → In c (all_commands d routes) → is_named k c ≡ false → is_closed d routes k c.train ≡ true → goes_further (map (route_at routes) (named k c.train).path) (route_at routes c.route) ≡ true → has_command plan c ≡ false
    -- the listed pairs are given in that order
    pub listed : (e c : Command) → In e (all_commands d routes) → In c (all_commands d routes) → has_pair k e c ≡ true → holds_of plan (Before e c) ≡ true
    -- and no other command that shares a section with a free one is given before it
    pub unlisted : (e c : Command) → In e (all_commands d routes) → In c (all_commands d routes) → has_pair k e c ≡ false → is_free k c ≡ true → is_train e.train c.train ≡ false → share (route_at routes e.route) (route_at routes c.route) ≡ true → holds_of plan (Before e c) ≡ false

  pub denied : is_false_of plan (clause_of_cone d routes k) ≡ true → Denied
  denied h =
      let one = all_left fails (flat_map (used_literals d routes k) (all_commands d routes)) _ h in
      let two = all_right fails (flat_map (used_literals d routes k) (all_commands d routes)) _ h in
      record {
        used = λ c m n. used_of c n (all_of_each fails (used_literals d routes k) (all_commands d routes) c one m);
        ends = λ c m n a b. ends_of c n a b (all_of_each fails (used_literals d routes k) (all_commands d routes) c one m);
        listed = λ e c m n l. listed_of e c l (all_of_each fails (before_literals d routes k e) (all_commands d routes) c (all_of_each fails (λ e. flat_map (before_literals d routes k e) (all_commands d routes)) (all_commands d routes) e two m) n);
        unlisted = λ e c m n l f t s. unlisted_of e c l f t s (all_of_each fails (before_literals d routes k e) (all_commands d routes) c (all_of_each fails (λ e. flat_map (before_literals d routes k e) (all_commands d routes)) (all_commands d routes) e two m) n);
      }
    where
      used_of : (c : Command) → is_named k c ≡ true → list_all fails (used_literals d routes k c) ≡ true → has_command plan c ≡ true
      used_of c n a =
          let b : list_all fails (record { fact = Used c; negated = true } ∷ []) ≡ true =
          sym (ap (λ b. list_all fails (if b then record { fact = Used c; negated = true } ∷ []
          else if is_closed d routes k c.train && goes_further (map (route_at routes) (named k c.train).path) (route_at routes c.route) then record { fact = Used c; negated = false } ∷ [] else [])) n) ∙ a in
          not_not (has_command plan c) (and_left _ _ b)

      ends_of : (c : Command) → is_named k c ≡ false → is_closed d routes k c.train ≡ true → goes_further (map (route_at routes) (named k c.train).path) (route_at routes c.route) ≡ true → list_all fails (used_literals d routes k c) ≡ true → has_command plan c ≡ false
      ends_of c n e f a =
          let b : list_all fails (record { fact = Used c; negated = false } ∷ []) ≡ true =
          sym (ap₂ (λ b g. list_all fails (if b then record { fact = Used c; negated = true } ∷ [] else if g then record { fact = Used c; negated = false } ∷ [] else [])) n (and_both _ _ e f)) ∙ a in
          is_false (has_command plan c) (and_left _ _ b)

      listed_of : (e c : Command) → has_pair k e c ≡ true → list_all fails (before_literals d routes k e c) ≡ true → holds_of plan (Before e c) ≡ true
      listed_of e c n a =
          let b : list_all fails (record { fact = Before e c; negated = true } ∷ []) ≡ true =
          sym (ap (λ b. list_all fails (if b then record { fact = Before e c; negated = true } ∷ []
          else if is_free k c && contend routes e c then record { fact = Before e c; negated = false } ∷ [] else [])) n) ∙ a in
          not_not (holds_of plan (Before e c)) (and_left _ _ b)

      unlisted_of : (e c : Command) → has_pair k e c ≡ false → is_free k c ≡ true → is_train e.train c.train ≡ false → share (route_at routes e.route) (route_at routes c.route) ≡ true → list_all fails (before_literals d routes k e c) ≡ true → holds_of plan (Before e c) ≡ false
      unlisted_of e c n f t s a =
          let b : list_all fails (record { fact = Before e c; negated = false } ∷ []) ≡ true =
          sym (ap₂ (λ b g. list_all fails (if b then record { fact = Before e c; negated = true } ∷ [] else if g then record { fact = Before e c; negated = false } ∷ [] else [])) n (and_both _ _ f (and_both _ _ (ap not t) s))) ∙ a in
          is_false (holds_of plan (Before e c)) (and_left _ _ b)
