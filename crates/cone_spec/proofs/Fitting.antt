-- A valid cone fits each well-formed plan of which its clause is false.
use Rattle.std.proofs.Common.{◌≡◌, ℕ, zero, suc, ◌+◌, ◌-◌, ◌≤◌, ◌<◌, ◌⊎◌, inl, inr, Bool, true, false, not, ◌&&◌, ◌||◌, nat_le, ◌==◌, List, [], ◌∷◌, ◌++◌, map, length, take, drop, slice_get, Option, None, Some, refl, sym, ap, ap₂, subst, ◌∙◌, arith, leb-true, leb-false, le-leb, eqb-true, true≢false, append_assoc, length-take}
use Rattle.std.specs.List.{list_all}
use Rattle.std.proofs.lemmas.List.{map-append, take-append-drop}
use Rattle.rail_base.specs.declared.station.Station.{Station}
use Rattle.rail_base.specs.declared.station.TrainNo.{TrainNo}
use Rattle.rail_base.specs.declared.station.SectionNo.{SectionNo}
use Rattle.rail_base.specs.declared.route.Route.{Route}
use Rattle.rail_base.specs.declared.route.RouteNo.{RouteNo}
use Rattle.rail_base.specs.declared.plan.Command.{Command}
use Rattle.cone_spec.specs.declared.ConeTrain.{ConeTrain}
use Rattle.cone_spec.specs.declared.Cone.{Cone}
use Rattle.rail_spec.specs.Plans.{route_at, is_train, is_start, goes_on, end_at_one_signal, begins_in, is_path, share, shared, commands, path, path_routes, preceding, precedes, is_well_formed, one_each, has_command}
use Rattle.rail_base.specs.Members.{all_pairs, all_neighbors}
use Rattle.rail_base.specs.Stations.{first_visit, trains, train_of}
use Rattle.rail_spec.specs.Feasible.{is_of, names_only}
use Rattle.rail_spec.specs.Dispatches.{state_of, pasts_at, state_at, has_released}
use Rattle.rail_base.proofs.Members.{In, and_left, and_right, and_both, list_all_at, list_any_gives, in_filter, is_false, not_less}
use Rattle.rail_spec.specs.Dispatches.{of_plan}
use Rattle.cone_spec.specs.Cones.{unnamed, named, free_path, all_free, has_route, is_named, is_free, has_pair, of_cone}
use Rattle.cone_spec.specs.Validity.{from_boundary, in_design, granted_at, free_granted, just_granted, holds_up, holder_needed, holder_fits}
use Rattle.cone_spec.specs.Clauses.{holds_of, Before, is_closed, is_path_violation, goes_further, clause_of_cone, is_false_of}
use Rattle.rail_laws.proofs.Running.{run_up_to, released_up_to}
use Rattle.cone_spec.proofs.Agreement.{Held, Meeting, Fits, Agree, agreement, slice_get-end, slice_get-append}
use Rattle.cone_spec.proofs.Prefixes.{prefix_of, further, not_among, is_start_same, not_both}
use Rattle.cone_spec.proofs.Saying.{has_in, in_has, in_trains, is_of_in_all, Denied, denied}
use Rattle.cone_spec.proofs.Naming.{has_route_in, in_has_route, IsNamed, named_or_not, OfDesign, of_design, Proper, proper, named_in_all, listed_is, listed_waits, waits_listed}
use Rattle.rail_base.proofs.Lists.{in_append_right, in_map, in_filter_back}
use Rattle.rail_laws.proofs.Standing.{in_path}
use Rattle.rail_laws.proofs.Given.{command_in_path}

pub in_take : {X : Type 0} (n : ℕ) (xs : List X) (x : X) → In x (take n xs) → In x xs
in_take zero xs x m = absurd m
in_take (suc n) [] x m = absurd m
in_take (suc n) (y ∷ ys) x (inl e) = inl e
in_take (suc n) (y ∷ ys) x (inr m) = inr (in_take n ys x m)

module _ (d : Station) (routes : List Route) (n : ℕ) (k : Cone) (plan : List (List Command)) where
  -- the cone is valid but for its violation, the plan is well formed for n steps, and the clause is false of it
  pub record Rests : Type 0 where
    pub names : names_only d routes plan ≡ true
    pub formed : is_well_formed d routes n plan ≡ true
    pub in_design : in_design d routes k ≡ true
    pub granted : list_all (free_granted d routes k) k.trains ≡ true
    pub holders : list_all (λ c. holder_fits d routes k c c.holder) k.trains ≡ true
    pub denies : is_false_of plan (clause_of_cone d routes k) ≡ true

  module _ (rests : Rests) where
    pub ofd : OfDesign d routes k
    ofd = of_design d routes k rests.in_design

    den : Denied d routes k plan
    den = denied d routes k plan rests.denies

    -- ---- what is well formed

    pub record Formed (t : TrainNo) : Type 0 where
      pub begins : begins_in (first_visit (train_of d t)) (path_routes routes plan t) ≡ true
      pub goes : all_neighbors (λ r q. goes_on r.finish q.start) (path_routes routes plan t) ≡ true
      pub starts : all_pairs (λ r q. not (is_start r.start q.start)) (path_routes routes plan t) ≡ true
      pub ends : all_pairs (λ r q. not (end_at_one_signal r.finish q.finish)) (path_routes routes plan t) ≡ true

    formed_of : (t : TrainNo) → 1 ≤ t.0 → t.0 ≤ length d.trains → Formed t
    formed_of t a b =
        let h = list_all_at (λ t. is_path (train_of d t) (path_routes routes plan t)) (trains d) t (and_right (nat_le (length plan) n && list_all one_each plan) _ rests.formed) (in_trains d t a b) in
        let xyz = and_left (begins_in (first_visit (train_of d t)) (path_routes routes plan t) && all_neighbors (λ r q. goes_on r.finish q.start) (path_routes routes plan t) && all_pairs (λ r q. not (is_start r.start q.start)) (path_routes routes plan t)) _ h in
        let xy = and_left (begins_in (first_visit (train_of d t)) (path_routes routes plan t) && all_neighbors (λ r q. goes_on r.finish q.start) (path_routes routes plan t)) _ xyz in
        record {
          begins = and_left (begins_in (first_visit (train_of d t)) (path_routes routes plan t)) _ xy;
          goes = and_right (begins_in (first_visit (train_of d t)) (path_routes routes plan t)) _ xy;
          starts = and_right (begins_in (first_visit (train_of d t)) (path_routes routes plan t) && all_neighbors (λ r q. goes_on r.finish q.start) (path_routes routes plan t)) _ xyz;
          ends = and_right (begins_in (first_visit (train_of d t)) (path_routes routes plan t) && all_neighbors (λ r q. goes_on r.finish q.start) (path_routes routes plan t) && all_pairs (λ r q. not (is_start r.start q.start)) (path_routes routes plan t)) _ h;
        }

    pub proper_of : (t : TrainNo) → IsNamed k.trains t → Proper d routes k (named k t)
    proper_of t i = proper d routes k ofd (named k t) i.member

    formed_named : (t : TrainNo) → IsNamed k.trains t → Formed t
    formed_named t i =
        let p = proper_of t i in
        let e : (named k t).train.0 ≡ t.0 = ap (λ (t : TrainNo). t.0) i.train in
        let a = p.first in
        let b = p.last in
        formed_of t (omega arith) (omega arith)

    from_is : (t : TrainNo) → IsNamed k.trains t → from_boundary (map (route_at routes) (named k t).path) ≡ true
    from_is t i =
        let w = (proper_of t i).way in
        and_left (from_boundary (map (route_at routes) (named k t).path)) _ (and_left (from_boundary (map (route_at routes) (named k t).path) && all_neighbors (λ r q. goes_on r.finish q.start) (map (route_at routes) (named k t).path)) _ w)

    -- a command of the cone is given by the plan
    given : (c : Command) → is_named k c ≡ true → In c (commands plan)
    given c h = has_in plan c (den.used c (named_in_all d routes k ofd c h) h)

    -- ---- the path in the cone is the prefix of the path in the plan

    pub whole_prefix : (t : TrainNo) → (rest : List RouteNo) × (path plan t ≡ (named k t).path ++ rest)
    whole_prefix t = go (named_or_not k.trains t)
      where
        go : IsNamed k.trains t ⊎ (named k t ≡ unnamed t) → (rest : List RouteNo) × (path plan t ≡ (named k t).path ++ rest)
        go (inr e) = (path plan t, sym (ap (λ (c : ConeTrain). c.path ++ path plan t) e))
        go (inl i) =
            let f = formed_named t i in
            let w = (proper_of t i).way in
            prefix_of (route_at routes) (first_visit (train_of d t)) (named k t).path (path plan t) (record {
              from = from_is t i;
              goes = and_right (from_boundary (map (route_at routes) (named k t).path)) _ (and_left (from_boundary (map (route_at routes) (named k t).path) && all_neighbors (λ r q. goes_on r.finish q.start) (map (route_at routes) (named k t).path)) _ w);
              begins = f.begins;
              goes_too = f.goes;
              ends = f.ends;
              all_in = λ r m. command_in_path plan (record { train = t; route = r }) (given (record { train = t; route = r }) (in_has_route (named k t).path r m));
            })

    -- and the whole of it, where the cone says that the train goes no further
    pub whole_path : (t : TrainNo) → IsNamed k.trains t → is_closed d routes k t ≡ true → path plan t ≡ (named k t).path
    whole_path t i closed = go (whole_prefix t).0 (whole_prefix t).1
      where
        f : Formed t
        f = formed_named t i

        go : (rest : List RouteNo) → path plan t ≡ (named k t).path ++ rest → path plan t ≡ (named k t).path
        go [] e = e ∙ no_more (named k t).path
          where
            no_more : (xs : List RouteNo) → xs ++ [] ≡ xs
            no_more [] = refl
            no_more (x ∷ xs) = ap (λ ys. x ∷ ys) (no_more xs)
        go (q ∷ more) e =
            let whole : path_routes routes plan t ≡ map (route_at routes) (named k t).path ++ route_at routes q ∷ map (route_at routes) more = ap (map (route_at routes)) e ∙ map-append (route_at routes) (named k t).path (q ∷ more) in
            let on : goes_further (map (route_at routes) (named k t).path) (route_at routes q) ≡ true =
            further (map (route_at routes) (named k t).path) (route_at routes q) (map (route_at routes) more) (from_is t i)
            (subst (λ rs. all_neighbors (λ r q. goes_on r.finish q.start) rs ≡ true) whole f.goes) (subst (λ rs. all_pairs (λ r q. not (is_start r.start q.start)) rs ≡ true) whole f.starts) in
            let c : Command = record { train = t; route = q } in
            let member : In c (commands plan) = in_plan q (subst (In q) (sym e) (in_append_right q (named k t).path (q ∷ more) (inl refl))) in
            let has : has_command plan c ≡ true = in_has plan c member in
            let hasnt : has_command plan c ≡ false = den.ends c (is_of_in_all d routes c (list_all_at (is_of d routes) (commands plan) c rests.names member)) (not_named q on) closed on in
            absurd (true≢false (sym has ∙ hasnt))
          where
            in_plan : (r : RouteNo) → In r (path plan t) → In (record { train = t; route = r }) (commands plan)
            in_plan r m = in_path t plan r m

            not_named : (q : RouteNo) → goes_further (map (route_at routes) (named k t).path) (route_at routes q) ≡ true → has_route (named k t).path q ≡ false
            not_named q on = at (has_route (named k t).path q) refl
              where
                at : (b : Bool) → has_route (named k t).path q ≡ b → has_route (named k t).path q ≡ false
                at false h = h
                at true h = absurd (true≢false (sym (is_start_same (route_at routes q).start) ∙ not_among (map (route_at routes) (named k t).path) (route_at routes q) (route_at routes q) on (in_map (route_at routes) (named k t).path q (has_route_in (named k t).path q h))))

    -- ---- what precedes

    pub precedes_listed : (e c : Command) → is_free k c ≡ true → is_named k c ≡ true → In e (preceding routes plan c) → has_pair k e c ≡ true
    precedes_listed e c free name m = at (has_pair k e c) refl
      where
        member : In e (commands plan) × (precedes routes plan e c ≡ true)
        member = in_filter_back (precedes_c) (commands plan) e m
          where
            precedes_c : Command → Bool
            precedes_c e = precedes routes plan e c

        at : (b : Bool) → has_pair k e c ≡ b → has_pair k e c ≡ true
        at true h = h
        at false h =
            let ab = and_left (not (is_train e.train c.train) && share (route_at routes e.route) (route_at routes c.route)) _ member.1 in
            let apart = is_false _ (and_left (not (is_train e.train c.train)) _ ab) in
            let sharing = and_right (not (is_train e.train c.train)) _ ab in
            let earlier = and_right (not (is_train e.train c.train) && share (route_at routes e.route) (route_at routes c.route)) _ member.1 in
            let there : holds_of plan (Before e c) ≡ true = and_both _ _ (and_both _ _ (in_has plan e member.0) (in_has plan c (given c name))) earlier in
            let not_there = den.unlisted e c (is_of_in_all d routes e (list_all_at (is_of d routes) (commands plan) e rests.names member.0)) (named_in_all d routes k ofd c name) h free apart sharing in
            absurd (true≢false (sym there ∙ not_there))

    pub listed_precedes : (e c : Command) → has_pair k e c ≡ true → In e (preceding routes plan c)
    listed_precedes e c h =
        let l = listed_is d routes k ofd e c h in
        let there = den.listed e c (named_in_all d routes k ofd e l.first) (named_in_all d routes k ofd c l.second) h in
        let earlier = and_right (has_command plan e && has_command plan c) _ there in
        in_filter (λ e. precedes routes plan e c) (commands plan) e (given e l.first) (and_both _ _ (and_both _ _ (ap not l.apart) l.sharing) earlier)

    -- ---- the free commands

    free_is_named : (t : TrainNo) (r : RouteNo) → In r (free_path k t) → (is_free k (record { train = t; route = r }) ≡ true) × (is_named k (record { train = t; route = r }) ≡ true)
    free_is_named t r m = (in_has_route (free_path k t) r m, in_has_route (named k t).path r (in_take (named k t).free (named k t).path r m))

    pub few_free : (t : TrainNo) → length (free_path k t) ≡ (named k t).free
    few_free t = go (named_or_not k.trains t)
      where
        go : IsNamed k.trains t ⊎ (named k t ≡ unnamed t) → length (free_path k t) ≡ (named k t).free
        go (inr e) = ap (λ (c : ConeTrain). length (take c.free c.path)) e ∙ sym (ap (λ (c : ConeTrain). c.free) e)
        go (inl i) = let f = (proper_of t i).free in let l = length-take (named k t).free (named k t).path in omega arith

    all_granted : (t : TrainNo) → length (free_path k t) ≤ (state_of (state_at d routes (of_cone k) (named k t).horizon) t).granted
    all_granted t = go (named_or_not k.trains t)
      where
        go : IsNamed k.trains t ⊎ (named k t ≡ unnamed t) → length (free_path k t) ≤ (state_of (state_at d routes (of_cone k) (named k t).horizon) t).granted
        go (inr e) = let l = few_free t in let z : (named k t).free ≡ 0 = ap (λ (c : ConeTrain). c.free) e in omega arith
        go (inl i) =
            let h = leb-true _ _ (list_all_at (free_granted d routes k) k.trains (named k t) rests.granted i.member) in
            let same : granted_at d routes k (named k t).horizon (named k t).train ≡ granted_at d routes k (named k t).horizon t = ap (granted_at d routes k (named k t).horizon) i.train in
            let l = few_free t in
            omega arith

    -- ---- the first waiting command is held up

    abbrev HeldUp : ℕ → TrainNo → RouteNo → Type 0
    HeldUp tick t w = Held d routes (of_cone k) (of_plan routes plan) (λ t. (named k t).horizon) tick t w

    unreleased_before : (tick later : ℕ) (e : Command) (z : SectionNo) → tick ≤ later → has_released d routes (of_cone k) (pasts_at d routes (of_cone k) later) e z ≡ false → has_released d routes (of_cone k) (pasts_at d routes (of_cone k) tick) e z ≡ false
    unreleased_before tick later e z l h = go (has_released d routes (of_cone k) (pasts_at d routes (of_cone k) tick) e z) refl
      where
        go : (b : Bool) → has_released d routes (of_cone k) (pasts_at d routes (of_cone k) tick) e z ≡ b → has_released d routes (of_cone k) (pasts_at d routes (of_cone k) tick) e z ≡ false
        go false r = r
        go true r = absurd (true≢false (sym (released_up_to d routes (of_cone k) tick later e z l r) ∙ h))

    by_holder : (t : TrainNo) (w : RouteNo) (tick : ℕ) (e : Command) → (named k t).train ≡ t → tick < (named k t).horizon → holds_up d routes k (named k t) e (Some w) ≡ true → HeldUp tick t w
    by_holder t w tick e same l h = go (list_any_gives _ (shared (route_at routes e.route) (route_at routes w)) (and_right (has_pair k e (record { train = (named k t).train; route = w }) && nat_le (named k t).horizon ((named k e.train).horizon + 1)) _ h))
      where
        ab : (has_pair k e (record { train = (named k t).train; route = w }) && nat_le (named k t).horizon ((named k e.train).horizon + 1)) ≡ true
        ab = and_left (has_pair k e (record { train = (named k t).train; route = w }) && nat_le (named k t).horizon ((named k e.train).horizon + 1)) _ h

        listed : has_pair k e (record { train = t; route = w }) ≡ true
        listed = subst (λ u. has_pair k e (record { train = u; route = w }) ≡ true) same (and_left (has_pair k e (record { train = (named k t).train; route = w })) _ ab)

        near : (named k t).horizon ≤ (named k e.train).horizon + 1
        near = leb-true _ _ (and_right (has_pair k e (record { train = (named k t).train; route = w })) _ ab)

        go : (z : SectionNo) × In z (shared (route_at routes e.route) (route_at routes w)) × (not (has_released d routes (of_cone k) (pasts_at d routes (of_cone k) ((named k t).horizon - 1)) e z) ≡ true) → HeldUp tick t w
        go (z, m, r) = record {
          holder = e;
          section = z;
          before = listed_precedes e (record { train = t; route = w }) listed;
          shares = m;
          near = let n = near in omega arith;
          unreleased = unreleased_before tick ((named k t).horizon - 1) e z (omega arith) (is_false _ r);
        }

    held_up : (t : TrainNo) (w : RouteNo) (tick : ℕ) → tick < (named k t).horizon → slice_get (path plan t) (length (free_path k t)) ≡ Some w → (state_of (state_at d routes (of_cone k) tick) t).granted ≡ length (free_path k t) → HeldUp tick t w
    held_up t w tick l at g = go (named_or_not k.trains t)
      where
        few : length (free_path k t) ≡ (named k t).free
        few = few_free t

        go : IsNamed k.trains t ⊎ (named k t ≡ unnamed t) → HeldUp tick t w
        go (inr e) = let z : (named k t).horizon ≡ 0 = ap (λ (c : ConeTrain). c.horizon) e in absurd (omega arith)
        go (inl i) = waiting (all_free (named k t)) refl
          where
            waiting : (b : Bool) → all_free (named k t) ≡ b → HeldUp tick t w
            waiting true a =
                let all : length (named k t).path ≤ (named k t).free = leb-true _ _ a in
                let whole = whole_path t i (ap (λ b. b || is_path_violation d routes k k.violation) a) in
                let none : slice_get (path plan t) (length (free_path k t)) ≡ None = ap (λ xs. slice_get xs (length (free_path k t))) whole ∙ slice_get-end (named k t).path (length (free_path k t)) (let f = few in omega arith) in
                let clash : Some w ≡ None = sym at ∙ none in
                cc
            waiting false a = by (named k t).holder (list_all_at (λ c. holder_fits d routes k c c.holder) k.trains (named k t) rests.holders i.member)
              where
                some : (named k t).free < length (named k t).path
                some = leb-false (length (named k t).path) (named k t).free a

                place : slice_get (named k t).path (named k t).free ≡ Some w
                place = sym (ap₂ slice_get (whole_prefix t).1 few ∙ slice_get-append (named k t).path (whole_prefix t).0 (named k t).free some) ∙ at

                positive : (n : ℕ) → tick < n → (n == 0) ≡ false
                positive n h = at_zero (n == 0) refl
                  where
                    at_zero : (b : Bool) → (n == 0) ≡ b → (n == 0) ≡ false
                    at_zero false e = e
                    at_zero true e = let z : n ≡ 0 = eqb-true n 0 e in absurd (omega arith)

                before_horizon : just_granted d routes k (named k t) ≡ false
                before_horizon =
                    let up = (run_up_to d routes (of_cone k) tick ((named k t).horizon - 1) t (omega arith)).granted in
                    let same : granted_at d routes k ((named k t).horizon - 1) (named k t).train ≡ granted_at d routes k ((named k t).horizon - 1) t = ap (granted_at d routes k ((named k t).horizon - 1)) i.train in
                    not_less _ _ (let f = few in omega arith)

                needed : holder_needed d routes k (named k t) ≡ true
                needed = and_both _ _ (and_both _ _ (ap not a) (ap not (positive (named k t).horizon l))) (ap not before_horizon)

                by : (o : Option Command) → holder_fits d routes k (named k t) o ≡ true → HeldUp tick t w
                by None h = absurd (not_both _ h needed)
                by (Some e) h = by_holder t w tick e i.train l (ap (holds_up d routes k (named k t) e) (sym place) ∙ and_right (holder_needed d routes k (named k t)) _ h)

    -- ---- the cone fits the plan

    pub meeting : Meeting d routes (of_cone k) (of_plan routes plan) (λ t. (named k t).horizon)
    meeting = record {
      concerned = λ tick t l. le-leb tick (named k t).horizon l;
      left = λ tick t l. not_up_to tick (named k t).horizon l;
      always = λ tick t. refl;
      rest = λ t. drop (named k t).free (named k t).path ++ (whole_prefix t).0;
      prefix = λ t. (whole_prefix t).1 ∙ ap (λ xs. xs ++ (whole_prefix t).0) (sym (take-append-drop (named k t).free (named k t).path)) ∙ append_assoc (free_path k t) (drop (named k t).free (named k t).path) (whole_prefix t).0;
      waits_for = λ t r e m i. let f = free_is_named t r m in listed_waits d routes k e (record { train = t; route = r }) (precedes_listed e (record { train = t; route = r }) f.0 f.1 i);
      waits_too = λ t r e m i. listed_precedes e (record { train = t; route = r }) (waits_listed d routes k e (record { train = t; route = r }) i);
    }
      where
        not_up_to : (a b : ℕ) → b < a → nat_le a b ≡ false
        not_up_to a b l = go (nat_le a b) refl
          where
            go : (t : Bool) → nat_le a b ≡ t → nat_le a b ≡ false
            go false e = e
            go true e = let m = leb-true a b e in absurd (omega arith)

    pub fits : Fits d routes (of_cone k) (of_plan routes plan) (λ t. (named k t).horizon)
    fits = record { meeting = meeting; all_granted = all_granted; holder_fits = held_up }

    pub agrees : (tick : ℕ) (t : TrainNo) → Agree d routes (of_cone k) (of_plan routes plan) (λ t. (named k t).horizon) tick t
    agrees = agreement d routes (of_cone k) (of_plan routes plan) (λ t. (named k t).horizon) fits
