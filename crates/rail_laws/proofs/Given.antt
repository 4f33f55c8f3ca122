-- In which steps, and in which places of its path, a train's commands stand.
use Rattle.std.proofs.Common.{◌≡◌, ℕ, zero, suc, ◌+◌, ◌≤◌, ◌<◌, ◌⊎◌, inl, inr, Bool, true, false, cond, not, ◌&&◌, if◌then◌else◌, List, [], ◌∷◌, ◌++◌, map, filter, slice_get, Some, refl, sym, ap, subst, ◌∙◌, arith, eqb-true, eq-eqb, true≢false}
use Rattle.std.specs.List.{list_any, list_all}
use Rattle.std.proofs.lemmas.List.{map-append}
use Rattle.rail_base.specs.declared.station.TrainNo.{TrainNo}
use Rattle.rail_base.specs.declared.route.RouteNo.{RouteNo}
use Rattle.rail_base.specs.declared.plan.Command.{Command}
use Rattle.rail_base.specs.Members.{In, Differ, all_pairs}
use Rattle.rail_spec.specs.Plans.{is_train, is_route, is_command, commands, routes_given, path, step_of, one_each}
use Rattle.rail_base.proofs.Members.{and_left, and_right, and_both, list_all_at, list_any_gives, list_any_from, in_filter, filter-append}
use Rattle.rail_base.proofs.Lists.{in_map}
use Rattle.rail_laws.proofs.Sums.{get_in}
use Rattle.rail_laws.proofs.Standing.{in_routes_given}

pub same_train : (t u : TrainNo) → is_train t u ≡ true → t ≡ u
same_train t u h = let n : t.0 ≡ u.0 = eqb-true t.0 u.0 h in ap (λ k. record { 0 = k }) n

pub same_route : (r q : RouteNo) → is_route r q ≡ true → r ≡ q
same_route r q h = let n : r.0 ≡ q.0 = eqb-true r.0 q.0 h in ap (λ k. record { 0 = k }) n

-- the path, out of all commands
pub path_is : (t : TrainNo) (plan : List (List Command)) → path plan t ≡ map (λ (c : Command). c.route) (filter (λ (c : Command). is_train c.train t) (commands plan))
path_is t [] = refl
path_is t (step ∷ steps) =
    ap (λ rs. routes_given t step ++ rs) (path_is t steps)
    ∙ sym (map-append (λ (c : Command). c.route) (filter (λ (c : Command). is_train c.train t) step) (filter (λ (c : Command). is_train c.train t) (commands steps)))
    ∙ ap (map (λ (c : Command). c.route)) (sym (filter-append (λ (c : Command). is_train c.train t) step (commands steps)))

pub command_in_path : (plan : List (List Command)) (c : Command) → In c (commands plan) → In c.route (path plan c.train)
command_in_path plan c m =
    subst (In c.route) (sym (path_is c.train plan)) (in_map (λ (e : Command). e.route) _ c (in_filter (λ (e : Command). is_train e.train c.train) (commands plan) c m (eq-eqb c.train.0 c.train.0 refl)))

-- ---- one step

given_there : (t : TrainNo) (step : List Command) (r : RouteNo) → list_any (is_command (record { train = t; route = r })) step ≡ true → In r (routes_given t step)
given_there t step r h = go (list_any_gives (is_command (record { train = t; route = r })) step h)
  where
    go : ((c : Command) × In c step × ((is_train t c.train && is_route r c.route) ≡ true)) → In r (routes_given t step)
    go (c, m, k) =
        let one : t ≡ c.train = same_train t c.train (and_left (is_train t c.train) (is_route r c.route) k) in
        let two : r ≡ c.route = same_route r c.route (and_right (is_train t c.train) (is_route r c.route) k) in
        subst (λ q. In q (routes_given t step)) (sym two) (in_map (λ (e : Command). e.route) (filter (λ (e : Command). is_train e.train t) step) c (in_filter (λ (e : Command). is_train e.train t) step c m (eq-eqb c.train.0 t.0 (ap (λ (u : TrainNo). u.0) (sym one)))))

given_back : (t : TrainNo) (step : List Command) (r : RouteNo) → In r (routes_given t step) → list_any (is_command (record { train = t; route = r })) step ≡ true
given_back t step r m = list_any_from (is_command (record { train = t; route = r })) step (record { train = t; route = r }) (in_routes_given t step r m) (and_both (is_train t t) (is_route r r) (eq-eqb t.0 t.0 refl) (eq-eqb r.0 r.0 refl))

not_given : (t : TrainNo) (step : List Command) (r : RouteNo) → (In r (routes_given t step) → ⊥) → list_any (is_command (record { train = t; route = r })) step ≡ false
not_given t step r h = go (list_any (is_command (record { train = t; route = r })) step) refl
  where
    go : (b : Bool) → list_any (is_command (record { train = t; route = r })) step ≡ b → b ≡ false
    go false e = refl
    go true e = absurd (h (given_there t step r e))

none_of : (t : TrainNo) (cs : List Command) → ((c : Command) → In c cs → is_train c.train t ≡ true → ⊥) → routes_given t cs ≡ []
none_of t [] h = refl
none_of t (c ∷ cs) h = go (is_train c.train t) refl (none_of t cs (λ e m. h e (inr m)))
  where
    go : (b : Bool) → is_train c.train t ≡ b → routes_given t cs ≡ [] → map (λ (e : Command). e.route) (cond b (c ∷ filter (λ (e : Command). is_train e.train t) cs) (filter (λ (e : Command). is_train e.train t) cs)) ≡ []
    go false e k = k
    go true e k = absurd (h c (inl refl) e)

at_most_one : (t : TrainNo) (step : List Command) → one_each step ≡ true → (routes_given t step ≡ []) ⊎ ((r : RouteNo) × (routes_given t step ≡ r ∷ []))
at_most_one t [] h = inl refl
at_most_one t (c ∷ cs) h = go (is_train c.train t) refl (at_most_one t cs (and_right (list_all (λ (e : Command). not (is_train c.train e.train)) cs) _ h))
  where
    others : is_train c.train t ≡ true → (e : Command) → In e cs → is_train e.train t ≡ true → ⊥
    others one e m two =
        let apart = list_all_at (λ (e : Command). not (is_train c.train e.train)) cs e (and_left _ (all_pairs (λ (c e : Command). not (is_train c.train e.train)) cs) h) m in
        let same : c.train ≡ e.train = same_train c.train t one ∙ sym (same_train e.train t two) in
        let here : is_train c.train e.train ≡ true = eq-eqb c.train.0 e.train.0 (ap (λ (u : TrainNo). u.0) same) in
        true≢false (sym apart ∙ ap not here)

    go : (b : Bool) → is_train c.train t ≡ b → (routes_given t cs ≡ []) ⊎ ((r : RouteNo) × (routes_given t cs ≡ r ∷ [])) → (routes_given t (c ∷ cs) ≡ []) ⊎ ((r : RouteNo) × (routes_given t (c ∷ cs) ≡ r ∷ []))
    go false e (inl k) = inl (skip e ∙ k)
      where
        skip : is_train c.train t ≡ false → routes_given t (c ∷ cs) ≡ routes_given t cs
        skip e = ap (λ b. map (λ (e : Command). e.route) (cond b (c ∷ filter (λ (e : Command). is_train e.train t) cs) (filter (λ (e : Command). is_train e.train t) cs))) e
    go false e (inr k) = inr (k.0, ap (λ b. map (λ (e : Command). e.route) (cond b (c ∷ filter (λ (e : Command). is_train e.train t) cs) (filter (λ (e : Command). is_train e.train t) cs))) e ∙ k.1)
    go true e k = inr (c.route, ap (λ b. map (λ (e : Command). e.route) (cond b (c ∷ filter (λ (e : Command). is_train e.train t) cs) (filter (λ (e : Command). is_train e.train t) cs))) e ∙ ap (λ rs. c.route ∷ rs) (none_of t cs (others e)))

-- ---- steps rise along a path

step_here : (step : List Command) (steps : List (List Command)) (c : Command) → list_any (is_command c) step ≡ true → step_of (step ∷ steps) c ≡ 1
step_here step steps c e = ap (λ b. if b then 1 else step_of steps c + 1) e

step_later : (step : List Command) (steps : List (List Command)) (c : Command) → list_any (is_command c) step ≡ false → step_of (step ∷ steps) c ≡ step_of steps c + 1
step_later step steps c e = ap (λ b. if b then 1 else step_of steps c + 1) e

pub step_some : (plan : List (List Command)) (c : Command) → 1 ≤ step_of plan c
step_some [] c = omega arith
step_some (step ∷ steps) c = go (list_any (is_command c) step)
  where
    go : (b : Bool) → 1 ≤ (if b then 1 else step_of steps c + 1)
    go true = omega arith
    go false = omega arith

pub steps_rise : (plan : List (List Command)) (t : TrainNo) → list_all one_each plan ≡ true → Differ (path plan t) → (i j : ℕ) (r q : RouteNo) → slice_get (path plan t) i ≡ Some r → slice_get (path plan t) j ≡ Some q → i < j
    → step_of plan (record { train = t; route = r }) < step_of plan (record { train = t; route = q })
steps_rise [] t one dif i j r q hi hj less = cc
steps_rise (step ∷ steps) t one dif i j r q hi hj less =
    go (at_most_one t step (and_left (one_each step) (list_all one_each steps) one)) (steps_rise steps t (and_right (one_each step) (list_all one_each steps) one))
  where
    command : RouteNo → Command
    command p = record { train = t; route = p }

    Rises : List RouteNo → ℕ → ℕ → Type 0
    Rises ps i j = (r q : RouteNo) → slice_get ps i ≡ Some r → slice_get ps j ≡ Some q → i < j → step_of steps (command r) < step_of steps (command q)

    go : (routes_given t step ≡ []) ⊎ ((p : RouteNo) × (routes_given t step ≡ p ∷ [])) → (Differ (path steps t) → (i j : ℕ) (r q : RouteNo) → slice_get (path steps t) i ≡ Some r → slice_get (path steps t) j ≡ Some q → i < j → step_of steps (record { train = t; route = r }) < step_of steps (record { train = t; route = q }))
        → step_of (step ∷ steps) (record { train = t; route = r }) < step_of (step ∷ steps) (record { train = t; route = q })
    go (inl none) later =
        let same : path (step ∷ steps) t ≡ path steps t = ap (λ rs. rs ++ path steps t) none in
        let rise = later (subst Differ same dif) i j r q (subst (λ ps. slice_get ps i ≡ Some r) same hi) (subst (λ ps. slice_get ps j ≡ Some q) same hj) less in
        let a = step_later step steps (record { train = t; route = r }) (not_given t step r (λ m. subst (In r) none m)) in
        let b = step_later step steps (record { train = t; route = q }) (not_given t step q (λ m. subst (In q) none m)) in
        omega arith
    go (inr (p, first)) later = at i j (subst (λ ps. slice_get ps i ≡ Some r) same hi) (subst (λ ps. slice_get ps j ≡ Some q) same hj) less
      where
        same : path (step ∷ steps) t ≡ p ∷ path steps t
        same = ap (λ rs. rs ++ path steps t) first

        apart : Differ (p ∷ path steps t)
        apart = subst Differ same dif

        other : (x : RouteNo) → In x (path steps t) → In x (routes_given t step) → ⊥
        other x m k = alone (subst (In x) first k)
          where
            alone : In x (p ∷ []) → ⊥
            alone (inl e) = apart.0 x m e
            alone (inr e) = e

        at : (i j : ℕ) → slice_get (p ∷ path steps t) i ≡ Some r → slice_get (p ∷ path steps t) j ≡ Some q → i < j → step_of (step ∷ steps) (record { train = t; route = r }) < step_of (step ∷ steps) (record { train = t; route = q })
        at i zero hi hj less = absurd (omega arith)
        at zero (suc j) hi hj less =
            let here : p ≡ r = cc in
            let a = step_here step steps (record { train = t; route = r }) (given_back t step r (subst (λ rs. In r rs) (sym first) (inl here))) in
            let b = step_later step steps (record { train = t; route = q }) (not_given t step q (other q (get_in (path steps t) j q hj))) in
            let some = step_some steps (record { train = t; route = q }) in
            omega arith
        at (suc i) (suc j) hi hj less =
            let rise = later apart.1 i j r q hi hj (omega arith) in
            let a = step_later step steps (record { train = t; route = r }) (not_given t step r (other r (get_in (path steps t) i r hi))) in
            let b = step_later step steps (record { train = t; route = q }) (not_given t step q (other q (get_in (path steps t) j q hj))) in
            omega arith
