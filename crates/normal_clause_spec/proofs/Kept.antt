-- What is given in a step of a normal plan is kept from the step before: so the clauses that say this are true of it.
use Rattle.std.proofs.Common.{◌≡◌, ℕ, suc, ◌+◌, ◌-◌, ◌≤◌, ◌<◌, ◌⊎◌, inl, inr, Bool, true, false, cond, not, ◌&&◌, ◌||◌, ◌==◌, List, [], ◌∷◌, ◌++◌, map, filter, nat_le, nat_lt, refl, sym, ap, ap₂, subst, ◌∙◌, arith, leb-true, le-leb, eqb-true, eq-eqb, true≢false}
use Rattle.std.specs.Prelude.{sum_by}
use Rattle.std.specs.List.{list_any, list_all}
use Rattle.rail_base.specs.declared.station.Station.{Station}
use Rattle.rail_base.specs.declared.route.Route.{Route}
use Rattle.rail_base.specs.declared.route.RouteNo.{RouteNo}
use Rattle.rail_base.specs.declared.plan.Command.{Command}
use Rattle.rail_base.specs.Numbering.{entry}
use Rattle.rail_base.specs.Stations.{train_length}
use Rattle.rail_spec.specs.Plans.{route_at, commands, step_of, has_command, is_train, share, own_shared, release_offset, length_mm, exits, goes_on, contend, precedes, can_clear, route_numbers, all_commands}
use Rattle.rail_plan.specs.Normal.{given_before, excludes, can_clear_by, is_in_the_way, is_held, IsNormal}
use Rattle.rail_base.proofs.Members.{In, and_left, and_right, and_both, below_or_not, either, in_filter, is_false, list_any_from, list_any_gives, same_bool}
use Rattle.rail_base.proofs.Lists.{in_append_left, in_append_right, in_map}
use Rattle.rail_laws.proofs.Given.{same_train}
use Rattle.clause_spec.specs.Clauses.{leading_to}
use Rattle.clause_spec.proofs.Steps.{cmd, has_gives, has_from, Placed}
use Rattle.clause_spec.proofs.Forward.{Fit, links, way, of, place, in_turn}
use Rattle.normal_clause_spec.specs.Variables.{is_in, is_not_in}
use Rattle.normal_clause_spec.specs.Clauses.{leads_to, can_keep, leaders, keepers, kept_clause}
use Rattle.normal_clause_spec.specs.Models.{normal_holds, is_normally_so, stands_in}
use Rattle.normal_clause_spec.proofs.Exact.{one_holds}
use Rattle.normal_clause_spec.proofs.Places.{in_step, step_is}
use Rattle.normal_clause_spec.proofs.Chains.{leads}

filter_alike : {X : Type 0} (p q : X → Bool) (xs : List X) → ((x : X) → In x xs → p x ≡ q x) → filter p xs ≡ filter q xs
filter_alike p q [] same = refl
filter_alike p q (x ∷ xs) same = ap₂ (λ b ys. cond b (x ∷ ys) ys) (same x (inl refl)) (filter_alike p q xs (λ y m. same y (inr m)))

module _ (d : Station) (routes : List Route) (n : ℕ) (plan : List (List Command)) (fit : Fit d routes n plan) (c : Command) where
  -- g is for e's train, and e or a later one
  abbrev comes_from : Command → Command → Bool
  comes_from e g = is_train g.train e.train && nat_le (step_of plan e) (step_of plan g)

  -- and it comes before a step, or stands in the one before that of c
  abbrev comes_before : Command → ℕ → Command → Bool
  comes_before e i g = comes_from e g && nat_lt (step_of plan g) i

  abbrev stands_last : Command → Command → Bool
  stands_last e g = comes_from e g && (step_of plan g == step_of plan c - 1)

  -- one of the commands that the clause names stands in the step before
  record Keeper : Type 0 where
    command : Command
    named : In command (leaders d routes n c ++ keepers d routes n c)
    there : In command (commands plan)
    before : step_of plan command ≡ step_of plan c - 1

  module _ (here : In c (commands plan)) (late : 2 ≤ step_of plan c) where
    -- one that contends with it is given before, and a later one of the same train in the step before
    kept_by : (e : Command) (r : RouteNo) → In e (commands plan) → In (cmd e.train r) (commands plan) → contend routes e c ≡ true → step_of plan e ≤ step_of plan (cmd e.train r) → step_of plan (cmd e.train r) ≡ step_of plan c - 1 → Keeper
    kept_by e r m k con l s =
        let differ = and_left (not (is_train e.train c.train)) (share (route_at routes e.route) (route_at routes c.route)) con in
        let joint = and_right (not (is_train e.train c.train)) (share (route_at routes e.route) (route_at routes c.route)) con in
        let chain = leads d routes n plan fit e.train e.route r m k l in
        let can : can_keep routes c.route r ≡ true = list_any_from (λ v. share (route_at routes v) (route_at routes c.route) && leads_to routes v r) (route_numbers routes) e.route (of d routes n plan fit e m).route
        (and_both (share (route_at routes e.route) (route_at routes c.route)) (leads_to routes e.route r) joint chain) in
        record {
          command = cmd e.train r;
          named = in_append_right (cmd e.train r) (leaders d routes n c) (keepers d routes n c)
              (in_filter (λ g. not (is_train g.train c.train) && can_keep routes c.route g.route) (all_commands d routes) (cmd e.train r) (fit.named (cmd e.train r) k)
              (and_both (not (is_train e.train c.train)) (can_keep routes c.route r) differ can));
          there = k;
          before = s;
        }

    -- one of its own train stands in the step before
    kept_by_own : (r : RouteNo) → In (cmd c.train r) (commands plan) → step_of plan (cmd c.train r) ≡ step_of plan c - 1 → Keeper
    kept_by_own r m s = go (place d routes n plan fit c here)
      where
        go : Placed (links d routes n plan) plan c.train c.route → Keeper
        go (inl x) = let l = x.least r m in absurd (omega arith)
        go (inr (q, x)) =
            let early = x.earlier in
            let b = x.between r m (omega arith) in
            record {
              command = cmd c.train q;
              named = in_append_left (cmd c.train q) (leaders d routes n c) (keepers d routes n c)
                  (in_map (cmd c.train) (leading_to routes (route_at routes c.route).start) q
                  (in_filter (λ w. goes_on (route_at routes w).finish (route_at routes c.route).start) (route_numbers routes) q (of d routes n plan fit (cmd c.train q) x.member).route x.linked));
              there = x.member;
              before = omega arith;
            }

    -- one of the step before excludes it
    kept_by_excluding : (e : Command) → In e (entry [] plan (step_of plan c - 1)) → excludes routes c e ≡ true → Keeper
    kept_by_excluding e m h = go (either (is_train e.train c.train) (contend routes e c) h)
      where
        there : In e (commands plan)
        there = in_step plan e (step_of plan c - 1) m

        its_step : step_of plan e ≡ step_of plan c - 1
        its_step = step_is plan e.train e.route (step_of plan c - 1) (way d routes n plan fit e.train (of d routes n plan fit e there).train).apart m

        go : (is_train e.train c.train ≡ true) ⊎ (contend routes e c ≡ true) → Keeper
        go (inl t) =
            let same = same_train e.train c.train t in
            kept_by_own e.route (subst (λ u. In (cmd u e.route) (commands plan)) same there) (subst (λ u. step_of plan (cmd u e.route) ≡ step_of plan c - 1) same its_step)
        go (inr con) = let s = its_step in kept_by e e.route there there con (omega arith) its_step

    -- one is in the way in the step before
    kept_by_way : (e : Command) → In e (commands plan) → is_in_the_way d routes plan (step_of plan c - 1) c e ≡ true → Keeper
    kept_by_way e m h = turn (in_turn d routes n plan fit e c con m here)
      where
        first : precedes routes plan e c ≡ true
        first = and_left (precedes routes plan e c) (not (list_all (can_clear_by d routes plan (step_of plan c - 1) e) (own_shared (route_at routes e.route) (route_at routes c.route)))) h

        con : contend routes e c ≡ true
        con = and_left (contend routes e c) (nat_lt (step_of plan e) (step_of plan c)) first

        earlier : step_of plan e < step_of plan c
        earlier = leb-true _ _ (and_right (contend routes e c) (nat_lt (step_of plan e) (step_of plan c)) first)

        uncleared : list_all (can_clear_by d routes plan (step_of plan c - 1) e) (own_shared (route_at routes e.route) (route_at routes c.route)) ≡ false
        uncleared = is_false (list_all (can_clear_by d routes plan (step_of plan c - 1) e) (own_shared (route_at routes e.route) (route_at routes c.route))) (and_right (precedes routes plan e c) (not (list_all (can_clear_by d routes plan (step_of plan c - 1) e) (own_shared (route_at routes e.route) (route_at routes c.route)))) h)

        found : (g : Command) → In g (commands plan) → stands_last e g ≡ true → Keeper
        found g k t =
            let from = and_left (comes_from e g) (step_of plan g == step_of plan c - 1) t in
            let s = eqb-true (step_of plan g) (step_of plan c - 1) (and_right (comes_from e g) (step_of plan g == step_of plan c - 1) t) in
            let same = same_train g.train e.train (and_left (is_train g.train e.train) (nat_le (step_of plan e) (step_of plan g)) from) in
            let low = leb-true (step_of plan e) (step_of plan g) (and_right (is_train g.train e.train) (nat_le (step_of plan e) (step_of plan g)) from) in
            kept_by e g.route m (subst (λ u. In (cmd u g.route) (commands plan)) same k) con
            (subst (λ u. step_of plan e ≤ step_of plan (cmd u g.route)) same low) (subst (λ u. step_of plan (cmd u g.route) ≡ step_of plan c - 1) same s)

        -- where there is none, its train is given as much before that step as before the next
        as_much : list_any (stands_last e) (commands plan) ≡ false → given_before plan e (step_of plan c - 1) ≡ given_before plan e (step_of plan c)
        as_much none = filter_alike (comes_before e (step_of plan c - 1)) (comes_before e (step_of plan c)) (commands plan) each
          where
            each : (g : Command) → In g (commands plan) → comes_before e (step_of plan c - 1) g ≡ comes_before e (step_of plan c) g
            each g k = same_bool _ _ more less
              where
                more : comes_before e (step_of plan c - 1) g ≡ true → comes_before e (step_of plan c) g ≡ true
                more t =
                    let l = leb-true (suc (step_of plan g)) (step_of plan c - 1) (and_right (comes_from e g) (nat_lt (step_of plan g) (step_of plan c - 1)) t) in
                    and_both (comes_from e g) (nat_lt (step_of plan g) (step_of plan c)) (and_left (comes_from e g) (nat_lt (step_of plan g) (step_of plan c - 1)) t) (le-leb (suc (step_of plan g)) (step_of plan c) (omega arith))

                at : comes_from e g ≡ true → step_of plan g < step_of plan c → (step_of plan g < step_of plan c - 1) ⊎ (step_of plan c - 1 ≤ step_of plan g) → comes_before e (step_of plan c - 1) g ≡ true
                at f l (inl below) = and_both (comes_from e g) (nat_lt (step_of plan g) (step_of plan c - 1)) f (le-leb (suc (step_of plan g)) (step_of plan c - 1) (omega arith))
                at f l (inr not_below) =
                    let s : step_of plan g ≡ step_of plan c - 1 = omega arith in
                    absurd (true≢false (sym (list_any_from (stands_last e) (commands plan) g k (and_both (comes_from e g) (step_of plan g == step_of plan c - 1) f (eq-eqb (step_of plan g) (step_of plan c - 1) s))) ∙ none))

                less : comes_before e (step_of plan c) g ≡ true → comes_before e (step_of plan c - 1) g ≡ true
                less t = at (and_left (comes_from e g) (nat_lt (step_of plan g) (step_of plan c)) t) (leb-true (suc (step_of plan g)) (step_of plan c) (and_right (comes_from e g) (nat_lt (step_of plan g) (step_of plan c)) t)) (below_or_not (step_of plan g) (step_of plan c - 1))

        clears_alike : given_before plan e (step_of plan c - 1) ≡ given_before plan e (step_of plan c)
            → list_all (can_clear_by d routes plan (step_of plan c - 1) e) (own_shared (route_at routes e.route) (route_at routes c.route)) ≡ list_all (can_clear d routes plan e c) (own_shared (route_at routes e.route) (route_at routes c.route))
        clears_alike same = ap (λ (given : List Command). list_all (λ z. nat_le (release_offset (route_at routes e.route) z + train_length d e.train) (sum_by length_mm (map (λ (g : Command). route_at routes g.route) given)) || list_any exits (map (λ (g : Command). route_at routes g.route) given)) (own_shared (route_at routes e.route) (route_at routes c.route))) same

        turn : (step_of plan c < step_of plan e) ⊎ ((step_of plan e < step_of plan c) × (list_all (can_clear d routes plan e c) (own_shared (route_at routes e.route) (route_at routes c.route)) ≡ true)) → Keeper
        turn (inl l) = let f = earlier in absurd (omega arith)
        turn (inr l) = which (list_any (stands_last e) (commands plan)) refl
          where
            which : (b : Bool) → list_any (stands_last e) (commands plan) ≡ b → Keeper
            which true f = let x = list_any_gives (stands_last e) (commands plan) f in found x.0 x.1 x.2
            which false f = absurd (true≢false (sym l.1 ∙ (sym (clears_alike (as_much f)) ∙ uncleared)))

    kept_so : is_held d routes plan c ≡ true → Keeper
    kept_so h = go (either (list_any (excludes routes c) (entry [] plan (step_of plan c - 1))) (list_any (is_in_the_way d routes plan (step_of plan c - 1) c) (commands plan)) h)
      where
        go : (list_any (excludes routes c) (entry [] plan (step_of plan c - 1)) ≡ true) ⊎ (list_any (is_in_the_way d routes plan (step_of plan c - 1) c) (commands plan) ≡ true) → Keeper
        go (inl k) = let x = list_any_gives (excludes routes c) (entry [] plan (step_of plan c - 1)) k in kept_by_excluding x.0 x.1 x.2
        go (inr k) = let x = list_any_gives (is_in_the_way d routes plan (step_of plan c - 1) c) (commands plan) k in kept_by_way x.0 x.1 x.2

  pub kept_holds : IsNormal d routes plan → (i : ℕ) → 2 ≤ i → normal_holds (is_normally_so plan) (kept_clause d routes n c i) ≡ true
  kept_holds normal i low = go (stands_in plan c i) refl
    where
      keeper : In c (commands plan) → step_of plan c ≡ i → Keeper
      keeper m s = let late : 2 ≤ step_of plan c = omega arith in kept_so m late (normal c m late)

      at : step_of plan c ≡ i → Keeper → normal_holds (is_normally_so plan) (kept_clause d routes n c i) ≡ true
      at s k =
          let b = k.before in
          let its_step : step_of plan k.command ≡ i - 1 = omega arith in
          one_holds plan (kept_clause d routes n c i) (is_in k.command (i - 1)) (inr (in_map (λ e. is_in e (i - 1)) (leaders d routes n c ++ keepers d routes n c) k.command k.named))
          (and_both (has_command plan k.command) (step_of plan k.command == i - 1) (has_from (commands plan) k.command k.there) (eq-eqb (step_of plan k.command) (i - 1) its_step))

      go : (b : Bool) → stands_in plan c i ≡ b → normal_holds (is_normally_so plan) (kept_clause d routes n c i) ≡ true
      go false e = one_holds plan (kept_clause d routes n c i) (is_not_in c i) (inl refl) (ap not e)
      go true e =
          let s = eqb-true (step_of plan c) i (and_right (has_command plan c) (step_of plan c == i) e) in
          let m = has_gives (commands plan) c (and_left (has_command plan c) (step_of plan c == i) e) in
          at s (keeper m s)
