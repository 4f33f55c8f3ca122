-- A plan that true clauses give can be carried out.
use Rattle.std.proofs.Common.{◌≡◌, ℕ, zero, suc, ◌+◌, ◌-◌, ◌≤◌, ◌<◌, ◌⊎◌, inl, inr, Bool, true, false, not, ◌&&◌, ◌||◌, if◌then◌else◌, List, [], ◌∷◌, ◌++◌, map, flat_map, length, refl, sym, ap, subst, ◌∙◌, arith, true≢false, leb-false, le-leb, nat_le, nat_lt}
use Rattle.std.specs.Prelude.{sum_by}
use Rattle.std.specs.List.{list_any, list_all}
use Rattle.rail_base.specs.declared.station.Station.{Station}
use Rattle.rail_base.specs.declared.station.SectionNo.{SectionNo}
use Rattle.rail_base.specs.declared.route.Route.{Route}
use Rattle.rail_base.specs.declared.route.RouteNo.{RouteNo}
use Rattle.rail_base.specs.declared.plan.Command.{Command}
use Rattle.rail_base.specs.Numbering.{one_to}
use Rattle.rail_base.specs.Stations.{train_of, train_length, first_visit}
use Rattle.rail_spec.specs.Plans.{route_at, commands, step_of, is_train, is_start, goes_on, starts_in, can_clear, may_stand, is_executable, given_between, share, own_shared, release_offset, length_mm, exits, route_numbers, all_commands, contend}
use Rattle.rail_base.proofs.Members.{In, and_left, and_right, and_both, list_any_from, in_filter, below_or_not, is_false, false_unless}
use Rattle.clause_spec.specs.Variables.{Variable, Given}
use Rattle.clause_spec.specs.Clauses.{extends, onward, chain_length, chains, clearing}
use Rattle.clause_spec.specs.Models.{given_by}
use Rattle.clause_spec.proofs.Lists.{Distinct, distinct_push, length_push, length_among, sum_among, sum_by-map}
use Rattle.clause_spec.proofs.Steps.{cmd, is_train_self}
use Rattle.clause_spec.proofs.Places.{IsOf, command_of, command_from, start_self, one_finish, boundary_first, left_each}
use Rattle.clause_spec.proofs.Facts.{AllTrue, given_up_to, Led, led, one_of, starts_at_boundary, exclude_ends, not_at_one, goes_further}
use Rattle.clause_spec.proofs.Decoded.{New}
use Rattle.rail_base.proofs.Lists.{list_all_from, in_map, in_flat_map, in_filter_back, length-map, in_append_right, in_append, length-count}

module _ (d : Station) (routes : List Route) (n : ℕ) (says : Variable → Bool) (all : AllTrue d routes n says) (plan : List (List Command)) where
  -- each command of the plan is new in its step, and whatever is given is in the plan
  pub record Told : Type 0 where
    pub low : (c : Command) → In c (commands plan) → 1 ≤ step_of plan c
    pub high : (c : Command) → In c (commands plan) → step_of plan c ≤ n
    pub is : (c : Command) → In c (commands plan) → New d routes n says c (step_of plan c)
    pub has : (c : Command) (i : ℕ) → In c (all_commands d routes) → i ≤ n → given_by says c i ≡ true → In c (commands plan)

  module _ (told : Told) where
    pub since : (c : Command) (i : ℕ) → In c (commands plan) → step_of plan c ≤ i → i ≤ n → given_by says c i ≡ true
    since c i m h l = let w = told.is c m in given_up_to d routes n says all c (step_of plan c) i w.known h l w.given

    pub until : (c : Command) (i : ℕ) → In c (commands plan) → i < step_of plan c → given_by says c i ≡ false
    until c i m h = let w = told.is c m in let top = told.high c m in
        false_unless (given_by says c i) (λ g. true≢false (sym (given_up_to d routes n says all c i (step_of plan c - 1) w.known (omega arith) (omega arith) g) ∙ w.fresh))

    pub by_then : (c : Command) (i : ℕ) → In c (commands plan) → given_by says c i ≡ true → step_of plan c ≤ i
    by_then c i m g = go (below_or_not i (step_of plan c))
      where
        go : (i < step_of plan c) ⊎ (step_of plan c ≤ i) → step_of plan c ≤ i
        go (inl l) = absurd (true≢false (sym g ∙ until c i m l))
        go (inr l) = l

    says_at : (c : Command) (i : ℕ) → given_by says c i ≡ true → says (Given c i) ≡ true
    says_at c zero g = absurd (true≢false (sym g))
    says_at c (suc i) g = g

    said_at : (c : Command) (i : ℕ) → 1 ≤ i → says (Given c i) ≡ true → given_by says c i ≡ true
    said_at c zero h g = absurd (omega arith)
    said_at c (suc i) h g = g

    said_not : (c : Command) (i : ℕ) → 1 ≤ i → given_by says c i ≡ false → says (Given c i) ≡ false
    said_not c zero h g = absurd (omega arith)
    said_not c (suc i) h g = g

    known : (c : Command) → In c (commands plan) → IsOf d routes c
    known c m = command_of d routes c (told.is c m).known

    -- ---- two commands, the first given earlier

    module _ (e c : Command) (first : In e (commands plan)) (second : In c (commands plan)) (con : contend routes e c ≡ true) (earlier : step_of plan e < step_of plan c) where
      -- the step before the second is given
      abbrev time : ℕ
      time = step_of plan c - 1

      -- given to the first's train from the first on, and before the second
      record Between (r : RouteNo) : Type 0 where
        member : In (cmd e.train r) (commands plan)
        from : step_of plan e ≤ step_of plan (cmd e.train r)
        to : step_of plan (cmd e.train r) < step_of plan c

      -- such routes, of which one exits or which are long enough
      record Enough : Type 0 where
        given : List RouteNo
        each : (r : RouteNo) → In r given → Between r
        apart : Distinct given
        clear : ((r : RouteNo) × In r given × (exits (route_at routes r) ≡ true)) ⊎ (clearing d routes n e c ≤ chain_length routes given)

      in_route : (r : RouteNo) → Between r → In r (route_numbers routes)
      in_route r b = (known (cmd e.train r) b.member).route

      -- what goes on from a given route is given after it
      after : (w v : RouteNo) → Between w → In (cmd e.train v) (commands plan) → goes_on (route_at routes w).finish (route_at routes v).start ≡ true → step_of plan (cmd e.train w) < step_of plan (cmd e.train v)
      after w v b m g = go (led d routes n says all (cmd e.train v) (step_of plan (cmd e.train v)) (told.is (cmd e.train v) m).known (told.low (cmd e.train v) m) (told.high (cmd e.train v) m) (says_at (cmd e.train v) (step_of plan (cmd e.train v)) (told.is (cmd e.train v) m).given))
        where
          go : (starts_in (first_visit (train_of d e.train)) (route_at routes v).start ≡ true) ⊎ Led d routes n says all (cmd e.train v) (step_of plan (cmd e.train v)) → step_of plan (cmd e.train w) < step_of plan (cmd e.train v)
          go (inl s) = absurd (true≢false (sym (starts_at_boundary (first_visit (train_of d e.train)) (route_at routes v).start s) ∙ boundary_first (route_at routes w).finish (route_at routes v).start g))
          go (inr l) =
              let low = told.low (cmd e.train v) m in
              let high = told.high (cmd e.train v) m in
              let there = told.has (cmd e.train l.route) (step_of plan (cmd e.train v) - 1) (command_from d routes e.train l.route (known e first).train l.known) (omega arith) l.given in
              let ends = exclude_ends (route_at routes l.route) (route_at routes w) (one_finish (route_at routes l.route).finish (route_at routes w).finish (route_at routes v).start l.goes g) in
              let one = one_of d routes n says all e.train l.route w (known e first).train l.known (in_route w b)
              (says_at (cmd e.train l.route) n (since (cmd e.train l.route) n there (told.high (cmd e.train l.route) there) (omega arith)))
              (says_at (cmd e.train w) n (since (cmd e.train w) n b.member (told.high (cmd e.train w) b.member) (omega arith))) ends in
              let t = by_then (cmd e.train w) (step_of plan (cmd e.train v) - 1) b.member (subst (λ r. given_by says (cmd e.train r) (step_of plan (cmd e.train v) - 1) ≡ true) one l.given) in
              omega arith

      -- a chain of given routes is long enough, or can be made longer
      enough : (more : ℕ) (before : List RouteNo) (w : RouteNo) → ((r : RouteNo) → In r (before ++ w ∷ []) → Between r) → Distinct (before ++ w ∷ []) → length routes ≤ length before + more
          → ((chain : List RouteNo × RouteNo) → In chain (chains routes more (clearing d routes n e c) before w) → In chain (chains routes (length routes) (clearing d routes n e c) [] e.route)) → Enough
      enough zero before w b a f s =
          let most = length_among (before ++ w ∷ []) (route_numbers routes) a (λ r m. in_route r (b r m)) in
          let l = length_push before w in
          let k = numbers in
          absurd (omega arith)
        where
          number : ℕ → RouteNo
          number r = record { 0 = r }

          numbers : length (route_numbers routes) ≡ length routes
          numbers = length-map (λ r. record { 0 = r }) (one_to (length routes)) ∙ length-count 1 (length routes)
      enough (suc more) before w b a f s = go (not (exits (route_at routes w)) && nat_lt (chain_length routes (before ++ w ∷ [])) (clearing d routes n e c)) refl s (enough more (before ++ w ∷ []))
        where
          path_node : (x y : Bool) → exits (route_at routes w) ≡ x → nat_lt (chain_length routes (before ++ w ∷ [])) (clearing d routes n e c) ≡ y → (not x && y) ≡ false → Enough
          path_node true y p q h = record { given = before ++ w ∷ []; each = b; apart = a; clear = inl (w, in_append_right w before (w ∷ []) (inl refl), p) }
          path_node false true p q h = absurd (true≢false h)
          path_node false false p q h = record { given = before ++ w ∷ []; each = b; apart = a; clear = inr (let k = leb-false _ _ q in omega arith) }

          further : ((chain : List RouteNo × RouteNo) → In chain ((before ++ w ∷ [], w) ∷ flat_map (chains routes more (clearing d routes n e c) (before ++ w ∷ [])) (onward routes (before ++ w ∷ []) w)) → In chain (chains routes (length routes) (clearing d routes n e c) [] e.route))
              → ((v : RouteNo) → ((r : RouteNo) → In r ((before ++ w ∷ []) ++ v ∷ []) → Between r) → Distinct ((before ++ w ∷ []) ++ v ∷ []) → length routes ≤ length (before ++ w ∷ []) + more
              → ((chain : List RouteNo × RouteNo) → In chain (chains routes more (clearing d routes n e c) (before ++ w ∷ []) v) → In chain (chains routes (length routes) (clearing d routes n e c) [] e.route)) → Enough) → Enough
          further s rest =
              let low = told.low e first in
              let top = told.high c second in
              let x = goes_further d routes n says all e c (before ++ w ∷ [], w) (step_of plan c - 1) (told.is e first).known (told.is c second).known con (omega arith) (omega arith) (s (before ++ w ∷ [], w) (inl refl))
              (λ r m. (let t = (b r m).to in says_at (cmd e.train r) (step_of plan c - 1) (since (cmd e.train r) (step_of plan c - 1) (b r m).member (omega arith) (omega arith))))
              (subst (λ i. says (Given c i) ≡ true) (up (step_of plan c) (omega arith)) (says_at c (step_of plan c) (told.is c second).given))
              (said_not c (step_of plan c - 1) (omega arith) (told.is c second).fresh) in
              let y = in_filter_back (extends routes (before ++ w ∷ []) w) (route_numbers routes) x.0 x.1 in
              let there = told.has (cmd e.train x.0) (step_of plan c - 1) (command_from d routes e.train x.0 (known e first).train y.0) (omega arith) (said_at (cmd e.train x.0) (step_of plan c - 1) (omega arith) x.2) in
              let till = by_then (cmd e.train x.0) (step_of plan c - 1) there (said_at (cmd e.train x.0) (step_of plan c - 1) (omega arith) x.2) in
              let last = b w (in_append_right w before (w ∷ []) (inl refl)) in
              let since_w = last.from in
              let more_than = after w x.0 last there (and_left (goes_on (route_at routes w).finish (route_at routes x.0).start) _ y.1) in
              let l = length_push before w in
              rest x.0
              (λ r m. each x.0 (record { member = there; from = omega arith; to = omega arith }) r (in_append r (before ++ w ∷ []) (x.0 ∷ []) m))
              (distinct_push (before ++ w ∷ []) x.0 a (λ m. true≢false (sym (list_any_from (λ v. is_start (route_at routes v).start (route_at routes x.0).start) (before ++ w ∷ []) x.0 m (start_self (route_at routes x.0).start))
              ∙ is_false (list_any (λ v. is_start (route_at routes v).start (route_at routes x.0).start) (before ++ w ∷ [])) (and_right (goes_on (route_at routes w).finish (route_at routes x.0).start) _ y.1))))
              (omega arith)
              (λ chain m. s chain (inr (in_flat_map (chains routes more (clearing d routes n e c) (before ++ w ∷ [])) (onward routes (before ++ w ∷ []) w) x.0 chain x.1 m)))
            where
              up : (i : ℕ) → 1 ≤ i → i ≡ i - 1 + 1
              up i h = omega arith

              each : (v : RouteNo) → Between v → (r : RouteNo) → In r (before ++ w ∷ []) ⊎ In r (v ∷ []) → Between r
              each v k r (inl m) = b r m
              each v k r (inr (inl g)) = subst Between g k
              each v k r (inr (inr m)) = absurd m

          go : (x : Bool) → (not (exits (route_at routes w)) && nat_lt (chain_length routes (before ++ w ∷ [])) (clearing d routes n e c)) ≡ x
              → ((chain : List RouteNo × RouteNo) → In chain (if x then (before ++ w ∷ [], w) ∷ flat_map (chains routes more (clearing d routes n e c) (before ++ w ∷ [])) (onward routes (before ++ w ∷ []) w) else []) → In chain (chains routes (length routes) (clearing d routes n e c) [] e.route))
              → ((v : RouteNo) → ((r : RouteNo) → In r ((before ++ w ∷ []) ++ v ∷ []) → Between r) → Distinct ((before ++ w ∷ []) ++ v ∷ []) → length routes ≤ length (before ++ w ∷ []) + more
              → ((chain : List RouteNo × RouteNo) → In chain (chains routes more (clearing d routes n e c) (before ++ w ∷ []) v) → In chain (chains routes (length routes) (clearing d routes n e c) [] e.route)) → Enough) → Enough
          go true h s rest = further s rest
          go false h s rest = path_node (exits (route_at routes w)) (nat_lt (chain_length routes (before ++ w ∷ [])) (clearing d routes n e c)) refl refl h

      given_enough : Enough
      given_enough = enough (length routes) [] e.route only (((λ m. m), tt)) (omega arith) (λ chain m. m)
        where
          only : (r : RouteNo) → In r (e.route ∷ []) → Between r
          only r (inl f) = subst Between f (record { member = first; from = omega arith; to = earlier })
          only r (inr m) = absurd m

      in_between : (r : RouteNo) → Between r → In (cmd e.train r) (given_between plan e c)
      in_between r b = in_filter (λ (g : Command). is_train g.train e.train && nat_le (step_of plan e) (step_of plan g) && nat_lt (step_of plan g) (step_of plan c)) (commands plan) (cmd e.train r) b.member
          (and_both (is_train e.train e.train && nat_le (step_of plan e) (step_of plan (cmd e.train r))) _ (and_both (is_train e.train e.train) _ (is_train_self e.train) (le-leb _ _ b.from)) (le-leb _ _ b.to))

      pub clears : (z : SectionNo) → In z (own_shared (route_at routes e.route) (route_at routes c.route)) → can_clear d routes plan e c z ≡ true
      clears z m = go given_enough
        where
          either : (x y : Bool) → (x ≡ true) ⊎ (y ≡ true) → (x || y) ≡ true
          either true y h = refl
          either false y (inl h) = absurd (true≢false (sym h))
          either false y (inr h) = h

          long : (en : Enough) → clearing d routes n e c ≤ chain_length routes en.given → release_offset (route_at routes e.route) z + train_length d e.train ≤ sum_by length_mm (map (λ (g : Command). route_at routes g.route) (given_between plan e c))
          long en l =
              let weight : RouteNo → ℕ = λ w. length_mm (route_at routes w) in
              let p = sum_by-map length_mm (λ (g : Command). route_at routes g.route) (given_between plan e c) in
              let q = sum_by-map weight (λ (g : Command). g.route) (given_between plan e c) in
              let f = sum_among weight en.given (map (λ (g : Command). g.route) (given_between plan e c)) en.apart (λ r k. in_map (λ (g : Command). g.route) (given_between plan e c) (cmd e.train r) (in_between r (en.each r k))) in
              let g = left_each (map (release_offset (route_at routes e.route)) (own_shared (route_at routes e.route) (route_at routes c.route))) (train_length d e.train) (release_offset (route_at routes e.route) z) (in_map (release_offset (route_at routes e.route)) (own_shared (route_at routes e.route) (route_at routes c.route)) z m) in
              omega arith

          go : Enough → can_clear d routes plan e c z ≡ true
          go en = at en.clear
            where
              at : ((r : RouteNo) × In r en.given × (exits (route_at routes r) ≡ true)) ⊎ (clearing d routes n e c ≤ chain_length routes en.given) → can_clear d routes plan e c z ≡ true
              at (inl (r, k, x)) = either (nat_le (release_offset (route_at routes e.route) z + train_length d e.train) (sum_by length_mm (map (λ (g : Command). route_at routes g.route) (given_between plan e c)))) (list_any exits (map (λ (g : Command). route_at routes g.route) (given_between plan e c)))
                  (inr (list_any_from exits (map (λ (g : Command). route_at routes g.route) (given_between plan e c)) (route_at routes r) (in_map (λ (g : Command). route_at routes g.route) (given_between plan e c) (cmd e.train r) (in_between r (en.each r k))) x))
              at (inr l) = either (nat_le (release_offset (route_at routes e.route) z + train_length d e.train) (sum_by length_mm (map (λ (g : Command). route_at routes g.route) (given_between plan e c)))) (list_any exits (map (λ (g : Command). route_at routes g.route) (given_between plan e c)))
                  (inl (le-leb _ _ (long en l)))

    may : (e c : Command) → In e (commands plan) → In c (commands plan) → may_stand d routes plan e c ≡ true
    may e c m k = go (is_train e.train c.train) (share (route_at routes e.route) (route_at routes c.route)) refl refl (below_or_not (step_of plan c) (step_of plan e)) (below_or_not (step_of plan e) (step_of plan c))
      where
        later : (x y : Bool) → x ≡ true → (x || y) ≡ true
        later true y h = refl
        later false y h = absurd (true≢false (sym h))

        sooner : (x y : Bool) → y ≡ true → (x || y) ≡ true
        sooner true y h = refl
        sooner false y h = h

        go : (same shares : Bool) → is_train e.train c.train ≡ same → share (route_at routes e.route) (route_at routes c.route) ≡ shares → (step_of plan c < step_of plan e) ⊎ (step_of plan e ≤ step_of plan c) → (step_of plan e < step_of plan c) ⊎ (step_of plan c ≤ step_of plan e)
            → (same || not shares || nat_lt (step_of plan c) (step_of plan e) || (nat_lt (step_of plan e) (step_of plan c) && list_all (can_clear d routes plan e c) (own_shared (route_at routes e.route) (route_at routes c.route)))) ≡ true
        go true shares p q x y = refl
        go false false p q x y = refl
        go false true p q (inl l) y = later (nat_lt (step_of plan c) (step_of plan e)) _ (le-leb _ _ l)
        go false true p q (inr l) (inl h) =
            let con = and_both (not (is_train e.train c.train)) (share (route_at routes e.route) (route_at routes c.route)) (ap not p) q in
            sooner (nat_lt (step_of plan c) (step_of plan e)) _ (and_both (nat_lt (step_of plan e) (step_of plan c)) _ (le-leb _ _ h)
            (list_all_from (can_clear d routes plan e c) (own_shared (route_at routes e.route) (route_at routes c.route)) (λ z i. clears e c m k con h z i)))
        go false true p q (inr l) (inr h) =
            let con = and_both (not (is_train e.train c.train)) (share (route_at routes e.route) (route_at routes c.route)) (ap not p) q in
            let one : step_of plan c ≡ step_of plan e = omega arith in
            let a = told.is e m in
            let b = told.is c k in
            absurd (not_at_one d routes n says all e c (step_of plan e) a.known b.known con (told.low e m) (told.high e m) (says_at e (step_of plan e) a.given) a.fresh
            (says_at c (step_of plan e) (subst (λ i. given_by says c i ≡ true) one b.given)) (subst (λ i. given_by says c (i - 1) ≡ false) one b.fresh))

    pub can_run : is_executable d routes plan ≡ true
    can_run = list_all_from (λ e. list_all (may_stand d routes plan e) (commands plan)) (commands plan) (λ e m. list_all_from (may_stand d routes plan e) (commands plan) (λ c k. may e c m k))
