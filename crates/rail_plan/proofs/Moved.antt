-- A command that can stand in the step before its own moves there, and the plan stays as good.
use Rattle.std.proofs.Common.{◌≡◌, ℕ, suc, ◌+◌, ◌≤◌, ◌<◌, ◌⊎◌, inl, inr, Bool, true, false, not, ◌&&◌, ◌||◌, if◌then◌else◌, nat_le, nat_lt, List, [], ◌∷◌, ◌++◌, map, length, refl, sym, ap, ap₂, subst, ◌∙◌, arith, leb-true, le-leb, eqb-true, eq-eqb, true≢false}
use Rattle.std.specs.List.{list_any, list_all}
use Rattle.std.proofs.lemmas.List.{append_assoc, append-nil, length-append, length_push}
use Rattle.std.proofs.lemmas.List.Concat.{flat_map-append}
use Rattle.std.proofs.lemmas.List.Folds.{list_all-append, list_any-append}
use Rattle.rail_base.specs.declared.station.Station.{Station}
use Rattle.rail_base.specs.declared.station.SectionNo.{SectionNo}
use Rattle.rail_base.specs.declared.station.TrainNo.{TrainNo}
use Rattle.rail_base.specs.declared.route.Route.{Route}
use Rattle.rail_base.specs.declared.route.RouteNo.{RouteNo}
use Rattle.rail_base.specs.declared.plan.Command.{Command}
use Rattle.rail_base.specs.Members.{In, all_pairs}
use Rattle.rail_base.specs.Stations.{trains, train_of}
use Rattle.rail_spec.specs.Plans.{is_train, is_route, is_command, is_path, commands, contend, one_each, route_at, routes_given, path, path_routes, precedes, sections, has_section, share, step_of}
use Rattle.rail_spec.specs.Feasible.{is_of, names_only, IsRunnable, IsWellFormed}
use Rattle.rail_plan.specs.Ahead.{stops, is_stopped}
use Rattle.rail_plan.specs.Holds.{takes}
use Rattle.rail_plan.specs.Earlier.{delay, IsAsGood}
use Rattle.rail_base.proofs.Members.{and_both, and_left, and_right, below_or_not, either, false_unless, is_false, list_all_at, list_any_from, list_any_gives, or_left, or_right, same_bool}
use Rattle.rail_base.proofs.Lists.{in_append, in_append_left, in_append_right, list_all_from}
use Rattle.rail_base.proofs.Sharing.{has_when_in, in_sections}
use Rattle.rail_laws.proofs.Given.{same_route, same_train, step_some}
use Rattle.rail_plan.proofs.Free.{AreFree, IsFree, free_back, free_both, free_front, free_of_plan, plan_of_free}
use Rattle.rail_plan.proofs.Giving.{given_joined, gives_none, gives_same, stopped_behind, stops_less, stops_takes, GivesMore}
use Rattle.rail_plan.proofs.Holding.{stopped_apart}
use Rattle.rail_plan.proofs.Standing.{one_shared}
use Rattle.rail_plan.proofs.Steps.{all_pairs_across, step_is}
use Rattle.rail_plan.proofs.WellFormed.{one_each_of, paths_of_formed}

-- ---- tests of each two

pairs_front : {X : Type 0} (test : X → X → Bool) (xs ys : List X) → all_pairs test (xs ++ ys) ≡ true → all_pairs test xs ≡ true
pairs_front test [] ys h = refl
pairs_front test (x ∷ xs) ys h =
    and_both (list_all (test x) xs) (all_pairs test xs)
    (and_left (list_all (test x) xs) (list_all (test x) ys) (sym (list_all-append (test x) xs ys) ∙ and_left (list_all (test x) (xs ++ ys)) (all_pairs test (xs ++ ys)) h))
    (pairs_front test xs ys (and_right (list_all (test x) (xs ++ ys)) (all_pairs test (xs ++ ys)) h))

pairs_back : {X : Type 0} (test : X → X → Bool) (xs ys : List X) → all_pairs test (xs ++ ys) ≡ true → all_pairs test ys ≡ true
pairs_back test [] ys h = h
pairs_back test (x ∷ xs) ys h = pairs_back test xs ys (and_right (list_all (test x) (xs ++ ys)) (all_pairs test (xs ++ ys)) h)

pairs_both : {X : Type 0} (test : X → X → Bool) (xs ys : List X) → all_pairs test xs ≡ true → all_pairs test ys ≡ true → ((x y : X) → In x xs → In y ys → test x y ≡ true) → all_pairs test (xs ++ ys) ≡ true
pairs_both test [] ys p q across = q
pairs_both test (x ∷ xs) ys p q across =
    and_both (list_all (test x) (xs ++ ys)) (all_pairs test (xs ++ ys))
    (list_all-append (test x) xs ys ∙ and_both (list_all (test x) xs) (list_all (test x) ys) (and_left (list_all (test x) xs) (all_pairs test xs) p) (list_all_from (test x) ys (λ y m. across x y (inl refl) m)))
    (pairs_both test xs ys (and_right (list_all (test x) xs) (all_pairs test xs) p) q (λ y z m n. across y z (inr m) n))

-- ---- trains and commands

other_way : (t u : TrainNo) → is_train t u ≡ false → is_train u t ≡ false
other_way t u e = false_unless (is_train u t) (λ h. true≢false (sym (eq-eqb t.0 u.0 (sym (eqb-true u.0 t.0 h))) ∙ e))

pub same_command : (c e : Command) → is_command c e ≡ true → c ≡ e
same_command c e h =
    ap₂ (λ t r. record { train = t; route = r })
    (same_train c.train e.train (and_left (is_train c.train e.train) (is_route c.route e.route) h))
    (same_route c.route e.route (and_right (is_train c.train e.train) (is_route c.route e.route) h))

-- ---- the step in which a command stands

same_step : (g : Command) (xs more less : List (List Command)) → step_of more g ≡ step_of less g → step_of (xs ++ more) g ≡ step_of (xs ++ less) g
same_step g [] more less e = e
same_step g (x ∷ xs) more less e = ap (λ k. if list_any (is_command g) x then 1 else k + 1) (same_step g xs more less e)

in_step : (g : Command) (xs : List (List Command)) (s : List Command) (ys : List (List Command)) → step_of (xs ++ s ∷ ys) g ≡ length xs + 1 → list_any (is_command g) s ≡ true
in_step g [] s ys e = go (list_any (is_command g) s) e
  where
    go : (b : Bool) → (if b then 1 else step_of ys g + 1) ≡ 0 + 1 → b ≡ true
    go true k = refl
    go false k = let some = step_some ys g in absurd (omega arith)
in_step g (x ∷ xs) s ys e = go (list_any (is_command g) x) e (in_step g xs s ys)
  where
    go : (b : Bool) → (if b then 1 else step_of (xs ++ s ∷ ys) g + 1) ≡ suc (length xs) + 1 → (step_of (xs ++ s ∷ ys) g ≡ length xs + 1 → list_any (is_command g) s ≡ true) → list_any (is_command g) s ≡ true
    go true k rest = absurd (omega arith)
    go false k rest = rest (omega arith)

less_from : (a b : ℕ) → nat_lt a b ≡ true → a < b
less_from a b h = leb-true (suc a) b h

less_to : (a b : ℕ) → a < b → nat_lt a b ≡ true
less_to a b h = le-leb (suc a) b h

-- ---- how late commands stand

same_many : (xs more less : List (List Command)) → length (commands more) ≡ length (commands less) → length (commands (xs ++ more)) ≡ length (commands (xs ++ less))
same_many [] more less e = e
same_many (x ∷ xs) more less e =
    length-append x (commands (xs ++ more)) ∙ ap (λ k. length x + k) (same_many xs more less e) ∙ sym (length-append x (commands (xs ++ less)))

less_delay : (xs more less : List (List Command)) → length (commands more) ≡ length (commands less) → delay more + 1 ≡ delay less → delay (xs ++ more) + 1 ≡ delay (xs ++ less)
less_delay [] more less e h = h
less_delay (x ∷ xs) more less e h = let many = same_many xs more less e in let rest = less_delay xs more less e h in omega arith

-- the step s, and the next, of which c moves to s
module _ (before : List (List Command)) (s xs ys : List Command) (c : Command) (after : List (List Command)) where
  abbrev pub was : List (List Command)
  was = before ++ s ∷ (xs ++ c ∷ ys) ∷ after

  abbrev pub now : List (List Command)
  now = before ++ (s ++ c ∷ []) ∷ (xs ++ ys) ∷ after

  same_size : length now ≡ length was
  same_size = length-append before ((s ++ c ∷ []) ∷ (xs ++ ys) ∷ after) ∙ sym (length-append before (s ∷ (xs ++ c ∷ ys) ∷ after))

  -- its delay falls by one
  pub moved_delay : delay now + 1 ≡ delay was
  moved_delay = less_delay before ((s ++ c ∷ []) ∷ (xs ++ ys) ∷ after) (s ∷ (xs ++ c ∷ ys) ∷ after) many one
    where
      many : length (commands ((s ++ c ∷ []) ∷ (xs ++ ys) ∷ after)) ≡ length (commands (s ∷ (xs ++ c ∷ ys) ∷ after))
      many =
          let a = length-append (s ++ c ∷ []) ((xs ++ ys) ++ commands after) in
          let b = length-append s (c ∷ []) in
          let e = length-append (xs ++ ys) (commands after) in
          let f = length-append xs ys in
          let g = length-append s ((xs ++ c ∷ ys) ++ commands after) in
          let h = length-append (xs ++ c ∷ ys) (commands after) in
          let i = length-append xs (c ∷ ys) in
          omega arith

      one : delay ((s ++ c ∷ []) ∷ (xs ++ ys) ∷ after) + 1 ≡ delay (s ∷ (xs ++ c ∷ ys) ∷ after)
      one =
          let e = length-append (xs ++ ys) (commands after) in
          let f = length-append xs ys in
          let h = length-append (xs ++ c ∷ ys) (commands after) in
          let i = length-append xs (c ∷ ys) in
          omega arith

  -- ---- the trains of the two steps

  module _ (apart : one_each (xs ++ c ∷ ys) ≡ true) where
    in_both : (g : Command) → In g (xs ++ ys) → In g (xs ++ c ∷ ys)
    in_both g m = go (in_append g xs ys m)
      where
        go : In g xs ⊎ In g ys → In g (xs ++ c ∷ ys)
        go (inl k) = in_append_left g xs (c ∷ ys) k
        go (inr k) = in_append_right g xs (c ∷ ys) (inr k)

    -- the others of c's step are for other trains
    others : (g : Command) → In g (xs ++ ys) → is_train g.train c.train ≡ false
    others g m = go (in_append g xs ys m)
      where
        go : In g xs ⊎ In g ys → is_train g.train c.train ≡ false
        go (inl k) = is_false (is_train g.train c.train) (all_pairs_across (λ (c e : Command). not (is_train c.train e.train)) xs (c ∷ ys) g c apart k (inl refl))
        go (inr k) =
            let here = pairs_back (λ (c e : Command). not (is_train c.train e.train)) xs (c ∷ ys) apart in
            let first = and_left (list_all (λ (e : Command). not (is_train c.train e.train)) ys) (one_each ys) here in
            other_way c.train g.train (is_false (is_train c.train g.train) (list_all_at (λ (e : Command). not (is_train c.train e.train)) ys g first k))

    one_left : one_each (xs ++ ys) ≡ true
    one_left =
        let test : Command → Command → Bool = λ c e. not (is_train c.train e.train) in
        let back = pairs_back test xs (c ∷ ys) apart in
        pairs_both test xs ys (pairs_front test xs (c ∷ ys) apart) (and_right (list_all (test c) ys) (all_pairs test ys) back) (λ x y m n. all_pairs_across test xs (c ∷ ys) x y apart m (inr n))

    one_more : list_any (λ (e : Command). is_train e.train c.train) s ≡ false → one_each s ≡ true → one_each (s ++ c ∷ []) ≡ true
    one_more own one = pairs_both (λ (c e : Command). not (is_train c.train e.train)) s (c ∷ []) one refl across
      where
        across : (x y : Command) → In x s → In y (c ∷ []) → not (is_train x.train y.train) ≡ true
        across x y m (inl e) = subst (λ (k : Command). not (is_train x.train k.train) ≡ true) e (ap not (false_unless (is_train x.train c.train) (λ h. true≢false (sym (list_any_from (λ (e : Command). is_train e.train c.train) s x m h) ∙ own))))
        across x y m (inr n) = absurd n

    -- c's train is given one route by the step, and the other trains none by c
    one_or_none : (t : TrainNo) → routes_given t (c ∷ []) ++ routes_given t xs ≡ routes_given t xs ++ routes_given t (c ∷ [])
    one_or_none t = go (is_train c.train t) refl
      where
        go : (b : Bool) → is_train c.train t ≡ b → routes_given t (c ∷ []) ++ routes_given t xs ≡ routes_given t xs ++ routes_given t (c ∷ [])
        go true e =
            let none = gives_none t xs (λ g m. subst (λ u. is_train g.train u ≡ false) (same_train c.train t e) (others g (in_append_left g xs ys m))) in
            ap (λ rs. routes_given t (c ∷ []) ++ rs) none ∙ append-nil (routes_given t (c ∷ [])) ∙ ap (λ rs. rs ++ routes_given t (c ∷ [])) (sym none)
        go false e =
            let none = gives_none t (c ∷ []) (only e) in
            ap (λ rs. rs ++ routes_given t xs) none ∙ sym (append-nil (routes_given t xs)) ∙ ap (λ rs. routes_given t xs ++ rs) (sym none)
          where
            only : is_train c.train t ≡ false → (g : Command) → In g (c ∷ []) → is_train g.train t ≡ false
            only f g (inl k) = ap (λ (x : Command). is_train x.train t) (sym k) ∙ f
            only f g (inr k) = absurd k

    same_given : (t : TrainNo) (rest : List RouteNo) → routes_given t (s ++ c ∷ []) ++ (routes_given t (xs ++ ys) ++ rest) ≡ routes_given t s ++ (routes_given t (xs ++ c ∷ ys) ++ rest)
    same_given t rest =
        let a = routes_given t s in
        let k = routes_given t (c ∷ []) in
        let x = routes_given t xs in
        let y = routes_given t ys in
        ap₂ (λ p q. p ++ (q ++ rest)) (given_joined t s (c ∷ [])) (given_joined t xs ys)
        ∙ append_assoc a k ((x ++ y) ++ rest)
        ∙ ap (λ q. a ++ (k ++ q)) (append_assoc x y rest)
        ∙ ap (λ q. a ++ q) (sym (append_assoc k x (y ++ rest)) ∙ ap (λ q. q ++ (y ++ rest)) (one_or_none t) ∙ append_assoc x k (y ++ rest))
        ∙ ap (λ q. a ++ (x ++ q)) (sym (append_assoc k y rest) ∙ ap (λ q. q ++ rest) (sym (given_joined t (c ∷ []) ys)))
        ∙ ap (λ q. a ++ q) (sym (append_assoc x (routes_given t (c ∷ ys)) rest) ∙ ap (λ q. q ++ rest) (sym (given_joined t xs (c ∷ ys))))

    same_from : (t : TrainNo) (mid : List (List Command)) → path ((s ++ c ∷ []) ∷ (xs ++ ys) ∷ mid) t ≡ path (s ∷ (xs ++ c ∷ ys) ∷ mid) t
    same_from t mid = same_given t (path mid t)

    pub moved_path : (t : TrainNo) → path now t ≡ path was t
    moved_path t =
        flat_map-append (routes_given t) before ((s ++ c ∷ []) ∷ (xs ++ ys) ∷ after)
        ∙ ap (λ rs. path before t ++ rs) (same_from t after)
        ∙ sym (flat_map-append (routes_given t) before (s ∷ (xs ++ c ∷ ys) ∷ after))

    -- ---- what is stopped

    module _ (d : Station) (routes : List Route) where
      -- in c's old step
      next_stopped : (t : TrainNo) (z : SectionNo) → is_stopped d routes t z (before ++ (s ++ c ∷ []) ∷ []) (xs ++ ys) ≡ true → is_stopped d routes t z (before ++ s ∷ []) (xs ++ c ∷ ys) ≡ true
      next_stopped t z h = stopped_behind d routes t z before ((s ++ c ∷ []) ∷ []) (s ∷ []) (xs ++ ys) (xs ++ c ∷ ys) gives base h
        where
          gives : (u : TrainNo) → GivesMore u ((s ++ c ∷ []) ∷ []) (s ∷ [])
          gives u = (routes_given u (c ∷ []), append-nil (routes_given u (s ++ c ∷ [])) ∙ given_joined u s (c ∷ []) ∙ ap (λ rs. rs ++ routes_given u (c ∷ [])) (sym (append-nil (routes_given u s))))

          inside : (e : Command) → In e (s ++ c ∷ []) → stops d routes ((s ++ c ∷ []) ∷ []) t z e ≡ true → (list_any (stops d routes (s ∷ []) t z) s || list_any (takes routes t z) (xs ++ c ∷ ys)) ≡ true
          inside e m k = go (in_append e s (c ∷ []) m)
            where
              go : In e s ⊎ In e (c ∷ []) → (list_any (stops d routes (s ∷ []) t z) s || list_any (takes routes t z) (xs ++ c ∷ ys)) ≡ true
              go (inl n) = or_left (list_any (stops d routes (s ∷ []) t z) s) (list_any (takes routes t z) (xs ++ c ∷ ys)) (list_any_from (stops d routes (s ∷ []) t z) s e n (stops_less d routes ((s ++ c ∷ []) ∷ []) (s ∷ []) t z e (gives e.train) k))
              go (inr (inl n)) = or_right (list_any (stops d routes (s ∷ []) t z) s) (list_any (takes routes t z) (xs ++ c ∷ ys)) (list_any_from (takes routes t z) (xs ++ c ∷ ys) e (subst (λ x. In x (xs ++ c ∷ ys)) n (in_append_right c xs (c ∷ ys) (inl refl))) (stops_takes d routes ((s ++ c ∷ []) ∷ []) t z e k))
              go (inr (inr n)) = absurd n

          base : (list_any (stops d routes ((s ++ c ∷ []) ∷ []) t z) (s ++ c ∷ []) || list_any (takes routes t z) (xs ++ ys)) ≡ true → (list_any (stops d routes (s ∷ []) t z) s || list_any (takes routes t z) (xs ++ c ∷ ys)) ≡ true
          base k = go (either (list_any (stops d routes ((s ++ c ∷ []) ∷ []) t z) (s ++ c ∷ [])) (list_any (takes routes t z) (xs ++ ys)) k)
            where
              found : (e : Command) × In e (s ++ c ∷ []) × (stops d routes ((s ++ c ∷ []) ∷ []) t z e ≡ true) → (list_any (stops d routes (s ∷ []) t z) s || list_any (takes routes t z) (xs ++ c ∷ ys)) ≡ true
              found (e, m, l) = inside e m l

              here : (e : Command) × In e (xs ++ ys) × (takes routes t z e ≡ true) → list_any (takes routes t z) (xs ++ c ∷ ys) ≡ true
              here (e, m, l) = list_any_from (takes routes t z) (xs ++ c ∷ ys) e (in_both e m) l

              go : (list_any (stops d routes ((s ++ c ∷ []) ∷ []) t z) (s ++ c ∷ []) ≡ true) ⊎ (list_any (takes routes t z) (xs ++ ys) ≡ true) → (list_any (stops d routes (s ∷ []) t z) s || list_any (takes routes t z) (xs ++ c ∷ ys)) ≡ true
              go (inl l) = found (list_any_gives (stops d routes ((s ++ c ∷ []) ∷ []) t z) (s ++ c ∷ []) l)
              go (inr l) = or_right (list_any (stops d routes (s ∷ []) t z) s) (list_any (takes routes t z) (xs ++ c ∷ ys)) (here (list_any_gives (takes routes t z) (xs ++ ys) l))

      -- in a later step
      module _ (own : list_any (λ (e : Command). is_train e.train c.train) s ≡ false) (mid : List (List Command)) (step : List Command) (t : TrainNo) (z : SectionNo) where
        abbrev new : List (List Command)
        new = (s ++ c ∷ []) ∷ (xs ++ ys) ∷ mid

        abbrev old : List (List Command)
        old = s ∷ (xs ++ c ∷ ys) ∷ mid

        gives_it : (u : TrainNo) → GivesMore u new old
        gives_it u = gives_same u new old (same_from u mid)

        -- c itself
        gives_c : GivesMore c.train new ((xs ++ c ∷ ys) ∷ mid)
        gives_c = gives_same c.train new ((xs ++ c ∷ ys) ∷ mid) (same_from c.train mid ∙ ap (λ rs. rs ++ path ((xs ++ c ∷ ys) ∷ mid) c.train) (gives_none c.train s (λ e m. false_unless (is_train e.train c.train) (λ h. true≢false (sym (list_any_from (λ (e : Command). is_train e.train c.train) s e m h) ∙ own)))))

        -- one of c's old step
        gives_other : (e : Command) → In e (xs ++ ys) → GivesMore e.train ((xs ++ ys) ∷ mid) ((xs ++ c ∷ ys) ∷ mid)
        gives_other e m = gives_same e.train ((xs ++ ys) ∷ mid) ((xs ++ c ∷ ys) ∷ mid) (ap (λ rs. rs ++ path mid e.train) same)
          where
            not_c : (g : Command) → In g (c ∷ []) → is_train g.train e.train ≡ false
            not_c g (inl k) = ap (λ (x : Command). is_train x.train e.train) (sym k) ∙ other_way e.train c.train (others e m)
            not_c g (inr k) = absurd k

            same : routes_given e.train (xs ++ ys) ≡ routes_given e.train (xs ++ c ∷ ys)
            same =
                given_joined e.train xs ys
                ∙ ap (λ rs. routes_given e.train xs ++ (rs ++ routes_given e.train ys)) (sym (gives_none e.train (c ∷ []) not_c))
                ∙ ap (λ rs. routes_given e.train xs ++ rs) (sym (given_joined e.train (c ∷ []) ys))
                ∙ sym (given_joined e.train xs (c ∷ ys))

        abbrev Was : Type 0
        Was = (list_any (stops d routes old t z) s || (list_any (stops d routes ((xs ++ c ∷ ys) ∷ mid) t z) (xs ++ c ∷ ys) || is_stopped d routes t z mid step)) ≡ true

        from_first : (e : Command) → In e s → stops d routes old t z e ≡ true → Was
        from_first e m k = or_left (list_any (stops d routes old t z) s) (list_any (stops d routes ((xs ++ c ∷ ys) ∷ mid) t z) (xs ++ c ∷ ys) || is_stopped d routes t z mid step) (list_any_from (stops d routes old t z) s e m k)

        from_next : (e : Command) → In e (xs ++ c ∷ ys) → stops d routes ((xs ++ c ∷ ys) ∷ mid) t z e ≡ true → Was
        from_next e m k =
            or_right (list_any (stops d routes old t z) s) (list_any (stops d routes ((xs ++ c ∷ ys) ∷ mid) t z) (xs ++ c ∷ ys) || is_stopped d routes t z mid step)
            (or_left (list_any (stops d routes ((xs ++ c ∷ ys) ∷ mid) t z) (xs ++ c ∷ ys)) (is_stopped d routes t z mid step) (list_any_from (stops d routes ((xs ++ c ∷ ys) ∷ mid) t z) (xs ++ c ∷ ys) e m k))

        from_later : is_stopped d routes t z mid step ≡ true → Was
        from_later k =
            or_right (list_any (stops d routes old t z) s) (list_any (stops d routes ((xs ++ c ∷ ys) ∷ mid) t z) (xs ++ c ∷ ys) || is_stopped d routes t z mid step)
            (or_right (list_any (stops d routes ((xs ++ c ∷ ys) ∷ mid) t z) (xs ++ c ∷ ys)) (is_stopped d routes t z mid step) k)

        later_base : is_stopped d routes t z new step ≡ true → Was
        later_base k = go (either (list_any (stops d routes new t z) (s ++ c ∷ [])) (list_any (stops d routes ((xs ++ ys) ∷ mid) t z) (xs ++ ys) || is_stopped d routes t z mid step) k)
          where
            first : (e : Command) → stops d routes new t z e ≡ true → In e s ⊎ In e (c ∷ []) → Was
            first e l (inl m) = from_first e m (stops_less d routes new old t z e (gives_it e.train) l)
            first e l (inr (inl m)) = from_next c (in_append_right c xs (c ∷ ys) (inl refl)) (stops_less d routes new ((xs ++ c ∷ ys) ∷ mid) t z c gives_c (subst (λ x. stops d routes new t z x ≡ true) (sym m) l))
            first e l (inr (inr m)) = absurd m

            found : (e : Command) × In e (s ++ c ∷ []) × (stops d routes new t z e ≡ true) → Was
            found (e, m, l) = first e l (in_append e s (c ∷ []) m)

            next : (e : Command) × In e (xs ++ ys) × (stops d routes ((xs ++ ys) ∷ mid) t z e ≡ true) → Was
            next (e, m, l) = from_next e (in_both e m) (stops_less d routes ((xs ++ ys) ∷ mid) ((xs ++ c ∷ ys) ∷ mid) t z e (gives_other e m) l)

            rest : (list_any (stops d routes ((xs ++ ys) ∷ mid) t z) (xs ++ ys) ≡ true) ⊎ (is_stopped d routes t z mid step ≡ true) → Was
            rest (inl l) = next (list_any_gives (stops d routes ((xs ++ ys) ∷ mid) t z) (xs ++ ys) l)
            rest (inr l) = from_later l

            go : (list_any (stops d routes new t z) (s ++ c ∷ []) ≡ true) ⊎ ((list_any (stops d routes ((xs ++ ys) ∷ mid) t z) (xs ++ ys) || is_stopped d routes t z mid step) ≡ true) → Was
            go (inl l) = found (list_any_gives (stops d routes new t z) (s ++ c ∷ []) l)
            go (inr l) = rest (either (list_any (stops d routes ((xs ++ ys) ∷ mid) t z) (xs ++ ys)) (is_stopped d routes t z mid step) l)

        later_stopped : is_stopped d routes t z (before ++ new) step ≡ true → is_stopped d routes t z (before ++ old) step ≡ true
        later_stopped h = stopped_behind d routes t z before new old step step gives_it later_base h

  -- ---- the whole

  module _ (d : Station) (routes : List Route) (n : ℕ) (runs : IsRunnable d routes n was)
      (own : list_any (λ (e : Command). is_train e.train c.train) s ≡ false) (clear : (z : SectionNo) → In z (sections (route_at routes c.route)) → is_stopped d routes c.train z before s ≡ false) where
    named : names_only d routes was ≡ true
    named = runs.well_formed.named

    ones : list_all one_each was ≡ true
    ones = one_each_of d routes was n runs.well_formed.formed

    ones_behind : list_all one_each (s ∷ (xs ++ c ∷ ys) ∷ after) ≡ true
    ones_behind = and_right (list_all one_each before) (list_all one_each (s ∷ (xs ++ c ∷ ys) ∷ after)) (sym (list_all-append one_each before (s ∷ (xs ++ c ∷ ys) ∷ after)) ∙ ones)

    ones_after : list_all one_each ((xs ++ c ∷ ys) ∷ after) ≡ true
    ones_after = and_right (one_each s) (list_all one_each ((xs ++ c ∷ ys) ∷ after)) ones_behind

    apart : one_each (xs ++ c ∷ ys) ≡ true
    apart = and_left (one_each (xs ++ c ∷ ys)) (list_all one_each after) ones_after

    -- ---- it names only what is there, and is well formed

    names_now : names_only d routes now ≡ true
    names_now =
        ap (list_all (is_of d routes)) (flat_map-append (λ (x : List Command). x) before ((s ++ c ∷ []) ∷ (xs ++ ys) ∷ after))
        ∙ list_all-append (is_of d routes) (commands before) (commands ((s ++ c ∷ []) ∷ (xs ++ ys) ∷ after))
        ∙ and_both (list_all (is_of d routes) (commands before)) (list_all (is_of d routes) ((s ++ c ∷ []) ++ ((xs ++ ys) ++ commands after)))
        (and_left (list_all (is_of d routes) (commands before)) (list_all (is_of d routes) (commands (s ∷ (xs ++ c ∷ ys) ∷ after))) apart_named) (list_all_from (is_of d routes) ((s ++ c ∷ []) ++ ((xs ++ ys) ++ commands after)) (λ g m. list_all_at (is_of d routes) (commands (s ∷ (xs ++ c ∷ ys) ∷ after)) g (and_right (list_all (is_of d routes) (commands before)) (list_all (is_of d routes) (commands (s ∷ (xs ++ c ∷ ys) ∷ after))) apart_named) (there g (in_append g (s ++ c ∷ []) ((xs ++ ys) ++ commands after) m))))
      where
        apart_named : (list_all (is_of d routes) (commands before) && list_all (is_of d routes) (commands (s ∷ (xs ++ c ∷ ys) ∷ after))) ≡ true
        apart_named =
            sym (list_all-append (is_of d routes) (commands before) (commands (s ∷ (xs ++ c ∷ ys) ∷ after)))
            ∙ sym (ap (list_all (is_of d routes)) (flat_map-append (λ (x : List Command). x) before (s ∷ (xs ++ c ∷ ys) ∷ after)))
            ∙ named

        in_c : In c (s ++ ((xs ++ c ∷ ys) ++ commands after))
        in_c = in_append_right c s ((xs ++ c ∷ ys) ++ commands after) (in_append_left c (xs ++ c ∷ ys) (commands after) (in_append_right c xs (c ∷ ys) (inl refl)))

        first : (g : Command) → In g s ⊎ In g (c ∷ []) → In g (s ++ ((xs ++ c ∷ ys) ++ commands after))
        first g (inl m) = in_append_left g s ((xs ++ c ∷ ys) ++ commands after) m
        first g (inr (inl m)) = subst (λ x. In x (s ++ ((xs ++ c ∷ ys) ++ commands after))) m in_c
        first g (inr (inr m)) = absurd m

        rest : (g : Command) → In g (xs ++ ys) ⊎ In g (commands after) → In g (s ++ ((xs ++ c ∷ ys) ++ commands after))
        rest g (inl m) = in_append_right g s ((xs ++ c ∷ ys) ++ commands after) (in_append_left g (xs ++ c ∷ ys) (commands after) (in_both apart g m))
        rest g (inr m) = in_append_right g s ((xs ++ c ∷ ys) ++ commands after) (in_append_right g (xs ++ c ∷ ys) (commands after) m)

        there : (g : Command) → In g (s ++ c ∷ []) ⊎ In g ((xs ++ ys) ++ commands after) → In g (s ++ ((xs ++ c ∷ ys) ++ commands after))
        there g (inl m) = first g (in_append g s (c ∷ []) m)
        there g (inr m) = rest g (in_append g (xs ++ ys) (commands after) m)

    ones_now : list_all one_each now ≡ true
    ones_now =
        list_all-append one_each before ((s ++ c ∷ []) ∷ (xs ++ ys) ∷ after)
        ∙ and_both (list_all one_each before) (list_all one_each ((s ++ c ∷ []) ∷ (xs ++ ys) ∷ after))
        (and_left (list_all one_each before) (list_all one_each (s ∷ (xs ++ c ∷ ys) ∷ after)) (sym (list_all-append one_each before (s ∷ (xs ++ c ∷ ys) ∷ after)) ∙ ones))
        (and_both (one_each (s ++ c ∷ [])) (one_each (xs ++ ys) && list_all one_each after) (one_more apart own (and_left (one_each s) (list_all one_each ((xs ++ c ∷ ys) ∷ after)) ones_behind))
        (and_both (one_each (xs ++ ys)) (list_all one_each after) (one_left apart) (and_right (one_each (xs ++ c ∷ ys)) (list_all one_each after) ones_after)))

    paths_are : (m : ℕ) → IsRunnable d routes m was → list_all (λ t. is_path (train_of d t) (path_routes routes now t)) (trains d) ≡ true
    paths_are m r =
        let same : path was ≡ path now = λ i t. (sym (moved_path apart t)) i in
        subst (λ (q : TrainNo → List RouteNo). list_all (λ t. is_path (train_of d t) (map (route_at routes) (q t))) (trains d) ≡ true) same (paths_of_formed d routes was m r.well_formed.formed)

    formed_now : (m : ℕ) → IsRunnable d routes m was → IsWellFormed d routes m now
    formed_now m r = record {
      named = names_now;
      formed = and_both (nat_le (length now) m && list_all one_each now) (list_all (λ t. is_path (train_of d t) (path_routes routes now t)) (trains d))
          (and_both (nat_le (length now) m) (list_all one_each now)
          (ap (λ k. nat_le k m) same_size ∙ and_left (nat_le (length was) m) (list_all one_each was) (and_left (nat_le (length was) m && list_all one_each was) (list_all (λ t. is_path (train_of d t) (path_routes routes was t)) (trains d)) r.well_formed.formed))
          ones_now)
          (paths_are m r);
    }

    -- ---- nothing is stopped

    paths_were : list_all (λ t. is_path (train_of d t) (path_routes routes was t)) (trains d) ≡ true
    paths_were = paths_of_formed d routes was n runs.well_formed.formed

    free_was : AreFree d routes [] was
    free_was = free_of_plan d routes was named paths_were runs.executable

    free_from : AreFree d routes before (s ∷ (xs ++ c ∷ ys) ∷ after)
    free_from = free_back d routes [] before (s ∷ (xs ++ c ∷ ys) ∷ after) free_was

    c_there : In c (xs ++ c ∷ ys)
    c_there = in_append_right c xs (c ∷ ys) (inl refl)

    -- a command of a step with the section keeps another train from it there
    stopped_here : (front : List (List Command)) (step : List Command) (e : Command) → In e step → (t : TrainNo) (z : SectionNo) → is_train e.train t ≡ false → has_section (route_at routes e.route) z ≡ true → is_stopped d routes t z front step ≡ true
    stopped_here front step e m t z other has =
        let taken = list_any_from (takes routes t z) step e m (and_both (not (is_train e.train t)) (has_section (route_at routes e.route) z) (ap not other) has) in
        stopped_apart d routes t z front step ∙ or_right (is_stopped d routes t z front []) (list_any (takes routes t z) step) taken

    -- none of s contends with c
    none_in_first : (e : Command) → In e s → contend routes e c ≡ true → ⊥
    none_in_first e m h =
        let other = is_false (is_train e.train c.train) (and_left (not (is_train e.train c.train)) (share (route_at routes e.route) (route_at routes c.route)) h) in
        let z = one_shared (route_at routes e.route) (route_at routes c.route) (and_right (not (is_train e.train c.train)) (share (route_at routes e.route) (route_at routes c.route)) h) in
        true≢false (sym (stopped_here before s e m c.train z.0 other z.1) ∙ clear z.0 z.2)

    -- nor does one of its own step
    none_in_next : (g : Command) → In g (xs ++ c ∷ ys) → contend routes c g ≡ true → ⊥
    none_in_next g m h =
        let other = is_false (is_train c.train g.train) (and_left (not (is_train c.train g.train)) (share (route_at routes c.route) (route_at routes g.route)) h) in
        let z = one_shared (route_at routes c.route) (route_at routes g.route) (and_right (not (is_train c.train g.train)) (share (route_at routes c.route) (route_at routes g.route)) h) in
        true≢false (sym (stopped_here (before ++ s ∷ []) (xs ++ c ∷ ys) c c_there g.train z.0 other z.1) ∙ free_from.1.0 g m z.0 z.2)

    first_free : IsFree d routes before (s ++ c ∷ [])
    first_free g m z k = go (in_append g s (c ∷ []) m)
      where
        -- what stops it stands among the others
        of_s : (t : TrainNo) → takes routes t z c ≡ false → is_stopped d routes t z before s ≡ false → is_stopped d routes t z before (s ++ c ∷ []) ≡ false
        of_s t none was_free =
            stopped_apart d routes t z before (s ++ c ∷ [])
            ∙ ap (λ b. is_stopped d routes t z before [] || b) (list_any-append (takes routes t z) s (c ∷ []) ∙ ap (λ b. list_any (takes routes t z) s || (b || false)) none ∙ right (list_any (takes routes t z) s))
            ∙ sym (stopped_apart d routes t z before s)
            ∙ was_free
          where
            right : (a : Bool) → (a || false) ≡ a
            right true = refl
            right false = refl

        own_train : takes routes c.train z c ≡ false
        own_train = ap (λ b. not b && has_section (route_at routes c.route) z) (eq-eqb c.train.0 c.train.0 refl)

        -- c keeps none of s from it, since none of s keeps c from it
        none : In g s → takes routes g.train z c ≡ false
        none n = false_unless (takes routes g.train z c) (λ h.
            let differ = not (is_train c.train g.train) in
            let other = is_false (is_train c.train g.train) (and_left differ (has_section (route_at routes c.route) z) h) in
            let has = and_right differ (has_section (route_at routes c.route) z) h in
            true≢false (sym (stopped_here before s g n c.train z (other_way c.train g.train other) (has_when_in (route_at routes g.route) z k)) ∙ clear z (in_sections (route_at routes c.route) z has)))

        go : In g s ⊎ In g (c ∷ []) → is_stopped d routes g.train z before (s ++ c ∷ []) ≡ false
        go (inl n) = of_s g.train (none n) (free_from.0 g n z k)
        go (inr (inl e)) = subst (λ (t : TrainNo). is_stopped d routes t z before (s ++ c ∷ []) ≡ false) (ap (λ (x : Command). x.train) e) (of_s c.train own_train (clear z (subst (λ (x : Command). In z (sections (route_at routes x.route))) (sym e) k)))
        go (inr (inr e)) = absurd e

    next_free : IsFree d routes (before ++ (s ++ c ∷ []) ∷ []) (xs ++ ys)
    next_free g m z k = false_unless (is_stopped d routes g.train z (before ++ (s ++ c ∷ []) ∷ []) (xs ++ ys)) (λ h.
        true≢false (sym (next_stopped apart d routes g.train z h) ∙ free_from.1.0 g (in_both apart g m) z k))

    later_free : (mid rest : List (List Command)) → AreFree d routes (before ++ s ∷ (xs ++ c ∷ ys) ∷ mid) rest → AreFree d routes (before ++ (s ++ c ∷ []) ∷ (xs ++ ys) ∷ mid) rest
    later_free mid [] f = tt
    later_free mid (x ∷ rest) f = (
      λ g m z k. false_unless (is_stopped d routes g.train z (before ++ (s ++ c ∷ []) ∷ (xs ++ ys) ∷ mid) x) (λ h. true≢false (sym (later_stopped apart d routes own mid x g.train z h) ∙ f.0 g m z k)),
      subst (λ b. AreFree d routes b rest) (sym (append_assoc before ((s ++ c ∷ []) ∷ (xs ++ ys) ∷ mid) (x ∷ [])))
          (later_free (mid ++ x ∷ []) rest (subst (λ b. AreFree d routes b rest) (append_assoc before (s ∷ (xs ++ c ∷ ys) ∷ mid) (x ∷ [])) f.1)),
    )

    free_now : AreFree d routes [] now
    free_now = free_both d routes [] before ((s ++ c ∷ []) ∷ (xs ++ ys) ∷ after) (free_front d routes [] before (s ∷ (xs ++ c ∷ ys) ∷ after) free_was) (
      first_free,
      (
        next_free,
        subst (λ b. AreFree d routes b after) (sym (append_assoc before ((s ++ c ∷ []) ∷ []) ((xs ++ ys) ∷ [])))
            (later_free [] after (subst (λ b. AreFree d routes b after) (append_assoc before (s ∷ []) ((xs ++ c ∷ ys) ∷ [])) free_from.1.1)),
      ),
    )

    runs_now : (m : ℕ) → IsRunnable d routes m was → IsRunnable d routes m now
    runs_now m r = record { well_formed = formed_now m r; executable = plan_of_free d routes now names_now (paths_are m r) free_now }

    -- ---- the order

    step_was : step_of was c ≡ length before + 1 + 1
    step_was =
        let split : was ≡ (before ++ s ∷ []) ++ (xs ++ c ∷ ys) ∷ after = sym (append_assoc before (s ∷ []) ((xs ++ c ∷ ys) ∷ after)) in
        step_is d routes was named paths_were (before ++ s ∷ []) (xs ++ c ∷ ys) after c split c_there ∙ ap (λ k. k + 1) (length_push before s)

    step_now : step_of now c ≡ length before + 1
    step_now = step_is d routes now names_now (paths_are n runs) before (s ++ c ∷ []) ((xs ++ ys) ∷ after) c refl (in_append_right c s (c ∷ []) (inl refl))

    step_other : (g : Command) → is_command g c ≡ false → step_of now g ≡ step_of was g
    step_other g differ = same_step g before ((s ++ c ∷ []) ∷ (xs ++ ys) ∷ after) (s ∷ (xs ++ c ∷ ys) ∷ after)
        (ap (λ b. if b then 1 else step_of ((xs ++ ys) ∷ after) g + 1) (list_any-append (is_command g) s (c ∷ []) ∙ ap (λ b. list_any (is_command g) s || (b || false)) differ ∙ right (list_any (is_command g) s))
        ∙ ap (λ b. if list_any (is_command g) s then 1 else (if b then 1 else step_of after g + 1) + 1) (list_any-append (is_command g) xs ys ∙ ap (λ b. list_any (is_command g) xs || (b || list_any (is_command g) ys)) (sym differ) ∙ sym (list_any-append (is_command g) xs (c ∷ ys))))
      where
        right : (a : Bool) → (a || false) ≡ a
        right true = refl
        right false = refl

    -- where two commands contend, the same one is given first
    same_order : (e g : Command) → contend routes e g ≡ true → nat_lt (step_of now e) (step_of now g) ≡ nat_lt (step_of was e) (step_of was g)
    same_order e g h = go (is_command e c) (is_command g c) refl refl
      where
        at_c : (x : Command) → is_command x c ≡ true → (step_of now x ≡ length before + 1) × (step_of was x ≡ length before + 1 + 1)
        at_c x k = let same = same_command x c k in (ap (step_of now) same ∙ step_now, ap (step_of was) same ∙ step_was)

        not_first : step_of was e ≡ length before + 1 → is_command g c ≡ true → ⊥
        not_first k l = found (list_any_gives (is_command e) s (in_step e before s ((xs ++ c ∷ ys) ∷ after) k))
          where
            found : (f : Command) × In f s × (is_command e f ≡ true) → ⊥
            found (f, m, same) = none_in_first f m (subst (λ x. contend routes x c ≡ true) (same_command e f same) (subst (λ x. contend routes e x ≡ true) (same_command g c l) h))

        not_next : step_of was g ≡ length before + 1 + 1 → is_command e c ≡ true → ⊥
        not_next k l = found (list_any_gives (is_command g) (xs ++ c ∷ ys) (in_step g (before ++ s ∷ []) (xs ++ c ∷ ys) after number))
          where
            number : step_of ((before ++ s ∷ []) ++ (xs ++ c ∷ ys) ∷ after) g ≡ length (before ++ s ∷ []) + 1
            number = ap (λ p. step_of p g) (append_assoc before (s ∷ []) ((xs ++ c ∷ ys) ∷ after)) ∙ k ∙ sym (ap (λ n. n + 1) (length_push before s))

            found : (f : Command) × In f (xs ++ c ∷ ys) × (is_command g f ≡ true) → ⊥
            found (f, m, same) = none_in_next f m (subst (λ x. contend routes c x ≡ true) (same_command g f same) (subst (λ x. contend routes x g ≡ true) (same_command e c l) h))

        sooner : (k l : ℕ) → (k ≡ l → ⊥) → k ≤ l → k < l
        sooner k l differ less = at (below_or_not k l)
          where
            at : (k < l) ⊎ (l ≤ k) → k < l
            at (inl m) = m
            at (inr m) = absurd (differ (omega arith))

        go : (a b : Bool) → is_command e c ≡ a → is_command g c ≡ b → nat_lt (step_of now e) (step_of now g) ≡ nat_lt (step_of was e) (step_of was g)
        go true true p q =
            let one = ap (λ (x : Command). x.train) (same_command e c p ∙ sym (same_command g c q)) in
            let other = is_false (is_train e.train g.train) (and_left (not (is_train e.train g.train)) (share (route_at routes e.route) (route_at routes g.route)) h) in
            absurd (true≢false (sym (eq-eqb e.train.0 g.train.0 (ap (λ (t : TrainNo). t.0) one)) ∙ other))
        go true false p q =
            let here = at_c e p in
            let new = here.0 in
            let old = here.1 in
            let same = step_other g q in
            same_bool (nat_lt (step_of now e) (step_of now g)) (nat_lt (step_of was e) (step_of was g))
            (λ k. let less = less_from (step_of now e) (step_of now g) k in less_to (step_of was e) (step_of was g) (let more = sooner (step_of was e) (step_of was g) (λ m. not_next (sym m ∙ old) p) (omega arith) in more))
            (λ k. let less = less_from (step_of was e) (step_of was g) k in less_to (step_of now e) (step_of now g) (omega arith))
        go false true p q =
            let here = at_c g q in
            let new = here.0 in
            let old = here.1 in
            let same = step_other e p in
            same_bool (nat_lt (step_of now e) (step_of now g)) (nat_lt (step_of was e) (step_of was g))
            (λ k. let less = less_from (step_of now e) (step_of now g) k in less_to (step_of was e) (step_of was g) (omega arith))
            (λ k. let less = less_from (step_of was e) (step_of was g) k in less_to (step_of now e) (step_of now g)
            (let more = sooner (step_of was e) (length before + 1) (λ m. not_first m q) (omega arith) in omega arith))
        go false false p q = ap₂ nat_lt (step_other e p) (step_other g q)

    pub moved_is_as_good : IsAsGood d routes was now
    moved_is_as_good = record {
      runnable = runs_now;
      paths = moved_path apart;
      order = λ e g. go e g (contend routes e g) refl;
      fewer = let size = same_size in omega arith;
    }
      where
        go : (e g : Command) (b : Bool) → contend routes e g ≡ b → precedes routes now e g ≡ precedes routes was e g
        go e g false k = ap (λ b. b && nat_lt (step_of now e) (step_of now g)) k ∙ sym (ap (λ b. b && nat_lt (step_of was e) (step_of was g)) k)
        go e g true k = ap (λ b. contend routes e g && b) (same_order e g k)
