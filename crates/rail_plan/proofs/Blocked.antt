-- A command is blocked exactly where the steps up to its own stop it, and a plan is executable where none is.
use Rattle.std.proofs.Common.{◌≡◌, ℕ, suc, ◌+◌, ◌<◌, inl, inr, Bool, true, false, not, cond, ◌&&◌, ◌||◌, ◌==◌, nat_le, nat_lt, List, [], ◌∷◌, ◌++◌, map, filter, flat_map, length, take, drop, get_or, sum_by, refl, sym, ap, ap₂, ◌∙◌, arith, leb-true, le-leb, eqb-true, eq-eqb, true≢false}
use Rattle.std.specs.List.{list_any, list_all}
use Rattle.std.proofs.lemmas.List.{append_assoc, append-nil, length-append, length-take-le, take-append-drop, drop_more}
use Rattle.std.proofs.lemmas.List.Folds.{list_any-append}
use Rattle.std.proofs.lemmas.List.Concat.{flat_map-append}
use Rattle.rail_base.specs.declared.station.Station.{Station}
use Rattle.rail_base.specs.declared.station.SectionNo.{SectionNo}
use Rattle.rail_base.specs.declared.station.TrainNo.{TrainNo}
use Rattle.rail_base.specs.declared.route.Route.{Route}
use Rattle.rail_base.specs.declared.plan.Command.{Command}
use Rattle.rail_base.specs.Members.{In}
use Rattle.rail_base.specs.Stations.{trains, train_of, train_length}
use Rattle.rail_spec.specs.Plans.{is_train, is_path, commands, route_at, length_mm, sections, has_section, goes_over, release_offset, exits, path_routes, step_of, can_clear}
use Rattle.rail_spec.specs.Feasible.{names_only}
use Rattle.rail_plan.specs.declared.place.PlanPlace.TheVariants as place
use Rattle.rail_plan.specs.Ahead.{clears, stops, is_stopped, stopped_sections, stopped_in, stopped}
use Rattle.rail_plan.specs.Holds.{takes}
use Rattle.rail_plan.specs.Executable.{keeps_from, blocked_sections, blocked_in}
use Rattle.rail_plan.specs.Normal.{can_clear_by, given_before}
use Rattle.rail_base.proofs.Members.{and_both, list_any_gives, filter-append, map-map, false_unless, not_less}
use Rattle.rail_base.proofs.Lists.{in_filter_back}
use Rattle.rail_laws.proofs.Given.{path_is}
use Rattle.rail_plan.proofs.Firsts.{entry_read}
use Rattle.rail_plan.proofs.Steps.{step_is, step_within}
use Rattle.rail_plan.proofs.Empties.{none_in}

-- ---- lists under tests that agree

pub kept_same : {X : Type 0} (p q : X → Bool) (xs : List X) → ((x : X) → In x xs → p x ≡ q x) → filter p xs ≡ filter q xs
kept_same p q [] same = refl
kept_same p q (x ∷ xs) same = ap (λ b. cond b (x ∷ filter p xs) (filter p xs)) (same x (inl refl)) ∙ ap (λ ys. cond (q x) (x ∷ ys) ys) (kept_same p q xs (λ y m. same y (inr m)))

pub kept_none : {X : Type 0} (p : X → Bool) (xs : List X) → ((x : X) → In x xs → p x ≡ false) → filter p xs ≡ []
kept_none p xs none = none_in (filter p xs) (λ x m. let l = in_filter_back p xs x m in true≢false (sym l.1 ∙ none x l.0))

pub any_same : {X : Type 0} (p q : X → Bool) (xs : List X) → ((x : X) → In x xs → p x ≡ q x) → list_any p xs ≡ list_any q xs
any_same p q [] same = refl
any_same p q (x ∷ xs) same = ap (λ b. b || list_any p xs) (same x (inl refl)) ∙ ap (λ b. q x || b) (any_same p q xs (λ y m. same y (inr m)))

any_none : {X : Type 0} (p : X → Bool) (xs : List X) → ((x : X) → In x xs → p x ≡ false) → list_any p xs ≡ false
any_none {X} p xs none = false_unless (list_any p xs) (λ h. go (list_any_gives p xs h))
  where
    go : (x : X) × In x xs × (p x ≡ true) → ⊥
    go (x, m, e) = true≢false (sym e ∙ none x m)

pub joined_same : {X Y : Type 0} (f g : X → List Y) (xs : List X) → ((x : X) → In x xs → f x ≡ g x) → flat_map f xs ≡ flat_map g xs
joined_same f g [] same = refl
joined_same f g (x ∷ xs) same = ap (λ ys. ys ++ flat_map f xs) (same x (inl refl)) ∙ ap (λ ys. g x ++ ys) (joined_same f g xs (λ y m. same y (inr m)))

not_le : (a b : ℕ) → b < a → nat_le a b ≡ false
not_le a b h = false_unless (nat_le a b) (λ e. let l = leb-true a b e in absurd (omega arith))

not_eq : (a b : ℕ) → a < b → (a == b) ≡ false
not_eq a b h = false_unless (a == b) (λ e. let l : a ≡ b = eqb-true a b e in absurd (omega arith))

-- ---- what keeps a command from a section, by the steps of the two

module _ (other has over : Bool) where
  by_earlier : {same sooner clear cleared : Bool} → same ≡ false → sooner ≡ true → clear ≡ cleared → (other && ((has && same) || (over && sooner && not clear))) ≡ (other && over && not cleared)
  by_earlier {same} {sooner} {clear} {cleared} e f k =
      ap₂ (λ a b. other && ((has && a) || (over && b && not clear))) e f ∙ ap (λ a. other && ((has && false) || (over && true && not a))) k ∙ go other has over
    where
      go : (o h v : Bool) → (o && ((h && false) || (v && true && not cleared))) ≡ (o && v && not cleared)
      go true true true = refl
      go true true false = refl
      go true false true = refl
      go true false false = refl
      go false h v = refl

  module _ (kept : Bool) where
    by_same : {same sooner : Bool} → same ≡ true → sooner ≡ false → (other && ((has && same) || (over && sooner && kept))) ≡ (other && has)
    by_same e f = ap₂ (λ a b. other && ((has && a) || (over && b && kept))) e f ∙ ap (λ a. other && a) (go has over)
      where
        go : (h v : Bool) → ((h && true) || (v && false && kept)) ≡ h
        go true v = refl
        go false true = refl
        go false false = refl

    by_later : {same sooner : Bool} → same ≡ false → sooner ≡ false → (other && ((has && same) || (over && sooner && kept))) ≡ false
    by_later e f = ap₂ (λ a b. other && ((has && a) || (over && b && kept))) e f ∙ go other has over
      where
        go : (o h v : Bool) → (o && ((h && false) || (v && false && kept))) ≡ false
        go true true true = refl
        go true true false = refl
        go true false true = refl
        go true false false = refl
        go false h v = refl

module _ (d : Station) (routes : List Route) (plan : List (List Command)) (named : names_only d routes plan ≡ true) (paths : list_all (λ t. is_path (train_of d t) (path_routes routes plan t)) (trains d) ≡ true) where
  -- ---- what a train is given from one of its commands on

  module _ (prefix mid : List (List Command)) (s : List Command) (rest : List (List Command)) (split : plan ≡ prefix ++ ((s ∷ mid) ++ rest)) (e : Command) (m : In e s) where
    first_step : step_of plan e ≡ length prefix + 1
    first_step = step_is d routes plan named paths prefix s (mid ++ rest) e split m

    -- the number of the step after them
    abbrev next : ℕ
    next = length prefix + suc (length mid) + 1

    abbrev own : Command → Bool
    own g = is_train g.train e.train

    abbrev test : Command → Bool
    test g = is_train g.train e.train && nat_le (step_of plan e) (step_of plan g) && nat_lt (step_of plan g) next

    -- before that step it is just what the steps from e's on give it
    given_there : given_before plan e next ≡ filter own (commands (s ∷ mid))
    given_there =
        ap (λ p. filter test (commands p)) split
        ∙ ap (filter test) (flat_map-append (λ (z : List Command). z) prefix ((s ∷ mid) ++ rest))
        ∙ filter-append test (commands prefix) (commands ((s ∷ mid) ++ rest))
        ∙ ap (λ xs. xs ++ filter test (commands ((s ∷ mid) ++ rest))) (kept_none test (commands prefix) too_early)
        ∙ ap (filter test) (flat_map-append (λ (z : List Command). z) (s ∷ mid) rest)
        ∙ filter-append test (commands (s ∷ mid)) (commands rest)
        ∙ ap (λ xs. filter test (commands (s ∷ mid)) ++ xs) (kept_none test (commands rest) too_late)
        ∙ append-nil (filter test (commands (s ∷ mid)))
        ∙ kept_same test own (commands (s ∷ mid)) between
      where
        part : (a b f : Bool) → b ≡ false → ((a && b) && f) ≡ false
        part true b f e = ap (λ x. x && f) e
        part false b f e = refl

        last : (a f : Bool) → f ≡ false → (a && f) ≡ false
        last true f e = e
        last false f e = refl

        too_early : (g : Command) → In g (commands prefix) → test g ≡ false
        too_early g k =
            let w = step_within d routes plan named paths [] prefix ((s ∷ mid) ++ rest) g split k in
            let high = w.1 in
            let here = first_step in
            part (own g) (nat_le (step_of plan e) (step_of plan g)) (nat_lt (step_of plan g) next) (not_le (step_of plan e) (step_of plan g) (omega arith))

        too_late : (g : Command) → In g (commands rest) → test g ≡ false
        too_late g k =
            let whole : plan ≡ (prefix ++ s ∷ mid) ++ (rest ++ []) = split ∙ sym (append_assoc prefix (s ∷ mid) rest) ∙ ap (λ p. (prefix ++ s ∷ mid) ++ p) (sym (append-nil rest)) in
            let w = step_within d routes plan named paths (prefix ++ s ∷ mid) rest [] g whole k in
            let low = w.0 in
            let size = length-append prefix (s ∷ mid) in
            last (own g && nat_le (step_of plan e) (step_of plan g)) (nat_lt (step_of plan g) next) (not_less (step_of plan g) next (omega arith))

        right : (a b f : Bool) → b ≡ true → f ≡ true → ((a && b) && f) ≡ a
        right true b f p q = and_both b f p q
        right false b f p q = refl

        between : (g : Command) → In g (commands (s ∷ mid)) → test g ≡ own g
        between g k =
            let w = step_within d routes plan named paths prefix (s ∷ mid) rest g split k in
            let low = w.0 in
            let high = w.1 in
            let here = first_step in
            right (own g) (nat_le (step_of plan e) (step_of plan g)) (nat_lt (step_of plan g) next) (le-leb (step_of plan e) (step_of plan g) (omega arith)) (le-leb (suc (step_of plan g)) next (omega arith))

    pub clears_by : (z : SectionNo) → can_clear_by d routes plan (length prefix + suc (length mid) + 1) e z ≡ clears d routes (s ∷ mid) e z
    clears_by z =
        let wants : List Route → Bool = λ given. nat_le (release_offset (route_at routes e.route) z + train_length d e.train) (sum_by length_mm given) || list_any exits given in
        ap wants (ap (map (λ (g : Command). route_at routes g.route)) given_there
        ∙ sym (map-map (route_at routes) (λ (g : Command). g.route) (filter own (commands (s ∷ mid))))
        ∙ ap (map (route_at routes)) (sym (path_is e.train (s ∷ mid))))

  -- ---- one earlier step

  module _ (prefix mid : List (List Command)) (s : List Command) (step : List Command) (after : List (List Command)) (split : plan ≡ prefix ++ ((s ∷ mid) ++ step ∷ after)) (e c : Command) (m : In e s) (n : In c step) where
    last_step : step_of plan c ≡ length prefix + suc (length mid) + 1
    last_step =
        step_is d routes plan named paths (prefix ++ s ∷ mid) step after c (split ∙ sym (append_assoc prefix (s ∷ mid) (step ∷ after))) n
        ∙ ap (λ k. k + 1) (length-append prefix (s ∷ mid))

    clears_there : (z : SectionNo) → can_clear d routes plan e c z ≡ clears d routes (s ∷ mid) e z
    clears_there z = ap (λ k. can_clear_by d routes plan k e z) last_step ∙ clears_by prefix mid s (step ∷ after) split e m z

    pub earlier_keeps : (z : SectionNo) → keeps_from d routes plan c z e ≡ stops d routes (s ∷ mid) c.train z e
    earlier_keeps z =
        let here = first_step prefix mid s (step ∷ after) split e m in
        let there = last_step in
        by_earlier (not (is_train e.train c.train)) (has_section (route_at routes e.route) z) (goes_over (route_at routes e.route) z)
        (not_eq (step_of plan e) (step_of plan c) (omega arith)) (le-leb (suc (step_of plan e)) (step_of plan c) (omega arith)) (clears_there z)

  -- ---- the step itself, and those behind it

  same_keeps : (prefix : List (List Command)) (step : List Command) (after : List (List Command)) → plan ≡ prefix ++ step ∷ after → (e c : Command) (z : SectionNo) → In e step → In c step → keeps_from d routes plan c z e ≡ takes routes c.train z e
  same_keeps prefix step after split e c z m n =
      let here = step_is d routes plan named paths prefix step after e split m in
      let there = step_is d routes plan named paths prefix step after c split n in
      by_same (not (is_train e.train c.train)) (has_section (route_at routes e.route) z) (goes_over (route_at routes e.route) z) (not (can_clear d routes plan e c z))
      (eq-eqb (step_of plan e) (step_of plan c) (here ∙ sym there)) (not_less (step_of plan e) (step_of plan c) (omega arith))

  later_keeps : (prefix : List (List Command)) (step : List Command) (after : List (List Command)) → plan ≡ prefix ++ step ∷ after → (e c : Command) (z : SectionNo) → In e (commands after) → In c step → keeps_from d routes plan c z e ≡ false
  later_keeps prefix step after split e c z m n =
      let whole : plan ≡ (prefix ++ step ∷ []) ++ (after ++ []) = split ∙ sym (append_assoc prefix (step ∷ []) after) ∙ ap (λ p. (prefix ++ step ∷ []) ++ p) (sym (append-nil after)) in
      let w = step_within d routes plan named paths (prefix ++ step ∷ []) after [] e whole m in
      let low = w.0 in
      let size = length-append prefix (step ∷ []) in
      let there = step_is d routes plan named paths prefix step after c split n in
      let apart : (step_of plan e == step_of plan c) ≡ false = false_unless (step_of plan e == step_of plan c) (λ h. let l : step_of plan e ≡ step_of plan c = eqb-true (step_of plan e) (step_of plan c) h in absurd (omega arith)) in
      by_later (not (is_train e.train c.train)) (has_section (route_at routes e.route) z) (goes_over (route_at routes e.route) z) (not (can_clear d routes plan e c z))
      apart (not_less (step_of plan e) (step_of plan c) (omega arith))

  -- ---- all that keep a command from a section

  kept_is : (prefix before : List (List Command)) (step : List Command) (after : List (List Command)) → plan ≡ prefix ++ (before ++ step ∷ after) → (c : Command) (z : SectionNo) → In c step
      → list_any (keeps_from d routes plan c z) (commands (before ++ step ∷ after)) ≡ is_stopped d routes c.train z before step
  kept_is prefix [] step after split c z n =
      list_any-append (keeps_from d routes plan c z) step (commands after)
      ∙ ap (λ b. list_any (keeps_from d routes plan c z) step || b) (any_none (keeps_from d routes plan c z) (commands after) (λ e m. later_keeps prefix step after split e c z m n))
      ∙ right (list_any (keeps_from d routes plan c z) step)
      ∙ any_same (keeps_from d routes plan c z) (takes routes c.train z) step (λ e m. same_keeps prefix step after split e c z m n)
    where
      right : (a : Bool) → (a || false) ≡ a
      right true = refl
      right false = refl
  kept_is prefix (s ∷ ss) step after split c z n =
      list_any-append (keeps_from d routes plan c z) s (commands (ss ++ step ∷ after))
      ∙ ap (λ b. b || list_any (keeps_from d routes plan c z) (commands (ss ++ step ∷ after))) (any_same (keeps_from d routes plan c z) (stops d routes (s ∷ ss) c.train z) s (λ e m. earlier_keeps prefix ss s step after split e c m n z))
      ∙ ap (λ b. list_any (stops d routes (s ∷ ss) c.train z) s || b) (kept_is (prefix ++ s ∷ []) ss step after (split ∙ sym (append_assoc prefix (s ∷ []) (ss ++ step ∷ after))) c z n)

  -- the places of a step are those found from the steps up to it
  pub blocked_step : (i : ℕ) (step : List Command) → i < length plan → step ≡ get_or plan i step → flat_map (blocked_in d routes plan (i + 1)) (trains d) ≡ stopped d routes (take i plan) step
  blocked_step i step h e = joined_same (blocked_in d routes plan (i + 1)) (stopped_in d routes (take i plan) step) (trains d) (λ t m. of_train t)
    where
      parts : plan ≡ take i plan ++ step ∷ drop (i + 1) plan
      parts = sym (take-append-drop i plan) ∙ ap (λ p. take i plan ++ p) (drop_more plan i step h ∙ ap (λ s. s ∷ drop (i + 1) plan) (sym e))

      size : length (take i plan) ≡ i
      size = length-take-le i plan (omega arith)

      of_command : (c : Command) → In c step → blocked_sections d routes plan c ≡ stopped_sections d routes (take i plan) step c
      of_command c m = kept_same (λ z. list_any (keeps_from d routes plan c z) (commands plan)) (λ z. is_stopped d routes c.train z (take i plan) step) (sections (route_at routes c.route))
          (λ z n. ap (λ p. list_any (keeps_from d routes plan c z) (commands p)) parts ∙ kept_is [] (take i plan) step (drop (i + 1) plan) parts c z m)

      of_train : (t : TrainNo) → blocked_in d routes plan (i + 1) t ≡ stopped_in d routes (take i plan) step t
      of_train t =
          ap (λ s. flat_map (λ c. map (place.Section (i + 1) t) (blocked_sections d routes plan c)) (filter (λ c. is_train c.train t) s)) (entry_read [] plan i step h e)
          ∙ joined_same (λ c. map (place.Section (i + 1) t) (blocked_sections d routes plan c)) (λ c. map (place.Section (length (take i plan) + 1) t) (stopped_sections d routes (take i plan) step c)) (filter (λ c. is_train c.train t) step)
          (λ c m. ap (map (place.Section (i + 1) t)) (of_command c (in_filter_back (λ (c : Command). is_train c.train t) step c m).0) ∙ ap (λ k. map (place.Section (k + 1) t) (stopped_sections d routes (take i plan) step c)) (sym size))
