-- The holds after one step more, where none of its commands is blocked.
use Rattle.std.proofs.Common.{◌≡◌, ℕ, ℤ, zero, suc, ◌+◌, ◌-◌, ◌≤◌, ◌<◌, ◌⊎◌, inl, inr, max, nat_abs, fold, Bool, true, false, not, cond, ◌&&◌, ◌||◌, ◌==◌, nat_le, if◌then◌else◌, List, [], ◌∷◌, ◌++◌, map, filter, length, drop, get_or, set, refl, sym, ap, ap₂, subst, ◌∙◌, arith, le-leb, leb-true, eqb-true, eq-eqb, true≢false, replicate}
use Rattle.std.specs.List.{list_any}
use Rattle.std.proofs.lemmas.List.{drop_more, get_or-set_same, get_or-set_other, get_or_default}
use Rattle.std.proofs.lemmas.Bool.Decides.{eqb_tells}
use Rattle.rail_base.specs.declared.station.Station.{Station}
use Rattle.rail_base.specs.declared.station.SectionNo.{SectionNo}
use Rattle.rail_base.specs.declared.station.TrainNo.{TrainNo}
use Rattle.rail_base.specs.declared.route.Route.{Route}
use Rattle.rail_base.specs.declared.plan.Command.{Command}
use Rattle.rail_base.specs.Members.{In}
use Rattle.rail_base.specs.Numbering.{entry}
use Rattle.rail_base.specs.Stations.{train_length, trains, IsTrain}
use Rattle.rail_spec.specs.Plans.{is_train, one_each, route_at, sections, has_section, goes_over, release_offset, routes_given}
use Rattle.rail_plan.specs.declared.holds.Hold.{Hold}
use Rattle.rail_plan.specs.declared.place.PlanPlace.TheVariants as place
use Rattle.rail_plan.specs.Ahead.{is_stopped, stopped_sections, stopped_in, stopped}
use Rattle.rail_plan.specs.Holds.{rest_after, no_hold, hold_at, keeps_out, lacks, taken, given_step, takes, lack_after, taken_by_parts, taken_by, taken_by_step, turned, lack_of, lack_in, lack, AreHolds}
use Rattle.rail_plan.specs.Named.{HaveTrains}
use Rattle.rail_base.proofs.Lists.{in_map}
use Rattle.rail_base.proofs.Members.{and_both, below_or_not, false_unless, in_filter, list_any_from, list_any_gives, same_bool}
use Rattle.rail_base.proofs.Sharing.{in_sections}
use Rattle.rail_laws.proofs.Given.{same_train}
use Rattle.rail_plan.proofs.Empties.{in_trains, none_joined, none_kept, none_mapped}
use Rattle.rail_plan.proofs.Holding.{kept_out_is, lack_more, stopped_apart}
use Rattle.rail_plan.proofs.Named.{all_in}
use Rattle.rail_plan.proofs.Resting.{rest_max, rest_none}
use Rattle.rail_plan.proofs.Standing.{over_has}
use Rattle.rail_plan.proofs.WellFormed.{few_given}

-- ---- a section that is taken

-- twice by one train
taken_twice : (h : Hold) (t : TrainNo) (n m : ℕ) → taken (taken h t n) t m ≡ taken h t (max n m)
taken_twice h t n m =
    ap (λ k. lacking k) (ap (λ b. if b then max (if is_train h.train t then max h.left n else n) m else m) (eq-eqb t.0 t.0 refl) ∙ go (is_train h.train t))
  where
    lacking : ℕ → Hold
    lacking k = record { train = t; left = k }

    further : max (max h.left n) m ≡ max h.left (max n m)
    further = omega arith

    go : (b : Bool) → max (if b then max h.left n else n) m ≡ (if b then max h.left (max n m) else max n m)
    go true = further
    go false = refl

abbrev is_of : SectionNo → SectionNo × ℤ → Bool
is_of z p = p.0.0 == z.0

abbrev offsets : SectionNo → List (SectionNo × ℤ) → List ℕ
offsets z ps = map (λ (p : SectionNo × ℤ). nat_abs p.1) (filter (is_of z) ps)

-- the number that one train lacks by a hold after it was taken
shared_lack : (hn hl cn un n : ℕ) → (hn ≡ cn) ⊎ (hl ≡ 0) → (if un == cn then (if hn == cn then max hl n else n) else 0) ≡ max (if un == hn then hl else 0) (if cn == un then n else 0)
shared_lack hn hl cn un n either = elim (eqb_tells un cn) [
  | inl p ↦ elim (eqb_tells hn cn) [
    | inl q ↦ (let here : un ≡ hn = p.1 ∙ sym q.1 in
        by_tests true true true true p.0 q.0 (eq-eqb un hn here) (eq-eqb cn un (sym p.1)) refl)
    | inr q ↦ (let away : (un == hn) ≡ false = false_unless (un == hn) (λ k. q.1 (sym (eqb-true un hn k) ∙ p.1)) in
        by_tests true false false true p.0 q.0 away (eq-eqb cn un (sym p.1)) (let e : n ≡ max 0 n = omega arith in e))
  ]
  | inr p ↦ (let other : (cn == un) ≡ false = false_unless (cn == un) (λ k. p.1 (sym (eqb-true cn un k))) in
      elim (eqb_tells un hn) [
        | inl q ↦ by_tests false (hn == cn) true false p.0 refl q.0 other (let e : hl ≡ 0 = gone q.1 p.1 in let f : 0 ≡ max hl 0 = omega arith in f)
        | inr q ↦ by_tests false (hn == cn) false false p.0 refl q.0 other (let e : 0 ≡ max 0 0 = omega arith in e)
      ])
]
  where
    by_tests : (a b c e : Bool) → (un == cn) ≡ a → (hn == cn) ≡ b → (un == hn) ≡ c → (cn == un) ≡ e → (if a then (if b then max hl n else n) else 0) ≡ max (if c then hl else 0) (if e then n else 0)
        → (if un == cn then (if hn == cn then max hl n else n) else 0) ≡ max (if un == hn then hl else 0) (if cn == un then n else 0)
    by_tests a b c e ea eb ec ee holds =
        ap₂ (λ x y. if x then (if y then max hl n else n) else 0) ea eb ∙ holds ∙ sym (ap₂ (λ x y. max (if x then hl else 0) (if y then n else 0)) ec ee)

    gone : un ≡ hn → (un ≡ cn → ⊥) → hl ≡ 0
    gone same differ = go either
      where
        go : (hn ≡ cn) ⊎ (hl ≡ 0) → hl ≡ 0
        go (inl e) = absurd (differ (same ∙ e))
        go (inr e) = e

-- each of these commands gives its train this route alone
abbrev AreAlone : List Route → (TrainNo → List Route) → List Command → Type 0
AreAlone routes given cs = (e : Command) → In e cs → given e.train ≡ route_at routes e.route ∷ []

module _ (d : Station) (routes : List Route) (z : SectionNo) where
  -- ---- by a command

  module _ (c : Command) where
    lack_max : (a b : ℕ) → max (lack_after d routes c a) (lack_after d routes c b) ≡ lack_after d routes c (max a b)
    lack_max a b =
        let n = train_length d c.train in
        let apart : max a b + n ≡ max (a + n) (b + n) = omega arith in
        sym (ap (λ k. rest_after k (route_at routes c.route ∷ [])) apart ∙ rest_max (a + n) (b + n) (route_at routes c.route ∷ []))

    -- the offsets that come later count with the first
    go_on : (h : Hold) (a : ℕ) (ps : List (SectionNo × ℤ)) → taken_by_parts d routes z c ps (taken h c.train (lack_after d routes c a)) ≡ taken h c.train (lack_after d routes c (fold max a (offsets z ps)))
    go_on h a [] = refl
    go_on h a (p ∷ ps) = go (is_of z p) (go_on h a ps) (go_on h (max a (nat_abs p.1)) ps)
      where
        old : Hold
        old = taken h c.train (lack_after d routes c a)

        both : taken old c.train (lack_after d routes c (nat_abs p.1)) ≡ taken h c.train (lack_after d routes c (max a (nat_abs p.1)))
        both = taken_twice h c.train (lack_after d routes c a) (lack_after d routes c (nat_abs p.1)) ∙ ap (taken h c.train) (lack_max a (nat_abs p.1))

        go : (b : Bool) → taken_by_parts d routes z c ps old ≡ taken h c.train (lack_after d routes c (fold max a (offsets z ps)))
            → taken_by_parts d routes z c ps (taken h c.train (lack_after d routes c (max a (nat_abs p.1)))) ≡ taken h c.train (lack_after d routes c (fold max (max a (nat_abs p.1)) (offsets z ps)))
            → taken_by_parts d routes z c ps (if b then taken old c.train (lack_after d routes c (nat_abs p.1)) else old) ≡ taken h c.train (lack_after d routes c (fold max a (map (λ (q : SectionNo × ℤ). nat_abs q.1) (cond b (p ∷ filter (is_of z) ps) (filter (is_of z) ps)))))
        go true skip more = ap (taken_by_parts d routes z c ps) both ∙ more
        go false skip more = skip

    taken_there : (h : Hold) (ps : List (SectionNo × ℤ)) → list_any (is_of z) ps ≡ true → taken_by_parts d routes z c ps h ≡ taken h c.train (lack_after d routes c (fold max 0 (offsets z ps)))
    taken_there h [] e = absurd (true≢false (sym e))
    taken_there h (p ∷ ps) e = go (is_of z p) e (taken_there h ps)
      where
        first : nat_abs p.1 ≡ max 0 (nat_abs p.1)
        first = omega arith

        go : (b : Bool) → (b || list_any (is_of z) ps) ≡ true → (list_any (is_of z) ps ≡ true → taken_by_parts d routes z c ps h ≡ taken h c.train (lack_after d routes c (fold max 0 (offsets z ps))))
            → taken_by_parts d routes z c ps (if b then taken h c.train (lack_after d routes c (nat_abs p.1)) else h) ≡ taken h c.train (lack_after d routes c (fold max 0 (map (λ (q : SectionNo × ℤ). nat_abs q.1) (cond b (p ∷ filter (is_of z) ps) (filter (is_of z) ps)))))
        go true k later = go_on h (nat_abs p.1) ps ∙ ap (λ a. taken h c.train (lack_after d routes c (fold max a (offsets z ps)))) first
        go false k later = later k

    taken_nowhere : (h : Hold) (ps : List (SectionNo × ℤ)) → list_any (is_of z) ps ≡ false → taken_by_parts d routes z c ps h ≡ h
    taken_nowhere h [] e = refl
    taken_nowhere h (p ∷ ps) e = go (is_of z p) e (taken_nowhere h ps)
      where
        go : (b : Bool) → (b || list_any (is_of z) ps) ≡ false → (list_any (is_of z) ps ≡ false → taken_by_parts d routes z c ps h ≡ h) → taken_by_parts d routes z c ps (if b then taken h c.train (lack_after d routes c (nat_abs p.1)) else h) ≡ h
        go true k later = absurd (true≢false k)
        go false k later = later k

  -- ---- by the commands of a step, that of one train at most

  module _ (given : TrainNo → List Route) (u : TrainNo) where
    one_taken : (h : Hold) (c : Command) → goes_over (route_at routes c.route) z ≡ true → given c.train ≡ route_at routes c.route ∷ [] → (h.train ≡ c.train) ⊎ (h.left ≡ 0)
        → lacks (taken_by d routes z c h) u ≡ max (lacks h u) (lack_of d routes z u (given u) c)
    one_taken h c has own free =
        ap (λ k. lacks k u) (taken_there c h (route_at routes c.route).sections has)
        ∙ shared_lack h.train.0 h.left c.train.0 u.0 n (number free)
        ∙ ap (max (lacks h u)) (go (is_train c.train u) refl)
      where
        n : ℕ
        n = lack_after d routes c (release_offset (route_at routes c.route) z)

        number : (h.train ≡ c.train) ⊎ (h.left ≡ 0) → (h.train.0 ≡ c.train.0) ⊎ (h.left ≡ 0)
        number (inl e) = inl (ap (λ (t : TrainNo). t.0) e)
        number (inr e) = inr e

        lacking : TrainNo → ℕ
        lacking t = rest_after (release_offset (route_at routes c.route) z + train_length d t) (given t)

        go : (b : Bool) → is_train c.train u ≡ b → (if is_train c.train u then n else 0) ≡ (if is_train c.train u && goes_over (route_at routes c.route) z then lacking u else 0)
        go true e =
            let same = same_train c.train u e in
            let there : (is_train c.train u && goes_over (route_at routes c.route) z) ≡ true = and_both (is_train c.train u) (goes_over (route_at routes c.route) z) e has in
            ap (λ b. if b then n else 0) e
            ∙ sym (ap (rest_after (release_offset (route_at routes c.route) z + train_length d c.train)) own)
            ∙ ap lacking same
            ∙ sym (ap (λ b. if b then lacking u else 0) there)
        go false e = ap (λ b. if b then n else 0) e ∙ sym (ap (λ b. if b && goes_over (route_at routes c.route) z then lacking u else 0) e)

    more : (x a b k : ℕ) → x ≡ max (max a b) k → x ≡ max a (max b k)
    more x a b k e = omega arith

    nothing : (x a b k : ℕ) → b ≡ 0 → x ≡ max a k → x ≡ max a (max b k)
    nothing x a b k e f = omega arith

    all_taken : (t : TrainNo) (cs : List Command) → ((e : Command) → In e cs → goes_over (route_at routes e.route) z ≡ true → e.train ≡ t) → AreAlone routes given cs → (h : Hold) → (h.train ≡ t) ⊎ (h.left ≡ 0)
        → lacks (taken_by_step d routes z cs h) u ≡ max (lacks h u) (lack_in d routes z u (given u) cs)
    all_taken t [] one own h free = let e : lacks h u ≡ max (lacks h u) 0 = omega arith in e
    all_taken t (c ∷ cs) one own h free = go (goes_over (route_at routes c.route) z) refl (all_taken t cs (λ e m. one e (inr m)) (λ e m. own e (inr m)))
      where
        after : Hold
        after = taken_by d routes z c h

        mine : c.train ≡ t → (h.train ≡ t) ⊎ (h.left ≡ 0) → (h.train ≡ c.train) ⊎ (h.left ≡ 0)
        mine same (inl e) = inl (e ∙ sym same)
        mine same (inr e) = inr e

        go : (b : Bool) → goes_over (route_at routes c.route) z ≡ b → ((k : Hold) → (k.train ≡ t) ⊎ (k.left ≡ 0) → lacks (taken_by_step d routes z cs k) u ≡ max (lacks k u) (lack_in d routes z u (given u) cs)) → lacks (taken_by_step d routes z cs after) u ≡ max (lacks h u) (max (lack_of d routes z u (given u) c) (lack_in d routes z u (given u) cs))
        go true e later =
            let same = one c (inl refl) e in
            let train : after.train ≡ t = ap (λ (k : Hold). k.train) (taken_there c h (route_at routes c.route).sections e) ∙ same in
            more (lacks (taken_by_step d routes z cs after) u) (lacks h u) (lack_of d routes z u (given u) c) (lack_in d routes z u (given u) cs)
            (later after (inl train) ∙ ap (λ k. max k (lack_in d routes z u (given u) cs)) (one_taken h c e (own c (inl refl)) (mine same free)))
        go false e later =
            nothing (lacks (taken_by_step d routes z cs after) u) (lacks h u) (lack_of d routes z u (given u) c) (lack_in d routes z u (given u) cs)
            (none (is_train c.train u))
            (ap (λ k. lacks (taken_by_step d routes z cs k) u) (taken_nowhere c h (route_at routes c.route).sections e) ∙ later h free)
          where
            lacking : ℕ
            lacking = rest_after (release_offset (route_at routes c.route) z + train_length d u) (given u)

            none : (a : Bool) → (if a && goes_over (route_at routes c.route) z then lacking else 0) ≡ 0
            none true = ap (λ b. if b then lacking else 0) e
            none false = refl

-- ---- a step whose commands are not blocked

only : {X : Type 0} (xs : List X) (x : X) → In x xs → length xs ≤ 1 → xs ≡ x ∷ []
only [] x m h = absurd m
only (y ∷ []) x (inl e) h = ap (λ v. v ∷ []) e
only (y ∷ []) x (inr m) h = absurd m
only (y ∷ w ∷ ys) x m h = absurd (omega arith)

module _ (d : Station) (routes : List Route) (before : List (List Command)) (step : List Command) (named : HaveTrains d step) (one : one_each step ≡ true) (free : stopped d routes before step ≡ []) where
  abbrev given : TrainNo → List Route
  given t = map (route_at routes) (routes_given t step)

  alone : AreAlone routes given step
  alone e m = ap (map (route_at routes)) (only (routes_given e.train step) e.route (in_map (λ (c : Command). c.route) (filter (λ (c : Command). is_train c.train e.train) step) e (in_filter (λ (c : Command). is_train c.train e.train) step e m (eq-eqb e.train.0 e.train.0 refl))) (few_given e.train step one))

  not_stopped : (c : Command) (z : SectionNo) → In c step → goes_over (route_at routes c.route) z ≡ true → is_stopped d routes c.train z before step ≡ false
  not_stopped c z m over =
      let train : IsTrain d c.train = all_in (λ (e : Command). IsTrain d e.train) step c named m in
      let none = none_joined (stopped_in d routes before step) (trains d) c.train free (in_trains d c.train train) in
      let places = λ (e : Command). map (place.Section (length before + 1) c.train) (stopped_sections d routes before step e) in
      let own = none_joined places (filter (λ (e : Command). is_train e.train c.train) step) c none (in_filter (λ (e : Command). is_train e.train c.train) step c m (eq-eqb c.train.0 c.train.0 refl)) in
      let sections_none = none_mapped (place.Section (length before + 1) c.train) (stopped_sections d routes before step c) own in
      false_unless (is_stopped d routes c.train z before step) (λ k. none_kept (λ y. is_stopped d routes c.train y before step) (sections (route_at routes c.route)) z sections_none (in_sections (route_at routes c.route) z (over_has (route_at routes c.route) z over)) k)

  both_false : (a b : Bool) → (a || b) ≡ false → (a ≡ false) × (b ≡ false)
  both_false true b h = absurd (true≢false h)
  both_false false b h = (refl, h)

  -- nothing stands there before the step, nor does another train in it
  not_before : (c : Command) (z : SectionNo) → In c step → goes_over (route_at routes c.route) z ≡ true → (is_stopped d routes c.train z before [] ≡ false) × (list_any (takes routes c.train z) step ≡ false)
  not_before c z m over =
      both_false (is_stopped d routes c.train z before []) (list_any (takes routes c.train z) step) (sym (stopped_apart d routes c.train z before step) ∙ not_stopped c z m over)

  module _ (z : SectionNo) (h : Hold) (tells : (u : TrainNo) → lack d routes z u before ≡ lacks h u) where
    abbrev moved : Hold
    moved = given_step routes step h

    moved_lacks : (u : TrainNo) → rest_after (lack d routes z u before) (given u) ≡ lacks moved u
    moved_lacks u = ap (λ n. rest_after n (given u)) (tells u) ∙ go (is_train u h.train) refl
      where
        go : (b : Bool) → is_train u h.train ≡ b → rest_after (if b then h.left else 0) (given u) ≡ (if is_train u h.train then rest_after h.left (given h.train) else 0)
        go true e = ap (λ t. rest_after h.left (given t)) (same_train u h.train e) ∙ sym (ap (λ b. if b then rest_after h.left (given h.train) else 0) e)
        go false e = rest_none (given u) ∙ sym (ap (λ b. if b then rest_after h.left (given h.train) else 0) e)

    -- one train at most takes the section, and no other one is left there
    one_train : (t : TrainNo) × ((e : Command) → In e step → goes_over (route_at routes e.route) z ≡ true → e.train ≡ t) × ((moved.train ≡ t) ⊎ (moved.left ≡ 0))
    one_train = go (list_any (λ (e : Command). goes_over (route_at routes e.route) z) step) refl
      where
        found : (c : Command) × In c step × (goes_over (route_at routes c.route) z ≡ true) → (t : TrainNo) × ((e : Command) → In e step → goes_over (route_at routes e.route) z ≡ true → e.train ≡ t) × ((moved.train ≡ t) ⊎ (moved.left ≡ 0))
        found (c, m, has) = (c.train, same, left (is_train h.train c.train) refl)
          where
            clear : (is_stopped d routes c.train z before [] ≡ false) × (list_any (takes routes c.train z) step ≡ false)
            clear = not_before c z m has

            same : (e : Command) → In e step → goes_over (route_at routes e.route) z ≡ true → e.train ≡ c.train
            same e k its = at (is_train e.train c.train) refl
              where
                at : (b : Bool) → is_train e.train c.train ≡ b → e.train ≡ c.train
                at true f = same_train e.train c.train f
                at false f = absurd (true≢false (sym (list_any_from (takes routes c.train z) step e k (and_both (not (is_train e.train c.train)) (has_section (route_at routes e.route) z) (ap not f) (over_has (route_at routes e.route) z its))) ∙ clear.1))

            left : (b : Bool) → is_train h.train c.train ≡ b → (h.train ≡ c.train) ⊎ (moved.left ≡ 0)
            left true f = inl (same_train h.train c.train f)
            left false f = inr (ap (λ n. rest_after n (given h.train)) (none (h.left == 0) refl) ∙ rest_none (given h.train))
              where
                kept : keeps_out h c.train ≡ false
                kept = sym (kept_out_is d routes c.train z before h tells) ∙ clear.0

                none : (b : Bool) → (h.left == 0) ≡ b → h.left ≡ 0
                none true k = eqb-true h.left 0 k
                none false k = absurd (true≢false (sym (and_both (not (is_train h.train c.train)) (not (h.left == 0)) (ap not f) (ap not k)) ∙ kept))

        go : (b : Bool) → list_any (λ (e : Command). goes_over (route_at routes e.route) z) step ≡ b → (t : TrainNo) × ((e : Command) → In e step → goes_over (route_at routes e.route) z ≡ true → e.train ≡ t) × ((moved.train ≡ t) ⊎ (moved.left ≡ 0))
        go true k = found (list_any_gives (λ (e : Command). goes_over (route_at routes e.route) z) step k)
        go false k = (h.train, (λ e m has. absurd (true≢false (sym (list_any_from (λ (x : Command). goes_over (route_at routes x.route) z) step e m has) ∙ k))), inl refl)

    turned_lacks : (u : TrainNo) → lack d routes z u (before ++ step ∷ []) ≡ lacks (turned d routes z step h) u
    turned_lacks u =
        let all = all_taken d routes z given u one_train.0 step one_train.1 alone moved one_train.2 in
        lack_more d routes z u before step
        ∙ ap (λ n. max n (lack_in d routes z u (given u) step)) (moved_lacks u)
        ∙ sym all

  -- so the holds after the step say who can't leave after it
  pub holds_more : (old new : List Hold) → AreHolds d routes before old → length new ≡ length old → ((z : SectionNo) → hold_at new z ≡ turned d routes z step (hold_at old z)) → AreHolds d routes (before ++ step ∷ []) new
  holds_more old new are many turns = record {
    hold_a_section = subst (λ n. length d.sections ≤ n) (sym many) are.hold_a_section;
    each = λ z u. turned_lacks z (hold_at old z) (are.each z) u ∙ ap (λ h. lacks h u) (sym (turns z));
  }

-- ---- holds before any step

pub holds_none : (d : Station) (routes : List Route) (holds : List Hold) → length d.sections ≤ length holds → ((z : SectionNo) → hold_at holds z ≡ no_hold) → AreHolds d routes [] holds
holds_none d routes holds many none = record { hold_a_section = many; each = λ z u. go (is_train u no_hold.train) ∙ ap (λ h. lacks h u) (sym (none z)) }
  where
    go : (b : Bool) → ◌≡◌ {A = ℕ} 0 (if b then 0 else 0)
    go true = refl
    go false = refl

-- ---- holds by number

-- all alike
pub entry_alike : (many n : ℕ) → entry no_hold (replicate many no_hold) n ≡ no_hold
entry_alike many zero = refl
entry_alike zero (suc j) = refl
entry_alike (suc k) (suc zero) = refl
entry_alike (suc k) (suc (suc j)) = entry_alike k (suc j)

pub entry_edit : (holds : List Hold) (m index : ℕ) (other new : Hold) (f : Hold → Hold) → 1 ≤ m → m ≤ length holds → index ≡ m - 1 → new ≡ f (get_or holds index other)
    → (n : ℕ) → entry no_hold (set holds index new) n ≡ (if m == n then f (entry no_hold holds n) else entry no_hold holds n)
entry_edit holds m index other new f low high at made n = elim (eqb_tells m n) [
  | inl p ↦ (let same : suc index ≡ n = (let e = p.1 in omega arith) in
      subst (λ k. entry no_hold (set holds index new) k ≡ f (entry no_hold holds k)) same
      (get_or-set_same holds index new no_hold (omega arith) ∙ made ∙ ap f (get_or_default holds index other no_hold (omega arith)))
      ∙ sym (ap (λ b. if b then f (entry no_hold holds n) else entry no_hold holds n) p.0))
  | inr p ↦ elsewhere n p.1 ∙ sym (ap (λ b. if b then f (entry no_hold holds n) else entry no_hold holds n) p.0)
]
  where
    elsewhere : (n : ℕ) → (m ≡ n → ⊥) → entry no_hold (set holds index new) n ≡ entry no_hold holds n
    elsewhere zero differ = refl
    elsewhere (suc j) differ = get_or-set_other holds index j new no_hold (λ e. differ (omega arith))

past : (holds : List Hold) (n : ℕ) → length holds < n → entry no_hold holds n ≡ no_hold
past holds zero h = refl
past [] (suc j) h = refl
past (x ∷ xs) (suc zero) h = absurd (omega arith)
past (x ∷ xs) (suc (suc j)) h = past xs (suc j) (omega arith)

-- holds of which some were given the routes of a step
module _ (routes : List Route) (step : List Command) where
  no_given : no_hold ≡ given_step routes step no_hold
  no_given = ap (λ k. record { train = record { 0 = 0 }; left = k }) (sym (rest_none (map (route_at routes) (routes_given (record { 0 = 0 }) step))))

  abbrev pub AreGiven : List Hold → ℕ → List Hold → Type 0
  AreGiven old i new = (n : ℕ) → entry no_hold new n ≡ (if nat_le n i then given_step routes step (entry no_hold old n) else entry no_hold old n)

  pub given_first : (holds : List Hold) → AreGiven holds 0 holds
  given_first holds zero = no_given
  given_first holds (suc j) = ap (λ b. if b then given_step routes step (entry no_hold holds (suc j)) else entry no_hold holds (suc j)) (sym (false_unless (nat_le (suc j) 0) (λ k. let l = leb-true (suc j) 0 k in absurd (omega arith))))

  pub given_on : (old new : List Hold) (i : ℕ) (other given : Hold) → i < length new → given ≡ given_step routes step (get_or new i other) → AreGiven old i new → AreGiven old (i + 1) (set new i given)
  given_on old new i other given h made are n = entry_edit new (i + 1) i other given (given_step routes step) (omega arith) (omega arith) (omega arith) made n ∙ elim (eqb_tells (i + 1) n) [
    | inl p ↦ (let e = p.1 in
        let early : nat_le n i ≡ false = false_unless (nat_le n i) (λ k. let l = leb-true n i k in absurd (omega arith)) in
        let late : nat_le n (i + 1) ≡ true = le-leb n (i + 1) (omega arith) in
        choose p.0 ∙ ap (given_step routes step) (are n ∙ kept i early) ∙ sym (kept (i + 1) late))
    | inr p ↦ (let e = p.1 in
        let same : nat_le n i ≡ nat_le n (i + 1) = same_bool (nat_le n i) (nat_le n (i + 1)) (λ k. let l = leb-true n i k in le-leb n (i + 1) (omega arith)) (λ k. let l = leb-true n (i + 1) k in le-leb n i (less n p.1 l)) in
        choose p.0 ∙ are n ∙ ap (λ b. if b then given_step routes step (entry no_hold old n) else entry no_hold old n) same)
  ]
    where
      choose : {b : Bool} → (i + 1 == n) ≡ b → (if i + 1 == n then given_step routes step (entry no_hold new n) else entry no_hold new n) ≡ (if b then given_step routes step (entry no_hold new n) else entry no_hold new n)
      choose p = ap (λ b. if b then given_step routes step (entry no_hold new n) else entry no_hold new n) p

      kept : (m : ℕ) {b : Bool} → nat_le n m ≡ b → (if nat_le n m then given_step routes step (entry no_hold old n) else entry no_hold old n) ≡ (if b then given_step routes step (entry no_hold old n) else entry no_hold old n)
      kept m p = ap (λ b. if b then given_step routes step (entry no_hold old n) else entry no_hold old n) p

      less : (n : ℕ) → (i + 1 ≡ n → ⊥) → n ≤ i + 1 → n ≤ i
      less n differ l = go (below_or_not i n)
        where
          go : (i < n) ⊎ (n ≤ i) → n ≤ i
          go (inl k) = absurd (differ (omega arith))
          go (inr k) = k

  pub given_all : (old new : List Hold) (i : ℕ) → length old ≤ i → AreGiven old i new → (n : ℕ) → entry no_hold new n ≡ given_step routes step (entry no_hold old n)
  given_all old new i h are n = are n ∙ go (below_or_not (length old) n)
    where
      go : (length old < n) ⊎ (n ≤ length old) → (if nat_le n i then given_step routes step (entry no_hold old n) else entry no_hold old n) ≡ given_step routes step (entry no_hold old n)
      go (inl k) = let none = past old n k in ap (λ x. if nat_le n i then given_step routes step x else x) none ∙ same (nat_le n i) ∙ ap (given_step routes step) (sym none)
        where
          same : (b : Bool) → (if b then given_step routes step no_hold else no_hold) ≡ given_step routes step no_hold
          same true = refl
          same false = no_given
      go (inr k) = ap (λ b. if b then given_step routes step (entry no_hold old n) else entry no_hold old n) (le-leb n i (omega arith))

-- ---- one part and one command further

module _ (d : Station) (routes : List Route) (z : SectionNo) where
  pub parts_on : (c : Command) (parts : List (SectionNo × ℤ)) (i : ℕ) (other : SectionNo × ℤ) → i < length parts → (old new first : Hold) (left : ℕ) → left ≡ lack_after d routes c (nat_abs (get_or parts i other).1)
      → new ≡ (if (get_or parts i other).0.0 == z.0 then taken old c.train left else old)
      → taken_by_parts d routes z c (drop i parts) old ≡ taken_by_parts d routes z c parts first → taken_by_parts d routes z c (drop (i + 1) parts) new ≡ taken_by_parts d routes z c parts first
  parts_on c parts i other h old new first left lack_is is all =
      ap (taken_by_parts d routes z c (drop (i + 1) parts)) (is ∙ ap (λ k. if (get_or parts i other).0.0 == z.0 then taken old c.train k else old) lack_is)
      ∙ sym (ap (λ ps. taken_by_parts d routes z c ps old) (drop_more parts i other h))
      ∙ all

  pub commands_on : (cs : List Command) (i : ℕ) (other : Command) → i < length cs → (old new first : Hold) → new ≡ taken_by d routes z (get_or cs i other) old
      → taken_by_step d routes z (drop i cs) old ≡ taken_by_step d routes z cs first → taken_by_step d routes z (drop (i + 1) cs) new ≡ taken_by_step d routes z cs first
  commands_on cs i other h old new first is all =
      ap (taken_by_step d routes z (drop (i + 1) cs)) is ∙ sym (ap (λ xs. taken_by_step d routes z xs old) (drop_more cs i other h)) ∙ all
