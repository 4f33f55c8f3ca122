-- Which commands stand last on a section.
use Rattle.std.proofs.Common.{◌≡◌, ℕ, ◌+◌, ◌≤◌, ◌<◌, ◌⊎◌, inl, inr, Bool, true, false, ◌&&◌, List, [], ◌∷◌, ◌++◌, filter, length, refl, sym, ap, subst, ◌∙◌, arith, append_assoc, length-append}
use Rattle.std.specs.List.{list_all}
use Rattle.rail_base.specs.declared.station.SectionNo.{SectionNo}
use Rattle.rail_base.specs.declared.station.TrainNo.{TrainNo}
use Rattle.rail_base.specs.declared.route.Route.{Route}
use Rattle.rail_base.specs.declared.plan.Command.{Command}
use Rattle.rail_base.specs.Members.{In, Differ}
use Rattle.rail_base.specs.Routes.{route_at, has_section}
use Rattle.rail_base.proofs.Members.{in_filter, below_or_not}
use Rattle.rail_base.proofs.Lists.{in_append, in_append_left, in_append_right, in_filter_back}
use Rattle.rail_spec.specs.Plans.{commands, is_train, path, step_of}
use Rattle.dispatcher.specs.Queues.{are_of, followed_by, on_section, last_on}
use Rattle.dispatcher.proofs.Steps.{in_commands, in_step, step_first, step_is}

-- where not all pass one doesn't
one_fails : {X : Type 0} (test : X → Bool) (xs : List X) → list_all test xs ≡ false → (x : X) × In x xs × (test x ≡ false)
one_fails test [] h = cc
one_fails {X} test (x ∷ xs) h = go (test x) refl h (one_fails test xs)
  where
    go : (b : Bool) → test x ≡ b → (b && list_all test xs) ≡ false → (list_all test xs ≡ false → (y : X) × In y xs × (test y ≡ false)) → (y : X) × In y (x ∷ xs) × (test y ≡ false)
    go false e k later = (x, inl refl, e)
    go true e k later = let f = later k in (f.0, inr f.1, f.2)

module _ (routes : List Route) (plan : List (List Command)) (once : (t : TrainNo) → Differ (path plan t)) (z : SectionNo) where
  -- a command of another train follows on the section, by step n
  pub record Followed (n : ℕ) (e : Command) : Type 0 where
    pub by : Command
    pub member : In by (commands plan)
    pub on : has_section (route_at routes by.route) z ≡ true
    pub apart : is_train e.train by.train ≡ false
    pub later : step_of plan e < step_of plan by
    pub within : step_of plan by ≤ n

  -- these stand last on the section after the first n steps of the plan
  pub record StandLast (n : ℕ) (last : List Command) : Type 0 where
    pub known : (f : Command) → In f last → In f (commands plan) × (has_section (route_at routes f.route) z ≡ true) × (step_of plan f ≤ n)
    pub late : (e : Command) → has_section (route_at routes e.route) z ≡ true → step_of plan e ≤ n → In e last ⊎ Followed n e

  none_first : StandLast 0 []
  none_first = record { known = λ f m. absurd m; late = λ e h l. absurd (step_first plan e l) }

  -- one step more
  one_more : (before : List (List Command)) (step : List Command) (later : List (List Command)) → plan ≡ before ++ step ∷ later → (n : ℕ) → n ≡ length before → (old : List Command) → StandLast n old → (m : ℕ) → m ≡ n + 1 → StandLast m (followed_by old (on_section routes z step))
  one_more before step later split n many old stand m next = record { known = known; late = λ e h l. either e h (below_or_not (step_of plan e) m) l }
    where
      these : List Command
      these = on_section routes z step

      kept : List Command
      kept = filter (λ e. are_of e.train these) old

      here : (f : Command) → In f step → step_of plan f ≡ m
      here f i =
          let is : step_of (before ++ step ∷ later) f ≡ length before + 1 = step_is before step later f (subst (λ p. Differ (path p f.train)) split (once f.train)) i in
          ap (λ p. step_of p f) split ∙ is ∙ (let k : length before + 1 ≡ m = omega arith in k)

      there : (e : Command) → step_of plan e ≡ m → In e step
      there e h = in_step before step later e (ap (λ p. step_of p e) (sym split) ∙ h ∙ (let k : m ≡ length before + 1 = omega arith in k))

      own : (f : Command) → In f these → In f step × (has_section (route_at routes f.route) z ≡ true)
      own f i = in_filter_back (λ c. has_section (route_at routes c.route) z) step f i

      known : (f : Command) → In f (kept ++ these) → In f (commands plan) × (has_section (route_at routes f.route) z ≡ true) × (step_of plan f ≤ m)
      known f i = go (in_append f kept these i)
        where
          go : In f kept ⊎ In f these → In f (commands plan) × (has_section (route_at routes f.route) z ≡ true) × (step_of plan f ≤ m)
          go (inl k) = let w = stand.known f (in_filter_back (λ e. are_of e.train these) old f k).0 in let l = w.2 in (w.0, w.1, omega arith)
          go (inr k) = let o = own f k in let s = here f o.0 in (subst (λ p. In f (commands p)) (sym split) (in_commands before step later f o.0), o.1, omega arith)

      stays : (e : Command) → step_of plan e ≤ n → In e old → (b : Bool) → are_of e.train these ≡ b → In e (kept ++ these) ⊎ Followed m e
      stays e l i true all = inl (in_append_left e kept these (in_filter (λ e. are_of e.train these) old e i all))
      stays e l i false some =
          let f = one_fails (λ f. is_train e.train f.train) these some in
          let o = own f.0 f.1 in
          let s = here f.0 o.0 in
          inr (record { by = f.0; member = subst (λ p. In f.0 (commands p)) (sym split) (in_commands before step later f.0 o.0); on = o.1; apart = f.2; later = omega arith; within = omega arith })

      before_it : (e : Command) → step_of plan e ≤ n → In e old ⊎ Followed n e → In e (kept ++ these) ⊎ Followed m e
      before_it e l (inl i) = stays e l i (are_of e.train these) refl
      before_it e l (inr f) = inr (record { by = f.by; member = f.member; on = f.on; apart = f.apart; later = f.later; within = (let w = f.within in omega arith) })

      either : (e : Command) → has_section (route_at routes e.route) z ≡ true → (step_of plan e < m) ⊎ (m ≤ step_of plan e) → step_of plan e ≤ m → In e (kept ++ these) ⊎ Followed m e
      either e h (inl less) l = before_it e (omega arith) (stand.late e h (omega arith))
      either e h (inr same) l = inl (in_append_right e kept these (in_filter (λ c. has_section (route_at routes c.route) z) step e (there e (omega arith)) h))

  go_on : (before steps later : List (List Command)) → plan ≡ before ++ (steps ++ later) → (n : ℕ) → n ≡ length before → (old : List Command) → StandLast n old → (m : ℕ) → m ≡ n + length steps → StandLast m (last_on routes z old steps)
  go_on before [] later split n many old stand m next = subst (λ k. StandLast k old) (let e : n ≡ m = omega arith in e) stand
  go_on before (step ∷ steps) later split n many old stand m next =
      go_on (before ++ step ∷ []) steps later (split ∙ sym (append_assoc before (step ∷ []) (steps ++ later))) (n + 1) (let l = length-append before (step ∷ []) in omega arith) (followed_by old (on_section routes z step))
      (one_more before step (steps ++ later) split n many old stand (n + 1) refl) m (omega arith)

  -- those that the recursion gives
  pub stand_last : (steps later : List (List Command)) → plan ≡ steps ++ later → StandLast (length steps) (last_on routes z [] steps)
  stand_last steps later split = go_on [] steps later split 0 refl [] none_first (length steps) (let e : length steps ≡ 0 + length steps = omega arith in e)

-- one step more at the end
pub last_more : (routes : List Route) (z : SectionNo) (old : List Command) (steps : List (List Command)) (step : List Command) → last_on routes z old (steps ++ step ∷ []) ≡ followed_by (last_on routes z old steps) (on_section routes z step)
last_more routes z old [] step = refl
last_more routes z old (s ∷ steps) step = last_more routes z (followed_by old (on_section routes z s)) steps step
