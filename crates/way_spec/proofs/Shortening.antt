-- Without its empty steps a plan runs as it did.
use Rattle.std.proofs.Common.{◌≡◌, ℕ, suc, ◌+◌, ◌*◌, ◌≤◌, ◌<◌, ◌⊎◌, inl, inr, Bool, true, false, not, ◌&&◌, ◌||◌, if◌then◌else◌, nat_le, nat_lt, List, [], ◌∷◌, ◌++◌, map, filter, length, sum_by, refl, sym, ap, subst, ◌∙◌, arith, leb-true, le-leb, length-append}
use Rattle.std.specs.Prelude.{is_some}
use Rattle.std.specs.List.{list_any, list_all}
use Rattle.rail_base.specs.declared.station.Station.{Station}
use Rattle.rail_base.specs.declared.station.Order.{Order}
use Rattle.rail_base.specs.declared.station.Within.{Within}
use Rattle.rail_base.specs.declared.station.SectionNo.{SectionNo}
use Rattle.rail_base.specs.declared.station.TrainNo.{TrainNo}
use Rattle.rail_base.specs.declared.route.Route.{Route}
use Rattle.rail_base.specs.declared.route.RouteNo.{RouteNo}
use Rattle.rail_base.specs.declared.plan.Command.{Command}
use Rattle.rail_base.specs.Numbering.{one_to}
use Rattle.rail_base.specs.Stations.{trains, train_of, train_length, horizon}
use Rattle.rail_spec.specs.Plans.{commands, contend, exits, is_command, is_executable, is_path, is_train, length_mm, one_each, path, release_offset, route_at, routes_given, share, own_shared, step_of}
use Rattle.rail_spec.specs.Visits.{visit_tick}
use Rattle.rail_spec.specs.Dispatches.{Dispatch, of_plan, state_at, state_of}
use Rattle.rail_spec.specs.Requirements.{both, meets, visit_numbers}
use Rattle.rail_spec.specs.Track.{routes_of}
use Rattle.rail_spec.specs.Feasible.{is_of, IsFeasible}
use Rattle.rail_base.proofs.Members.{and_left, and_right, and_both, below_or_not, same_bool}

-- the plan without its empty steps
abbrev pub without_empty : List (List Command) → List (List Command)
without_empty [] = []
without_empty ([] ∷ steps) = without_empty steps
without_empty ((c ∷ cs) ∷ steps) = (c ∷ cs) ∷ without_empty steps

same_commands : (plan : List (List Command)) → commands (without_empty plan) ≡ commands plan
same_commands [] = refl
same_commands ([] ∷ steps) = same_commands steps
same_commands ((c ∷ cs) ∷ steps) = ap (λ ds. (c ∷ cs) ++ ds) (same_commands steps)

same_path : (plan : List (List Command)) (t : TrainNo) → path (without_empty plan) t ≡ path plan t
same_path [] t = refl
same_path ([] ∷ steps) t = same_path steps t
same_path ((c ∷ cs) ∷ steps) t = ap (λ rs. routes_given t (c ∷ cs) ++ rs) (same_path steps t)

-- ---- the order of its commands

less_from : (a b : ℕ) → nat_lt a b ≡ true → a < b
less_from a b h = leb-true (suc a) b h

less_to : (a b : ℕ) → a < b → nat_lt a b ≡ true
less_to a b h = le-leb (suc a) b h

same_less : (a b x y : ℕ) → (a < b → x < y) → (x < y → a < b) → nat_lt a b ≡ nat_lt x y
same_less a b x y f g = same_bool (nat_lt a b) (nat_lt x y) (λ h. less_to x y (f (less_from a b h))) (λ h. less_to a b (g (less_from x y h)))

same_up_to : (a b x y : ℕ) → (b < a → y < x) → (y < x → b < a) → nat_le a b ≡ nat_le x y
same_up_to a b x y f g = same_bool (nat_le a b) (nat_le x y) (λ h. le-leb x y (other x y a b g (leb-true a b h))) (λ h. le-leb a b (other a b x y f (leb-true x y h)))
  where
    other : (x y a b : ℕ) → (y < x → b < a) → a ≤ b → x ≤ y
    other x y a b g l = go (below_or_not y x)
      where
        go : (y < x) ⊎ (x ≤ y) → x ≤ y
        go (inl k) = let m = g k in absurd (omega arith)
        go (inr k) = k

some_step : (plan : List (List Command)) (c : Command) → 1 ≤ step_of plan c
some_step [] c = omega arith
some_step (step ∷ steps) c = go (list_any (is_command c) step)
  where
    go : (b : Bool) → 1 ≤ (if b then 1 else step_of steps c + 1)
    go true = omega arith
    go false = omega arith

stays_before : (plan : List (List Command)) (c e : Command) → step_of plan c < step_of plan e → step_of (without_empty plan) c < step_of (without_empty plan) e
stays_before [] c e h = h
stays_before ([] ∷ steps) c e h = stays_before steps c e (omega arith)
stays_before ((x ∷ xs) ∷ steps) c e h = go (list_any (is_command c) (x ∷ xs)) (list_any (is_command e) (x ∷ xs)) (stays_before steps c e) (some_step (without_empty steps) e) (some_step steps c) h
  where
    go : (a b : Bool) → (step_of steps c < step_of steps e → step_of (without_empty steps) c < step_of (without_empty steps) e) → 1 ≤ step_of (without_empty steps) e → 1 ≤ step_of steps c
        → (if a then 1 else step_of steps c + 1) < (if b then 1 else step_of steps e + 1) → (if a then 1 else step_of (without_empty steps) c + 1) < (if b then 1 else step_of (without_empty steps) e + 1)
    go true true k l m h = h
    go true false k l m h = omega arith
    go false true k l m h = absurd (omega arith)
    go false false k l m h = let n = k (omega arith) in omega arith

was_before : (plan : List (List Command)) (c e : Command) → step_of (without_empty plan) c < step_of (without_empty plan) e → step_of plan c < step_of plan e
was_before [] c e h = h
was_before ([] ∷ steps) c e h = let k = was_before steps c e h in omega arith
was_before ((x ∷ xs) ∷ steps) c e h = go (list_any (is_command c) (x ∷ xs)) (list_any (is_command e) (x ∷ xs)) (was_before steps c e) (some_step steps e) (some_step (without_empty steps) c) h
  where
    go : (a b : Bool) → (step_of (without_empty steps) c < step_of (without_empty steps) e → step_of steps c < step_of steps e) → 1 ≤ step_of steps e → 1 ≤ step_of (without_empty steps) c
        → (if a then 1 else step_of (without_empty steps) c + 1) < (if b then 1 else step_of (without_empty steps) e + 1) → (if a then 1 else step_of steps c + 1) < (if b then 1 else step_of steps e + 1)
    go true true k l m h = h
    go true false k l m h = omega arith
    go false true k l m h = absurd (omega arith)
    go false false k l m h = let n = k (omega arith) in omega arith

abbrev before : List (List Command) → Command → Command → Bool
before plan c e = nat_lt (step_of plan c) (step_of plan e)

abbrev up_to : List (List Command) → Command → Command → Bool
up_to plan c e = nat_le (step_of plan c) (step_of plan e)

same_before : (plan : List (List Command)) (c e : Command) → before (without_empty plan) c e ≡ before plan c e
same_before plan c e = same_less _ _ _ _ (was_before plan c e) (stays_before plan c e)

same_order : (plan : List (List Command)) (c e : Command) → up_to (without_empty plan) c e ≡ up_to plan c e
same_order plan c e = same_up_to _ _ _ _ (was_before plan e c) (stays_before plan e c)

-- ---- what a plan is judged by

module _ (d : Station) (routes : List Route) where
  -- which commands precede one
  abbrev preceding_in : (Command → Command → Bool) → List Command → Command → List Command
  preceding_in before commands c = filter (λ e. contend routes e c && before e c) commands

  -- the commands of e's train from e on, before c
  abbrev routes_between : (Command → Command → Bool) → (Command → Command → Bool) → List Command → Command → Command → List Route
  routes_between before up_to commands e c =
      map (λ g. route_at routes g.route) (filter (λ g. is_train g.train e.train && up_to e g && before g c) commands)

  abbrev clears_in : List Route → Command → SectionNo → Bool
  clears_in given e z =
      nat_le (release_offset (route_at routes e.route) z + train_length d e.train) (sum_by length_mm given) || list_any exits given

  abbrev executable_in : (Command → Command → Bool) → (Command → Command → Bool) → List Command → Bool
  executable_in before up_to commands = list_all (λ e. list_all (λ c.
      let r = route_at routes e.route in
      let q = route_at routes c.route in
      is_train e.train c.train || not (share r q) || before c e
      || (before e c && list_all (clears_in (routes_between before up_to commands e c) e) (own_shared r q))) commands) commands

  executable_is : (plan : List (List Command)) → is_executable d routes plan ≡ executable_in (before plan) (up_to plan) (commands plan)
  executable_is plan = refl

  same_executable : (plan : List (List Command)) → is_executable d routes (without_empty plan) ≡ is_executable d routes plan
  same_executable plan =
      let b : before (without_empty plan) ≡ before plan = λ i c e. same_before plan c e i in
      let u : up_to (without_empty plan) ≡ up_to plan = λ i c e. same_order plan c e i in
      let c = same_commands plan in
      let all : executable_in (before (without_empty plan)) (up_to (without_empty plan)) (commands (without_empty plan)) ≡ executable_in (before plan) (up_to plan) (commands plan) = λ i. executable_in (b i) (u i) (c i) in
      executable_is (without_empty plan) ∙ all ∙ sym (executable_is plan)

  same_dispatch : (plan : List (List Command)) → of_plan routes (without_empty plan) ≡ of_plan routes plan
  same_dispatch plan =
      let b : before (without_empty plan) ≡ before plan = λ i c e. same_before plan c e i in
      let c = same_commands plan in
      λ i. record { path = λ t. same_path plan t i; before = preceding_in (b i) (c i); concerns = λ k t. true }

  abbrev meets_in : Dispatch → Bool
  meets_in p =
      let k = horizon d in
      (list_all (λ t. list_all (λ j. nat_le j (state_of (state_at d routes p k) t).granted) (one_to (length (p.path t)))) (trains d)
      && list_all (λ t. list_all (λ j. is_some (visit_tick d routes p k t j)) (visit_numbers d t)) (trains d))
      && list_all (λ (o : Order). both nat_lt (visit_tick d routes p k o.first_train o.first_visit) (visit_tick d routes p k o.then_train o.then_visit)) d.orders
      && list_all (λ (w : Within). both (λ from to. nat_le (to * d.tick_ms) (from * d.tick_ms + w.max_ms)) (visit_tick d routes p k w.from_train w.from_visit) (visit_tick d routes p k w.to_train w.to_visit)) d.withins

  meets_is : (plan : List (List Command)) → meets d routes plan ≡ meets_in (of_plan routes plan)
  meets_is plan = refl

  same_meets : (plan : List (List Command)) → meets d routes (without_empty plan) ≡ meets d routes plan
  same_meets plan = meets_is (without_empty plan) ∙ ap meets_in (same_dispatch plan) ∙ sym (meets_is plan)

-- ---- it is feasible, and has no more steps than commands

few_steps : (plan : List (List Command)) → length (without_empty plan) ≤ length (commands plan)
few_steps [] = omega arith
few_steps ([] ∷ steps) = few_steps steps
few_steps ((c ∷ cs) ∷ steps) =
    let few = few_steps steps in
    let both : length (commands ((c ∷ cs) ∷ steps)) ≡ length (c ∷ cs) + length (commands steps) = length-append (c ∷ cs) (commands steps) in
    omega arith

still_one_each : (plan : List (List Command)) → list_all one_each plan ≡ true → list_all one_each (without_empty plan) ≡ true
still_one_each [] h = h
still_one_each ([] ∷ steps) h = still_one_each steps h
still_one_each ((c ∷ cs) ∷ steps) h = and_both (one_each (c ∷ cs)) (list_all one_each (without_empty steps)) (and_left (one_each (c ∷ cs)) (list_all one_each steps) h) (still_one_each steps (and_right (one_each (c ∷ cs)) (list_all one_each steps) h))

abbrev each_path : Station → (TrainNo → List RouteNo) → Bool
each_path d q = list_all (λ t. is_path (train_of d t) (map (route_at (routes_of d)) (q t))) (trains d)

pub stays_feasible : (d : Station) (m n : ℕ) (plan : List (List Command)) → IsFeasible d n plan → length (commands plan) ≤ m → IsFeasible d m (without_empty plan)
stays_feasible d m n plan f few = record {
  runnable = record {
    well_formed = record {
      named = subst (λ cs. list_all (is_of d (routes_of d)) cs ≡ true) (sym (same_commands plan)) f.runnable.well_formed.named;
      formed = and_both (nat_le (length (without_empty plan)) m && list_all one_each (without_empty plan)) (each_path d (path (without_empty plan)))
          (and_both (nat_le (length (without_empty plan)) m) (list_all one_each (without_empty plan)) (le-leb _ _ (let l = few_steps plan in omega arith)) (still_one_each plan one))
          (subst (λ (q : TrainNo → List RouteNo). each_path d q ≡ true) same paths);
    };
    executable = same_executable d (routes_of d) plan ∙ f.runnable.executable;
  };
  met = same_meets d (routes_of d) plan ∙ f.met;
}
  where
    one : list_all one_each plan ≡ true
    one = and_right (nat_le (length plan) n) (list_all one_each plan) (and_left (nat_le (length plan) n && list_all one_each plan) (each_path d (path plan)) f.runnable.well_formed.formed)

    paths : each_path d (path plan) ≡ true
    paths = and_right (nat_le (length plan) n && list_all one_each plan) (each_path d (path plan)) f.runnable.well_formed.formed

    same : path plan ≡ path (without_empty plan)
    same = λ i t. (sym (same_path plan t)) i

pub more_steps : (d : Station) (m n : ℕ) (plan : List (List Command)) → m ≤ n → IsFeasible d m plan → IsFeasible d n plan
more_steps d m n plan more f = record {
  runnable = record {
    well_formed = record {
      named = f.runnable.well_formed.named;
      formed = and_both (nat_le (length plan) n && list_all one_each plan) (each_path d (path plan))
          (and_both (nat_le (length plan) n) (list_all one_each plan) (le-leb _ _ (let l = leb-true _ _ few in omega arith)) (and_right (nat_le (length plan) m) (list_all one_each plan) first))
          (and_right (nat_le (length plan) m && list_all one_each plan) (each_path d (path plan)) f.runnable.well_formed.formed);
    };
    executable = f.runnable.executable;
  };
  met = f.met;
}
  where
    first : (nat_le (length plan) m && list_all one_each plan) ≡ true
    first = and_left (nat_le (length plan) m && list_all one_each plan) (each_path d (path plan)) f.runnable.well_formed.formed

    few : nat_le (length plan) m ≡ true
    few = and_left (nat_le (length plan) m) (list_all one_each plan) first
