-- The slices of a failed plan: the least one, and that of the whole plan.
use Rattle.std.proofs.Common.{◌≡◌, ℕ, zero, suc, ◌+◌, ◌≤◌, Bool, true, false, if◌then◌else◌, nat_le, nat_lt, List, [], ◌∷◌, length, Some, refl, ap, ◌∙◌, arith, le-leb, cond, inl, inr, ap₂, subst, sym, filter, map, take}
use Rattle.rail_base.specs.declared.station.Station.{Station}
use Rattle.rail_base.specs.declared.station.TrainNo.{TrainNo}
use Rattle.rail_base.specs.declared.route.Route.{Route}
use Rattle.rail_base.specs.declared.plan.Command.{Command}
use Rattle.rail_base.specs.declared.plan.Violation.{Violation}
use Rattle.rail_spec.specs.Plans.{path, is_well_formed}
use Rattle.rail_base.specs.Stations.{horizon, trains}
use Rattle.slice_spec.proofs.FirstFailure.{known, names_there_of}
use Rattle.rail_spec.specs.Requirements.{violation_at, is_certain}
use Rattle.rail_spec.specs.Feasible.{names_only, IsWellFormed}
use Rattle.rail_spec.specs.Dispatches.{of_plan}
use Rattle.cone_spec.specs.Validity.{is_valid_cone}
use Rattle.cone_spec.specs.Clauses.{clause_of_cone, is_false_of}
use Rattle.slice_spec.specs.Holders.{count_at, is_holder, IsClosedFamily, GivesEach, holder_at}
use Rattle.slice_spec.specs.Slices.{past_last, named_count, slice_of, whole_cone, slice_with, slice_pairs, whole_train, slice_train, names}
use Rattle.rail_laws.proofs.Running.{granted_on_path, idle_at_first}
use Rattle.rail_base.specs.declared.state.TrainState.{TrainState}
use Rattle.slice_spec.proofs.Slicing.{Failed, in_trains_back}
use Rattle.slice_spec.proofs.SliceShown.{names_trains}
use Rattle.slice_spec.proofs.SliceDesign.{counts, slice_valid, slice_false}
use Rattle.slice_spec.proofs.Closing.{last_closed}
use Rattle.rail_base.specs.Admitted.{IsAdmitted}
use Rattle.cone_spec.specs.Laws.{Refutes}
use Rattle.rail_base.proofs.Members.{In}

past_last_within : {X : Type 0} (test : X → Bool) (xs : List X) → past_last test xs ≤ length xs
past_last_within test [] = omega arith
past_last_within {X} test (x ∷ xs) = go (nat_lt 0 (past_last test xs)) (test x) (past_last_within test xs)
  where
    go : (a b : Bool) → past_last test xs ≤ length xs → (if a then suc (past_last test xs) else if b then 1 else 0) ≤ suc (length xs)
    go true b l = omega arith
    go false true l = omega arith
    go false false l = omega arith

module _ (d : Station) (routes : List Route) (n : ℕ) (plan : List (List Command)) (last : ℕ) (v : Violation) where
  -- a plan that is well formed, gives every train a command, and fails in this way, which is certain at the last tick
  pub record Fails : Type 0 where
    pub names : names_only d routes plan ≡ true
    pub formed : is_well_formed d routes n plan ≡ true
    pub given : (t : TrainNo) → 1 ≤ t.0 → t.0 ≤ length d.trains → 1 ≤ length (path plan t)
    pub in_time : last ≤ horizon d
    pub some : 1 ≤ horizon d
    pub certain : is_certain d routes plan last v ≡ true
    pub trains : names_trains d v ≡ true
    pub counted : counts d routes plan last v ≡ true

  pub fails_of : IsAdmitted d → IsWellFormed d routes n plan → GivesEach d plan → last ≤ horizon d → violation_at d routes plan last ≡ Some v → Fails
  fails_of admitted formed each in_time at =
      let k = known d routes plan last (names_there_of d admitted) v at in
      record {
        names = formed.named;
        formed = formed.formed;
        given = λ t a b. each t (a, b);
        in_time = in_time;
        some = admitted.ticks.0;
        certain = k.certain;
        trains = k.trains;
        counted = k.counted;
      }

  module _ (fails : Fails) where
    -- ---- the least slice

    least_failed : (h : TrainNo → ℕ) → IsClosedFamily d routes plan last h v → Failed d routes n plan last v h (named_count d routes plan last h)
    least_failed h closed = record {
      names = fails.names;
      formed = fails.formed;
      given = fails.given;
      in_time = fails.in_time;
      closed = closed;
      granted_in = λ t. granted_in t (h t) refl;
      next_in = λ t l m. next_in t l;
      some_in = λ t a b l. let x = next_in t l in omega arith;
      holders_in = λ t. omega arith;
    }
      where
        next_in : (t : TrainNo) → 1 ≤ h t → count_at d routes plan (h t) t + 1 ≤ named_count d routes plan last h t
        next_in t l =
            let more : (if nat_le 1 (h t) then count_at d routes plan (h t) t + 1 else 0) ≡ count_at d routes plan (h t) t + 1 = ap (λ b. if b then count_at d routes plan (h t) t + 1 else 0) (le-leb 1 (h t) l) in
            omega arith

        granted_in : (t : TrainNo) (k : ℕ) → h t ≡ k → count_at d routes plan (h t) t ≤ named_count d routes plan last h t
        granted_in t zero e = let z : count_at d routes plan (h t) t ≡ 0 = ap (λ i. count_at d routes plan i t) e ∙ ap (λ (s : TrainState). s.granted) (idle_at_first d routes (of_plan routes plan) t) in omega arith
        granted_in t (suc k) e = let x = next_in t (omega arith) in omega arith

    pub least_valid : (h : TrainNo → ℕ) → IsClosedFamily d routes plan last h v → is_valid_cone d routes (slice_of d routes plan last h v) ≡ true
    least_valid h closed = slice_valid d routes n plan last v h (named_count d routes plan last h) (least_failed h closed) fails.some fails.trains fails.counted fails.certain

    pub least_false : (h : TrainNo → ℕ) → IsClosedFamily d routes plan last h v → is_false_of plan (clause_of_cone d routes (slice_of d routes plan last h v)) ≡ true
    least_false h closed = slice_false d routes n plan last v h (named_count d routes plan last h) (least_failed h closed) fails.counted

    -- ---- that of the whole plan

    whole_failed : Failed d routes n plan last v (λ t. last) (λ t. length (path plan t))
    whole_failed = record {
      names = fails.names;
      formed = fails.formed;
      given = fails.given;
      in_time = fails.in_time;
      closed = last_closed d routes plan last v fails.certain;
      granted_in = λ t. granted_on_path d routes (of_plan routes plan) last t;
      next_in = λ t l m. omega arith;
      some_in = λ t a b l. fails.given t a b;
      holders_in = λ t. past_last_within (λ r. is_holder d routes plan last (λ t. last) (record { train = t; route = r })) (path plan t);
    }

    -- that is a slice, since each train has a command
    whole_is : whole_cone d routes plan last v ≡ slice_with d routes plan last (λ t. last) (λ t. length (path plan t)) v
    whole_is = ap (λ ts. record { trains = ts; pairs = slice_pairs d routes plan last (λ t. last); violation = v }) (go (trains d) (λ t m. m))
      where
        whole : {X : Type 0} (xs : List X) → xs ≡ take (length xs) xs
        whole [] = refl
        whole (x ∷ xs) = ap (λ ys. x ∷ ys) (whole xs)

        here : (t : TrainNo) → whole_train d routes plan last t ≡ slice_train d routes plan last (λ t. last) (λ t. length (path plan t)) t
        here t = ap (λ p. record { train = t; horizon = last; free = count_at d routes plan last t; path = p; holder = holder_at d routes plan last (λ t. last) t }) (whole (path plan t))

        go : (ts : List TrainNo) → ((t : TrainNo) → In t ts → In t (trains d)) → map (whole_train d routes plan last) ts ≡ map (slice_train d routes plan last (λ t. last) (λ t. length (path plan t))) (filter (names (λ t. length (path plan t))) ts)
        go [] m = refl
        go (t ∷ ts) m =
            let k = in_trains_back d t (m t (inl refl)) in
            let on : nat_le 1 (length (path plan t)) ≡ true = le-leb 1 (length (path plan t)) (fails.given t k.0 k.1) in
            ap₂ (λ c cs. c ∷ cs) (here t) (go ts (λ u i. m u (inr i))) ∙ sym (ap (λ b. map (slice_train d routes plan last (λ t. last) (λ t. length (path plan t))) (cond b (t ∷ filter (names (λ t. length (path plan t))) ts) (filter (names (λ t. length (path plan t))) ts))) on)

    pub whole_valid : is_valid_cone d routes (whole_cone d routes plan last v) ≡ true
    whole_valid = subst (λ k. is_valid_cone d routes k ≡ true) (sym whole_is) (slice_valid d routes n plan last v (λ t. last) (λ t. length (path plan t)) whole_failed fails.some fails.trains fails.counted fails.certain)

    pub whole_false : is_false_of plan (clause_of_cone d routes (whole_cone d routes plan last v)) ≡ true
    whole_false = subst (λ k. is_false_of plan (clause_of_cone d routes k) ≡ true) (sym whole_is) (slice_false d routes n plan last v (λ t. last) (λ t. length (path plan t)) whole_failed fails.counted)

  -- so both refute the plan
  pub slice_refutes : IsAdmitted d → IsWellFormed d routes n plan → GivesEach d plan → last ≤ horizon d → violation_at d routes plan last ≡ Some v → (h : TrainNo → ℕ) → IsClosedFamily d routes plan last h v → Refutes d routes n (slice_of d routes plan last h v) plan
  slice_refutes admitted formed each in_time at h closed = let f = fails_of admitted formed each in_time at in record { well_formed = formed; valid = least_valid f h closed; denies = least_false f h closed }

  pub whole_refutes : IsAdmitted d → IsWellFormed d routes n plan → GivesEach d plan → last ≤ horizon d → violation_at d routes plan last ≡ Some v → Refutes d routes n (whole_cone d routes plan last v) plan
  whole_refutes admitted formed each in_time at = let f = fails_of admitted formed each in_time at in record { well_formed = formed; valid = whole_valid f; denies = whole_false f }
