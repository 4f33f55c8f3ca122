-- A plan of which the clause of a valid cone is false does not meet the design.
use Rattle.std.proofs.Common.{◌≡◌, ℕ, zero, suc, ◌+◌, ◌-◌, ◌*◌, ◌/◌, ◌≤◌, ◌<◌, ◌⊎◌, inl, inr, Bool, true, false, not, ◌&&◌, ◌==◌, nat_le, nat_lt, List, [], ◌∷◌, ◌++◌, length, Option, None, Some, is_some, is_none, option_and_then, refl, sym, ap, subst, ◌∙◌, arith, leb-true, eqb-true, true≢false, get_or, mul-le-mul, le_refl, le_trans}
use Rattle.std.specs.List.{list_all}
use Rattle.std.proofs.Math.Nat.{lt-div-mul-add}
use Rattle.rail_base.specs.declared.station.Station.{Station}
use Rattle.rail_base.specs.declared.station.TrainNo.{TrainNo}
use Rattle.rail_base.specs.declared.route.Route.{Route}
use Rattle.rail_base.specs.declared.plan.Command.{Command}
use Rattle.rail_base.specs.declared.plan.Violation.{Violation}
use Rattle.rail_base.specs.declared.plan.Violation.TheVariants as violation
use Rattle.cone_spec.specs.declared.Cone.{Cone}
use Rattle.rail_base.specs.Numbering.{entry, one_to}
use Rattle.rail_spec.specs.Track.{routes_of}
use Rattle.rail_spec.specs.Plans.{path}
use Rattle.cone_spec.specs.Laws.{Refutes}
use Rattle.rail_base.specs.Admitted.{IsAdmitted}
use Rattle.rail_base.specs.Stations.{trains, train_of, horizon, within_of, order_of}
use Rattle.rail_spec.specs.Feasible.{IsFeasible}
use Rattle.rail_base.specs.declared.state.PathNode.{PathNode}
use Rattle.rail_spec.specs.Dispatches.{of_plan}
use Rattle.rail_spec.specs.Visits.{pass_tick, visits_of_train, visit_tick}
use Rattle.rail_spec.specs.Requirements.{both, most_ticks, granted_by, visited_by, is_done, keeps_order, keeps_within, is_after, meets, command_numbers, visit_numbers}
use Rattle.rail_base.proofs.Members.{In, and_left, and_right, list_all_at, below_or_not, is_false}
use Rattle.rail_laws.proofs.Deciding.{visit_stays, visit_at, visit_once}
use Rattle.rail_base.specs.Admission.{is_visit}
use Rattle.cone_spec.specs.Cones.{named}
use Rattle.cone_spec.specs.Validity.{first_fault, is_valid_cone, in_design, free_granted, holder_fits, shows_violation, violation_in_design, only_path}
use Rattle.rail_base.specs.Admission.{is_from}
use Rattle.cone_spec.specs.Clauses.{clause_of_cone, is_false_of}
use Rattle.cone_spec.proofs.Prefixes.{not_both}
use Rattle.cone_spec.proofs.Saying.{in_trains}
use Rattle.cone_spec.proofs.Fitting.{Rests, ofd, whole_prefix}
use Rattle.cone_spec.proofs.Failing.{IsTimed, Certain, certain_of}
use Rattle.rail_base.proofs.Lists.{in_count}

pub entry_in : {X : Type 0} (other : X) (xs : List X) (i : ℕ) → 1 ≤ i → i ≤ length xs → In (entry other xs i) xs
entry_in other xs zero h l = absurd (omega arith)
entry_in {X} other xs (suc i) h l = go xs i (omega arith)
  where
    go : (ys : List X) (j : ℕ) → j < length ys → In (get_or ys j other) ys
    go [] j m = absurd (omega arith)
    go (y ∷ ys) zero m = inl refl
    go (y ∷ ys) (suc j) m = inr (go ys j (omega arith))

-- more ticks than a time has are a longer time
pub past : (ms most a b : ℕ) → 1 ≤ ms → a + most / ms < b → a * ms + most < b * ms
past ms most a b pos h =
    let l : a + most / ms + 1 ≤ b = omega arith in
    let k : (a + most / ms + 1) * ms ≤ b * ms = mul-le-mul l (le_refl ms) in
    let q : most < most / ms * ms + ms = lt-div-mul-add pos in
    omega (arith, k, q)

module _ (d : Station) (routes : List Route) (n : ℕ) (k : Cone) (plan : List (List Command)) (rests : Rests d routes n k plan) (timed : IsTimed d) where
  -- ---- what meeting the design says

  pub record Met : Type 0 where
    pub granted : (t : TrainNo) (j : ℕ) → 1 ≤ t.0 → t.0 ≤ length d.trains → 1 ≤ j → j ≤ length (path plan t) → granted_by d routes plan (horizon d) t j ≡ true
    pub visited : (t : TrainNo) (j : ℕ) → is_visit d t j ≡ true → visited_by d routes plan (horizon d) t j ≡ true
    pub orders : (o : ℕ) → is_from 1 (length d.orders) o ≡ true → keeps_order d routes plan (horizon d) (order_of d o) ≡ true
    pub withins : (w : ℕ) → is_from 1 (length d.withins) w ≡ true → keeps_within d routes plan (horizon d) (within_of d w) ≡ true

  number_in : (m i : ℕ) → 1 ≤ i → i ≤ m → In i (one_to m)
  number_in m i h l = in_count 1 m i h (omega arith)

  low : (m i : ℕ) → is_from 1 m i ≡ true → 1 ≤ i
  low m i h = leb-true 1 i (and_left (nat_le 1 i) (nat_le i m) h)

  high : (m i : ℕ) → is_from 1 m i ≡ true → i ≤ m
  high m i h = leb-true i m (and_right (nat_le 1 i) (nat_le i m) h)

  met_gives : meets d routes plan ≡ true → Met
  met_gives h =
      let done_orders = and_left (is_done d routes plan (horizon d) && list_all (keeps_order d routes plan (horizon d)) d.orders) _ h in
      let done = and_left (is_done d routes plan (horizon d)) _ done_orders in
      let grants = and_left (list_all (λ t. list_all (granted_by d routes plan (horizon d) t) (command_numbers d routes plan t)) (trains d)) _ done in
      let visits = and_right (list_all (λ t. list_all (granted_by d routes plan (horizon d) t) (command_numbers d routes plan t)) (trains d)) _ done in
      record {
        granted = λ t j a b c e. list_all_at (granted_by d routes plan (horizon d) t) (command_numbers d routes plan t) j (list_all_at (λ t. list_all (granted_by d routes plan (horizon d) t) (command_numbers d routes plan t)) (trains d) t grants (in_trains d t a b)) (number_in (length (path plan t)) j c e);
        visited = λ t j v.
            let t_in = and_left (is_from 1 (length d.trains) t.0) _ v in
            let j_in = and_right (is_from 1 (length d.trains) t.0) _ v in
            list_all_at (visited_by d routes plan (horizon d) t) (visit_numbers d t) j (list_all_at (λ t. list_all (visited_by d routes plan (horizon d) t) (visit_numbers d t)) (trains d) t visits (in_trains d t (low (length d.trains) t.0 t_in) (high (length d.trains) t.0 t_in)))
            (number_in (length (train_of d t).visits) j (low (length (train_of d t).visits) j j_in) (high (length (train_of d t).visits) j j_in));
        orders = λ o i. list_all_at (keeps_order d routes plan (horizon d)) d.orders (order_of d o) (and_right (is_done d routes plan (horizon d)) _ done_orders) (entry_in _ d.orders o (low (length d.orders) o i) (high (length d.orders) o i));
        withins = λ w i. list_all_at (keeps_within d routes plan (horizon d)) d.withins (within_of d w) (and_right (is_done d routes plan (horizon d) && list_all (keeps_order d routes plan (horizon d)) d.orders) _ h) (entry_in _ d.withins w (low (length d.withins) w i) (high (length d.withins) w i));
      }

  both_gives : (test : ℕ → ℕ → Bool) (x y : Option ℕ) → both test x y ≡ true → (a : ℕ) × (b : ℕ) × (x ≡ Some a) × (y ≡ Some b) × (test a b ≡ true)
  both_gives test None y h = cc
  both_gives test (Some a) None h = cc
  both_gives test (Some a) (Some b) h = (a, b, refl, refl, h)

  after_gives : (m : ℕ) (o : Option ℕ) (i : ℕ) → is_after m o i ≡ true → (a : ℕ) × (o ≡ Some a) × (a + m ≡ i)
  after_gives m None i h = cc
  after_gives m (Some a) i h = (a, refl, eqb-true (a + m) i h)

  -- a visit that is not made by a tick is made after it, if at all
  made_later : (i l b : ℕ) (t : TrainNo) (j : ℕ) → visited_by d routes plan i t j ≡ false → visit_tick d routes (of_plan routes plan) l t j ≡ Some b → i < b
  made_later i l b t j none made = go (below_or_not i b)
    where
      go : (i < b) ⊎ (b ≤ i) → i < b
      go (inl h) = h
      go (inr h) =
          let same : b + (i - b) ≡ i = omega arith in
          let there : visit_tick d routes (of_plan routes plan) i t j ≡ Some b = subst (λ m. visit_tick d routes (of_plan routes plan) m t j ≡ Some b) same (visit_stays d routes plan b (i - b) t j b (visit_at d routes plan l t j b made)) in
          absurd (true≢false (sym (ap is_some there) ∙ none))

  -- ---- none of the violations goes with it

  clash : (v : Violation) → violation_in_design d routes k v ≡ true → Certain d routes n k plan rests v → Met → ⊥
  clash (violation.Path t j) of c met =
      let none = and_right (c.at == 1) _ c.certain in
      let v = met.visited t j (and_left (is_visit d t j) _ (and_left (is_visit d t j && only_path d routes k t k.trains) _ of)) in
      true≢false (sym v ∙ go (entry None (visits_of_train d routes (of_plan routes plan) t) j) none)
    where
      go : (o : Option PathNode) → is_none o ≡ true → is_some (option_and_then (pass_tick d routes (of_plan routes plan) (horizon d) t) o) ≡ false
      go None h = refl
      go (Some s) h = absurd (true≢false (sym h))
  clash (violation.Visit t j) of c met =
      let at_end : c.at ≡ horizon d = eqb-true _ _ (and_left (c.at == horizon d) _ c.certain) in
      let none = and_right (c.at == horizon d) _ c.certain in
      not_both _ (subst (λ i. not (visited_by d routes plan i t j) ≡ true) at_end none) (met.visited t j of)
  clash (violation.Grant t j) of c met =
      let at_end : c.at ≡ horizon d = eqb-true _ _ (and_left (c.at == horizon d) _ c.certain) in
      let none = and_right (c.at == horizon d) _ c.certain in
      let t_in = and_left (is_from 1 (length d.trains) t.0) _ of in
      let j_in = and_right (is_from 1 (length d.trains) t.0) _ of in
      let j_high = high (length (named k t).path) j j_in in
      let longer = further (named k t).path (whole_prefix d routes n k plan rests t).0 in
      let path_length : length (path plan t) ≡ length ((named k t).path ++ (whole_prefix d routes n k plan rests t).0) = ap length (whole_prefix d routes n k plan rests t).1 in
      not_both _ (subst (λ i. not (granted_by d routes plan i t j) ≡ true) at_end none)
      (met.granted t j (low (length d.trains) t.0 t_in) (high (length d.trains) t.0 t_in) (low (length (named k t).path) j j_in) (omega arith))
    where
      further : {X : Type 0} (xs ys : List X) → length xs ≤ length (xs ++ ys)
      further [] ys = omega arith
      further (x ∷ xs) ys = let h = further xs ys in omega arith
  clash (violation.Order o) of c met =
      go (both_gives nat_lt _ _ (met.orders o of)) (after_gives 0 _ c.at (and_left (is_after 0 (visit_tick d routes (of_plan routes plan) c.at (order_of d o).then_train (order_of d o).then_visit) c.at) _ c.certain))
    where
      go : (a : ℕ) × (b : ℕ) × (visit_tick d routes (of_plan routes plan) (horizon d) (order_of d o).first_train (order_of d o).first_visit ≡ Some a) × (visit_tick d routes (of_plan routes plan) (horizon d) (order_of d o).then_train (order_of d o).then_visit ≡ Some b) × (nat_lt a b ≡ true)
          → (e : ℕ) × (visit_tick d routes (of_plan routes plan) c.at (order_of d o).then_train (order_of d o).then_visit ≡ Some e) × (e + 0 ≡ c.at) → ⊥
      go (a, b, first, then, less) (e, made, at_it) =
          let same : b ≡ e = visit_once d routes plan (horizon d) c.at (order_of d o).then_train (order_of d o).then_visit b e then made in
          let l : a < b = leb-true _ _ less in
          let late = made_later (c.at - 1) (horizon d) a (order_of d o).first_train (order_of d o).first_visit (is_false _ (and_right (is_after 0 (visit_tick d routes (of_plan routes plan) c.at (order_of d o).then_train (order_of d o).then_visit) c.at) _ c.certain)) first in
          omega arith
  clash (violation.Within w) of c met =
      go (both_gives (λ from to. nat_le (to * d.tick_ms) (from * d.tick_ms + (within_of d w).max_ms)) _ _ (met.withins w of)) (after_gives (most_ticks d (within_of d w)) _ c.at (and_right (nat_le c.at (horizon d)) _ (and_left (nat_le c.at (horizon d) && is_after (most_ticks d (within_of d w)) (visit_tick d routes (of_plan routes plan) c.at (within_of d w).from_train (within_of d w).from_visit) c.at) _ c.certain)))
    where
      go : (a : ℕ) × (b : ℕ) × (visit_tick d routes (of_plan routes plan) (horizon d) (within_of d w).from_train (within_of d w).from_visit ≡ Some a) × (visit_tick d routes (of_plan routes plan) (horizon d) (within_of d w).to_train (within_of d w).to_visit ≡ Some b) × (nat_le (b * d.tick_ms) (a * d.tick_ms + (within_of d w).max_ms) ≡ true)
          → (e : ℕ) × (visit_tick d routes (of_plan routes plan) c.at (within_of d w).from_train (within_of d w).from_visit ≡ Some e) × (e + most_ticks d (within_of d w) ≡ c.at) → ⊥
      go (a, b, from, to, soon) (e, made, at_it) =
          let same : a ≡ e = visit_once d routes plan (horizon d) c.at (within_of d w).from_train (within_of d w).from_visit a e from made in
          let late = made_later c.at (horizon d) b (within_of d w).to_train (within_of d w).to_visit (is_false _ (and_right (nat_le c.at (horizon d) && is_after (most_ticks d (within_of d w)) (visit_tick d routes (of_plan routes plan) c.at (within_of d w).from_train (within_of d w).from_visit) c.at) _ c.certain)) to in
          let l : b * d.tick_ms ≤ a * d.tick_ms + (within_of d w).max_ms = leb-true _ _ soon in
          let m : a * d.tick_ms + (within_of d w).max_ms < b * d.tick_ms = past d.tick_ms (within_of d w).max_ms a b timed.ticks (omega arith) in
          omega (arith, l, m)

  pub not_met : shows_violation d routes k k.violation ≡ true → meets d routes plan ≡ false
  not_met h = go (meets d routes plan) refl
    where
      go : (b : Bool) → meets d routes plan ≡ b → meets d routes plan ≡ false
      go false e = e
      go true e = absurd (clash k.violation (ofd d routes n k plan rests).violation (certain_of d routes n k plan rests timed k.violation refl h) (met_gives e))

-- ---- the theorem

module _ (d : Station) (routes : List Route) (k : Cone) where
  -- what it says that no reason holds against the cone
  pub record Holds : Type 0 where
    pub in_design : in_design d routes k ≡ true
    pub granted : list_all (free_granted d routes k) k.trains ≡ true
    pub holders : list_all (λ c. holder_fits d routes k c c.holder) k.trains ≡ true
    pub shows_violation : shows_violation d routes k k.violation ≡ true

  pub holds_of_valid : is_valid_cone d routes k ≡ true → Holds
  holds_of_valid = go (in_design d routes k) (list_all (free_granted d routes k) k.trains) (list_all (λ c. holder_fits d routes k c c.holder) k.trains) (shows_violation d routes k k.violation) refl refl refl refl
    where
      go : (a b c e : Bool) → in_design d routes k ≡ a → list_all (free_granted d routes k) k.trains ≡ b → list_all (λ c. holder_fits d routes k c c.holder) k.trains ≡ c → shows_violation d routes k k.violation ≡ e
          → is_none (first_fault a b c e) ≡ true → Holds
      go true true true true f g h s v = record { in_design = f; granted = g; holders = h; shows_violation = s }
      go false b c e f g h s v = absurd (true≢false (sym v))
      go true false c e f g h s v = absurd (true≢false (sym v))
      go true true false e f g h s v = absurd (true≢false (sym v))
      go true true true false f g h s v = absurd (true≢false (sym v))

module _ (d : Station) (routes : List Route) (n : ℕ) (k : Cone) (plan : List (List Command)) (r : Refutes d routes n k plan) where
  pub rests_of : Rests d routes n k plan
  rests_of =
      let h = holds_of_valid d routes k r.valid in
      record {
        names = r.well_formed.named;
        formed = r.well_formed.formed;
        in_design = h.in_design;
        granted = h.granted;
        holders = h.holders;
        denies = r.denies;
      }

  pub shown_of : shows_violation d routes k k.violation ≡ true
  shown_of = (holds_of_valid d routes k r.valid).shows_violation

  -- a plan that is well formed, and of which the clause of a valid cone is false, doesn't meet the design
  pub refused : IsTimed d → meets d routes plan ≡ false
  refused timed = not_met d routes n k plan rests_of timed shown_of

-- the clause of a valid cone is true of every feasible plan
pub true_of_feasible : (d : Station) (n : ℕ) (k : Cone) (plan : List (List Command)) → IsTimed d → IsFeasible d n plan → is_valid_cone d (routes_of d) k ≡ true → is_false_of plan (clause_of_cone d (routes_of d) k) ≡ false
true_of_feasible d n k plan timed f valid = go (is_false_of plan (clause_of_cone d (routes_of d) k)) refl
  where
    go : (b : Bool) → is_false_of plan (clause_of_cone d (routes_of d) k) ≡ b → is_false_of plan (clause_of_cone d (routes_of d) k) ≡ false
    go false e = e
    go true e = absurd (true≢false (sym f.met ∙ refused d (routes_of d) n k plan (record { well_formed = f.runnable.well_formed; valid = valid; denies = e }) timed))

-- an admitted design is timed
pub timed_of : (d : Station) → IsAdmitted d → IsTimed d
timed_of d a = record { ticks = le_trans (omega arith) a.tick.0; some = a.ticks.0 }
