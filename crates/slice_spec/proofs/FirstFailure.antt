-- What is known of the first violation at a tick.
use Rattle.std.proofs.Common.{◌≡◌, ℕ, zero, suc, ◌+◌, ◌≤◌, ◌<◌, ◌⊎◌, inl, inr, Bool, true, false, cond, not, ◌&&◌, ◌==◌, nat_le, nat_lt, List, [], ◌∷◌, ◌++◌, map, flat_map, length, Some, refl, sym, ap, subst, ◌∙◌, arith, leb-true, le-leb, eqb-true, eq-eqb, true≢false}
use Rattle.std.specs.List.{list_all, find}
use Rattle.rail_base.specs.declared.station.Station.{Station}
use Rattle.rail_base.specs.declared.station.TrainNo.{TrainNo}
use Rattle.rail_base.specs.declared.station.Order.{Order}
use Rattle.rail_base.specs.declared.station.Within.{Within}
use Rattle.rail_base.specs.declared.route.Route.{Route}
use Rattle.rail_base.specs.declared.plan.Command.{Command}
use Rattle.rail_base.specs.declared.plan.Violation.{Violation}
use Rattle.rail_base.specs.declared.plan.Violation.TheVariants as violation
use Rattle.rail_base.specs.Numbering.{one_to, count_from}
use Rattle.rail_spec.specs.Plans.{path, is_train}
use Rattle.rail_base.specs.Members.{all_pairs}
use Rattle.rail_base.specs.Stations.{trains, train_of, horizon, within_of, order_of, IsTrain}
use Rattle.rail_spec.specs.Dispatches.{state_of, of_plan, state_at}
use Rattle.rail_spec.specs.Requirements.{command_numbers, visit_numbers, is_certain, possible_violations, violation_at}
use Rattle.rail_base.proofs.Members.{In, and_left, and_right, and_both, list_all_at, below_or_not, not_less}
use Rattle.rail_base.specs.Admission.{is_from}
use Rattle.slice_spec.specs.Holders.{count_at}
use Rattle.slice_spec.proofs.Slicing.{in_trains_back}
use Rattle.cone_spec.proofs.Sorted.{all_pairs_append, all_pairs_flat, all_pairs_map, count_sorted, trains_sorted}
use Rattle.slice_spec.proofs.SliceShown.{names_trains}
use Rattle.slice_spec.proofs.SliceDesign.{counts}
use Rattle.cone_spec.proofs.Refusing.{entry_in}
use Rattle.rail_base.proofs.Lists.{list_all_from, in_append_left, in_append_right, in_append, in_map, in_flat_map, in_count, in_map_back, in_flat_map_back}
use Rattle.rail_base.specs.Admitted.{IsAdmitted}

-- what is found first passes, and comes before all others that pass
pub record First {X : Type 0} (test : X → Bool) (xs : List X) (x : X) : Type 0 where
  pub member : In x xs
  pub passes : test x ≡ true
  pub earlier : (order : X → X → Bool) → all_pairs order xs ≡ true → (y : X) → In y xs → test y ≡ true → (x ≡ y) ⊎ (order x y ≡ true)

pub find_first : {X : Type 0} (test : X → Bool) (xs : List X) (x : X) → find test xs ≡ Some x → First test xs x
find_first test [] x h = cc
find_first {X} test (z ∷ zs) x h = go (test z) refl h (find_first test zs x)
  where
    go : (b : Bool) → test z ≡ b → cond b (Some z) (find test zs) ≡ Some x → (find test zs ≡ Some x → First test zs x) → First test (z ∷ zs) x
    go true e s later = let same : z ≡ x = cc in subst (First test (z ∷ zs)) same (record { member = inl refl; passes = e; earlier = λ order p y m t. at order p y m })
      where
        at : (order : X → X → Bool) → all_pairs order (z ∷ zs) ≡ true → (y : X) → In y (z ∷ zs) → (z ≡ y) ⊎ (order z y ≡ true)
        at order p y (inl k) = inl k
        at order p y (inr k) = inr (list_all_at (order z) zs y (and_left (list_all (order z) zs) _ p) k)
    go false e s later =
        let l = later s in
        record { member = inr l.member; passes = l.passes; earlier = λ order p y m t. at l order p y m t }
      where
        at : First test zs x → (order : X → X → Bool) → all_pairs order (z ∷ zs) ≡ true → (y : X) → In y (z ∷ zs) → test y ≡ true → (x ≡ y) ⊎ (order x y ≡ true)
        at l order p y (inl k) t = absurd (true≢false (sym t ∙ ap test (sym k) ∙ e))
        at l order p y (inr k) t = l.earlier order (and_right (list_all (order z) zs) _ p) y k t

number_of : (m i : ℕ) → In i (one_to m) → is_from 1 m i ≡ true
number_of m i k = let l = from 1 m i k in let a = l.0 in let b = l.1 in and_both _ _ (le-leb 1 i a) (le-leb i m (omega arith))
  where
    from : (a n i : ℕ) → In i (count_from a n) → (a ≤ i) × (i < a + n)
    from a zero i m = absurd m
    from a (suc n) i (inl e) = (omega arith, omega arith)
    from a (suc n) i (inr m) = let k = from (a + 1) n i m in let x = k.0 in let y = k.1 in (omega arith, omega arith)

-- the orders and withins of a design name its trains
abbrev names_there : Station → Bool
names_there d = list_all (λ w. is_from 1 (length d.trains) w.from_train.0 && is_from 1 (length d.trains) w.to_train.0) d.withins
    && list_all (λ o. is_from 1 (length d.trains) o.first_train.0 && is_from 1 (length d.trains) o.then_train.0) d.orders

pub names_there_of : (d : Station) → IsAdmitted d → names_there d ≡ true
names_there_of d a = and_both _ _
    (list_all_from (λ (w : Within). is_from 1 (length d.trains) w.from_train.0 && is_from 1 (length d.trains) w.to_train.0) d.withins (λ w m. let g = a.within w m in and_both _ _ (number g.from.0) (number g.to.0)))
    (list_all_from (λ (o : Order). is_from 1 (length d.trains) o.first_train.0 && is_from 1 (length d.trains) o.then_train.0) d.orders (λ o m. let g = a.order o m in and_both _ _ (number g.first_names.0) (number g.after.0)))
  where
    number : {t : TrainNo} → IsTrain d t → is_from 1 (length d.trains) t.0 ≡ true
    number {t} (low, high) = and_both _ _ (le-leb 1 t.0 low) (le-leb t.0 (length d.trains) high)

module _ (d : Station) (routes : List Route) (plan : List (List Command)) (last : ℕ) where
  -- ---- where a way to fail stands

  pub data Stands (v : Violation) : Type 0 where
    AWithin : (w : ℕ) → In w (one_to (length d.withins)) → violation.Within w ≡ v → Stands v
    AnOrder : (o : ℕ) → In o (one_to (length d.orders)) → violation.Order o ≡ v → Stands v
    AGrant : (t : TrainNo) (j : ℕ) → In t (trains d) → In j (one_to (length (path plan t))) → violation.Grant t j ≡ v → Stands v
    AVisit : (t : TrainNo) (j : ℕ) → In t (trains d) → In j (visit_numbers d t) → violation.Visit t j ≡ v → Stands v

  stands_on : (v : Violation) → In v (possible_violations d routes plan) → Stands v
  stands_on v m = go (in_append v (map violation.Within (one_to (length d.withins)) ++ map violation.Order (one_to (length d.orders)) ++ flat_map (λ t. map (violation.Grant t) (command_numbers d routes plan t)) (trains d)) (flat_map (λ t. map (violation.Visit t) (visit_numbers d t)) (trains d)) m)
    where
      in_visits : In v (flat_map (λ t. map (violation.Visit t) (visit_numbers d t)) (trains d)) → Stands v
      in_visits k = let a = in_flat_map_back (λ t. map (violation.Visit t) (visit_numbers d t)) (trains d) v k in let b = in_map_back (violation.Visit a.0) (visit_numbers d a.0) v a.2 in AVisit a.0 b.0 a.1 b.1 b.2

      in_grants : In v (flat_map (λ t. map (violation.Grant t) (command_numbers d routes plan t)) (trains d)) → Stands v
      in_grants k = let a = in_flat_map_back (λ t. map (violation.Grant t) (command_numbers d routes plan t)) (trains d) v k in let b = in_map_back (violation.Grant a.0) (command_numbers d routes plan a.0) v a.2 in AGrant a.0 b.0 a.1 b.1 b.2

      two : In v (map violation.Within (one_to (length d.withins))) ⊎ In v (map violation.Order (one_to (length d.orders))) → Stands v
      two (inl k) = let a = in_map_back violation.Within (one_to (length d.withins)) v k in AWithin a.0 a.1 a.2
      two (inr k) = let a = in_map_back violation.Order (one_to (length d.orders)) v k in AnOrder a.0 a.1 a.2

      three : In v (map violation.Within (one_to (length d.withins)) ++ map violation.Order (one_to (length d.orders))) ⊎ In v (flat_map (λ t. map (violation.Grant t) (command_numbers d routes plan t)) (trains d)) → Stands v
      three (inl k) = two (in_append v (map violation.Within (one_to (length d.withins))) (map violation.Order (one_to (length d.orders))) k)
      three (inr k) = in_grants k

      go : In v (map violation.Within (one_to (length d.withins)) ++ map violation.Order (one_to (length d.orders)) ++ flat_map (λ t. map (violation.Grant t) (command_numbers d routes plan t)) (trains d)) ⊎ In v (flat_map (λ t. map (violation.Visit t) (visit_numbers d t)) (trains d)) → Stands v
      go (inl k) = three (in_append v (map violation.Within (one_to (length d.withins)) ++ map violation.Order (one_to (length d.orders))) (flat_map (λ t. map (violation.Grant t) (command_numbers d routes plan t)) (trains d)) k)
      go (inr k) = in_visits k

  -- ---- the grants are in order

  pairs_all : {X : Type 0} (test : X → X → Bool) (xs : List X) → ((x y : X) → In x xs → In y xs → test x y ≡ true) → all_pairs test xs ≡ true
  pairs_all test [] h = refl
  pairs_all test (x ∷ xs) h = and_both _ _ (list_all_from (test x) xs (λ y m. h x y (inl refl) (inr m))) (pairs_all test xs (λ a b m n. h a b (inr m) (inr n)))

  abbrev after_grant : Violation → Violation → Bool
  after_grant a b = not (is_less b a)
    where
      is_less : Violation → Violation → Bool
      is_less (violation.Grant u i) (violation.Grant t j) = is_train u t && nat_lt i j
      is_less (violation.Grant u i) (violation.Path t j) = false
      is_less (violation.Grant u i) (violation.Within w) = false
      is_less (violation.Grant u i) (violation.Order o) = false
      is_less (violation.Grant u i) (violation.Visit t j) = false
      is_less (violation.Path u i) _ = false
      is_less (violation.Within u) _ = false
      is_less (violation.Order u) _ = false
      is_less (violation.Visit u i) _ = false

  after_within : (w : ℕ) (b : Violation) → after_grant (violation.Within w) b ≡ true
  after_within w (violation.Grant u i) = refl
  after_within w (violation.Path u i) = refl
  after_within w (violation.Within u) = refl
  after_within w (violation.Order u) = refl
  after_within w (violation.Visit u i) = refl

  after_order : (o : ℕ) (b : Violation) → after_grant (violation.Order o) b ≡ true
  after_order w (violation.Grant u i) = refl
  after_order w (violation.Path u i) = refl
  after_order w (violation.Within u) = refl
  after_order w (violation.Order u) = refl
  after_order w (violation.Visit u i) = refl

  ordered : all_pairs after_grant (possible_violations d routes plan) ≡ true
  ordered =
      all_pairs_append after_grant (map violation.Within (one_to (length d.withins)) ++ map violation.Order (one_to (length d.orders)) ++ flat_map (λ t. map (violation.Grant t) (command_numbers d routes plan t)) (trains d)) (flat_map (λ t. map (violation.Visit t) (visit_numbers d t)) (trains d))
      (all_pairs_append after_grant (map violation.Within (one_to (length d.withins)) ++ map violation.Order (one_to (length d.orders))) (flat_map (λ t. map (violation.Grant t) (command_numbers d routes plan t)) (trains d))
      (pairs_all after_grant (map violation.Within (one_to (length d.withins)) ++ map violation.Order (one_to (length d.orders))) (λ x y m n. first_two x y m))
      (all_pairs_flat after_grant (λ (t u : TrainNo). nat_lt t.0 u.0) (λ t. map (violation.Grant t) (command_numbers d routes plan t)) each across (trains d) (trains_sorted d))
      (λ x y m n. first_two x y m))
      (pairs_all after_grant (flat_map (λ t. map (violation.Visit t) (visit_numbers d t)) (trains d)) (λ x y m n. to_visit x y n))
      (λ x y m n. to_visit x y n)
    where
      first_two : (x y : Violation) → In x (map violation.Within (one_to (length d.withins)) ++ map violation.Order (one_to (length d.orders))) → after_grant x y ≡ true
      first_two x y m = go (in_append x (map violation.Within (one_to (length d.withins))) (map violation.Order (one_to (length d.orders))) m)
        where
          go : In x (map violation.Within (one_to (length d.withins))) ⊎ In x (map violation.Order (one_to (length d.orders))) → after_grant x y ≡ true
          go (inl k) = let a = in_map_back violation.Within (one_to (length d.withins)) x k in subst (λ z. after_grant z y ≡ true) a.2 (after_within a.0 y)
          go (inr k) = let a = in_map_back violation.Order (one_to (length d.orders)) x k in subst (λ z. after_grant z y ≡ true) a.2 (after_order a.0 y)

      to_visit : (x y : Violation) → In y (flat_map (λ t. map (violation.Visit t) (visit_numbers d t)) (trains d)) → after_grant x y ≡ true
      to_visit x y m = let a = in_flat_map_back (λ t. map (violation.Visit t) (visit_numbers d t)) (trains d) y m in let b = in_map_back (violation.Visit a.0) (visit_numbers d a.0) y a.2 in subst (λ z. after_grant x z ≡ true) b.2 refl

      weaken : (test other : ℕ → ℕ → Bool) → ((a b : ℕ) → test a b ≡ true → other a b ≡ true) → (xs : List ℕ) → all_pairs test xs ≡ true → all_pairs other xs ≡ true
      weaken test other w [] h = refl
      weaken test other w (x ∷ xs) h = and_both _ _ (list_all_from (other x) xs (λ y m. w x y (list_all_at (test x) xs y (and_left (list_all (test x) xs) _ h) m))) (weaken test other w xs (and_right (list_all (test x) xs) _ h))

      not_and : (a b : Bool) → b ≡ false → not (a && b) ≡ true
      not_and true b e = ap not e
      not_and false b e = refl

      not_and_left : (a b : Bool) → a ≡ false → not (a && b) ≡ true
      not_and_left true b e = absurd (true≢false e)
      not_and_left false b e = refl

      each : (t : TrainNo) → all_pairs after_grant (map (violation.Grant t) (command_numbers d routes plan t)) ≡ true
      each t = all_pairs_map after_grant (violation.Grant t) (command_numbers d routes plan t) (weaken nat_lt (λ a b. after_grant (violation.Grant t a) (violation.Grant t b)) (λ a b l. let k = leb-true (suc a) b l in not_and (is_train t t) (nat_lt b a) (not_less b a (omega arith))) (command_numbers d routes plan t) (count_sorted 1 (length (path plan t))))

      apart : (t u : TrainNo) → nat_lt t.0 u.0 ≡ true → is_train u t ≡ false
      apart t u l = go (is_train u t) refl
        where
          go : (b : Bool) → is_train u t ≡ b → is_train u t ≡ false
          go false e = e
          go true e = let k = leb-true (suc t.0) u.0 l in let s : u.0 ≡ t.0 = eqb-true u.0 t.0 e in absurd (omega arith)

      across : (t u : TrainNo) (a b : Violation) → nat_lt t.0 u.0 ≡ true → In a (map (violation.Grant t) (command_numbers d routes plan t)) → In b (map (violation.Grant u) (command_numbers d routes plan u)) → after_grant a b ≡ true
      across t u a b l m n =
          let x = in_map_back (violation.Grant t) (command_numbers d routes plan t) a m in
          let y = in_map_back (violation.Grant u) (command_numbers d routes plan u) b n in
          subst (λ z. after_grant z b ≡ true) x.2 (subst (λ z. after_grant (violation.Grant t x.0) z ≡ true) y.2 (not_and_left (is_train u t) (nat_lt y.0 x.0) (apart t u l)))

  -- ---- what is known of the first

  pub record Known (v : Violation) : Type 0 where
    pub certain : is_certain d routes plan last v ≡ true
    pub trains : names_trains d v ≡ true
    pub counted : counts d routes plan last v ≡ true

  train_number : (t : TrainNo) → In t (trains d) → is_from 1 (length d.trains) t.0 ≡ true
  train_number t m = let k = in_trains_back d t m in and_both _ _ (le-leb 1 t.0 k.0) (le-leb t.0 (length d.trains) k.1)

  pub known : names_there d ≡ true → (v : Violation) → violation_at d routes plan last ≡ Some v → Known v
  known there v e = go (stands_on v f.member)
    where
      f : First (is_certain d routes plan last) (possible_violations d routes plan) v
      f = find_first (is_certain d routes plan last) (possible_violations d routes plan) v e

      low : (m i : ℕ) → is_from 1 m i ≡ true → 1 ≤ i
      low m i h = leb-true 1 i (and_left (nat_le 1 i) (nat_le i m) h)

      high : (m i : ℕ) → is_from 1 m i ≡ true → i ≤ m
      high m i h = leb-true i m (and_right (nat_le 1 i) (nat_le i m) h)

      go : Stands v → Known v
      go (AWithin w m s) =
          let i = number_of (length d.withins) w m in
          let n = list_all_at (λ (w : Within). is_from 1 (length d.trains) w.from_train.0 && is_from 1 (length d.trains) w.to_train.0) d.withins (within_of d w) (and_left (list_all (λ (w : Within). is_from 1 (length d.trains) w.from_train.0 && is_from 1 (length d.trains) w.to_train.0) d.withins) _ there) (entry_in _ d.withins w (low (length d.withins) w i) (high (length d.withins) w i)) in
          record { certain = f.passes; trains = subst (λ v. names_trains d v ≡ true) s n; counted = subst (λ v. counts d routes plan last v ≡ true) s i }
      go (AnOrder o m s) =
          let i = number_of (length d.orders) o m in
          let n = list_all_at (λ (o : Order). is_from 1 (length d.trains) o.first_train.0 && is_from 1 (length d.trains) o.then_train.0) d.orders (order_of d o) (and_right (list_all (λ (w : Within). is_from 1 (length d.trains) w.from_train.0 && is_from 1 (length d.trains) w.to_train.0) d.withins) _ there) (entry_in _ d.orders o (low (length d.orders) o i) (high (length d.orders) o i)) in
          record { certain = f.passes; trains = subst (λ v. names_trains d v ≡ true) s n; counted = subst (λ v. counts d routes plan last v ≡ true) s i }
      go (AVisit t j m n s) = record { certain = f.passes; trains = subst (λ v. names_trains d v ≡ true) s (train_number t m); counted = subst (λ v. counts d routes plan last v ≡ true) s (number_of (length (train_of d t).visits) j n) }
      go (AGrant t j m n s) = record { certain = f.passes; trains = subst (λ v. names_trains d v ≡ true) s (train_number t m); counted = subst (λ v. counts d routes plan last v ≡ true) s (and_both _ _ (number_of (length (path plan t)) j n) (first_one (below_or_not (count_at d routes plan last t + 1) j))) }
        where
          count : ℕ
          count = count_at d routes plan last t

          here : is_certain d routes plan last (violation.Grant t j) ≡ true
          here = subst (λ v. is_certain d routes plan last v ≡ true) (sym s) f.passes

          same_count : (state_of (state_at d routes (of_plan routes plan) last) t).granted ≡ count_at d routes plan last t
          same_count = refl

          first_one : (count_at d routes plan last t + 1 < j) ⊎ (j ≤ count_at d routes plan last t + 1) → nat_le j (count_at d routes plan last t + 1) ≡ true
          first_one (inr l) = le-leb j (count_at d routes plan last t + 1) l
          first_one (inl l) = clash (f.earlier after_grant ordered (violation.Grant t (count_at d routes plan last t + 1)) member passes)
            where
              top : j ≤ length (path plan t)
              top = high (length (path plan t)) j (number_of (length (path plan t)) j n)

              member : In (violation.Grant t (count_at d routes plan last t + 1)) (possible_violations d routes plan)
              member = in_append_left _ (map violation.Within (one_to (length d.withins)) ++ map violation.Order (one_to (length d.orders)) ++ flat_map (λ t. map (violation.Grant t) (command_numbers d routes plan t)) (trains d)) (flat_map (λ t. map (violation.Visit t) (visit_numbers d t)) (trains d))
                  (in_append_right _ (map violation.Within (one_to (length d.withins)) ++ map violation.Order (one_to (length d.orders))) (flat_map (λ t. map (violation.Grant t) (command_numbers d routes plan t)) (trains d))
                  (in_flat_map (λ t. map (violation.Grant t) (command_numbers d routes plan t)) (trains d) t _ m (in_map (violation.Grant t) (command_numbers d routes plan t) (count_at d routes plan last t + 1) (in_count 1 (length (path plan t)) (count_at d routes plan last t + 1) (omega arith) (let x = top in omega arith)))))

              passes : is_certain d routes plan last (violation.Grant t (count_at d routes plan last t + 1)) ≡ true
              passes = and_both _ _ (and_left (last == horizon d) _ here) (ap not (not_up_to (count_at d routes plan last t + 1) (state_of (state_at d routes (of_plan routes plan) last) t).granted (let x = same_count in omega arith)))
                where
                  not_up_to : (a b : ℕ) → b < a → nat_le a b ≡ false
                  not_up_to a b l = at (nat_le a b) refl
                    where
                      at : (t : Bool) → nat_le a b ≡ t → nat_le a b ≡ false
                      at false e = e
                      at true e = let m = leb-true a b e in absurd (omega arith)

              later : after_grant v (violation.Grant t (count_at d routes plan last t + 1)) ≡ false
              later = subst (λ x. after_grant x (violation.Grant t (count_at d routes plan last t + 1)) ≡ false) s (ap not (and_both _ _ (eq-eqb t.0 t.0 refl) (le-leb (suc (count_at d routes plan last t + 1)) j l)))

              clash : (v ≡ violation.Grant t (count_at d routes plan last t + 1)) ⊎ (after_grant v (violation.Grant t (count_at d routes plan last t + 1)) ≡ true) → nat_le j (count_at d routes plan last t + 1) ≡ true
              clash (inr k) = absurd (true≢false (sym k ∙ later))
              clash (inl k) = let both : violation.Grant t j ≡ violation.Grant t (count_at d routes plan last t + 1) = s ∙ k in let number : j ≡ count_at d routes plan last t + 1 = cc in le-leb j (count_at d routes plan last t + 1) (omega arith)
