-- At tick k the history of the run up to k shows the violation that is certain in the run.
use Rattle.std.proofs.Common.{◌≡◌, ℕ, ◌≤◌, ◌⊎◌, inl, inr, not, ◌&&◌, ◌==◌, List, [], ◌∷◌, ◌++◌, map, flat_map, length, nat_le, find, refl, ap, ap₂, subst, ◌∙◌}
use Rattle.rail_base.specs.declared.station.Station.{Station}
use Rattle.rail_base.specs.declared.station.TrainNo.{TrainNo}
use Rattle.rail_base.specs.declared.route.Route.{Route}
use Rattle.rail_base.specs.declared.plan.Command.{Command}
use Rattle.rail_base.specs.declared.plan.Violation.{Violation}
use Rattle.rail_base.specs.declared.plan.Violation.TheVariants as violation
use Rattle.rail_base.specs.Members.{In}
use Rattle.rail_base.specs.Numbering.{one_to}
use Rattle.rail_base.specs.Stations.{IsTrain, horizon, within_of, order_of}
use Rattle.rail_base.specs.Stations as station
use Rattle.rail_base.specs.Admitted.{IsAdmitted}
use Rattle.rail_base.proofs.Lists.{in_append, in_map_back, in_flat_map_back, in_entry}
use Rattle.rail_spec.specs.Plans.{path}
use Rattle.rail_spec.specs.Requirements.{is_after, most_ticks}
use Rattle.rail_spec.specs.Requirements as requirements
use Rattle.rail_spec.specs.Histories.{history_at}
use Rattle.rail_laws.proofs.Verdicts.{one_to_in}
use Rattle.rail_require.specs.Ticks.{trains, command_numbers, visit_numbers, is_by, is_before}
use Rattle.rail_require.specs.Violations.{is_certain, within_violations, order_violations, grant_violations, visit_violations, possible_violations, violation_in}
use Rattle.rail_require.proofs.Finding.{find-same}
use Rattle.rail_require.proofs.Telling.{by_grant, by_visit, before_visit, trains_told, commands_told, visits_told, grant_told, visit_told}

pub flat_map-same : {X Y : Type 0} (f g : X → List Y) (xs : List X) → ((x : X) → In x xs → f x ≡ g x) → flat_map f xs ≡ flat_map g xs
flat_map-same f g [] h = refl
flat_map-same f g (x ∷ xs) h = ap₂ ◌++◌ (h x (inl refl)) (flat_map-same f g xs (λ y m. h y (inr m)))

pub is_a_train : (d : Station) (t : TrainNo) → In t (station.trains d) → IsTrain d t
is_a_train d t m = go (in_map_back (λ n. record { 0 = n }) (one_to (length d.trains)) t m)
  where
    go : ((n : ℕ) × In n (one_to (length d.trains)) × (record { 0 = n } ≡ t)) → IsTrain d t
    go (n, i, e) = subst (IsTrain d) e (one_to_in (length d.trains) n i)

module _ (d : Station) (routes : List Route) (plan : List (List Command)) (adm : IsAdmitted d) (k : ℕ) (low : 1 ≤ k) where
  told_train : (t : TrainNo) → In t (trains (history_at d routes plan k)) → IsTrain d t
  told_train t m = is_a_train d t (subst (In t) (trains_told d routes plan k) m)

  -- ---- the same ways

  grants_same : grant_violations (history_at d routes plan k) ≡ flat_map (λ t. map (violation.Grant t) (requirements.command_numbers d routes plan t)) (station.trains d)
  grants_same =
      ap (flat_map (λ t. map (violation.Grant t) (command_numbers (history_at d routes plan k) t))) (trains_told d routes plan k)
      ∙ flat_map-same (λ t. map (violation.Grant t) (command_numbers (history_at d routes plan k) t)) (λ t. map (violation.Grant t) (requirements.command_numbers d routes plan t)) (station.trains d)
      (λ t m. ap (map (violation.Grant t)) (commands_told d routes plan k t (is_a_train d t m)))

  visits_same : visit_violations (history_at d routes plan k) ≡ flat_map (λ t. map (violation.Visit t) (requirements.visit_numbers d t)) (station.trains d)
  visits_same =
      ap (flat_map (λ t. map (violation.Visit t) (visit_numbers (history_at d routes plan k) t))) (trains_told d routes plan k)
      ∙ flat_map-same (λ t. map (violation.Visit t) (visit_numbers (history_at d routes plan k) t)) (λ t. map (violation.Visit t) (requirements.visit_numbers d t)) (station.trains d)
      (λ t m. ap (map (violation.Visit t)) (visits_told d routes plan k t (is_a_train d t m)))

  ways_same : possible_violations d (history_at d routes plan k) ≡ requirements.possible_violations d routes plan
  ways_same = ap₂ (λ grants visits. within_violations d ++ order_violations d ++ grants ++ visits) grants_same visits_same

  -- ---- and each is certain as in the run

  within_same : (w : ℕ) → In w (one_to (length d.withins)) → is_certain d (history_at d routes plan k) k (violation.Within w) ≡ requirements.is_certain d routes plan k (violation.Within w)
  within_same w m =
      let n = one_to_in (length d.withins) w m in
      let good = adm.within (within_of d w) (in_entry _ d.withins w n.0 n.1) in
      let x = within_of d w in
      ap₂ (λ tick made. nat_le k (horizon d) && is_after (most_ticks d x) tick k && not made)
      (visit_told d routes plan k x.from_train good.from.0 x.from_visit)
      (ap (is_by k) (visit_told d routes plan k x.to_train good.to.0 x.to_visit) ∙ by_visit d routes plan k x.to_train x.to_visit)

  order_same : (o : ℕ) → In o (one_to (length d.orders)) → is_certain d (history_at d routes plan k) k (violation.Order o) ≡ requirements.is_certain d routes plan k (violation.Order o)
  order_same o m =
      let n = one_to_in (length d.orders) o m in
      let good = adm.order (order_of d o) (in_entry _ d.orders o n.0 n.1) in
      let x = order_of d o in
      ap₂ (λ tick made. is_after 0 tick k && not made)
      (visit_told d routes plan k x.then_train good.after.0 x.then_visit)
      (ap (is_before k) (visit_told d routes plan k x.first_train good.first_names.0 x.first_visit) ∙ before_visit d routes plan k x.first_train x.first_visit low)

  grant_same : (t : TrainNo) → IsTrain d t → (j : ℕ) → In j (command_numbers (history_at d routes plan k) t) → is_certain d (history_at d routes plan k) k (violation.Grant t j) ≡ requirements.is_certain d routes plan k (violation.Grant t j)
  grant_same t is j m =
      let n = one_to_in (length (path plan t)) j (subst (In j) (commands_told d routes plan k t is) m) in
      ap (λ made. (k == horizon d) && not made) (ap (is_by k) (grant_told d routes plan k t is j n.0 n.1) ∙ by_grant d routes plan k t j low)

  visit_same : (t : TrainNo) → IsTrain d t → (j : ℕ) → is_certain d (history_at d routes plan k) k (violation.Visit t j) ≡ requirements.is_certain d routes plan k (violation.Visit t j)
  visit_same t is j = ap (λ made. (k == horizon d) && not made) (ap (is_by k) (visit_told d routes plan k t is j) ∙ by_visit d routes plan k t j)

  abbrev Same : Violation → Type 0
  Same v = is_certain d (history_at d routes plan k) k v ≡ requirements.is_certain d routes plan k v

  certain_same : (v : Violation) → In v (possible_violations d (history_at d routes plan k)) → Same v
  certain_same v m = which (in_append v (within_violations d ++ order_violations d ++ grant_violations (history_at d routes plan k)) (visit_violations (history_at d routes plan k)) m)
    where
      within : ((w : ℕ) × In w (one_to (length d.withins)) × (violation.Within w ≡ v)) → Same v
      within (w, i, e) = subst Same e (within_same w i)

      order : ((o : ℕ) × In o (one_to (length d.orders)) × (violation.Order o ≡ v)) → Same v
      order (o, i, e) = subst Same e (order_same o i)

      grant_of : (t : TrainNo) → In t (trains (history_at d routes plan k)) → ((j : ℕ) × In j (command_numbers (history_at d routes plan k) t) × (violation.Grant t j ≡ v)) → Same v
      grant_of t i (j, n, e) = subst Same e (grant_same t (told_train t i) j n)

      grant : ((t : TrainNo) × In t (trains (history_at d routes plan k)) × In v (map (violation.Grant t) (command_numbers (history_at d routes plan k) t))) → Same v
      grant (t, i, n) = grant_of t i (in_map_back (violation.Grant t) (command_numbers (history_at d routes plan k) t) v n)

      visit_of : (t : TrainNo) → In t (trains (history_at d routes plan k)) → ((j : ℕ) × In j (visit_numbers (history_at d routes plan k) t) × (violation.Visit t j ≡ v)) → Same v
      visit_of t i (j, n, e) = subst Same e (visit_same t (told_train t i) j)

      visit : ((t : TrainNo) × In t (trains (history_at d routes plan k)) × In v (map (violation.Visit t) (visit_numbers (history_at d routes plan k) t))) → Same v
      visit (t, i, n) = visit_of t i (in_map_back (violation.Visit t) (visit_numbers (history_at d routes plan k) t) v n)

      first : In v (within_violations d) ⊎ In v (order_violations d) → Same v
      first (inl i) = within (in_map_back violation.Within (one_to (length d.withins)) v i)
      first (inr i) = order (in_map_back violation.Order (one_to (length d.orders)) v i)

      second : In v (within_violations d ++ order_violations d) ⊎ In v (grant_violations (history_at d routes plan k)) → Same v
      second (inl i) = first (in_append v (within_violations d) (order_violations d) i)
      second (inr i) = grant (in_flat_map_back (λ t. map (violation.Grant t) (command_numbers (history_at d routes plan k) t)) (trains (history_at d routes plan k)) v i)

      which : In v (within_violations d ++ order_violations d ++ grant_violations (history_at d routes plan k)) ⊎ In v (visit_violations (history_at d routes plan k)) → Same v
      which (inl i) = second (in_append v (within_violations d ++ order_violations d) (grant_violations (history_at d routes plan k)) i)
      which (inr i) = visit (in_flat_map_back (λ t. map (violation.Visit t) (visit_numbers (history_at d routes plan k) t)) (trains (history_at d routes plan k)) v i)

  pub violation_told : violation_in d (history_at d routes plan k) k ≡ requirements.violation_at d routes plan k
  violation_told =
      find-same (is_certain d (history_at d routes plan k) k) (requirements.is_certain d routes plan k) (possible_violations d (history_at d routes plan k)) certain_same
      ∙ ap (find (requirements.is_certain d routes plan k)) ways_same
