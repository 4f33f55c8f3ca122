-- With another greatest time of at most a day an admitted design is admitted.
use Rattle.std.proofs.Common.{◌≡◌, ℕ, zero, suc, ◌-◌, ◌≤◌, ◌⊎◌, inl, inr, Bool, true, ◌&&◌, nat_le, List, [], ◌∷◌, length, slice_set, refl, sym, subst, arith, le-leb, length-set}
use Rattle.std.specs.List.{list_all}
use Rattle.rail_base.specs.declared.station.Station.{Station}
use Rattle.rail_base.specs.declared.station.Within.{Within}
use Rattle.rail_base.specs.Stations.{within_of}
use Rattle.rail_base.specs.Admitted.{IsGoodWithin}
use Rattle.rail_base.specs.Admission.{is_from, is_good_within, is_good_vehicle, is_good_train, is_good_order, is_visit, are_few, is_timed, are_named, is_sound_track, is_sound_traffic, are_sound_overlaps}
use Rattle.rail_base.proofs.Members.{In, and_left, and_right, and_both, list_all_at}
use Rattle.rail_base.proofs.Lists.{in_entry}
use Rattle.greatest_time.specs.Times.{within_in, with_max}
use Rattle.greatest_time.specs.Laws.{StaysAdmitted, PassesAdmission}

-- a member of a list with one put in is that one, or was there
in_put : {X : Type 0} (xs : List X) (i : ℕ) (x y : X) → In y (slice_set xs i x) → (y ≡ x) ⊎ In y xs
in_put [] i x y m = absurd m
in_put (z ∷ zs) zero x y (inl e) = inl (sym e)
in_put (z ∷ zs) zero x y (inr m) = inr (inr m)
in_put (z ∷ zs) (suc i) x y (inl e) = inr (inl e)
in_put (z ∷ zs) (suc i) x y (inr m) = elim (in_put zs i x y m) [ inl e ↦ inl e | inr k ↦ inr (inr k) ]

-- all pass with one put in that passes
put_in_all : {X : Type 0} (test : X → Bool) (xs : List X) (i : ℕ) (x : X) → list_all test xs ≡ true → test x ≡ true → list_all test (slice_set xs i x) ≡ true
put_in_all test [] i x h k = refl
put_in_all test (y ∷ ys) zero x h k = and_both (test x) (list_all test ys) k (and_right (test y) (list_all test ys) h)
put_in_all test (y ∷ ys) (suc i) x h k = and_both (test y) (list_all test (slice_set ys i x)) (and_left (test y) (list_all test ys) h) (put_in_all test ys i x (and_right (test y) (list_all test ys) h) k)

module _ (d : Station) (w : ℕ) (first : 1 ≤ w) (there : w ≤ length d.withins) where
  pub stays_admitted : StaysAdmitted d w
  stays_admitted ms day a = record {
    version = a.version;
    tick = a.tick;
    ticks = a.ticks;
    many_nodes = a.many_nodes;
    many_edges = a.many_edges;
    many_signals = a.many_signals;
    many_vehicles = a.many_vehicles;
    many_trains = a.many_trains;
    many_orders = a.many_orders;
    many_withins = omega (arith, length-set d.withins (w - 1) (within_in (within_of d w) ms), a.many_withins);
    many_overlaps = a.many_overlaps;
    node_names = a.node_names;
    edge_names = a.edge_names;
    signal_names = a.signal_names;
    vehicle_names = a.vehicle_names;
    train_names = a.train_names;
    node = λ n h. (let g = a.node n h in record { side_a = g.side_a; side_b = g.side_b; one_switch = g.one_switch; one_end = g.one_end });
    edge = λ e h. (let g = a.edge e h in record { from = g.from; to = g.to; apart = g.apart; length_mm = g.length_mm; speed = g.speed; moves = g.moves; section = g.section });
    signal = λ s h. (let g = a.signal s h in record { node = g.node; inside = g.inside });
    signals_differ = a.signals_differ;
    vehicle = λ v h. (let g = a.vehicle v h in record { length_mm = g.length_mm; accel = g.accel; brake = g.brake; speed = g.speed; gains = g.gains; slows = g.slows; moves = g.moves });
    train = λ t h. (let g = a.train t h in record { vehicle = g.vehicle; visits = g.visits; nodes = g.nodes; there = g.there; begins = g.begins; dwells = g.dwells; dwell = g.dwell; leaves_at_once = g.leaves_at_once });
    order = λ o h. (let g = a.order o h in record { first_names = g.first_names; after = g.after });
    within = λ v h. elim (in_put d.withins (w - 1) (within_in (within_of d w) ms) v h) [
      | inl e ↦ subst (IsGoodWithin (with_max d w ms)) (sym e) (let g = own in record { from = g.from; to = g.to; at_most_a_day = day })
      | inr m ↦ let g = a.within v m in record { from = g.from; to = g.to; at_most_a_day = g.at_most_a_day }
    ];
    overlap = λ o h. (let g = a.overlap o h in record { signal = g.signal; sections = g.sections; there = g.there; hold = g.hold });
    overlaps_differ = a.overlaps_differ;
  }
    where
      own : IsGoodWithin d (within_of d w)
      own = a.within (within_of d w) (in_entry _ d.withins w first there)

  -- a within with another time is good where the first is
  good_with : (ms : ℕ) → ms ≤ 86400000 → (v : Within) → is_good_within d v ≡ true → is_good_within d (within_in v ms) ≡ true
  good_with ms day v h = and_both (is_visit d v.from_train v.from_visit && is_visit d v.to_train v.to_visit) (nat_le ms 86400000)
      (and_left (is_visit d v.from_train v.from_visit && is_visit d v.to_train v.to_visit) (nat_le v.max_ms 86400000) h) (le-leb ms 86400000 day)

  pub passes_admission : PassesAdmission d w
  passes_admission ms day h =
      let e = with_max d w ms in
      let overlaps = and_right (are_few d && is_timed d && are_named d && is_sound_track d && is_sound_traffic d) (are_sound_overlaps d) h in
      let five = and_left (are_few d && is_timed d && are_named d && is_sound_track d && is_sound_traffic d) (are_sound_overlaps d) h in
      let traffic = and_right (are_few d && is_timed d && are_named d && is_sound_track d) (is_sound_traffic d) five in
      let four = and_left (are_few d && is_timed d && are_named d && is_sound_track d) (is_sound_traffic d) five in
      and_both (are_few e && is_timed e && are_named e && is_sound_track e && is_sound_traffic e) (are_sound_overlaps d)
      (and_both (are_few e && is_timed e && are_named e && is_sound_track e) (is_sound_traffic e) (subst (λ n. (few_with n && is_timed d && are_named d && is_sound_track d) ≡ true) (sym (length-set d.withins (w - 1) (within_in (within_of d w) ms))) four) (good traffic))
      overlaps
    where
      -- there are few entries, so many of them withins
      few_with : ℕ → Bool
      few_with n = nat_le (length d.nodes) 2000 && nat_le (length d.edges) 4000 && nat_le (length d.signals) 1000
          && nat_le (length d.vehicles) 64 && is_from 1 128 (length d.trains) && nat_le (length d.orders) 256 && nat_le n 256

      but_withins : Bool
      but_withins = list_all (is_good_vehicle d) d.vehicles && list_all (is_good_train d) d.trains && list_all (is_good_order d) d.orders

      good : is_sound_traffic d ≡ true → is_sound_traffic (with_max d w ms) ≡ true
      good h =
          let all = and_right but_withins (list_all (is_good_within d) d.withins) h in
          and_both but_withins (list_all (is_good_within d) (slice_set d.withins (w - 1) (within_in (within_of d w) ms))) (and_left but_withins (list_all (is_good_within d) d.withins) h)
          (put_in_all (is_good_within d) d.withins (w - 1) (within_in (within_of d w) ms) all (good_with ms day (within_of d w) (list_all_at (is_good_within d) d.withins (within_of d w) all (in_entry _ d.withins w first there))))
