-- Lists by rows: entries, routes and commands.
use Rattle.std.proofs.Common.{◌≡◌, ℕ, zero, suc, ◌+◌, ◌-◌, ◌≤◌, ◌<◌, ◌⊎◌, inl, inr, Bool, true, false, cond, List, [], ◌∷◌, ◌++◌, map, filter, flat_map, get_or, length, refl, sym, ap, subst, ◌∙◌, arith, eqb-true, eq-eqb}
use Rattle.rail_base.specs.declared.station.Station.{Station}
use Rattle.rail_base.specs.declared.station.TrainNo.{TrainNo}
use Rattle.rail_base.specs.declared.route.Route.{Route}
use Rattle.rail_base.specs.declared.route.RouteNo.{RouteNo}
use Rattle.rail_base.specs.declared.plan.Command.{Command}
use Rattle.rail_base.specs.Members.{In}
use Rattle.rail_base.specs.Numbering.{entry, one_to}
use Rattle.rail_base.specs.Stations.{trains}
use Rattle.rail_base.proofs.Lists.{in_count_back, in_filter_back, in_map_back, length-count, length-map, pairs_count, pairs_filter, pairs_map}
use Rattle.rail_base.proofs.Members.{below_or_not, false_unless, filter-append, get_or-counted, get_or-counted_past}
use Rattle.rail_spec.specs.Plans.{all_commands, commands_of, is_train, route_numbers, routes_given}
use Rattle.clause_spec.proofs.Lists.{flat_map-push, map-push, one_to-push}
use Rattle.live_clause_spec.specs.Live.{is_live}
use Rattle.live_clause_spec.specs.Listed.{is_live_for, live_routes}
use Rattle.live_clause_spec.specs.Variables.{live_commands}
use Rattle.live_clause_spec.proofs.Lists.{filter_map}
use Rattle.command_set.specs.Commands.{AreRising, commands_in}
use Rattle.command_set.specs.Rows.{AreRows, all_rows, commands_by_rows, live_rows, train_no}
use Rattle.command_set.proofs.Blocks.{filter_all, filter_none, flat_mapped, flat_same, kept_block, kept_none}

-- ---- entries

module _ {X : Type 0} (f : ℕ → X) (n : ℕ) (other : X) where
  -- the entry of a number that there is
  pub entry_is : (t : ℕ) → 1 ≤ t → t ≤ n → entry other (map f (one_to n)) t ≡ f t
  entry_is zero a b = absurd (omega arith)
  entry_is (suc i) a b = get_or-counted f 1 n i other (omega arith) ∙ ap f (omega arith)

  -- and of one that there isn't
  pub entry_past : (t : ℕ) → n < t → entry other (map f (one_to n)) t ≡ other
  entry_past zero a = refl
  entry_past (suc i) a = get_or-counted_past f 1 n i other (omega arith)

  pub length_numbered : length (map f (one_to n)) ≡ n
  length_numbered = length-map f (one_to n) ∙ length-count 1 n

pub entry_beyond : {X : Type 0} (other : X) (xs : List X) (t : ℕ) → length xs < t → entry other xs t ≡ other
entry_beyond other xs zero h = refl
entry_beyond {X} other xs (suc i) h = go xs i (omega arith)
  where
    go : (ys : List X) (j : ℕ) → length ys ≤ j → get_or ys j other ≡ other
    go [] j l = refl
    go (y ∷ ys) zero l = absurd (omega arith)
    go (y ∷ ys) (suc j) l = go ys j (omega arith)

-- ---- one more

one_more : (n : ℕ) → one_to (n + 1) ≡ one_to n ++ (n + 1) ∷ []
one_more n = ap one_to (next n) ∙ (one_to-push n ∙ ap (λ k. one_to n ++ k ∷ []) (sym (next n)))
  where
    next : (n : ℕ) → n + 1 ≡ suc n
    next n = omega arith

pub more_cells : {X : Type 0} (f : ℕ → X) (n : ℕ) → map f (one_to (n + 1)) ≡ map f (one_to n) ++ f (n + 1) ∷ []
more_cells f n = ap (map f) (one_more n) ∙ map-push f (one_to n) (n + 1)

pub more_parts : {X : Type 0} (f : ℕ → List X) (n : ℕ) → flat_map f (one_to (n + 1)) ≡ flat_map f (one_to n) ++ f (n + 1)
more_parts f n = ap (flat_map f) (one_more n) ∙ flat_map-push f (one_to n) (n + 1)

-- the same where the numbers go from 1 on
again : (n : ℕ) → 1 ≤ n → n + 1 - 1 ≡ n - 1 + 1
again n low = omega arith

back : (n : ℕ) → 1 ≤ n → n - 1 + 1 ≡ n
back n low = omega arith

pub next_cell : {X : Type 0} (f : ℕ → X) (n : ℕ) → 1 ≤ n → map f (one_to (n + 1 - 1)) ≡ map f (one_to (n - 1)) ++ f n ∷ []
next_cell f n low = ap (λ k. map f (one_to k)) (again n low) ∙ (more_cells f (n - 1) ∙ ap (λ k. map f (one_to (n - 1)) ++ f k ∷ []) (back n low))

pub next_part : {X : Type 0} (f : ℕ → List X) (n : ℕ) → 1 ≤ n → flat_map f (one_to (n + 1 - 1)) ≡ flat_map f (one_to (n - 1)) ++ f n
next_part f n low = ap (λ k. flat_map f (one_to k)) (again n low) ∙ (more_parts f (n - 1) ∙ ap (λ k. flat_map f (one_to (n - 1)) ++ f k) (back n low))

-- the entry behind so many
pub entry_next : {X : Type 0} (other : X) (xs : List X) (i : ℕ) (x : X) → x ≡ get_or xs i x → i < length xs → entry other xs (i + 1) ≡ x
entry_next {X} other xs i x is low = ap (entry other xs) (next i) ∙ (any_other xs i low ∙ sym is)
  where
    next : (n : ℕ) → n + 1 ≡ suc n
    next n = omega arith

    any_other : (ys : List X) (j : ℕ) → j < length ys → get_or ys j other ≡ get_or ys j x
    any_other [] j h = absurd (omega arith)
    any_other (y ∷ ys) zero h = refl
    any_other (y ∷ ys) (suc j) h = any_other ys j (omega arith)

-- ---- the rows of a design

pub length-kept : {X : Type 0} (test : X → Bool) (xs : List X) → length (filter test xs) ≤ length xs
length-kept test [] = omega arith
length-kept {X} test (x ∷ xs) = go (test x) (length-kept test xs)
  where
    go : (b : Bool) → length (filter test xs) ≤ length xs → length (cond b (x ∷ filter test xs) (filter test xs)) ≤ suc (length xs)
    go true h = omega arith
    go false h = omega arith

-- of all routes some rise, and are few
module _ (routes : List Route) (test : RouteNo → Bool) where
  pub some_rise : AreRising (filter test (route_numbers routes))
  some_rise =
      let lower : RouteNo → RouteNo → Type 0 = λ q s. q.0 < s.0 in
      pairs_filter lower test (route_numbers routes) (pairs_map lower (λ (a b : ℕ). a < b) (λ n. record { 0 = n }) (one_to (length routes)) (λ a b h. h) (pairs_count 1 (length routes)))

  pub some_few : length (filter test (route_numbers routes)) ≤ length routes
  some_few =
      let named : ℕ → RouteNo = λ n. record { 0 = n } in
      let kept = length-kept test (route_numbers routes) in
      let all = length-map named (one_to (length routes)) in
      let many = length-count 1 (length routes) in
      omega arith

  pub some_within : (r : RouteNo) → In r (filter test (route_numbers routes)) → (1 ≤ r.0) × (r.0 ≤ length routes)
  some_within r m =
      let named : ℕ → RouteNo = λ n. record { 0 = n } in
      let back = in_map_back named (one_to (length routes)) r (in_filter_back test (route_numbers routes) r m).0 in
      let range = in_count_back 1 (length routes) back.0 back.1 in
      let low = range.0 in
      let high = range.1 in
      let same : back.0 ≡ r.0 = ap (λ (q : RouteNo). q.0) back.2 in
      (omega arith, omega arith)

-- rows of routes that pass tests
module _ (d : Station) (routes : List Route) (test : TrainNo → RouteNo → Bool) where
  abbrev row : ℕ → List RouteNo
  row n = filter (test (train_no n)) (route_numbers routes)

  abbrev rows : List (List RouteNo)
  rows = map row (one_to (length d.trains))

  abbrev made : TrainNo → RouteNo → Command
  made t r = record { train = t; route = r }

  pub rows_good : length d.trains ≤ 128 → length routes ≤ 2000 → AreRows (length routes) rows
  rows_good few some = record {
    at_most_128 = (let e = length_numbered row (length d.trains) [] in omega arith);
    at_most_2000 = some;
    short = λ t. each (λ xs. length xs ≤ 2000) (omega arith) (λ u. let k = some_few routes (test u) in omega arith) t;
    rising = each AreRising tt (λ u. some_rise routes (test u));
    within = each (λ xs. (r : RouteNo) → In r xs → (1 ≤ r.0) × (r.0 ≤ length routes)) (λ r m. absurd m) (λ u. some_within routes (test u));
  }
    where
      each : (P : List RouteNo → Type 0) → P [] → ((u : TrainNo) → P (filter (test u) (route_numbers routes))) → (t : ℕ) → P (entry [] rows t)
      each P none one zero = none
      each P none one (suc i) = go (below_or_not i (length d.trains))
        where
          go : (i < length d.trains) ⊎ (length d.trains ≤ i) → P (entry [] rows (suc i))
          go (inl l) = subst P (sym (entry_is row (length d.trains) [] (suc i) (omega arith) (omega arith))) (one (train_no (suc i)))
          go (inr l) = subst P (sym (entry_past row (length d.trains) [] (suc i) (omega arith))) none

  -- their commands
  pub rows_commands : commands_by_rows rows ≡ flat_map (λ t. map (made t) (filter (test t) (route_numbers routes))) (trains d)
  rows_commands =
      ap (λ k. flat_map (λ t. commands_in t (entry [] rows t)) (one_to k)) (length_numbered row (length d.trains) [])
      ∙ (flat_same (λ t. commands_in t (entry [] rows t)) (λ n. map (made (train_no n)) (row n)) (one_to (length d.trains)) (λ t m.
      let range = in_count_back 1 (length d.trains) t m in
      let low = range.0 in
      let high = range.1 in
      ap (commands_in t) (entry_is row (length d.trains) [] t (omega arith) (omega arith)))
      ∙ sym (flat_mapped (λ t. map (made t) (filter (test t) (route_numbers routes))) train_no (one_to (length d.trains))))

-- a test of what is made of each goes part by part
pub filter_parts : {X Y : Type 0} (test : Y → Bool) (g : X → List Y) (xs : List X) → filter test (flat_map g xs) ≡ flat_map (λ x. filter test (g x)) xs
filter_parts test g [] = refl
filter_parts test g (x ∷ xs) = filter-append test (g x) (flat_map g xs) ∙ ap (λ ys. filter test (g x) ++ ys) (filter_parts test g xs)

module _ (d : Station) (routes : List Route) where
  -- the commands that pass, train by train
  pub live_by_trains : (live : Command → Bool) → live_commands live d routes ≡ flat_map (λ t. map (λ r. record { train = t; route = r }) (live_routes live routes t)) (trains d)
  live_by_trains live =
      filter_parts live (commands_of routes) (trains d)
      ∙ flat_same (λ t. filter live (commands_of routes t)) (λ t. map (λ r. record { train = t; route = r }) (live_routes live routes t)) (trains d)
      (λ t m. filter_map live (is_live_for live t) (λ r. record { train = t; route = r }) (route_numbers routes) (λ r k. refl))

  pub live_listed : commands_by_rows (live_rows d routes) ≡ live_commands (is_live d routes) d routes
  live_listed = rows_commands d routes (λ t r. is_live d routes (record { train = t; route = r })) ∙ sym (live_by_trains (is_live d routes))

  -- all routes are those that pass a test that all pass
  pub all_are_some : all_rows d routes ≡ map (λ n. filter (λ r. true) (route_numbers routes)) (one_to (length d.trains))
  all_are_some = ap (λ xs. map (λ n. xs) (one_to (length d.trains))) (sym (filter_all (λ r. true) (route_numbers routes) (λ r m. refl)))

  pub all_listed : commands_by_rows (all_rows d routes) ≡ all_commands d routes
  all_listed = ap commands_by_rows all_are_some ∙ (rows_commands d routes (λ t r. true)
      ∙ flat_same (λ t. map (λ r. record { train = t; route = r }) (filter (λ r. true) (route_numbers routes))) (commands_of routes) (trains d)
      (λ t m. ap (map (λ r. record { train = t; route = r })) (filter_all (λ r. true) (route_numbers routes) (λ r k. refl))))

-- ---- the routes of a train

made_routes : (t : ℕ) (row : List RouteNo) → map (λ (c : Command). c.route) (commands_in t row) ≡ row
made_routes t [] = refl
made_routes t (r ∷ row) = ap (λ rs. r ∷ rs) (made_routes t row)

-- of lists by train, one after another
module _ (row : ℕ → List RouteNo) (n : ℕ) (t : TrainNo) where
  abbrev of_train : Command → Bool
  of_train c = is_train c.train t

  others : (i : ℕ) → (i ≡ t.0 → ⊥) → filter of_train (commands_in i (row i)) ≡ []
  others i apart = filter_none of_train (commands_in i (row i)) (λ c m. false_unless (of_train c) (λ h.
      let back = in_map_back (λ (r : RouteNo). record { train = train_no i; route = r }) (row i) c m in
      apart (ap (λ (x : Command). x.train.0) back.2 ∙ eqb-true c.train.0 t.0 h)))

  own : filter of_train (commands_in t.0 (row t.0)) ≡ commands_in t.0 (row t.0)
  own = filter_all of_train (commands_in t.0 (row t.0)) (λ c m.
      let back = in_map_back (λ (r : RouteNo). record { train = train_no t.0; route = r }) (row t.0) c m in
      eq-eqb c.train.0 t.0 (sym (ap (λ (x : Command). x.train.0) back.2)))

  pub given_of : 1 ≤ t.0 → t.0 ≤ n → routes_given t (flat_map (λ i. commands_in i (row i)) (one_to n)) ≡ row t.0
  given_of low high =
      ap (map (λ (c : Command). c.route)) (kept_block of_train (λ i. commands_in i (row i)) t.0 others (t.0 - 1) 1 n (omega arith) (omega arith) ∙ own)
      ∙ made_routes t.0 (row t.0)

  pub given_none : (t.0 < 1) ⊎ (n < t.0) → routes_given t (flat_map (λ i. commands_in i (row i)) (one_to n)) ≡ []
  given_none h = ap (map (λ (c : Command). c.route)) (kept_none of_train (λ i. commands_in i (row i)) t.0 others 1 n (elim h [ inl a ↦ inl a | inr b ↦ inr (omega arith) ]))

-- by rows it is the row
pub given_row : (rows : List (List RouteNo)) (t : TrainNo) → routes_given t (commands_by_rows rows) ≡ entry [] rows t.0
given_row rows t = go (below_or_not t.0 1) (below_or_not (length rows) t.0)
  where
    none : (n : ℕ) → n < 1 → entry [] rows n ≡ []
    none zero h = refl
    none (suc n) h = absurd (omega arith)

    go : (t.0 < 1) ⊎ (1 ≤ t.0) → (length rows < t.0) ⊎ (t.0 ≤ length rows) → routes_given t (commands_by_rows rows) ≡ entry [] rows t.0
    go (inl a) h = given_none (entry [] rows) (length rows) t (inl a) ∙ sym (none t.0 a)
    go (inr a) (inl b) = given_none (entry [] rows) (length rows) t (inr b) ∙ sym (entry_beyond [] rows t.0 b)
    go (inr a) (inr b) = given_of (entry [] rows) (length rows) t a b
