-- The rows of trains, by their tables.
use Rattle.std.proofs.Common.{◌≡◌, ℕ, zero, suc, ◌+◌, ◌-◌, ◌≤◌, ◌<◌, ◌⊎◌, inl, inr, List, [], ◌∷◌, ◌++◌, map, filter, get_or, length, Some, refl, sym, ap, subst, ◌∙◌, arith}
use Rattle.rail_base.specs.declared.station.TrainNo.{TrainNo}
use Rattle.rail_base.specs.declared.route.Route.{Route}
use Rattle.rail_base.specs.declared.route.RouteNo.{RouteNo}
use Rattle.rail_base.specs.declared.plan.Command.{Command}
use Rattle.rail_base.specs.Numbering.{entry, one_to}
use Rattle.rail_base.specs.Routes.{IsRoute}
use Rattle.rail_base.proofs.Lists.{length-count, length-map, pairs_filter}
use Rattle.rail_base.proofs.Members.{below_or_not, map-map}
use Rattle.rail_spec.specs.Plans.{is_route, route_numbers, routes_given}
use Rattle.command_set.specs.Commands.{AreRising, first_place}
use Rattle.command_set.specs.Rows.{train_no}
use Rattle.command_set.proofs.Lists.{entry_beyond, entry_is, entry_past, length-kept}
use Rattle.live_contending.specs.declared.rows.TrainRows.{TrainRows}
use Rattle.live_contending.specs.Rows.{AreRowsTo, row_at, shares, sharing_rows, table_at, train_count}

-- ---- rows by the numbers of routes

module _ (routes : List Route) (row : RouteNo → List RouteNo) (rows : List (List RouteNo)) (is : rows ≡ map row (route_numbers routes)) where
  abbrev numbered : ℕ → RouteNo
  numbered n = record { 0 = n }

  by_numbers : rows ≡ map (λ n. row (numbered n)) (one_to (length routes))
  by_numbers = is ∙ map-map row numbered (one_to (length routes))

  pub length_rows : length rows ≡ length routes
  length_rows = ap length by_numbers ∙ (length-map (λ n. row (numbered n)) (one_to (length routes)) ∙ length-count 1 (length routes))

  -- the row of a route stands at its number
  pub row_is : (r : RouteNo) → IsRoute routes r → entry [] rows r.0 ≡ row r
  row_is r k = ap (λ rs. entry [] rs r.0) by_numbers ∙ entry_is (λ n. row (numbered n)) (length routes) [] r.0 k.0 k.1

  -- and there is none at another number
  pub row_none : (r : ℕ) → (r < 1) ⊎ (length routes < r) → entry [] rows r ≡ []
  row_none zero h = refl
  row_none (suc r) (inl a) = absurd (omega arith)
  row_none (suc r) (inr a) = ap (λ rs. entry [] rs (suc r)) by_numbers ∙ entry_past (λ n. row (numbered n)) (length routes) [] (suc r) a

-- ---- entries of longer lists

module _ {X : Type 0} (other : X) (xs ys : List X) where
  -- those of the first are kept
  pub entry_left : (t : ℕ) → 1 ≤ t → t ≤ length xs → entry other (xs ++ ys) t ≡ entry other xs t
  entry_left zero a b = absurd (omega arith)
  entry_left (suc i) a b = go xs i (omega arith)
    where
      go : (zs : List X) (i : ℕ) → i < length zs → get_or (zs ++ ys) i other ≡ get_or zs i other
      go [] i h = absurd (omega arith)
      go (z ∷ zs) zero h = refl
      go (z ∷ zs) (suc i) h = go zs i (omega arith)

-- the next one stands behind them
pub entry_last : {X : Type 0} (other : X) (xs : List X) (x : X) (t : ℕ) → t ≡ length xs + 1 → entry other (xs ++ x ∷ []) t ≡ x
entry_last other xs x zero h = absurd (omega arith)
entry_last {X} other xs x (suc i) h = go xs i (omega arith)
  where
    go : (zs : List X) (i : ℕ) → i ≡ length zs → get_or (zs ++ x ∷ []) i other ≡ x
    go [] zero h = refl
    go [] (suc i) h = absurd (omega arith)
    go (z ∷ zs) zero h = absurd (omega arith)
    go (z ∷ zs) (suc i) h = go zs i (omega arith)

-- ---- the rows of trains

-- a train that has none has no row
pub no_row : (s : TrainRows) (t : ℕ) (r : RouteNo) → (t < 1) ⊎ (train_count s < t) → row_at s t r ≡ []
no_row s t r h = ap (λ k. entry [] (entry [] s.tables.items k) r.0) (none t h) ∙ of_none r.0
  where
    none : (t : ℕ) → (t < 1) ⊎ (train_count s < t) → entry 0 s.kinds.items t ≡ 0
    none zero k = refl
    none (suc t) (inl a) = absurd (omega arith)
    none (suc t) (inr a) = entry_beyond 0 s.kinds.items (suc t) a

    of_none : {X : Type 0} {other : X} (n : ℕ) → entry other [] n ≡ other
    of_none zero = refl
    of_none (suc n) = refl

-- so where a route stands in its row, it has some
pub has_rows : (s : TrainRows) (t w : ℕ) (r q : RouteNo) → first_place (is_route q) (row_at s t r) ≡ Some w → (1 ≤ t) × (t ≤ train_count s)
has_rows s t w r q h = go (below_or_not t 1) (below_or_not (train_count s) t)
  where
    none : {xs : List RouteNo} → xs ≡ [] → first_place (is_route q) xs ≡ Some w → ⊥
    none e k = cc

    go : (t < 1) ⊎ (1 ≤ t) → (train_count s < t) ⊎ (t ≤ train_count s) → (1 ≤ t) × (t ≤ train_count s)
    go (inl a) b = absurd (none (no_row s t r (inl a)) h)
    go (inr a) (inl b) = absurd (none (no_row s t r (inr b)) h)
    go (inr a) (inr b) = (a, b)

module _ (routes : List Route) (cs : List Command) (n : ℕ) (s : TrainRows) (are : AreRowsTo routes cs n s) where
  -- that of a train that has some, and a route
  pub row_known : (t : ℕ) (r : RouteNo) → 1 ≤ t → t ≤ n → IsRoute routes r → row_at s t r ≡ filter (shares routes r) (routes_given (train_no t) cs)
  row_known t r a b k = row_is routes (λ q. filter (shares routes q) (routes_given (train_no t) cs)) (table_at s t) (are.table t a b) r k

  -- what holds of no route and of those of each row
  pub each_row : (P : List RouteNo → Type 0) → P [] → ((t : TrainNo) (r : RouteNo) → P (filter (shares routes r) (routes_given t cs))) → (t : ℕ) (r : RouteNo) → P (row_at s t r)
  each_row P none some t r = go (below_or_not t 1) (below_or_not n t) (below_or_not r.0 1) (below_or_not (length routes) r.0)
    where
      go : (t < 1) ⊎ (1 ≤ t) → (n < t) ⊎ (t ≤ n) → (r.0 < 1) ⊎ (1 ≤ r.0) → (length routes < r.0) ⊎ (r.0 ≤ length routes) → P (row_at s t r)
      go (inl a) b c d = subst P (sym (no_row s t r (inl a))) none
      go (inr a) (inl b) c d = subst P (sym (no_row s t r (inr (let e = are.trains in omega arith)))) none
      go (inr a) (inr b) (inl c) d = subst P (sym (row_none routes (λ q. filter (shares routes q) (routes_given (train_no t) cs)) (table_at s t) (are.table t a b) r.0 (inl c))) none
      go (inr a) (inr b) (inr c) (inl d) = subst P (sym (row_none routes (λ q. filter (shares routes q) (routes_given (train_no t) cs)) (table_at s t) (are.table t a b) r.0 (inr d))) none
      go (inr a) (inr b) (inr c) (inr d) = subst P (sym (row_known t r a b (c, d))) (some (train_no t) r)

  pub rows_short : ((t : TrainNo) → length (routes_given t cs) ≤ 2000) → (t : ℕ) (r : RouteNo) → length (row_at s t r) ≤ 2000
  rows_short few = each_row (λ row. length row ≤ 2000) (omega arith) (λ t r. let k = length-kept (shares routes r) (routes_given t cs) in let f = few t in omega arith)

  pub rows_rise : ((t : TrainNo) → AreRising (routes_given t cs)) → (t : ℕ) (r : RouteNo) → AreRising (row_at s t r)
  rows_rise rise = each_row AreRising tt (λ t r. pairs_filter (λ (q p : RouteNo). q.0 < p.0) (shares routes r) (routes_given t cs) (rise t))

-- no train
pub no_trains : (routes : List Route) (cs : List Command) (s : TrainRows) → s.kinds.items ≡ [] → AreRowsTo routes cs 0 s
no_trains routes cs s none = record {
  trains = ap length none;
  low = λ t a b. absurd (omega arith);
  high = λ t a b. absurd (omega arith);
  table = λ t a b. absurd (omega arith);
}

-- one train more, with a table that is there
pub train_added : (routes : List Route) (cs : List Command) (t k : ℕ) (s new : TrainRows) (more : List (List (List RouteNo))) → AreRowsTo routes cs (t - 1) s → 1 ≤ t
    → new.kinds.items ≡ s.kinds.items ++ k ∷ [] → new.tables.items ≡ s.tables.items ++ more → 1 ≤ k → k ≤ length new.tables.items
    → entry [] new.tables.items k ≡ sharing_rows routes (routes_given (train_no t) cs) → AreRowsTo routes cs t new
train_added routes cs t k s new more are some kinds tables low high own = record {
  trains = (let e = ap length kinds ∙ length_more s.kinds.items in let f = are.trains in omega arith);
  low = λ u a b. at u a b (λ x. 1 ≤ x) (λ c. are.low u a c) low;
  high = λ u a b. at u a b (λ x. x ≤ length new.tables.items) (λ c. let h = are.high u a c in let l = longer in omega arith) high;
  table = λ u a b. at_own u a b (below_or_not u t);
}
  where
    length_more : (xs : List ℕ) → length (xs ++ k ∷ []) ≡ length xs + 1
    length_more [] = omega arith
    length_more (x ∷ xs) = let h = length_more xs in omega arith

    longer : length s.tables.items ≤ length new.tables.items
    longer = let e = ap length tables in let l = least more s.tables.items in omega arith
      where
        least : {X : Type 0} (ys xs : List X) → length xs ≤ length (xs ++ ys)
        least ys [] = omega arith
        least ys (x ∷ xs) = let h = least ys xs in omega arith

    old : (u : ℕ) → 1 ≤ u → u ≤ t - 1 → entry 0 new.kinds.items u ≡ entry 0 s.kinds.items u
    old u a b = ap (λ xs. entry 0 xs u) kinds ∙ entry_left 0 s.kinds.items (k ∷ []) u a (let e = are.trains in omega arith)

    last : (u : ℕ) → u ≡ t → entry 0 new.kinds.items u ≡ k
    last u e = ap (λ xs. entry 0 xs u) kinds ∙ entry_last 0 s.kinds.items k u (let f = are.trains in omega arith)

    at : (u : ℕ) → 1 ≤ u → u ≤ t → (P : ℕ → Type 0) → (u ≤ t - 1 → P (entry 0 s.kinds.items u)) → P k → P (entry 0 new.kinds.items u)
    at u a b P before now = go (below_or_not u t)
      where
        go : (u < t) ⊎ (t ≤ u) → P (entry 0 new.kinds.items u)
        go (inl c) = subst P (sym (old u a (omega arith))) (before (omega arith))
        go (inr c) = subst P (sym (last u (omega arith))) now

    at_own : (u : ℕ) → 1 ≤ u → u ≤ t → (u < t) ⊎ (t ≤ u) → table_at new u ≡ sharing_rows routes (routes_given (train_no u) cs)
    at_own u a b (inl c) =
        ap (entry [] new.tables.items) (old u a (omega arith))
        ∙ (ap (λ xs. entry [] xs (entry 0 s.kinds.items u)) tables
        ∙ (entry_left [] s.tables.items more (entry 0 s.kinds.items u) (are.low u a (omega arith)) (are.high u a (omega arith)) ∙ are.table u a (omega arith)))
    at_own u a b (inr c) =
        let e : u ≡ t = omega arith in
        ap (entry [] new.tables.items) (last u e) ∙ (own ∙ ap (λ x. sharing_rows routes (routes_given (train_no x) cs)) (sym e))
