-- The numbers in the clauses of normal plans: from 1 to the number of the last variable, and none that of the last step.
use Rattle.std.proofs.Common.{◌≡◌, ℕ, zero, suc, ◌+◌, ◌-◌, ◌*◌, ◌≤◌, ◌<◌, ◌⊎◌, inl, inr, not, ◌&&◌, List, [], ◌∷◌, ◌++◌, map, flat_map, length, sym, ap, subst, arith}
use Rattle.std.specs.Prelude.{◌≢◌}
use Rattle.std.proofs.Math.Nat.{suc-mul}
use Rattle.rail_base.specs.declared.station.Station.{Station}
use Rattle.rail_base.specs.declared.station.TrainNo.{TrainNo}
use Rattle.rail_base.specs.declared.route.Route.{Route}
use Rattle.rail_base.specs.declared.route.RouteNo.{RouteNo}
use Rattle.rail_base.specs.declared.plan.Command.{Command}
use Rattle.rail_base.specs.Numbering.{count_from, one_to}
use Rattle.rail_spec.specs.Plans.{route_at, is_train, goes_on, route_numbers, all_commands}
use Rattle.rail_base.proofs.Members.{In, below_or_not}
use Rattle.rail_base.proofs.Lists.{in_append, in_count_back, in_filter_back, in_flat_map_back, in_map_back}
use Rattle.sat_clause.specs.declared.lit.Lit.{Lit}
use Rattle.clause_spec.specs.Variables.{Given, By, yes, no, if_given, number_of, variable_count}
use Rattle.clause_spec.specs.Clauses.{leading_to, base_clauses}
use Rattle.clause_spec.proofs.InRange.{literals_in_range, number_below}
use Rattle.clause_spec.proofs.Numbers.{number_low}
use Rattle.clause_spec.proofs.Places.{command_of, command_from}
use Rattle.clause_spec.proofs.Steps.{cmd}
use Rattle.normal_clause_spec.specs.Variables.{NormalVariable, OfBase, GivenIn, NormalLiteral, of_base, is_in, is_not_in, normal_number_of, normal_variable_count, normal_numbered}
use Rattle.normal_clause_spec.specs.Clauses.{NormalClause, can_keep, not_before, exactly_in, exactly, leaders, keepers, kept_clause, kept, normal_clauses}
use Rattle.normal_clause_spec.specs.Laws.{AreInNormalRange}
use Rattle.normal_clause_spec.proofs.Values.{Fine}

-- the rows before one are as many as a smaller number of rows, and a place in it comes on top
rows : (a b m j : ℕ) → a < b → j ≤ m → a * m + j ≤ b * m
rows a zero m j h k = absurd (omega arith)
rows a (suc b) m j h k = go (below_or_not a b) (rows a b m j)
  where
    go : (a < b) ⊎ (b ≤ a) → (a < b → j ≤ m → a * m + j ≤ b * m) → a * m + j ≤ suc b * m
    go (inl l) rest = let r = rest l k in let s = suc-mul b m in omega arith
    go (inr l) rest =
        let same : a ≡ b = omega arith in
        let e : a * m ≡ b * m = ap (λ x. x * m) same in
        let s = suc-mul b m in
        omega arith

module _ (d : Station) (routes : List Route) (n : ℕ) where
  -- ---- variables

  route_range : (r : RouteNo) → In r (route_numbers routes) → (1 ≤ r.0) × (r.0 ≤ length routes)
  route_range r m =
      let number : ℕ → RouteNo = λ k. record { 0 = k } in
      let f = in_map_back number (one_to (length routes)) r m in
      let e : f.0 ≡ r.0 = ap (λ (q : RouteNo). q.0) f.2 in
      let k = in_count_back 1 (length routes) f.0 f.1 in
      let low = k.0 in let high = k.1 in
      (omega arith, omega arith)

  train_range : (t : TrainNo) → In t (map (λ k. record { 0 = k }) (one_to (length d.trains))) → (1 ≤ t.0) × (t.0 ≤ length d.trains)
  train_range t m =
      let number : ℕ → TrainNo = λ k. record { 0 = k } in
      let f = in_map_back number (one_to (length d.trains)) t m in
      let e : f.0 ≡ t.0 = ap (λ (q : TrainNo). q.0) f.2 in
      let k = in_count_back 1 (length d.trains) f.0 f.1 in
      let low = k.0 in let high = k.1 in
      (omega arith, omega arith)

  given_high : (c : Command) (i : ℕ) → In c (all_commands d routes) → i ≤ n → number_of d routes n (Given c i) ≤ length d.trains * length routes * n
  given_high c i m h =
      let o = command_of d routes c m in
      let t = train_range c.train o.train in
      let r = route_range c.route o.route in
      let tl = t.0 in let th = t.1 in let rl = r.0 in let rh = r.1 in
      let row = rows (c.train.0 - 1) (length d.trains) (length routes) (c.route.0 - 1 + 1) (omega arith) (omega arith) in
      rows ((c.train.0 - 1) * length routes + (c.route.0 - 1)) (length d.trains * length routes) n i (omega arith) h

  in_range : 1 ≤ n → (v : NormalVariable) → Fine d routes n v → (1 ≤ normal_number_of d routes n v) × (normal_number_of d routes n v ≤ normal_variable_count d routes n) × (normal_number_of d routes n v ≢ number_of d routes n (By n))
  in_range some (OfBase v) f =
      let low = number_low d routes n v f.0 in
      let high = number_below d routes n some v f.0 f.1 in
      below (number_of d routes n v) (variable_count d routes n) (length d.trains * length routes * n) low high
    where
      below : (x a b : ℕ) → 1 ≤ x → x < a → (1 ≤ x) × (x ≤ a + b) × (x ≢ a)
      below x a b low high = (low, omega arith, λ e. (let same : x ≡ a = e in absurd (omega arith)))
  in_range some (GivenIn c i) f =
      let low = number_low d routes n (Given c i) f in
      let high = given_high c i f.0 f.2 in
      behind (number_of d routes n (Given c i)) (variable_count d routes n) (length d.trains * length routes * n) low high
    where
      behind : (x a b : ℕ) → 1 ≤ x → x ≤ b → (1 ≤ a + x) × (a + x ≤ a + b) × (a + x ≢ a)
      behind x a b low high = (omega arith, omega arith, λ e. (let same : a + x ≡ a = e in absurd (omega arith)))

  -- ---- clauses

  abbrev pub FineAll : NormalClause → Type 0
  FineAll cl = (l : NormalLiteral) → In l cl → Fine d routes n l.variable

  fine_at : (m l : NormalLiteral) → m ≡ l → Fine d routes n m.variable → Fine d routes n l.variable
  fine_at m l e f = subst (λ (x : NormalLiteral). Fine d routes n x.variable) e f

  module _ (c : Command) (known : In c (all_commands d routes)) where
    then_fine : (i : ℕ) → 1 ≤ i → i ≤ n → FineAll (is_not_in c i ∷ of_base (yes (Given c i)) ∷ [])
    then_fine i low high l (inl e) = fine_at (is_not_in c i) l e (known, low, high)
    then_fine i low high l (inr (inl e)) = fine_at (of_base (yes (Given c i))) l e ((known, low, high), tt)
    then_fine i low high l (inr (inr m)) = absurd m

    before_fine : (i : ℕ) → i + 1 ≤ n → (cl : NormalClause) → In cl (not_before d routes n c i) → FineAll cl
    before_fine zero high cl m = absurd m
    before_fine (suc i) high cl (inr m) = absurd m
    before_fine (suc i) high cl (inl e) = subst FineAll e all
      where
        all : FineAll (is_not_in c (suc (suc i)) ∷ of_base (no (Given c (suc i))) ∷ [])
        all l (inl f) = fine_at (is_not_in c (suc (suc i))) l f (known, omega arith, omega arith)
        all l (inr (inl f)) = fine_at (of_base (no (Given c (suc i)))) l f ((known, omega arith, omega arith), tt)
        all l (inr (inr m)) = absurd m

    if_fine : (i : ℕ) → i ≤ n → FineAll (map of_base (if_given c i))
    if_fine zero high l m = absurd m
    if_fine (suc i) high l (inl e) = fine_at (of_base (yes (Given c (suc i)))) l e ((known, omega arith, high), tt)
    if_fine (suc i) high l (inr m) = absurd m

    new_fine : (i : ℕ) → 1 ≤ i → i ≤ n → FineAll (of_base (no (Given c i)) ∷ map of_base (if_given c (i - 1)) ++ is_in c i ∷ [])
    new_fine i low high l (inl e) = fine_at (of_base (no (Given c i))) l e ((known, low, high), tt)
    new_fine i low high l (inr m) = go (in_append l (map of_base (if_given c (i - 1))) (is_in c i ∷ []) m)
      where
        go : In l (map of_base (if_given c (i - 1))) ⊎ In l (is_in c i ∷ []) → Fine d routes n l.variable
        go (inl k) = if_fine (i - 1) (omega arith) l k
        go (inr (inl e)) = fine_at (is_in c i) l e (known, low, high)
        go (inr (inr k)) = absurd k

    exactly_in_fine : (i : ℕ) → 1 ≤ i → i ≤ n → (cl : NormalClause) → In cl (exactly_in d routes n c i) → FineAll cl
    exactly_in_fine i low high cl (inl e) = subst FineAll e (then_fine i low high)
    exactly_in_fine i low high cl (inr m) = go (in_append cl (not_before d routes n c (i - 1)) ((of_base (no (Given c i)) ∷ map of_base (if_given c (i - 1)) ++ is_in c i ∷ []) ∷ []) m)
      where
        go : In cl (not_before d routes n c (i - 1)) ⊎ In cl ((of_base (no (Given c i)) ∷ map of_base (if_given c (i - 1)) ++ is_in c i ∷ []) ∷ []) → FineAll cl
        go (inl k) = before_fine (i - 1) (omega arith) cl k
        go (inr (inl e)) = subst FineAll e (new_fine i low high)
        go (inr (inr k)) = absurd k

    keeper_known : (e : Command) → In e (leaders d routes n c ++ keepers d routes n c) → In e (all_commands d routes)
    keeper_known e m = go (in_append e (leaders d routes n c) (keepers d routes n c) m)
      where
        go : In e (leaders d routes n c) ⊎ In e (keepers d routes n c) → In e (all_commands d routes)
        go (inl k) =
            let f = in_map_back (cmd c.train) (leading_to routes (route_at routes c.route).start) e k in
            let w = in_filter_back (λ q. goes_on (route_at routes q).finish (route_at routes c.route).start) (route_numbers routes) f.0 f.1 in
            subst (λ x. In x (all_commands d routes)) f.2 (command_from d routes c.train f.0 (command_of d routes c known).train w.0)
        go (inr k) = (in_filter_back (λ g. not (is_train g.train c.train) && can_keep routes c.route g.route) (all_commands d routes) e k).0

    kept_fine : (i : ℕ) → 2 ≤ i → i ≤ n → FineAll (kept_clause d routes n c i)
    kept_fine i low high l (inl e) = fine_at (is_not_in c i) l e (known, omega arith, high)
    kept_fine i low high l (inr m) =
        let f = in_map_back (λ e. is_in e (i - 1)) (leaders d routes n c ++ keepers d routes n c) l m in
        fine_at (is_in f.0 (i - 1)) l f.2 (keeper_known f.0 f.1, omega arith, omega arith)

  -- what holds of each clause of the two families holds of all
  pub by_clause : (P : NormalClause → Type 0)
      → ((c : Command) → In c (all_commands d routes) → (i : ℕ) → 1 ≤ i → i ≤ n → (cl : NormalClause) → In cl (exactly_in d routes n c i) → P cl)
      → ((c : Command) → In c (all_commands d routes) → (i : ℕ) → 2 ≤ i → i ≤ n → P (kept_clause d routes n c i))
      → (cl : NormalClause) → In cl (normal_clauses d routes n) → P cl
  by_clause P one other cl m = go (in_append cl (flat_map (exactly d routes n) (all_commands d routes)) (flat_map (kept d routes n) (all_commands d routes)) m)
    where
      go : In cl (flat_map (exactly d routes n) (all_commands d routes)) ⊎ In cl (flat_map (kept d routes n) (all_commands d routes)) → P cl
      go (inl k) =
          let f = in_flat_map_back (exactly d routes n) (all_commands d routes) cl k in
          let g = in_flat_map_back (exactly_in d routes n f.0) (one_to n) cl f.2 in
          let r = in_count_back 1 n g.0 g.1 in
          let high = r.1 in
          one f.0 f.1 g.0 r.0 (omega arith) cl g.2
      go (inr k) =
          let f = in_flat_map_back (kept d routes n) (all_commands d routes) cl k in
          let g = in_map_back (kept_clause d routes n f.0) (count_from 2 (n - 1)) cl f.2 in
          let r = in_count_back 2 (n - 1) g.0 g.1 in
          let low = r.0 in let high = r.1 in
          subst P g.2 (other f.0 f.1 g.0 low (omega arith))

  pub all_fine : (cl : NormalClause) → In cl (normal_clauses d routes n) → FineAll cl
  all_fine = by_clause FineAll exactly_in_fine kept_fine

  pub normal_in_range : 1 ≤ n → AreInNormalRange d routes n
  normal_in_range some c m l i = go (in_append c (base_clauses d routes n) (map (map (normal_numbered d routes n)) (normal_clauses d routes n)) m)
    where
      below : (x a b : ℕ) → 1 ≤ x → x < a → (1 ≤ x) × (x ≤ a + b) × (x ≢ a)
      below x a b low high = (low, omega arith, λ e. (let same : x ≡ a = e in absurd (omega arith)))

      literal : (cl : NormalClause) → In cl (normal_clauses d routes n) → (x : NormalLiteral) → In x cl → normal_numbered d routes n x ≡ l
          → (1 ≤ l.var) × (l.var ≤ normal_variable_count d routes n) × (l.var ≢ number_of d routes n (By n))
      literal cl k x j e = subst (λ (y : Lit). (1 ≤ y.var) × (y.var ≤ normal_variable_count d routes n) × (y.var ≢ number_of d routes n (By n))) e (in_range some x.variable (all_fine cl k x j))

      go : In c (base_clauses d routes n) ⊎ In c (map (map (normal_numbered d routes n)) (normal_clauses d routes n)) → (1 ≤ l.var) × (l.var ≤ normal_variable_count d routes n) × (l.var ≢ number_of d routes n (By n))
      go (inl k) = let r = literals_in_range d routes n some c k l i in below l.var (variable_count d routes n) (length d.trains * length routes * n) r.0 r.1
      go (inr k) =
          let f = in_map_back (map (normal_numbered d routes n)) (normal_clauses d routes n) c k in
          let g = in_map_back (normal_numbered d routes n) f.0 l (subst (λ (y : List Lit). In l y) (sym f.2) i) in
          literal f.0 f.1 g.0 g.1 g.2
