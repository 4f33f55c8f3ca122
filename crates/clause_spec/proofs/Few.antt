-- How many pairs of commands a base within a limit has: the variable of each stands in clauses of its own.
use Rattle.std.proofs.Common.{◌≡◌, ℕ, ◌+◌, ◌*◌, ◌-◌, ◌≤◌, ◌⊎◌, inl, inr, Bool, true, false, if◌then◌else◌, List, [], ◌∷◌, ◌++◌, map, flat_map, length, nat_lt, Some, None, refl, arith}
use Rattle.std.proofs.lemmas.Bool.{ltb-false}
use Rattle.std.proofs.lemmas.List.Sums.{sum_by-cons, sum_by-append}
use Rattle.rail_base.specs.declared.station.Station.{Station}
use Rattle.rail_base.specs.declared.route.Route.{Route}
use Rattle.rail_base.specs.declared.plan.Command.{Command}
use Rattle.rail_base.specs.Numbering.{one_to}
use Rattle.rail_base.specs.Stations.{trains}
use Rattle.rail_base.proofs.Lists.{length-map}
use Rattle.rail_spec.specs.Plans.{all_commands}
use Rattle.clause_spec.specs.Variables.{pairs, numbered}
use Rattle.clause_spec.specs.Clauses.{Clause, all_given, base_clauses, clauses, excluded, first_pairs, in_order, literals, makes_visits, not_at_once, past_limit, starts_rightly, stays_given, waits}

-- other literals are as many
pub literals_told : {X Y : Type 0} (f : X → Y) (cs : List (List X)) → literals (map (map f) cs) ≡ literals cs
literals_told f [] = refl
literals_told {X} {Y} f (c ∷ cs) =
    let a = sum_by-cons (λ (ls : List Y). length ls) (map f c) (map (map f) cs) in
    let b = sum_by-cons (λ (ls : List X). length ls) c cs in
    let e = length-map f c in
    let r = literals_told f cs in
    omega arith

-- clauses that do not pass a limit have no more literals than that
pub within_limit : {X : Type 0} (limit sum : ℕ) (cs : List (List X)) → past_limit limit sum cs ≡ None → (literals cs ≡ 0) ⊎ (sum + literals cs ≤ limit)
within_limit limit sum [] h = inl refl
within_limit {X} limit sum (c ∷ cs) h = go (nat_lt limit (sum + length c)) refl h (within_limit limit (sum + length c) cs)
  where
    go : (b : Bool) → nat_lt limit (sum + length c) ≡ b → (if b then Some (sum + length c) else past_limit limit (sum + length c) cs) ≡ None
        → (past_limit limit (sum + length c) cs ≡ None → (literals cs ≡ 0) ⊎ (sum + length c + literals cs ≤ limit))
        → (literals (c ∷ cs) ≡ 0) ⊎ (sum + literals (c ∷ cs) ≤ limit)
    go true e k rest = absurd (cc)
    go false e k rest =
        let low : sum + length c ≤ limit = ltb-false limit (sum + length c) e in
        let all = sum_by-cons (λ (ls : List X). length ls) c cs in
        elim (rest k) [ inl z ↦ inr (omega arith) | inr z ↦ inr (omega arith) ]

-- a part in the middle has no more literals than all
part_literals : {X : Type 0} (prefix part back : List (List X)) → literals part ≤ literals ((prefix ++ part) ++ back)
part_literals {X} prefix part back =
    let a = sum_by-append (λ (ls : List X). length ls) (prefix ++ part) back in
    let b = sum_by-append (λ (ls : List X). length ls) prefix part in
    omega arith

module _ (d : Station) (routes : List Route) (n : ℕ) where
  -- what the variable of a pair says takes two literals at the least
  two_each : (p : Command × Command) → 2 ≤ literals (in_order d routes n p)
  two_each p = go (in_order d routes n p) refl
    where
      go : (cs : List Clause) → cs ≡ in_order d routes n p → 2 ≤ literals cs
      go [] e = absurd (cc)
      go (c ∷ cs) e =
          let all = sum_by-cons (λ (ls : Clause). length ls) c cs in
          let two : length c ≡ 2 = first c cs e in
          omega arith
        where
          first : (c : Clause) (cs : List Clause) → (c ∷ cs) ≡ in_order d routes n p → length c ≡ 2
          first c cs e = cc

  -- so of pairs, what their variables say takes twice as many
  pub orders_literals : (ps : List (Command × Command)) → 2 * length ps ≤ literals (flat_map (in_order d routes n) ps)
  orders_literals [] = omega arith
  orders_literals (p ∷ ps) =
      let all = sum_by-append (λ (ls : Clause). length ls) (in_order d routes n p) (flat_map (in_order d routes n) ps) in
      let one = two_each p in
      let rest = orders_literals ps in
      omega arith

  orders_among : literals (flat_map (in_order d routes n) (pairs d routes)) ≤ literals (clauses d routes n)
  orders_among = part_literals
      (flat_map (stays_given d routes n) (all_commands d routes)
      ++ flat_map (starts_rightly d routes n) (all_commands d routes)
      ++ flat_map (excluded d routes n) (trains d)
      ++ flat_map (not_at_once d routes n) (first_pairs d routes n)
      ++ flat_map (waits d routes n) (pairs d routes)
      ++ flat_map (makes_visits d routes n) (trains d))
      (flat_map (in_order d routes n) (pairs d routes)) (flat_map (all_given d routes n) (one_to (n - 1)))

  -- a base within a limit has half as many pairs at the most
  pub few_pairs : (limit : ℕ) → past_limit limit 0 (base_clauses d routes n) ≡ None → 2 * length (pairs d routes) ≤ limit
  few_pairs limit h =
      let orders = orders_literals (pairs d routes) in
      let among = orders_among in
      let told : literals (base_clauses d routes n) ≡ literals (clauses d routes n) = literals_told (numbered d routes n) (clauses d routes n) in
      elim (within_limit limit 0 (base_clauses d routes n) h) [ inl z ↦ omega arith | inr z ↦ omega arith ]
