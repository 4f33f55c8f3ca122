-- What is left of a cone's clause where commands that aren't live are never given.
use Rattle.std.proofs.Common.{◌≡◌, ℕ, ◌<◌, ◌⊎◌, inl, inr, Bool, true, false, cond, not, ◌&&◌, if◌then◌else◌, nat_lt, List, [], ◌∷◌, ◌++◌, map, filter, flat_map, Some, None, refl, sym, ap, ap₂, subst, ◌∙◌, arith, true≢false, leb-true, eq-eqb, eqb-true}
use Rattle.std.specs.List.{list_all}
use Rattle.std.proofs.lemmas.List.{map-append}
use Rattle.rail_base.specs.declared.station.Station.{Station}
use Rattle.rail_base.specs.declared.station.TrainNo.{TrainNo}
use Rattle.rail_base.specs.declared.route.Route.{Route}
use Rattle.rail_base.specs.declared.plan.Command.{Command}
use Rattle.rail_base.specs.Members.{all_neighbors}
use Rattle.rail_base.proofs.Lists.{in_append, in_append_left, in_flat_map, in_flat_map_back, in_map, in_map_back}
use Rattle.rail_base.proofs.Members.{In, and_both, and_left, and_right, false_unless, filter-append, list_all_at, list_any_from, list_any_gives, map-map}
use Rattle.rail_laws.proofs.Sums.{list_all_fails}
use Rattle.rail_spec.specs.Plans.{all_commands, contend, route_at}
use Rattle.clause_spec.specs.Variables.{pairs, Literal as BaseLiteral}
use Rattle.live_clause_spec.specs.Clauses.{denies_dead, left_of, without_dead}
use Rattle.live_clause_spec.specs.Listed.{is_live_for}
use Rattle.live_clause_spec.specs.Variables.{both_live, is_dead, live_commands, live_numbered, live_pairs}
use Rattle.live_clause_spec.proofs.Lists.{filter_map, filter_rows, not_not}
use Rattle.cone_spec.specs.declared.Cone.{Cone}
use Rattle.cone_spec.specs.declared.ConeTrain.{ConeTrain}
use Rattle.cone_spec.specs.Cones.{first_named, has_pair, is_free, is_named, named, unnamed}
use Rattle.cone_spec.specs.Validity.{holder_in_path, in_design, is_pair_before, pair_in_design, train_in_design, violation_in_design}
use Rattle.cone_spec.specs.Clauses.{Used, Before, Literal, before_literals, clause_of_cone, goes_further, is_closed, used_literals}
use Rattle.cone_spec.proofs.Naming.{IsNamed, has_route_in, in_has_route, listed_is, named_in_all, named_or_not, of_design}
use Rattle.cone_clause.specs.Numbered.{base_clause, base_literal, left_lit, names_only, variable_of}
use Rattle.cone_clause.proofs.ClauseOrder.{one_before, one_used}
use Rattle.cone_clause.proofs.Walked.{said, walked}

-- ---- in increasing order, each train is named by its own entry

abbrev is_earlier : ConeTrain → ConeTrain → Bool
is_earlier a b = nat_lt a.train.0 b.train.0

first_less : (x : ConeTrain) (cs : List ConeTrain) (c : ConeTrain) → all_neighbors is_earlier (x ∷ cs) ≡ true → In c cs → x.train.0 < c.train.0
first_less x [] c h m = absurd m
first_less x (y ∷ cs) c h (inl e) = subst (λ (z : ConeTrain). x.train.0 < z.train.0) e (leb-true _ _ (and_left (is_earlier x y) _ h))
first_less x (y ∷ cs) c h (inr m) =
    let a : x.train.0 < y.train.0 = leb-true _ _ (and_left (is_earlier x y) _ h) in
    let b = first_less y cs c (and_right (is_earlier x y) _ h) m in
    omega arith

rest_ordered : (x : ConeTrain) (cs : List ConeTrain) → all_neighbors is_earlier (x ∷ cs) ≡ true → all_neighbors is_earlier cs ≡ true
rest_ordered x [] h = refl
rest_ordered x (y ∷ cs) h = and_right (is_earlier x y) _ h

own_entry : (cs : List ConeTrain) (c : ConeTrain) → all_neighbors is_earlier cs ≡ true → In c cs → first_named c.train cs ≡ c
own_entry [] c h m = absurd m
own_entry (x ∷ cs) c h (inl e) = subst (λ (z : ConeTrain). first_named z.train (x ∷ cs) ≡ z) e (ap (λ b. cond b x (first_named x.train cs)) (eq-eqb x.train.0 x.train.0 refl))
own_entry (x ∷ cs) c h (inr m) =
    let l = first_less x cs c h m in
    ap (λ b. cond b x (first_named c.train cs)) (false_unless _ (λ t. let e = eqb-true x.train.0 c.train.0 t in absurd (omega arith)))
    ∙ own_entry cs c (rest_ordered x cs h) m

in_order : (d : Station) (routes : List Route) (k : Cone) → in_design d routes k ≡ true → all_neighbors is_earlier k.trains ≡ true
in_order d routes k h =
    let trains = list_all (train_in_design d routes k) k.trains in
    let holders = list_all (λ c. holder_in_path d routes k c.holder) k.trains in
    let listed = list_all (pair_in_design d routes k) k.pairs in
    let abcde = and_left (trains && all_neighbors is_earlier k.trains && holders && listed && all_neighbors is_pair_before k.pairs) (violation_in_design d routes k k.violation) h in
    let abcd = and_left (trains && all_neighbors is_earlier k.trains && holders && listed) (all_neighbors is_pair_before k.pairs) abcde in
    let abc = and_left (trains && all_neighbors is_earlier k.trains && holders) listed abcd in
    let ab = and_left (trains && all_neighbors is_earlier k.trains) holders abc in
    and_right trains (all_neighbors is_earlier k.trains) ab

-- ---- the commands of a cone

module _ (live : Command → Bool) (k : Cone) where
  -- where all of them are live, each is
  pub named_live : names_only live k ≡ true → (c : Command) → is_named k c ≡ true → live c ≡ true
  named_live h c m = go (named_or_not k.trains c.train)
    where
      route : In c.route (named k c.train).path
      route = has_route_in (named k c.train).path c.route m

      go : IsNamed k.trains c.train ⊎ (first_named c.train k.trains ≡ unnamed c.train) → live c ≡ true
      go (inl i) = subst (λ (t : TrainNo). live (record { train = t; route = c.route }) ≡ true) i.train
          (list_all_at (is_live_for live (named k c.train).train) (named k c.train).path c.route
          (list_all_at (λ (e : ConeTrain). list_all (is_live_for live e.train) e.path) k.trains (named k c.train) h i.member) route)
      go (inr e) = absurd (subst (λ (x : ConeTrain). In c.route x.path) e route)

-- ---- literals that deny

module _ (d : Station) (routes : List Route) (k : Cone) where
  -- those of commands that are named
  negated_used : (c : Command) (l : Literal) → In l (used_literals d routes k c) → l.negated ≡ true → is_named k c ≡ true
  negated_used c l m e = go (is_named k c) refl (is_closed d routes k c.train && goes_further (map (route_at routes) (named k c.train).path) (route_at routes c.route)) m
    where
      go : (a : Bool) → is_named k c ≡ a → (b : Bool) → In l (if a then record { fact = Used c; negated = true } ∷ [] else if b then record { fact = Used c; negated = false } ∷ [] else []) → is_named k c ≡ true
      go true p b s = p
      go false p true (inl s) = absurd (true≢false (sym e ∙ sym (ap (λ (x : Literal). x.negated) s)))
      go false p true (inr s) = absurd s
      go false p false s = absurd s

  -- those of pairs that are listed
  negated_before : (e c : Command) (l : Literal) → In l (before_literals d routes k e c) → l.negated ≡ true → has_pair k e c ≡ true
  negated_before e c l m h = go (has_pair k e c) refl (is_free k c && contend routes e c) m
    where
      go : (a : Bool) → has_pair k e c ≡ a → (b : Bool) → In l (if a then record { fact = Before e c; negated = true } ∷ [] else if b then record { fact = Before e c; negated = false } ∷ [] else []) → has_pair k e c ≡ true
      go true p b s = p
      go false p true (inl s) = absurd (true≢false (sym h ∙ sym (ap (λ (x : Literal). x.negated) s)))
      go false p true (inr s) = absurd s
      go false p false s = absurd s

  -- what is said of a command that is named
  says_named : (c : Command) → is_named k c ≡ true → In {X = Literal} (record { fact = Used c; negated = true }) (used_literals d routes k c)
  says_named c h = go (is_named k c) h (is_closed d routes k c.train && goes_further (map (route_at routes) (named k c.train).path) (route_at routes c.route))
    where
      go : (a : Bool) → a ≡ true → (b : Bool) → In {X = Literal} (record { fact = Used c; negated = true }) (if a then record { fact = Used c; negated = true } ∷ [] else if b then record { fact = Used c; negated = false } ∷ [] else [])
      go true p b = inl refl
      go false p b = absurd (true≢false (sym p))

  abbrev of_commands : List Literal
  of_commands = flat_map (used_literals d routes k) (all_commands d routes)

  abbrev of_orders : List Literal
  of_orders = flat_map (λ e. flat_map (before_literals d routes k e) (all_commands d routes)) (all_commands d routes)

module _ (live : Command → Bool) (d : Station) (routes : List Route) (n : ℕ) (k : Cone) (fits : in_design d routes k ≡ true) where
  -- ---- whether the clause denies what is dead

  negated_alive : names_only live k ≡ true → (l : Literal) → In l (clause_of_cone d routes k) → l.negated ≡ true → is_dead live (variable_of n l.fact) ≡ false
  negated_alive h l m e = go (in_append l (of_commands d routes k) (of_orders d routes k) m)
    where
      go : In l (of_commands d routes k) ⊎ In l (of_orders d routes k) → is_dead live (variable_of n l.fact) ≡ false
      go (inl i) =
          let c = in_flat_map_back (used_literals d routes k) (all_commands d routes) l i in
          ap (λ f. is_dead live (variable_of n f)) (one_used d routes k c.0 l c.2) ∙ ap not (named_live live k h c.0 (negated_used d routes k c.0 l c.2 e))
      go (inr i) =
          let a = in_flat_map_back (λ e. flat_map (before_literals d routes k e) (all_commands d routes)) (all_commands d routes) l i in
          let b = in_flat_map_back (before_literals d routes k a.0) (all_commands d routes) l a.2 in
          let names = listed_is d routes k (of_design d routes k fits) a.0 b.0 (negated_before d routes k a.0 b.0 l b.2 e) in
          ap (λ f. is_dead live (variable_of n f)) (one_before d routes k a.0 b.0 l b.2)
          ∙ ap not (and_both (live a.0) (live b.0) (named_live live k h a.0 names.first) (named_live live k h b.0 names.second))

  pub stays : names_only live k ≡ true → denies_dead live (base_clause d routes n k) ≡ false
  stays h = false_unless (denies_dead live (base_clause d routes n k)) (λ t.
      let f = list_any_gives (λ (l : BaseLiteral). l.negated && is_dead live l.variable) (base_clause d routes n k) t in
      let b = in_map_back (base_literal n) (clause_of_cone d routes k) f.0 f.1 in
      let test : (b.0.negated && is_dead live (variable_of n b.0.fact)) ≡ true = subst (λ (x : BaseLiteral). (x.negated && is_dead live x.variable) ≡ true) (sym b.2) f.2 in
      true≢false (sym (and_right b.0.negated (is_dead live (variable_of n b.0.fact)) test) ∙ negated_alive h b.0 b.1 (and_left b.0.negated (is_dead live (variable_of n b.0.fact)) test)))

  pub goes : names_only live k ≡ false → denies_dead live (base_clause d routes n k) ≡ true
  goes h =
      let f = list_all_fails (λ (e : ConeTrain). list_all (is_live_for live e.train) e.path) k.trains h in
      let g = list_all_fails (is_live_for live f.0.train) f.0.path f.2 in
      let c : Command = record { train = f.0.train; route = g.0 } in
      let own : named k f.0.train ≡ f.0 = own_entry k.trains f.0 (in_order d routes k fits) f.1 in
      let is : is_named k c ≡ true = in_has_route (named k f.0.train).path g.0 (subst (λ (x : ConeTrain). In g.0 x.path) (sym own) g.1) in
      let l : Literal = record { fact = Used c; negated = true } in
      let there = in_append_left l (of_commands d routes k) (of_orders d routes k)
      (in_flat_map (used_literals d routes k) (all_commands d routes) c l (named_in_all d routes k (of_design d routes k fits) c is) (says_named d routes k c is)) in
      list_any_from (λ (x : BaseLiteral). x.negated && is_dead live x.variable) (base_clause d routes n k) (base_literal n l) (in_map (base_literal n) (clause_of_cone d routes k) l there) (ap not g.2)

  -- ---- what is left of it

  abbrev kept : Literal → Bool
  kept l = not (is_dead live (variable_of n l.fact))

  used_left : filter kept (of_commands d routes k) ≡ flat_map (used_literals d routes k) (live_commands live d routes)
  used_left = filter_rows kept live (used_literals d routes k) (all_commands d routes) (λ c l m i. ap (λ f. not (is_dead live (variable_of n f))) (one_used d routes k c l i) ∙ not_not (live c))

  before_left : filter kept (of_orders d routes k) ≡ flat_map (said d routes k) (live_pairs live d routes)
  before_left =
      ap (filter kept) (walked d routes k fits)
      ∙ filter_rows kept (both_live live) (said d routes k) (pairs d routes) (λ p l m i. ap (λ f. not (is_dead live (variable_of n f))) (one_before d routes k p.0 p.1 l i) ∙ not_not (both_live live (p.0, p.1)))

  lits_left : map (live_numbered live d routes n) (without_dead live (base_clause d routes n k))
      ≡ map (left_lit live d routes n) (flat_map (used_literals d routes k) (live_commands live d routes)) ++ map (left_lit live d routes n) (flat_map (said d routes k) (live_pairs live d routes))
  lits_left =
      ap (map (live_numbered live d routes n)) (filter_map (λ (l : BaseLiteral). not (is_dead live l.variable)) kept (base_literal n) (clause_of_cone d routes k) (λ l m. refl))
      ∙ (map-map (live_numbered live d routes n) (base_literal n) (filter kept (clause_of_cone d routes k))
      ∙ (ap (map (left_lit live d routes n)) (filter-append kept (of_commands d routes k) (of_orders d routes k) ∙ ap₂ (λ xs ys. xs ++ ys) used_left before_left)
      ∙ map-append (left_lit live d routes n) (flat_map (used_literals d routes k) (live_commands live d routes)) (flat_map (said d routes k) (live_pairs live d routes))))

  pub left_none : names_only live k ≡ false → left_of live d routes n (base_clause d routes n k) ≡ None
  left_none h = ap (λ b. if b then None else Some (map (live_numbered live d routes n) (without_dead live (base_clause d routes n k)))) (goes h)

  pub left_some : names_only live k ≡ true → left_of live d routes n (base_clause d routes n k)
      ≡ Some (map (left_lit live d routes n) (flat_map (used_literals d routes k) (live_commands live d routes)) ++ map (left_lit live d routes n) (flat_map (said d routes k) (live_pairs live d routes)))
  left_some h = ap (λ b. if b then None else Some (map (live_numbered live d routes n) (without_dead live (base_clause d routes n k)))) (stays h) ∙ ap Some lits_left
