-- What is left of all that is said, in the order of its variables and each literal once, is what is left of the clause.
use Rattle.std.proofs.Common.{◌≡◌, ℕ, ◌≤◌, Bool, true, false, not, ◌&&◌, if◌then◌else◌, List, map, None, Some, refl, sym, ap, subst, ◌∙◌, true≢false}
use Rattle.std.specs.List.{list_all}
use Rattle.rail_base.specs.declared.station.Station.{Station}
use Rattle.rail_base.specs.declared.route.Route.{Route}
use Rattle.rail_base.specs.declared.plan.Command.{Command}
use Rattle.rail_base.specs.Members.{all_neighbors, all_pairs}
use Rattle.rail_base.proofs.Members.{In, and_both, false_unless, in_filter, list_any_from, list_any_gives, same_bool}
use Rattle.rail_base.proofs.Lists.{in_filter_back, in_map, in_map_back, list_all_from}
use Rattle.rail_spec.specs.Plans.{all_commands}
use Rattle.sat_clause.specs.declared.lit.Lit.{Lit}
use Rattle.clause_spec.specs.Clauses.{Clause}
use Rattle.clause_spec.specs.Variables.{Literal as BaseLiteral}
use Rattle.live_clause_spec.specs.Clauses.{denies_dead, left_of, without_dead}
use Rattle.live_clause_spec.specs.Variables.{is_dead, live_numbered}
use Rattle.cone_spec.specs.Clauses.{Fact, Used, Before}
use Rattle.cone_clause.specs.Numbered.{base_literal, variable_of}
use Rattle.bound_spec.specs.declared.Bound.{Bound}
use Rattle.bound_spec.specs.Clauses.{is_named, is_kept_out, is_before, is_kept_behind, clause_of_bound}
use Rattle.bound_spec.specs.Validity.{names_design, is_consistent}
use Rattle.bound_clause.specs.Numbered.{base_clause_of_bound, left_if_consistent}
use Rattle.bound_clause.specs.Said.{said_literals}
use Rattle.bound_clause.specs.Order.{BothSigns, IsPutInOrder}
use Rattle.bound_clause.proofs.ClauseOrder.{clause_sorted}
use Rattle.bound_clause.proofs.Known.{all_known}
use Rattle.bound_clause.proofs.Ordering.{is_less, each_two, one_of_variable, same_members}
use Rattle.bound_clause.proofs.Parts.{left_in}
use Rattle.bound_clause.proofs.Rising.{left_rises}
use Rattle.bound_clause.proofs.Saying.{put_named, put_out, put_before, put_behind, said_in, in_said}

module _ (live : Command → Bool) (d : Station) (routes : List Route) (n : ℕ) (some : 1 ≤ n) (b : Bound) (names : names_design d routes b ≡ true) where
  abbrev clause : Clause
  clause = base_clause_of_bound d routes n b

  abbrev said : Clause
  said = map (base_literal n) (said_literals d routes b)

  abbrev number : BaseLiteral → Lit
  number = live_numbered live d routes n

  abbrev denied : BaseLiteral → Bool
  denied l = l.negated && is_dead live l.variable

  abbrev kept : BaseLiteral → Bool
  kept l = not (is_dead live l.variable)

  -- ---- what is said is what stands in the clause

  in_clause : (l : BaseLiteral) → In l said → In l clause
  in_clause l i =
      let k = in_map_back (base_literal n) (said_literals d routes b) l i in
      subst (λ (x : BaseLiteral). In x clause) k.2 (in_map (base_literal n) (clause_of_bound d routes b) k.0 (said_in d routes b names k.0 k.1))

  is_said : (l : BaseLiteral) → In l clause → In l said
  is_said l i =
      let k = in_map_back (base_literal n) (clause_of_bound d routes b) l i in
      subst (λ (x : BaseLiteral). In x said) k.2 (in_map (base_literal n) (said_literals d routes b) k.0 (in_said d routes b k.0 k.1))

  denies_alike : denies_dead live said ≡ denies_dead live clause
  denies_alike = same_bool (denies_dead live said) (denies_dead live clause)
      (λ h. let f = list_any_gives denied said h in list_any_from denied clause f.0 (in_clause f.0 f.1) f.2)
      (λ h. let f = list_any_gives denied clause h in list_any_from denied said f.0 (is_said f.0 f.1) f.2)

  -- where what is said denies what is dead, nothing is left
  pub none_denied : None ≡ left_in live d routes n (said_literals d routes b) → None ≡ left_if_consistent live d routes n b
  none_denied h = go (is_consistent d routes b) (denies_dead live said) h denies_alike
    where
      go : (c a : Bool) → None ≡ (if a then None else Some (map number (without_dead live said))) → a ≡ denies_dead live clause → None ≡ (if c then left_of live d routes n clause else None)
      go true true e f = ap (λ x. if x then None else Some (map number (without_dead live clause))) f
      go true false e f = absurd (cc)
      go false a e f = refl

  -- ---- the literals in order

  module _ (old new : List Lit) (is : Some old ≡ left_in live d routes n (said_literals d routes b)) (placed : IsPutInOrder old new) where
    none_or_all : (a : Bool) → Some old ≡ (if a then None else Some (map number (without_dead live said))) → (a ≡ false) × (old ≡ map number (without_dead live said))
    none_or_all true e = absurd (cc)
    none_or_all false e = (refl, cc)

    all : old ≡ map number (without_dead live said)
    all = (none_or_all (denies_dead live said) is).1

    undenied : denies_dead live clause ≡ false
    undenied = sym denies_alike ∙ (none_or_all (denies_dead live said) is).0

    abbrev of_clause : List Lit
    of_clause = map number (without_dead live clause)

    to : (x : Lit) → In x new → In x of_clause
    to x i =
        let k = in_map_back number (without_dead live said) x (subst (In x) all (placed.no_more x i)) in
        let m = in_filter_back kept said k.0 k.1 in
        subst (λ y. In y of_clause) k.2 (in_map number (without_dead live clause) k.0 (in_filter kept clause k.0 (in_clause k.0 m.0) m.1))

    from : (x : Lit) → In x of_clause → In x new
    from x i =
        let k = in_map_back number (without_dead live clause) x i in
        let m = in_filter_back kept clause k.0 k.1 in
        placed.kept x (subst (In x) (sym all) (subst (λ y. In y (map number (without_dead live said))) k.2 (in_map number (without_dead live said) k.0 (in_filter kept said k.0 (is_said k.0 m.0) m.1))))

    -- a fact does not stand there with both signs where the variables rise
    one_sign : all_pairs is_less new ≡ true → (f : Fact) → In (record { fact = f; negated = true }) (clause_of_bound d routes b) → In (record { fact = f; negated = false }) (clause_of_bound d routes b) → ⊥
    one_sign up f i j = true≢false (ap (λ (l : Lit). l.negated) same)
      where
        literal : Bool → BaseLiteral
        literal negated = base_literal n (record { fact = f; negated = negated })

        alive : is_dead live (variable_of n f) ≡ false
        alive = false_unless (is_dead live (variable_of n f)) (λ h. true≢false (sym (list_any_from denied clause (literal true) (in_map (base_literal n) (clause_of_bound d routes b) (record { fact = f; negated = true }) i) h) ∙ undenied))

        there : (negated : Bool) → In (record { fact = f; negated = negated }) (clause_of_bound d routes b) → In (number (literal negated)) new
        there negated m = from (number (literal negated)) (in_map number (without_dead live clause) (literal negated)
            (in_filter kept clause (literal negated) (in_map (base_literal n) (clause_of_bound d routes b) (record { fact = f; negated = negated }) m) (ap not alive)))

        same : number (literal true) ≡ number (literal false)
        same = one_of_variable new (number (literal true)) (number (literal false)) up (there true i) (there false j) refl

    not_both : (x y : Bool) → (x ≡ true → y ≡ true → ⊥) → not (x && y) ≡ true
    not_both true true h = absurd (h refl refl)
    not_both true false h = refl
    not_both false y h = refl

    consistent : all_pairs is_less new ≡ true → is_consistent d routes b ≡ true
    consistent up = and_both _ _
        (list_all_from (λ c. not (is_named d routes b c && is_kept_out d routes b c)) (all_commands d routes) (λ c m. not_both (is_named d routes b c) (is_kept_out d routes b c) (λ h k. one_sign up (Used c) (put_named d routes b c m h) (put_out d routes b c m k))))
        (list_all_from (λ e. list_all (λ c. not (is_before d routes b e c && is_kept_behind d routes b e c)) (all_commands d routes)) (all_commands d routes)
        (λ e i. list_all_from (λ c. not (is_before d routes b e c && is_kept_behind d routes b e c)) (all_commands d routes) (λ c m. not_both (is_before d routes b e c) (is_kept_behind d routes b e c) (λ h k. one_sign up (Before e c) (put_before d routes b e c i m h) (put_behind d routes b e c i m k)))))

    rises : is_consistent d routes b ≡ true → all_pairs is_less of_clause ≡ true
    rises h = let fits = and_both _ _ names h in left_rises live d routes n some (clause_of_bound d routes b) (all_known d routes b fits) (clause_sorted d routes b fits)

    so_left : (c : Bool) → is_consistent d routes b ≡ c → (if c then Some of_clause else None) ≡ left_if_consistent live d routes n b
    so_left c e = ap (λ x. if c then (if x then None else Some of_clause) else None) (sym undenied) ∙ ap (λ x. if x then left_of live d routes n clause else None) (sym e)

    pub listed : all_neighbors is_less new ≡ true → Some new ≡ left_if_consistent live d routes n b
    listed h =
        let up = each_two new h in
        let fits = consistent up in
        ap Some (same_members new of_clause up (rises fits) to from) ∙ so_left true fits

    pub none_listed : all_neighbors is_less new ≡ false → None ≡ left_if_consistent live d routes n b
    none_listed h = so_left false (false_unless (is_consistent d routes b) (λ fits. differ fits (placed.apart h)))
      where
        differ : is_consistent d routes b ≡ true → BothSigns new → ⊥
        differ fits (l, m, i, j, e, apart) = apart (one_of_variable of_clause l m (rises fits) (to l i) (to m j) e)
