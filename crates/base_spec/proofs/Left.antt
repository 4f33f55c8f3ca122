-- What is left of a clause in each base: when it is true, and which variables it has.
use Rattle.std.proofs.Common.{◌≡◌, ℕ, ◌+◌, ◌≤◌, ◌⊎◌, inl, inr, Bool, true, false, cond, ◌&&◌, ◌||◌, if◌then◌else◌, List, [], ◌∷◌, map, Some, None, refl, sym, ap, subst, ◌∙◌, arith, true≢false}
use Rattle.std.specs.Prelude.{◌≢◌, not}
use Rattle.rail_base.specs.declared.station.Station.{Station}
use Rattle.rail_base.specs.declared.route.Route.{Route}
use Rattle.rail_base.specs.declared.plan.Command.{Command}
use Rattle.rail_base.proofs.Members.{In, and_left, and_right, false_unless}
use Rattle.rail_base.proofs.Lists.{in_filter_back, in_map_back}
use Rattle.sat_clause.specs.declared.lit.Lit.{Lit}
use Rattle.sat_clause.specs.Clauses.{clause_holds}
use Rattle.clause_spec.specs.declared.question.BaseKind.{BaseKind}
use Rattle.clause_spec.specs.declared.question.BaseKind.TheVariants.{Plain, Sorted, Normal, Live}
use Rattle.clause_spec.specs.declared.question.Turns.{Turns}
use Rattle.clause_spec.specs.Variables.{Variable, By, Literal, numbered, number_of, variable_count}
use Rattle.clause_spec.specs.Clauses.{Clause}
use Rattle.clause_spec.specs.Models.{model_of}
use Rattle.clause_spec.proofs.Families.{KnownAll}
use Rattle.clause_spec.proofs.Numbers.{Known, number_low}
use Rattle.clause_spec.proofs.Variables.{number_high, one_number}
use Rattle.live_clause_spec.specs.Clauses.{denies_dead, without_dead}
use Rattle.live_clause_spec.specs.Live.{is_live}
use Rattle.live_clause_spec.specs.Variables.{is_dead, live_numbered}
use Rattle.live_clause_spec.proofs.Lists.{not_true}
use Rattle.live_clause_spec.proofs.Numbers.{live_number_high, live_number_low, one_live_number}
use Rattle.live_clause_spec.proofs.Spread.{clause_spread, dead_false, spread_says}
use Rattle.base_spec.specs.Bases.{HasModelFor, before_selectors, left_in, on_plain}
use Rattle.base_spec.proofs.Alike.{alike_on_base, known_over}

some_same : {c e : List Lit} → Some c ≡ Some e → c ≡ e
some_same p = cc

module _ (d : Station) (routes : List Route) (n : ℕ) (cl : Clause) (c : List Lit) where
  -- where something is left of it in the live base, nothing dead is denied
  live_left : (turns : Turns) → left_in (Live turns) d routes n cl ≡ Some c → (denies_dead (is_live d routes) cl ≡ false) × (map (live_numbered (is_live d routes) d routes n) (without_dead (is_live d routes) cl) ≡ c)
  live_left turns = go (denies_dead (is_live d routes) cl)
    where
      go : (b : Bool) → (if b then None else Some (map (live_numbered (is_live d routes) d routes n) (without_dead (is_live d routes) cl))) ≡ Some c
          → (b ≡ false) × (map (live_numbered (is_live d routes) d routes n) (without_dead (is_live d routes) cl) ≡ c)
      go true e = absurd (cc)
      go false e = (refl, some_same e)

  -- ---- its truth

  module _ (known : KnownAll d routes n cl) where
    -- values of the base make it true where they make the clause true on the plain base
    pub left_on_plain : (kind : BaseKind) → left_in kind d routes n cl ≡ Some c → (values : ℕ → Bool) → clause_holds values c ≡ clause_holds (on_plain kind d routes n values) (map (numbered d routes n) cl)
    left_on_plain Plain e values = ap (clause_holds values) (sym (some_same e))
    left_on_plain Sorted e values = ap (clause_holds values) (sym (some_same e))
    left_on_plain Normal e values = ap (clause_holds values) (sym (some_same e))
    left_on_plain (Live turns) e values =
        let l = live_left turns e in
        ap (clause_holds values) (sym l.1) ∙ clause_spread (is_live d routes) d routes n values cl known l.0

    -- those of a plan make it true where the clause is true of the plan
    pub left_of_plan : (kind : BaseKind) → left_in kind d routes n cl ≡ Some c → (plan : List (List Command)) (clauses : List (List Lit)) (m : HasModelFor kind d routes n plan clauses)
        → clause_holds m.values c ≡ clause_holds (model_of d routes n plan) (map (numbered d routes n) cl)
    left_of_plan kind e plan clauses m =
        left_on_plain kind e m.values
        ∙ alike_on_base (on_plain kind d routes n m.values) (model_of d routes n plan) (variable_count d routes n) m.of_plan (map (numbered d routes n) cl) (known_over d routes n cl known)

    -- ---- its numbers

    module _ (some : 1 ≤ n) (early : (x : Literal) → In x cl → x.variable ≡ By n → ⊥) where
      abbrev IsIn : BaseKind → ℕ → Type 0
      IsIn kind v = (1 ≤ v) × (v ≤ before_selectors kind d routes n + n) × (v ≢ before_selectors kind d routes n + n)

      plain_in : (l : Lit) → In l (map (numbered d routes n) cl) → (1 ≤ l.var) × (l.var ≤ variable_count d routes n) × (l.var ≢ number_of d routes n (By n))
      plain_in l i =
          let f = in_map_back (numbered d routes n) cl l i in
          let k = known f.0 f.1 in
          let last : n ≤ n = omega arith in
          subst (λ (x : Lit). (1 ≤ x.var) × (x.var ≤ variable_count d routes n) × (x.var ≢ number_of d routes n (By n))) f.2 (
            number_low d routes n f.0.variable k,
            number_high d routes n f.0.variable k,
            (λ same. early f.0 f.1 (one_number d routes n f.0.variable (By n) k (some, last) same)),
          )

      live_in : (turns : Turns) (l : Lit) → In l (map (live_numbered (is_live d routes) d routes n) (without_dead (is_live d routes) cl)) → IsIn (Live turns) l.var
      live_in turns l i =
          let live = is_live d routes in
          let f = in_map_back (live_numbered live d routes n) (without_dead live cl) l i in
          let g = in_filter_back (λ (x : Literal). not (is_dead live x.variable)) cl f.0 f.1 in
          let k = known f.0 g.0 in
          let alive = not_true (is_dead live f.0.variable) g.1 in
          let last : n ≤ n = omega arith in
          subst (λ (x : Lit). IsIn (Live turns) x.var) f.2 (
            live_number_low live d routes n f.0.variable k alive,
            live_number_high live d routes n f.0.variable k alive,
            (λ same. early f.0 g.0 (one_live_number live d routes n f.0.variable (By n) k alive (some, last) (let r : is_dead live (By n) ≡ false = refl in r) same)),
          )

      -- they are from 1 on, there are such, and none says that all is given by step n
      pub left_in_range : (kind : BaseKind) → left_in kind d routes n cl ≡ Some c → (l : Lit) → In l c → (1 ≤ l.var) × (l.var ≤ before_selectors kind d routes n + n) × (l.var ≢ before_selectors kind d routes n + n)
      left_in_range Plain e l i = plain_in l (subst (λ (x : List Lit). In l x) (sym (some_same e)) i)
      left_in_range Sorted e l i = plain_in l (subst (λ (x : List Lit). In l x) (sym (some_same e)) i)
      left_in_range Normal e l i = plain_in l (subst (λ (x : List Lit). In l x) (sym (some_same e)) i)
      left_in_range (Live turns) e l i = live_in turns l (subst (λ (x : List Lit). In l x) (sym (live_left turns e).1) i)

-- ---- what is denied

module _ (d : Station) (routes : List Route) (n : ℕ) (cl : Clause) (known : KnownAll d routes n cl) where
  -- values of the live base make it true, with dead variables false, where it denies what is dead
  denied_true : (turns : Turns) (values : ℕ → Bool) → denies_dead (is_live d routes) cl ≡ true → clause_holds (on_plain (Live turns) d routes n values) (map (numbered d routes n) cl) ≡ true
  denied_true turns values h = go cl known h
    where
      says : Variable → Bool
      says v = on_plain (Live turns) d routes n values (number_of d routes n v)

      one : (l : Literal) → Known d routes n l.variable → (l.negated && is_dead (is_live d routes) l.variable) ≡ true → cond l.negated (not (says l.variable)) (says l.variable) ≡ true
      one l k e =
          let dead = and_right l.negated (is_dead (is_live d routes) l.variable) e in
          let off : says l.variable ≡ false = spread_says (is_live d routes) d routes n values l.variable k ∙ dead_false (is_live d routes) d routes n values l.variable dead in
          ap (λ b. cond b (not (says l.variable)) (says l.variable)) (and_left l.negated (is_dead (is_live d routes) l.variable) e) ∙ ap not off

      or_left : (a b : Bool) → a ≡ true → (a || b) ≡ true
      or_left a b e = ap (λ x. x || b) e

      or_right : (a b : Bool) → b ≡ true → (a || b) ≡ true
      or_right true b e = refl
      or_right false b e = e

      split : (a b : Bool) → (a || b) ≡ true → (a ≡ true) ⊎ (b ≡ true)
      split true b e = inl refl
      split false b e = inr e

      go : (ls : Clause) → KnownAll d routes n ls → denies_dead (is_live d routes) ls ≡ true → clause_holds (on_plain (Live turns) d routes n values) (map (numbered d routes n) ls) ≡ true
      go [] known h = absurd (cc)
      go (l ∷ ls) known h =
          let first = cond l.negated (not (says l.variable)) (says l.variable) in
          let rest = clause_holds (on_plain (Live turns) d routes n values) (map (numbered d routes n) ls) in
          elim (split (l.negated && is_dead (is_live d routes) l.variable) (denies_dead (is_live d routes) ls) h) [
            | inl e ↦ or_left first rest (one l (known l (inl refl)) e)
            | inr e ↦ or_right first rest (go ls (λ x m. known x (inr m)) e)
          ]

  -- of a clause that is false of a plan something is left, which is false by its values
  pub left_there : (kind : BaseKind) (plan : List (List Command)) (clauses : List (List Lit)) (m : HasModelFor kind d routes n plan clauses)
      → clause_holds (model_of d routes n plan) (map (numbered d routes n) cl) ≡ false → (e : List Lit) × (left_in kind d routes n cl ≡ Some e) × (clause_holds m.values e ≡ false)
  left_there kind plan clauses m denied = let f = there kind m in (f.0, f.1, left_of_plan d routes n cl f.0 known kind f.1 plan clauses m ∙ denied)
    where
      there : (kind : BaseKind) → HasModelFor kind d routes n plan clauses → (e : List Lit) × (left_in kind d routes n cl ≡ Some e)
      there Plain m = (map (numbered d routes n) cl, refl)
      there Sorted m = (map (numbered d routes n) cl, refl)
      there Normal m = (map (numbered d routes n) cl, refl)
      there (Live turns) m =
          let says = alike_on_base (on_plain (Live turns) d routes n m.values) (model_of d routes n plan) (variable_count d routes n) m.of_plan (map (numbered d routes n) cl) (known_over d routes n cl known) in
          let left = map (live_numbered (is_live d routes) d routes n) (without_dead (is_live d routes) cl) in
          (left, ap (λ b. if b then None else Some left) (false_unless (denies_dead (is_live d routes) cl) (λ h. true≢false (sym (denied_true turns m.values h) ∙ (says ∙ denied)))))
