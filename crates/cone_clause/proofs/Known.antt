-- The facts in the clause of a cone are ones for which the base has a variable.
use Rattle.std.proofs.Common.{◌≡◌, ℕ, ◌≤◌, ◌⊎◌, inl, inr, Bool, true, false, not, ◌&&◌, if◌then◌else◌, List, [], ◌∷◌, map, flat_map, refl, ap, subst, ◌∙◌, le_refl}
use Rattle.rail_base.specs.declared.station.Station.{Station}
use Rattle.rail_base.specs.declared.route.Route.{Route}
use Rattle.rail_base.specs.declared.plan.Command.{Command}
use Rattle.cone_spec.specs.declared.Cone.{Cone}
use Rattle.rail_spec.specs.Plans.{route_at, is_train, share, contend, all_commands}
use Rattle.rail_base.proofs.Members.{In, and_right, and_both}
use Rattle.rail_base.proofs.Lists.{in_append, in_flat_map_back, in_map_back}
use Rattle.cone_spec.specs.Cones.{named, is_named, has_pair, is_free}
use Rattle.cone_spec.specs.Validity.{in_design}
use Rattle.cone_spec.specs.Clauses.{Fact, Used, Before, Literal, is_closed, goes_further, used_literals, before_literals, clause_of_cone}
use Rattle.cone_spec.proofs.Naming.{of_design, listed_is}
use Rattle.clause_spec.specs.Variables.{By, Literal as BaseLiteral}
use Rattle.clause_spec.proofs.Families.{KnownAll}
use Rattle.clause_spec.proofs.Numbers.{Known}
use Rattle.clause_spec.proofs.Places.{pair_from}
use Rattle.cone_clause.specs.Numbered.{base_clause, base_literal, variable_of}

-- a command of the design, or two that contend
abbrev pub IsKnown : Station → List Route → Fact → Type 0
IsKnown d routes (Used c) = In c (all_commands d routes)
IsKnown d routes (Before e c) = In e (all_commands d routes) × In c (all_commands d routes) × (contend routes e c ≡ true)

module _ (d : Station) (routes : List Route) (k : Cone) (fits : in_design d routes k ≡ true) where
  used_known : (c : Command) (l : Literal) → In c (all_commands d routes) → In l (used_literals d routes k c) → IsKnown d routes l.fact
  used_known c l m i = go (is_named k c) (is_closed d routes k c.train && goes_further (map (route_at routes) (named k c.train).path) (route_at routes c.route)) i
    where
      go : (a b : Bool) → In l (if a then record { fact = Used c; negated = true } ∷ [] else if b then record { fact = Used c; negated = false } ∷ [] else []) → IsKnown d routes l.fact
      go true b (inl e) = subst (λ (x : Literal). IsKnown d routes x.fact) e m
      go true b (inr e) = absurd e
      go false true (inl e) = subst (λ (x : Literal). IsKnown d routes x.fact) e m
      go false true (inr e) = absurd e
      go false false e = absurd e

  before_known : (e c : Command) (l : Literal) → In e (all_commands d routes) → In c (all_commands d routes) → In l (before_literals d routes k e c) → IsKnown d routes l.fact
  before_known e c l m n i = go (has_pair k e c) (is_free k c && contend routes e c) refl refl i
    where
      go : (a b : Bool) → has_pair k e c ≡ a → (is_free k c && contend routes e c) ≡ b
          → In l (if a then record { fact = Before e c; negated = true } ∷ [] else if b then record { fact = Before e c; negated = false } ∷ [] else []) → IsKnown d routes l.fact
      go true b p q (inl s) =
          let one = listed_is d routes k (of_design d routes k fits) e c p in
          subst (λ (x : Literal). IsKnown d routes x.fact) s (m, n, and_both (not (is_train e.train c.train)) (share (route_at routes e.route) (route_at routes c.route)) (ap not one.apart) one.sharing)
      go true b p q (inr s) = absurd s
      go false true p q (inl s) = subst (λ (x : Literal). IsKnown d routes x.fact) s (m, n, and_right (is_free k c) (contend routes e c) q)
      go false true p q (inr s) = absurd s
      go false false p q s = absurd s

  pub all_known : (l : Literal) → In l (clause_of_cone d routes k) → IsKnown d routes l.fact
  all_known l i = go (in_append l (flat_map (used_literals d routes k) (all_commands d routes)) (flat_map (λ e. flat_map (before_literals d routes k e) (all_commands d routes)) (all_commands d routes)) i)
    where
      go : In l (flat_map (used_literals d routes k) (all_commands d routes)) ⊎ In l (flat_map (λ e. flat_map (before_literals d routes k e) (all_commands d routes)) (all_commands d routes)) → IsKnown d routes l.fact
      go (inl m) = let a = in_flat_map_back (used_literals d routes k) (all_commands d routes) l m in used_known a.0 l a.1 a.2
      go (inr m) =
          let a = in_flat_map_back (λ e. flat_map (before_literals d routes k e) (all_commands d routes)) (all_commands d routes) l m in
          let b = in_flat_map_back (before_literals d routes k a.0) (all_commands d routes) l a.2 in
          before_known a.0 b.0 l a.1 b.1 b.2

-- ---- over the variables of the base

module _ (d : Station) (routes : List Route) (n : ℕ) (some : 1 ≤ n) where
  pub fact_known : (f : Fact) → IsKnown d routes f → Known d routes n (variable_of n f)
  fact_known (Used c) m = (m, some, le_refl n)
  fact_known (Before e c) m = pair_from d routes e c m.0 m.1 m.2

  pub known_cone : (k : Cone) → in_design d routes k ≡ true → KnownAll d routes n (base_clause d routes n k)
  known_cone k fits l m =
      let f = in_map_back (base_literal n) (clause_of_cone d routes k) l m in
      subst (λ (x : BaseLiteral). Known d routes n x.variable) f.2 (fact_known f.0.fact (all_known d routes k fits f.0 f.1))

-- no literal says that all is given by a step
pub not_by : (n i : ℕ) (f : Fact) → variable_of n f ≡ By i → ⊥
not_by n i (Used c) e = cc
not_by n i (Before a b) e = cc

pub none_by : (d : Station) (routes : List Route) (n : ℕ) (k : Cone) (l : BaseLiteral) → In l (base_clause d routes n k) → (i : ℕ) → l.variable ≡ By i → ⊥
none_by d routes n k l m i e =
    let f = in_map_back (base_literal n) (clause_of_cone d routes k) l m in
    not_by n i f.0.fact (ap (λ (x : BaseLiteral). x.variable) f.2 ∙ e)
