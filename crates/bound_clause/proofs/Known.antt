-- The facts in the clause of a certificate are ones for which the base has a variable.
use Rattle.std.proofs.Common.{◌≡◌, ℕ, ◌≤◌, ◌∙◌, ◌⊎◌, inl, inr, Bool, true, false, not, ◌&&◌, ◌||◌, if◌then◌else◌, nat_le, List, [], ◌∷◌, flat_map, Option, None, Some, refl, sym, ap, subst, ◌∙◌, true≢false}
use Rattle.std.specs.List.{list_all}
use Rattle.rail_base.specs.declared.station.Station.{Station}
use Rattle.rail_base.specs.declared.route.Route.{Route}
use Rattle.rail_base.specs.declared.plan.Command.{Command}
use Rattle.rail_spec.specs.Plans.{route_at, is_train, share, contend, all_commands}
use Rattle.rail_base.specs.Members.{all_neighbors}
use Rattle.rail_base.proofs.Members.{In, and_left, and_right, and_both, either, list_all_at}
use Rattle.rail_base.proofs.Lists.{in_append, in_flat_map_back, in_map_back}
use Rattle.rail_laws.proofs.Given.{same_train}
use Rattle.clause_spec.proofs.Facts.{contend_sym}
use Rattle.cone_spec.specs.Cones.{has_pair, is_free}
use Rattle.cone_spec.specs.Validity as cone
use Rattle.cone_spec.specs.Clauses.{Used, Before, Literal}
use Rattle.cone_spec.proofs.Naming.{of_design, listed_is, has_route_in}
use Rattle.clause_spec.specs.Variables.{By, Literal as BaseLiteral}
use Rattle.clause_spec.proofs.Families.{KnownAll}
use Rattle.clause_spec.proofs.Numbers.{Known}
use Rattle.cone_clause.specs.Numbered.{base_literal}
use Rattle.cone_clause.proofs.Known.{IsKnown, fact_known, not_by}
use Rattle.bound_clause.specs.Numbered.{base_clause_of_bound}
use Rattle.bound_spec.specs.declared.Origin.{Origin}
use Rattle.bound_spec.specs.declared.Origin.TheVariants as origin
use Rattle.bound_spec.specs.declared.Leg.{Leg}
use Rattle.bound_spec.specs.declared.Bound.{Bound}
use Rattle.bound_spec.specs.Certificates.{VisitOf, routes_of_place, first_of_leg, last_of_leg, visit_from, cone_at, cone_of}
use Rattle.bound_spec.specs.Clauses.{any_next, is_at, meet_named, are_where_they_meet, joins, may_join, begins_at_once, is_named, is_kept_out, is_before, is_kept_behind, used_literals, before_literals, clause_of_bound}
use Rattle.bound_spec.specs.Validity.{contend_over_own, contends_with, contend_where_they_meet, origin_in_design, is_consistent, in_design, are_few_choices, places_of, most_places, requirement_in_design, is_empty, leg_in_design, last_leg}
use Rattle.bound_spec.specs.Certificates.{train_to}

-- two legs next to each other that pass the one test are in the other relation too
any_meets : (test rel : Leg → Leg → Bool) (ls : List Leg) → any_next test ls ≡ true → all_neighbors rel ls ≡ true → (l : Leg) × (m : Leg) × (test l m ≡ true) × (rel l m ≡ true)
any_meets test rel [] h k = absurd (true≢false (sym h))
any_meets test rel (l ∷ []) h k = absurd (true≢false (sym h))
any_meets test rel (l ∷ m ∷ ls) h k = go (either (test l m) (any_next test (m ∷ ls)) h) (λ later. any_meets test rel (m ∷ ls) later (and_right (rel l m) _ k))
  where
    go : (test l m ≡ true) ⊎ (any_next test (m ∷ ls) ≡ true) → (any_next test (m ∷ ls) ≡ true → (l : Leg) × (m : Leg) × (test l m ≡ true) × (rel l m ≡ true)) → (l : Leg) × (m : Leg) × (test l m ≡ true) × (rel l m ≡ true)
    go (inl here) later = (l, m, here, and_left (rel l m) _ k)
    go (inr h) later = later h

module _ (d : Station) (routes : List Route) (b : Bound) (fits : in_design d routes b ≡ true) where
  -- ---- what it says of the certificate

  without_last : (requirement_in_design d routes b.requirement && not (is_empty b.legs) && list_all (leg_in_design d routes) b.legs && nat_le (places_of b.legs) most_places && are_few_choices d routes b.legs && all_neighbors (contend_where_they_meet d routes) b.legs && is_train (last_leg b.legs).train (train_to d b.requirement) && origin_in_design d routes b b.origin (visit_from d b.requirement)) ≡ true
  without_last = and_left _ (is_consistent d routes b) fits

  pub consistent : is_consistent d routes b ≡ true
  consistent = and_right _ (is_consistent d routes b) fits

  origin_fits : origin_in_design d routes b b.origin (visit_from d b.requirement) ≡ true
  origin_fits = and_right _ (origin_in_design d routes b b.origin (visit_from d b.requirement)) without_last

  meet : all_neighbors (contend_where_they_meet d routes) b.legs ≡ true
  meet = and_right _ (all_neighbors (contend_where_they_meet d routes) b.legs) (and_left _ (is_train (last_leg b.legs).train (train_to d b.requirement)) (and_left _ (origin_in_design d routes b b.origin (visit_from d b.requirement)) without_last))

  -- ---- contending commands

  -- where two legs meet their commands contend
  meeting_contend : (e c : Command) (l m : Leg) → are_where_they_meet e c l m ≡ true → contend_where_they_meet d routes l m ≡ true → contend routes e c ≡ true
  meeting_contend e c l m at both =
      let on_l = and_left (is_at l (last_of_leg l) e) _ at in
      let on_m = and_right (is_at l (last_of_leg l) e) _ at in
      let t = same_train l.train e.train (and_left (is_train l.train e.train) _ on_l) in
      let u = same_train m.train c.train (and_left (is_train m.train c.train) _ on_m) in
      let r = has_route_in (routes_of_place (last_of_leg l)) e.route (and_right (is_train l.train e.train) _ on_l) in
      let q = has_route_in (routes_of_place (first_of_leg m)) c.route (and_right (is_train m.train c.train) _ on_m) in
      let one = list_all_at (λ r. contends_with d routes (record { train = l.train; route = r }) m.train (first_of_leg m)) (routes_of_place (last_of_leg l)) e.route both r in
      let two = list_all_at (λ q. contend_over_own d routes (record { train = l.train; route = e.route }) (record { train = m.train; route = q })) (routes_of_place (first_of_leg m)) c.route one q in
      let contending = and_left (contend routes (record { train = l.train; route = e.route }) (record { train = m.train; route = c.route })) _ two in
      subst (λ t. contend routes (record { train = t; route = e.route }) c ≡ true) t (subst (λ u. contend routes (record { train = l.train; route = e.route }) (record { train = u; route = c.route }) ≡ true) u contending)

  -- so do those that a cone lists
  listed_contend : (e c : Command) → has_pair (cone_of b) e c ≡ true → contend routes e c ≡ true
  listed_contend e c h = go b.origin refl (visit_from d b.requirement) refl origin_fits
    where
      of_cone : cone.in_design d routes (cone_of b) ≡ true → contend routes e c ≡ true
      of_cone fits = let one = listed_is d routes (cone_of b) (of_design d routes (cone_of b) fits) e c h in and_both (not (is_train e.train c.train)) (share (route_at routes e.route) (route_at routes c.route)) (ap not one.apart) one.sharing

      none : (o : Origin) → b.origin ≡ o → has_pair (cone_at b.requirement o) e c ≡ false → contend routes e c ≡ true
      none o eo unlisted = absurd (true≢false (sym h ∙ ap (λ o. has_pair (cone_at b.requirement o) e c) eo ∙ unlisted))

      go : (o : Origin) → b.origin ≡ o → (v : Option VisitOf) → visit_from d b.requirement ≡ v → origin_in_design d routes b o v ≡ true → contend routes e c ≡ true
      go (origin.Cone k cone) eo (Some v) ev k' = of_cone k'
      go (origin.Cone k cone) eo None ev k' = absurd (true≢false (sym k'))
      go origin.Visit eo v ev k' = none origin.Visit eo refl
      go origin.Start eo v ev k' = none origin.Start eo refl
      go origin.FirstTick eo v ev k' = none origin.FirstTick eo refl

  earlier_contend : (e c : Command) → is_before d routes b e c ≡ true → contend routes e c ≡ true
  earlier_contend e c h = go (either (any_next (joins e c) b.legs) (has_pair (cone_of b) e c) h)
    where
      go : (any_next (joins e c) b.legs ≡ true) ⊎ (has_pair (cone_of b) e c ≡ true) → contend routes e c ≡ true
      go (inr l) = listed_contend e c l
      go (inl j) = let a = any_meets (joins e c) (contend_where_they_meet d routes) b.legs j meet in meeting_contend e c a.0 a.1 (and_right (meet_named a.0 a.1) _ a.2) a.3

  behind_contend : (e c : Command) → is_kept_behind d routes b e c ≡ true → contend routes e c ≡ true
  behind_contend e c h = go (either _ (not (has_pair (cone_of b) e c) && is_free (cone_of b) c && contend routes e c) h)
    where
      two : (any_next (may_join c e) b.legs ≡ true) ⊎ ((begins_at_once d routes b b.origin (visit_from d b.requirement) c && contend routes e c) ≡ true) → contend routes e c ≡ true
      two (inl j) =
          let a = any_meets (may_join c e) (contend_where_they_meet d routes) b.legs j meet in
          contend_sym routes c e (meeting_contend c e a.0 a.1 (and_right (not (meet_named a.0 a.1)) _ a.2) a.3)
      two (inr k) = and_right (begins_at_once d routes b b.origin (visit_from d b.requirement) c) _ k

      go : ((any_next (may_join c e) b.legs || (begins_at_once d routes b b.origin (visit_from d b.requirement) c && contend routes e c)) ≡ true) ⊎ ((not (has_pair (cone_of b) e c) && is_free (cone_of b) c && contend routes e c) ≡ true) → contend routes e c ≡ true
      go (inl k) = two (either (any_next (may_join c e) b.legs) _ k)
      go (inr k) = and_right (not (has_pair (cone_of b) e c) && is_free (cone_of b) c) _ k

  -- ---- literals

  -- a literal that is there where a test passes
  pub one_literal : (x : Bool) (l m : Literal) → In l (if x then m ∷ [] else []) → (x ≡ true) × (m ≡ l)
  one_literal true l m (inl e) = (refl, e)
  one_literal true l m (inr e) = absurd e
  one_literal false l m e = absurd e

  used_known : (c : Command) (l : Literal) → In c (all_commands d routes) → In l (used_literals d routes b c) → IsKnown d routes l.fact
  used_known c l m i = go (in_append l (if is_named d routes b c then record { fact = Used c; negated = true } ∷ [] else []) _ i)
    where
      go : In l (if is_named d routes b c then record { fact = Used c; negated = true } ∷ [] else []) ⊎ In l (if is_kept_out d routes b c then record { fact = Used c; negated = false } ∷ [] else []) → IsKnown d routes l.fact
      go (inl k) = subst (λ (x : Literal). IsKnown d routes x.fact) (one_literal (is_named d routes b c) l _ k).1 m
      go (inr k) = subst (λ (x : Literal). IsKnown d routes x.fact) (one_literal (is_kept_out d routes b c) l _ k).1 m

  before_known : (e c : Command) (l : Literal) → In e (all_commands d routes) → In c (all_commands d routes) → In l (before_literals d routes b e c) → IsKnown d routes l.fact
  before_known e c l m n i = go (in_append l (if is_before d routes b e c then record { fact = Before e c; negated = true } ∷ [] else []) _ i)
    where
      go : In l (if is_before d routes b e c then record { fact = Before e c; negated = true } ∷ [] else []) ⊎ In l (if is_kept_behind d routes b e c then record { fact = Before e c; negated = false } ∷ [] else []) → IsKnown d routes l.fact
      go (inl k) = let o = one_literal (is_before d routes b e c) l _ k in subst (λ (x : Literal). IsKnown d routes x.fact) o.1 (m, n, earlier_contend e c o.0)
      go (inr k) = let o = one_literal (is_kept_behind d routes b e c) l _ k in subst (λ (x : Literal). IsKnown d routes x.fact) o.1 (m, n, behind_contend e c o.0)

  pub all_known : (l : Literal) → In l (clause_of_bound d routes b) → IsKnown d routes l.fact
  all_known l i = go (in_append l (flat_map (used_literals d routes b) (all_commands d routes)) (flat_map (λ e. flat_map (before_literals d routes b e) (all_commands d routes)) (all_commands d routes)) i)
    where
      go : In l (flat_map (used_literals d routes b) (all_commands d routes)) ⊎ In l (flat_map (λ e. flat_map (before_literals d routes b e) (all_commands d routes)) (all_commands d routes)) → IsKnown d routes l.fact
      go (inl m) = let a = in_flat_map_back (used_literals d routes b) (all_commands d routes) l m in used_known a.0 l a.1 a.2
      go (inr m) =
          let a = in_flat_map_back (λ e. flat_map (before_literals d routes b e) (all_commands d routes)) (all_commands d routes) l m in
          let c = in_flat_map_back (before_literals d routes b a.0) (all_commands d routes) l a.2 in
          before_known a.0 c.0 l a.1 c.1 c.2

-- ---- over the variables of the base

pub known_bound : (d : Station) (routes : List Route) (n : ℕ) → 1 ≤ n → (b : Bound) → in_design d routes b ≡ true → KnownAll d routes n (base_clause_of_bound d routes n b)
known_bound d routes n some b fits l m =
    let f = in_map_back (base_literal n) (clause_of_bound d routes b) l m in
    subst (λ (x : BaseLiteral). Known d routes n x.variable) f.2 (fact_known d routes n some f.0.fact (all_known d routes b fits f.0 f.1))

-- no literal says that all is given by a step
pub none_by : (d : Station) (routes : List Route) (n : ℕ) (b : Bound) (l : BaseLiteral) → In l (base_clause_of_bound d routes n b) → (i : ℕ) → l.variable ≡ By i → ⊥
none_by d routes n b l m i e =
    let f = in_map_back (base_literal n) (clause_of_bound d routes b) l m in
    not_by n i f.0.fact (ap (λ (x : BaseLiteral). x.variable) f.2 ∙ e)
