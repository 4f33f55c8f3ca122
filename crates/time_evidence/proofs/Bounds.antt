-- A valid bound is so with less time.
use Rattle.std.proofs.Common.{◌≡◌, ℕ, ◌+◌, ◌≤◌, Bool, true, false, not, ◌&&◌, ◌||◌, if◌then◌else◌, nat_le, nat_lt, List, [], ◌∷◌, ◌++◌, flat_map, Option, None, Some, refl, sym, ap, subst, ◌∙◌, arith}
use Rattle.std.specs.List.{list_all}
use Rattle.std.proofs.lemmas.Bool.Decides.{nat_tests}
use Rattle.rail_base.specs.declared.station.Station.{Station}
use Rattle.rail_base.specs.declared.station.Within.{Within}
use Rattle.rail_base.specs.declared.route.Route.{Route}
use Rattle.rail_base.specs.declared.plan.Command.{Command}
use Rattle.rail_base.specs.Admission.{is_from}
use Rattle.rail_base.specs.Members.{all_neighbors}
use Rattle.rail_base.specs.Numbering.{entry}
use Rattle.rail_base.specs.Stations.{no_within}
use Rattle.rail_base.proofs.Members.{and_left, and_right, and_both}
use Rattle.rail_spec.specs.Plans.{is_train, contend, all_commands}
use Rattle.rail_spec.specs.Requirements.{most_ticks}
use Rattle.cone_spec.specs.Cones.{has_pair, is_free}
use Rattle.cone_spec.specs.Clauses.{Before}
use Rattle.bound_spec.specs.declared.Requirement.{Requirement}
use Rattle.bound_spec.specs.declared.Requirement.TheVariants as requirement
use Rattle.bound_spec.specs.declared.Origin.{Origin}
use Rattle.bound_spec.specs.declared.Origin.TheVariants as origin
use Rattle.bound_spec.specs.declared.Bound.{Bound}
use Rattle.bound_spec.specs.Certificates.{VisitOf, cone_of, last_of_leg, train_to, visit_from, visit_to}
use Rattle.bound_spec.specs.Clauses.{any_next, may_join, begins_at_once, is_named, is_kept_out, is_before, is_kept_behind, used_literals, clause_of_bound}
use Rattle.bound_spec.specs.Validity.{is_empty, places_of, most_places, most_looks, last_leg, legs_before_last, leg_in_design, contend_where_they_meet, are_few_choices, requirement_in_design, comes_before, is_used, reaches_target, are_ahead, stretches_of, followed, ticks_to, ticks_from_visit, passes_between, is_too_long, is_too_late, origin_in_design, is_consistent, names_design, in_design, origin_covered, covered, cone_shows, origin_shows, shows_failure, first_fault, fault_of}
use Rattle.time_evidence.proofs.Tighter.{AreTighter, fewer_ticks}
use Rattle.time_evidence.proofs.Cones as cones

-- a bound against which there is no reason passes all tests
record PassesAll (a b c : Bool) : Type 0 where
  first : a ≡ true
  second : b ≡ true
  third : c ≡ true

passes_all : (a b c : Bool) → first_fault a b c ≡ None → PassesAll a b c
passes_all false b c h = cc
passes_all true false c h = cc
passes_all true true false h = cc
passes_all true true true h = record { first = refl; second = refl; third = refl }

all_pass : (a b c : Bool) → a ≡ true → b ≡ true → c ≡ true → first_fault a b c ≡ None
all_pass a b c e f g = ap (λ x. first_fault x b c) e ∙ ap (λ x. first_fault true x c) f ∙ ap (first_fault true true) g

module _ (d : Station) (vs ws : List Within) (tighter : AreTighter vs ws) (routes : List Route) where
  abbrev more_time : Station
  more_time = record d { withins = ws }

  abbrev less_time : Station
  less_time = record d { withins = vs }

  -- ---- what is required

  requirement_same : (q : Requirement) → requirement_in_design less_time routes q ≡ requirement_in_design more_time routes q
  requirement_same (requirement.Within w) = ap (λ n. is_from 1 n w) tighter.many
  requirement_same (requirement.Order o) = refl
  requirement_same (requirement.Visit t k) = refl
  requirement_same (requirement.Grant c) = refl

  from_same : (q : Requirement) → visit_from less_time q ≡ visit_from more_time q
  from_same (requirement.Within w) = ap (λ (v : Within). Some (record { train = v.from_train; number = v.from_visit })) ((tighter.each w).is)
  from_same (requirement.Order o) = refl
  from_same (requirement.Visit t k) = refl
  from_same (requirement.Grant c) = refl

  to_same : (q : Requirement) → visit_to less_time q ≡ visit_to more_time q
  to_same (requirement.Within w) = ap (λ (v : Within). Some (record { train = v.to_train; number = v.to_visit })) ((tighter.each w).is)
  to_same (requirement.Order o) = refl
  to_same (requirement.Visit t k) = refl
  to_same (requirement.Grant c) = refl

  train_same : (q : Requirement) → train_to less_time q ≡ train_to more_time q
  train_same (requirement.Within w) = ap (λ (v : Within). v.to_train) ((tighter.each w).is)
  train_same (requirement.Order o) = refl
  train_same (requirement.Visit t k) = refl
  train_same (requirement.Grant c) = refl

  -- with less time no more ticks are allowed
  allowed : (w : ℕ) → most_ticks d (entry no_within vs w) ≤ most_ticks d (entry no_within ws w)
  allowed w = let t = tighter.each w in subst (λ (v : Within). most_ticks d v ≤ most_ticks d (entry no_within ws w)) (sym t.is) (fewer_ticks t.ms (entry no_within ws w).max_ms d.tick_ms t.less)

  more_than : (a b c : ℕ) → a ≤ b → nat_lt b c ≡ true → nat_lt a c ≡ true
  more_than a b c h e = grind (arith, nat_tests)

  too_long : (q : Requirement) (c : ℕ) → is_too_long more_time routes q c ≡ true → is_too_long less_time routes q c ≡ true
  too_long (requirement.Within w) c e = more_than (most_ticks d (entry no_within vs w)) (most_ticks d (entry no_within ws w)) c (allowed w) e
  too_long (requirement.Order o) c e = e
  too_long (requirement.Visit t k) c e = e
  too_long (requirement.Grant g) c e = e

  too_late : (q : Requirement) (k c : ℕ) → is_too_late more_time routes q k c ≡ true → is_too_late less_time routes q k c ≡ true
  too_late (requirement.Within w) k c e = let a = allowed w in more_than (k + most_ticks d (entry no_within vs w)) (k + most_ticks d (entry no_within ws w)) c (omega arith) e
  too_late (requirement.Order o) k c e = e
  too_late (requirement.Visit t v) k c e = e
  too_late (requirement.Grant g) k c e = e

  module _ (b : Bound) where
    -- ---- bound in design

    origin_same : (o : Origin) (v : Option VisitOf) → origin_in_design less_time routes b o v ≡ origin_in_design more_time routes b o v
    origin_same (origin.Cone k c) (Some v) = cones.in_design_same d vs ws tighter routes (cone_of b)
    origin_same (origin.Cone k c) None = refl
    origin_same origin.Visit v = refl
    origin_same origin.FirstTick v = refl
    origin_same origin.Start v = refl

    names_same : names_design less_time routes b ≡ names_design more_time routes b
    names_same =
        let from = ap (origin_in_design less_time routes b b.origin) (from_same b.requirement) ∙ origin_same b.origin (visit_from more_time b.requirement) in
        λ i. requirement_same b.requirement i && not (is_empty b.legs) && list_all (leg_in_design d routes) b.legs
        && nat_le (places_of b.legs) most_places && are_few_choices d routes b.legs
        && all_neighbors (contend_where_they_meet d routes) b.legs
        && is_train (last_leg b.legs).train (train_same b.requirement i) && from i

    behind_same : is_kept_behind less_time routes b ≡ is_kept_behind more_time routes b
    behind_same = λ i e c. any_next (may_join c e) b.legs
        || (begins_at_once d routes b b.origin (from_same b.requirement i) c && contend routes e c)
        || (not (has_pair (cone_of b) e c) && is_free (cone_of b) c && contend routes e c)

    pub consistent_same : is_consistent less_time routes b ≡ is_consistent more_time routes b
    consistent_same = ap (λ (behind : Command → Command → Bool).
        list_all (λ c. not (is_named d routes b c && is_kept_out d routes b c)) (all_commands d routes)
        && list_all (λ e. list_all (λ c. not (is_before d routes b e c && behind e c)) (all_commands d routes)) (all_commands d routes)) behind_same

    -- its clause is the same
    pub clause_same : clause_of_bound less_time routes b ≡ clause_of_bound more_time routes b
    clause_same = ap (λ (behind : Command → Command → Bool).
        flat_map (used_literals d routes b) (all_commands d routes)
        ++ flat_map (λ e. flat_map (λ c. (if is_before d routes b e c then record { fact = Before e c; negated = true } ∷ [] else [])
        ++ (if behind e c then record { fact = Before e c; negated = false } ∷ [] else [])) (all_commands d routes)) (all_commands d routes)) behind_same

    pub in_design_same : in_design less_time routes b ≡ in_design more_time routes b
    in_design_same = λ i. names_same i && consistent_same i

    -- ---- place covered

    covered_same : covered less_time routes b ≡ covered more_time routes b
    covered_same = λ i. list_all (λ l. all_neighbors (comes_before d routes) l.places) b.legs
        && list_all (λ l. is_used d routes l.train (last_of_leg l)) (legs_before_last b.legs)
        && reaches_target d routes b.requirement (to_same b.requirement i) (last_leg b.legs)
        && origin_covered d routes b b.origin (from_same b.requirement i)

    -- ---- bound shown

    passes_less : (h : ℕ) (from to : VisitOf) (one two : ℕ → Bool) → ((c : ℕ) → one c ≡ true → two c ≡ true) → passes_between d routes h from to b.legs one ≡ true → passes_between d routes h from to b.legs two ≡ true
    passes_less h from to one two more e = go (nat_le from.number 1) e
      where
        go : (first : Bool) → (if first then one (ticks_to d routes h (Some to) b.legs) else are_ahead d routes from to b.legs && one (ticks_from_visit d routes h from to b.legs)) ≡ true
            → (if first then two (ticks_to d routes h (Some to) b.legs) else are_ahead d routes from to b.legs && two (ticks_from_visit d routes h from to b.legs)) ≡ true
        go true k = more (ticks_to d routes h (Some to) b.legs) k
        go false k = and_both (are_ahead d routes from to b.legs) _ (and_left (are_ahead d routes from to b.legs) _ k)
            (more (ticks_from_visit d routes h from to b.legs) (and_right (are_ahead d routes from to b.legs) _ k))

    origin_less : (o : Origin) (from to : Option VisitOf) → origin_shows more_time routes b o from to ≡ true → origin_shows less_time routes b o from to ≡ true
    origin_less origin.Visit (Some from) (Some to) e = passes_less (followed d routes b.legs) from to (is_too_long more_time routes b.requirement) (is_too_long less_time routes b.requirement) (too_long b.requirement) e
    origin_less origin.Visit (Some from) None e = e
    origin_less origin.Visit None to e = e
    origin_less origin.FirstTick (Some from) to e = too_long b.requirement (ticks_to d routes (followed d routes b.legs) to b.legs) e
    origin_less origin.FirstTick None to e = e
    origin_less origin.Start (Some from) to e = e
    origin_less origin.Start None to e = e
    origin_less (origin.Cone k c) (Some from) to e =
        and_both (cone_shows d routes b k from) _ (and_left (cone_shows d routes b k from) _ e)
        (too_late b.requirement k (1 + ticks_to d routes (followed d routes b.legs) to b.legs) (and_right (cone_shows d routes b k from) _ e))
    origin_less (origin.Cone k c) None to e = e

    shows_less : shows_failure more_time routes b ≡ true → shows_failure less_time routes b ≡ true
    shows_less e =
        let few = nat_le (stretches_of d routes b.legs) most_looks in
        let shown = and_right few (origin_shows more_time routes b b.origin (visit_from more_time b.requirement) (visit_to more_time b.requirement)) e in
        let less = origin_less b.origin (visit_from more_time b.requirement) (visit_to more_time b.requirement) shown in
        let same : origin_shows less_time routes b b.origin (visit_from less_time b.requirement) (visit_to less_time b.requirement) ≡ origin_shows less_time routes b b.origin (visit_from more_time b.requirement) (visit_to more_time b.requirement)
        = λ i. origin_shows less_time routes b b.origin (from_same b.requirement i) (to_same b.requirement i) in
        and_both few (origin_shows less_time routes b b.origin (visit_from less_time b.requirement) (visit_to less_time b.requirement)) (and_left few _ e) (same ∙ less)

    pub bound_stays : fault_of more_time routes b ≡ None → fault_of less_time routes b ≡ None
    bound_stays h =
        let p = passes_all (in_design more_time routes b) (covered more_time routes b) (shows_failure more_time routes b) h in
        all_pass (in_design less_time routes b) (covered less_time routes b) (shows_failure less_time routes b) (in_design_same ∙ p.first) (covered_same ∙ p.second) (shows_less p.third)
