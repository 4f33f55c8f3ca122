-- What is said of the numbers of variables is said of literals that are left.
use Rattle.std.proofs.Common.{◌≡◌, ℕ, Bool, true, false, not, ◌&&◌, if◌then◌else◌, cond, List, [], ◌∷◌, map, filter, Option, Some, None, refl, sym, ap, ap₂, subst, ◌∙◌}
use Rattle.std.specs.List.{list_any}
use Rattle.rail_base.specs.declared.station.Station.{Station}
use Rattle.rail_base.specs.declared.route.Route.{Route}
use Rattle.rail_base.specs.declared.plan.Command.{Command}
use Rattle.rail_base.proofs.Members.{In, in_filter, list_any_from, list_any_gives, same_bool}
use Rattle.rail_base.proofs.Lists.{in_filter_back, in_map}
use Rattle.rail_spec.specs.Plans.{is_command}
use Rattle.clause_spec.specs.Clauses.{Clause}
use Rattle.clause_spec.specs.Variables.{Given, Before as BeforeIn, Literal as BaseLiteral, is_pair, pairs}
use Rattle.clause_spec.proofs.Places.{pair_from, pair_of}
use Rattle.clause_spec.proofs.Facts.{contend_sym}
use Rattle.clause_spec.proofs.Steps.{is_command_same}
use Rattle.live_clause_spec.specs.Clauses.{denies_dead, without_dead}
use Rattle.live_clause_spec.specs.Variables.{both_live, is_dead, live_numbered, live_pairs}
use Rattle.live_clause_spec.proofs.Lists.{not_not}
use Rattle.cone_spec.specs.Clauses.{Before, Literal}
use Rattle.cone_clause.specs.Contentions.{among, before_number, used_number}
use Rattle.cone_clause.specs.Numbered.{base_literal}
use Rattle.cone_clause.proofs.Ordered.{pair_self, same_pair}
use Rattle.bound_clause.specs.declared.numbered.NumberedBound.{NumberedBound}
use Rattle.bound_clause.specs.Left.{signed_left}
use Rattle.bound_clause.specs.Said.{said_before}
use Rattle.bound_clause.specs.Spoken.{left, pairs_in, routes_in, station_of}
use Rattle.bound_clause.proofs.Parts.{left_in, one_left}
use Rattle.cone_spec.specs.Clauses.{Used}

-- each pair is there the other way round too
pub mirrored : (d : Station) (routes : List Route) (e c : Command) → In (e, c) (pairs d routes) → In (c, e) (pairs d routes)
mirrored d routes e c m = let p = pair_of d routes (e, c) m in pair_from d routes c e p.other p.one (contend_sym routes e c p.contend)

module _ (live : Command → Bool) (d : Station) (routes : List Route) where
  -- the commands that stand with one in a live pair are in a pair with it
  pub rival_before : (c : Command) (others : List Command) → map (λ e. (c, e)) others ≡ filter (λ p. is_command p.0 c) (live_pairs live d routes) → (e : Command) → In e others → In (e, c) (pairs d routes)
  rival_before c others run e m =
      let there : In (c, e) (filter (λ p. is_command p.0 c) (live_pairs live d routes)) = subst (λ (ps : List (Command × Command)). In (c, e) ps) run (in_map (λ (e : Command). (c, e)) others e m) in
      let kept = in_filter_back (λ (p : Command × Command). is_command p.0 c) (live_pairs live d routes) (c, e) there in
      mirrored d routes c e (in_filter_back (both_live live) (pairs d routes) (c, e) kept.0).0

module _ (live : Command → Bool) (d : Station) (routes : List Route) (n : ℕ) where
  -- a pair is one of the live ones exactly where both commands are live
  pair_live : (e c : Command) → In (e, c) (pairs d routes) → list_any (is_pair e c) (live_pairs live d routes) ≡ both_live live (e, c)
  pair_live e c m = same_bool (list_any (is_pair e c) (live_pairs live d routes)) (both_live live (e, c))
      (λ h.
      let f = list_any_gives (is_pair e c) (live_pairs live d routes) h in
      ap (both_live live) (sym (same_pair (e, c) f.0 f.2)) ∙ (in_filter_back (both_live live) (pairs d routes) f.0 f.1).1)
      (λ h. list_any_from (is_pair e c) (live_pairs live d routes) (e, c) (in_filter (both_live live) (pairs d routes) (e, c) m h) (pair_self (e, c)))

  -- ---- that some command that contends with one is given before it

  module _ (c : Command) where
    abbrev said : Command × Command → Literal
    said p = record { fact = Before p.1 c; negated = false }

    abbrev of_it : Command × Command → Bool
    of_it p = is_command p.0 c

    abbrev over : Command × Command → BaseLiteral
    over p = base_literal n (said p)

    abbrev kept : List (Command × Command) → Clause
    kept ps = without_dead live (map (base_literal n) (map said ps))

    denies_none : (ps : List (Command × Command)) → denies_dead live (map (base_literal n) (map said ps)) ≡ false
    denies_none [] = refl
    denies_none (p ∷ ps) = denies_none ps

    same_left : (ps : List (Command × Command)) → kept (filter of_it (filter (both_live live) ps)) ≡ kept (filter of_it ps)
    same_left [] = refl
    same_left (p ∷ ps) = go (of_it p) refl (both_live live p) refl (same_left ps)
      where
        turned : (a b : Bool) → (a && b) ≡ (b && a)
        turned true true = refl
        turned true false = refl
        turned false true = refl
        turned false false = refl

        alive : of_it p ≡ true → not (is_dead live (BeforeIn p.1 c)) ≡ both_live live p
        alive h = not_not (live p.1 && live c) ∙ (turned (live p.1) (live c) ∙ ap (λ (x : Command). live x && live p.1) (is_command_same p.0 c h))

        go : (a : Bool) → of_it p ≡ a → (b : Bool) → both_live live p ≡ b → kept (filter of_it (filter (both_live live) ps)) ≡ kept (filter of_it ps)
            → kept (filter of_it (cond b (p ∷ filter (both_live live) ps) (filter (both_live live) ps))) ≡ kept (cond a (p ∷ filter of_it ps) (filter of_it ps))
        go true e true f rest =
            ap (λ x. kept (cond x (p ∷ filter of_it (filter (both_live live) ps)) (filter of_it (filter (both_live live) ps)))) e
            ∙ ap (λ (ls : Clause). cond (not (is_dead live (BeforeIn p.1 c))) (over p ∷ ls) ls) rest
        go true e false f rest = rest ∙ ap (λ x. cond x (over p ∷ kept (filter of_it ps)) (kept (filter of_it ps))) (sym (alive e ∙ f))
        go false e true f rest = ap (λ x. kept (cond x (p ∷ filter of_it (filter (both_live live) ps)) (filter of_it (filter (both_live live) ps)))) e ∙ rest
        go false e false f rest = rest

    -- of pairs that aren't live nothing is left of it
    pub rivals_left : left_in live d routes n (map said (filter of_it (live_pairs live d routes))) ≡ left_in live d routes n (said_before (pairs d routes) c)
    rivals_left =
        ap₂ (λ b cl. if b then None else Some (map (live_numbered live d routes n) cl))
        (denies_none (filter of_it (live_pairs live d routes)) ∙ sym (denies_none (filter of_it (pairs d routes)))) (same_left (pairs d routes))

module _ (c : NumberedBound) where
  pub used_left : (command : Command) (negated : Bool) (number : Option ℕ) → number ≡ used_number c.contention c.steps.count command → signed_left number negated ≡ left c (record { fact = Used command; negated = negated } ∷ [])
  used_left command negated number e =
      ap (λ o. signed_left o negated) e
      ∙ one_left (among c.contention) (station_of c) (routes_in c) c.steps.count (Given command c.steps.count) negated (among c.contention command) (sym (not_not (among c.contention command)))

  pub before_left : (pair : Command × Command) (negated : Bool) (number : Option ℕ) → In pair (pairs_in c) → number ≡ before_number c.contention c.steps.count pair.0 pair.1 → signed_left number negated ≡ left c (record { fact = Before pair.0 pair.1; negated = negated } ∷ [])
  before_left pair negated number m e =
      let alive = list_any (is_pair pair.0 pair.1) c.contention.pairs.now.pairs in
      ap (λ o. signed_left o negated) e
      ∙ one_left (among c.contention) (station_of c) (routes_in c) c.steps.count (BeforeIn pair.0 pair.1) negated alive
      (ap (list_any (is_pair pair.0 pair.1)) c.contention.paired ∙ (pair_live (among c.contention) (station_of c) (routes_in c) c.steps.count pair.0 pair.1 m ∙ sym (not_not (both_live (among c.contention) (pair.0, pair.1)))))
