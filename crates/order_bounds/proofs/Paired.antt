-- The pairs of a set of commands that contend, by tests of their commands.
use Rattle.std.proofs.Common.{◌≡◌, ℕ, zero, suc, ◌≤◌, ◌<◌, Bool, true, false, ◌&&◌, List, [], ◌∷◌, map, filter, flat_map, length, slice_index_or, inl, inr, refl, sym, ap, subst, ◌∙◌, arith}
use Rattle.rail_base.specs.declared.station.Station.{Station}
use Rattle.rail_base.specs.declared.route.Route.{Route}
use Rattle.rail_base.specs.declared.plan.Command.{Command}
use Rattle.rail_base.specs.Members.{In}
use Rattle.rail_base.specs.Routes.{IsRoute}
use Rattle.rail_base.proofs.Lists.{in_filter_back, in_flat_map_back, in_map_back}
use Rattle.rail_base.proofs.Members.{list_any_from}
use Rattle.rail_spec.specs.Plans.{all_commands, contend, is_command}
use Rattle.clause_spec.proofs.Steps.{is_command_self}
use Rattle.live_clause_spec.specs.Variables.{live_pairs}
use Rattle.live_clause_spec.proofs.Lists.{filter_map, filter_none, flat_map_kept}
use Rattle.command_set.specs.Commands.{AreCommandsOf, is_among}
use Rattle.command_set.proofs.Lists.{filter_parts}
use Rattle.command_set.proofs.Tests.{of_a_train}
use Rattle.live_contending.proofs.Listed.{set_by_firsts, set_route}
use Rattle.live_contending.proofs.Placing.{first_of, from}

-- what stands at an index is in the list
pub in_at : {X : Type 0} (xs : List X) (i : ℕ) (other : X) → i < length xs → In (slice_index_or xs i other) xs
in_at [] i other less = absurd (omega arith)
in_at (x ∷ xs) zero other less = inl refl
in_at (x ∷ xs) (suc i) other less = inr (in_at xs i other (omega arith))

module _ (cs : List Command) (d : Station) (routes : List Route) (are : AreCommandsOf d routes cs) where
  -- the commands that contend with one
  abbrev found : Command → List Command
  found e = filter (contend routes e) cs

  -- the pairs of which the first command passes one test and the second another
  pub pairs_passing : (one other : Command → Bool) → filter (λ (p : Command × Command). one p.0 && other p.1) (live_pairs (is_among cs) d routes) ≡ flat_map (λ e. map (λ c. (e, c)) (filter other (found e))) (filter one cs)
  pairs_passing one other =
      ap (filter both) (set_by_firsts cs d routes are)
      ∙ (filter_parts both (from found) cs
      ∙ flat_map_kept one (λ e. filter both (from found e)) (λ e. map (λ c. (e, c)) (filter other (found e))) cs (λ e m h. some e h) (λ e m h. none e h))
    where
      both : Command × Command → Bool
      both p = one p.0 && other p.1

      some : (e : Command) → one e ≡ true → filter both (from found e) ≡ map (λ c. (e, c)) (filter other (found e))
      some e h = filter_map both other (λ (c : Command). (e, c)) (found e) (λ c m. ap (λ b. b && other c) h)

      none : (e : Command) → one e ≡ false → filter both (from found e) ≡ []
      none e h = filter_none both (from found e) (λ p m. ap (λ (x : Command). one x && other p.1) (first_of found e p m) ∙ ap (λ b. b && other p.1) h)

  -- both are commands of the set
  pub pair_in : (p : Command × Command) → In p (live_pairs (is_among cs) d routes) → In p.0 cs × In p.1 cs
  pair_in p m =
      let e = in_flat_map_back (from found) cs p (subst (λ (ps : List (Command × Command)). In p ps) (set_by_firsts cs d routes are) m) in
      let c = in_map_back (λ (c : Command). (e.0, c)) (found e.0) p e.2 in (
        subst (λ (x : Command). In x cs) (ap (λ (q : Command × Command). q.0) c.2) e.1,
        subst (λ (x : Command). In x cs) (ap (λ (q : Command × Command). q.1) c.2) (in_filter_back (contend routes e.0) cs c.0 c.1).0,
      )

  -- of the design
  pub member_train : (c : Command) → In c cs → (1 ≤ c.train.0) × (c.train.0 ≤ length d.trains)
  member_train c m = of_a_train d routes c (in_filter_back (is_among cs) (all_commands d routes) c (subst (λ (xs : List Command). In c xs) (sym are) m)).0

  pub member_route : (c : Command) → In c cs → IsRoute routes c.route
  member_route c m = set_route cs d routes are c m

  pub among : (c : Command) → In c cs → is_among cs c ≡ true
  among c m = list_any_from (is_command c) cs c m (is_command_self c)
