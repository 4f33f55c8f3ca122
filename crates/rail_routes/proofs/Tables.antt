-- Which designs have their routes listed, and what these are like.
use Rattle.std.proofs.Common.{◌≡◌, ◌≢◌, ℕ, zero, suc, ◌≤◌, ◌<◌, ◌⊎◌, inl, inr, List, [], ◌∷◌, flat_map, take, length, Some, refl, sym, ap, subst, ◌∙◌, arith}
use Rattle.rail_base.specs.declared.station.Station.{Station}
use Rattle.rail_base.specs.declared.station.EdgeNo.{EdgeNo}
use Rattle.rail_base.specs.declared.route.Route.{Route}
use Rattle.rail_base.specs.Admitted.{IsAdmitted}
use Rattle.rail_base.specs.Members.{In}
use Rattle.rail_base.specs.Numbering.{first_of_list}
use Rattle.rail_base.specs.Stations.{IsEdge}
use Rattle.rail_base.proofs.Lists.{in_flat_map}
use Rattle.rail_base.proofs.Members.{below_or_not}
use Rattle.rail_spec.specs.Track.{RepeatsEdge, bad_edge, all_walks, edges_met_again, routes_of}
use Rattle.rail_laws.proofs.RouteLaws.{walk_edges, route_is}
use Rattle.rail_laws.proofs.BadWalk.{closed_are_routes}
use Rattle.rail_routes.specs.declared.fault.RouteFault.{RouteFault}
use Rattle.rail_routes.specs.declared.fault.RouteFault.TheVariants as fault
use Rattle.rail_routes.specs.Refusals.{HasFault, CanBeListed}

take-whole : {X : Type 0} (n : ℕ) (xs : List X) → length xs ≤ n → take n xs ≡ xs
take-whole n [] h = take-nothing n
  where
    take-nothing : {X : Type 0} (n : ℕ) → take {A = X} n [] ≡ []
    take-nothing zero = refl
    take-nothing (suc n) = refl
take-whole zero (x ∷ xs) h = absurd (omega arith)
take-whole (suc n) (x ∷ xs) h = ap (λ ys. x ∷ ys) (take-whole n xs (omega arith))

module _ (d : Station) where
  pub some_answer : CanBeListed d ⊎ ((e : EdgeNo) × HasFault d (fault.RepeatsEdge e)) ⊎ HasFault d fault.TooMany
  some_answer = go (edges_met_again d) refl (below_or_not 2000 (length (all_walks d)))
    where
      go : (es : List EdgeNo) → edges_met_again d ≡ es → (2000 < length (all_walks d)) ⊎ (length (all_walks d) ≤ 2000) → CanBeListed d ⊎ ((e : EdgeNo) × HasFault d (fault.RepeatsEdge e)) ⊎ HasFault d fault.TooMany
      go (e ∷ es) h k = inr (inl (e, ap first_of_list h))
      go [] h (inl many) = inr (inr (h, many))
      go [] h (inr few) = inl (record { once = h; at_most_2000 = few })

  none_met : edges_met_again d ≡ [] → (e : EdgeNo) → first_of_list (edges_met_again d) ≡ Some e → ⊥
  none_met h e f = let no : first_of_list [] ≡ Some e = ap first_of_list (sym h) ∙ f in cc

  pub not_both : CanBeListed d → (x : RouteFault) → x ≢ fault.Memory → HasFault d x → ⊥
  not_both l (fault.RepeatsEdge e) ne h = none_met l.once e h
  not_both l fault.TooMany ne h = let few = l.at_most_2000 in let many = h.1 in omega arith
  not_both l fault.Memory ne h = ne refl

  pub one_reason : (x y : RouteFault) → x ≢ fault.Memory → y ≢ fault.Memory → HasFault d x → HasFault d y → x ≡ y
  one_reason (fault.RepeatsEdge e) (fault.RepeatsEdge g) a b h k = let same : Some e ≡ Some g = sym h ∙ k in cc
  one_reason (fault.RepeatsEdge e) fault.TooMany a b h k = absurd (none_met k.0 e h)
  one_reason fault.TooMany (fault.RepeatsEdge g) a b h k = absurd (none_met h.0 g k)
  one_reason fault.TooMany fault.TooMany a b h k = refl
  one_reason fault.Memory y a b h k = absurd (a refl)
  one_reason (fault.RepeatsEdge e) fault.Memory a b h k = absurd (b refl)
  one_reason fault.TooMany fault.Memory a b h k = absurd (b refl)

  pub listed_all : CanBeListed d → length (routes_of d) ≡ length (all_walks d)
  listed_all l = closed_are_routes d (λ e m. no_edge e (in_flat_map bad_edge (all_walks d) (RepeatsEdge e) e m (inl refl)))
    where
      all : edges_met_again d ≡ flat_map bad_edge (all_walks d)
      all = ap (flat_map bad_edge) (take-whole 2001 (all_walks d) (let k = l.at_most_2000 in omega arith))

      no_edge : (e : EdgeNo) → In e (flat_map bad_edge (all_walks d)) → ⊥
      no_edge e m = subst (In e) (sym all ∙ l.once) m

  pub route_edge : IsAdmitted d → (r : Route) → In r (routes_of d) → (e : EdgeNo) → In e r.edges → IsEdge d e
  route_edge adm r m e k = let el = (route_is d adm r m).elementary in walk_edges d el.end r.edges el.walk e k
