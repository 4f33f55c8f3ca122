-- The names by which routes are shown are text.
use Rattle.std.proofs.Common.{◌≡◌, ℕ, inl, inr, Bool, true, false, ◌==◌, ℤ, List, [], ◌∷◌, ◌++◌, map, codes, if◌then◌else◌, IsUtf8, refl, subst}
use Rattle.std.proofs.lemmas.Str.{IsUtf8-append, IsUtf8-from_ascii}
use Rattle.json.proofs.Printed.Utf8.{IsUtf8-are_ascii}
use Rattle.rail_base.specs.declared.station.Station.{Station}
use Rattle.rail_base.specs.declared.station.NodeNo.{NodeNo}
use Rattle.rail_base.specs.declared.station.EdgeNo.{EdgeNo}
use Rattle.rail_base.specs.declared.route.Route.{Route}
use Rattle.rail_base.specs.Admission.{is_admitted}
use Rattle.rail_base.specs.Members.{In}
use Rattle.rail_base.specs.Stations.{edge_of, IsEdge}
use Rattle.rail_spec.specs.Track.{routes_of}
use Rattle.plan_text.proofs.Names.{all_low}
use Rattle.plan_names.specs.Edges.{AreEdges, AreTexts}
use Rattle.plan_names.specs.Shown.{edge_name, edge_names, direction, directed, directed_names, is_shared, shown}
use Rattle.plan_names.proofs.EdgeNames.{name_bytes}
use Rattle.plan_names.proofs.Turns.{route_edges}

arrow_text : (b : Bool) → IsUtf8 (if b then codes ">" else codes "<")
arrow_text true = IsUtf8-are_ascii (codes ">") refl
arrow_text false = IsUtf8-are_ascii (codes "<") refl

module _ (d : Station) (adm : is_admitted d ≡ true) where
  name_text : (e : EdgeNo) → IsEdge d e → IsUtf8 (edge_name d e)
  name_text e k = IsUtf8-from_ascii (edge_name d e) (all_low (edge_name d e) (name_bytes d adm e k))

  plain_texts : (es : List EdgeNo) → AreEdges d es → AreTexts (map (edge_name d) es)
  plain_texts [] are name m = absurd m
  plain_texts (e ∷ es) are name (inl same) = subst IsUtf8 same (name_text e (are e (inl refl)))
  plain_texts (e ∷ es) are name (inr m) = plain_texts es (λ g n. are g (inr n)) name m

  directed_texts : (es : List EdgeNo) (ns : List (NodeNo × ℤ)) → AreEdges d es → AreTexts (directed d es ns)
  directed_texts [] ns are name m = absurd m
  directed_texts (e ∷ es) [] are name m = absurd m
  directed_texts (e ∷ es) (n ∷ ns) are name (inl same) =
      subst IsUtf8 same (IsUtf8-append (edge_name d e) (direction d e n.0) (name_text e (are e (inl refl))) (arrow_text ((edge_of d e).from.node.0 == n.0.0)))
  directed_texts (e ∷ es) (n ∷ ns) are name (inr m) = directed_texts es ns (λ g k. are g (inr k)) name m

  pub shown_texts : (r : Route) → In r (routes_of d) → AreTexts (shown d (routes_of d) r)
  shown_texts r m = go (is_shared d (routes_of d) (edge_names d r))
    where
      go : (b : Bool) → AreTexts (if b then directed_names d r else edge_names d r)
      go true = directed_texts r.edges r.nodes (route_edges d adm r m)
      go false = plain_texts r.edges (route_edges d adm r m)
