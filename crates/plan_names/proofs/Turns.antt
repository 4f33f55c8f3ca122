-- What one turn of a loop over edges adds.
use Rattle.std.proofs.Common.{◌≡◌, ℕ, zero, suc, ◌+◌, ◌≤◌, ◌<◌, ℤ, Bool, true, false, ◌&&◌, List, [], ◌∷◌, ◌++◌, map, length, cond, take, get_or, bytes_eq, refl, sym, ap, ap₂, subst, ◌∙◌, arith, Result, Ok, Err}
use Rattle.std.specs.Prelude.{MatchResult}
use Rattle.std.specs.Result.{IsOk}
use Rattle.std.proofs.lemmas.List.{length-map}
use Rattle.rail_base.specs.declared.station.Station.{Station}
use Rattle.rail_base.specs.declared.station.EdgeNo.{EdgeNo}
use Rattle.rail_base.specs.declared.station.NodeNo.{NodeNo}
use Rattle.rail_base.specs.declared.station.End.{End}
use Rattle.rail_base.specs.declared.route.Route.{Route}
use Rattle.rail_base.specs.Admission.{is_admitted}
use Rattle.rail_base.specs.Members.{In}
use Rattle.rail_base.specs.Stations.{edge_of, far_end, through, IsEdge}
use Rattle.rail_spec.specs.Track.{routes_of}
use Rattle.rail_laws.specs.Elementary.{reached}
use Rattle.rail_base.proofs.Admitting.{admitted}
use Rattle.rail_base.proofs.Contained.{in_at}
use Rattle.rail_laws.proofs.RouteLaws.{route_is, walk_edges}
use Rattle.rail_laws.proofs.AsEdges.{told}
use Rattle.plan_names.specs.Edges.{AreEdges}
use Rattle.plan_names.specs.Shown.{edge_name, edge_names, direction, directed, routes_over, same_names}

pub many_apart : (xs ys : List (List ℕ)) → (length xs ≡ length ys → ⊥) → same_names xs ys ≡ false
many_apart [] [] h = absurd (h refl)
many_apart [] (y ∷ ys) h = refl
many_apart (x ∷ xs) [] h = refl
many_apart (x ∷ xs) (y ∷ ys) h = and_false (bytes_eq x y) _ (many_apart xs ys (λ e. h (omega arith)))
  where
    and_false : (a b : Bool) → b ≡ false → (a && b) ≡ false
    and_false a b e = grind arith

pub lengths_apart : {X : Type 0} (f : X → List ℕ) (xs ys : List X) → (length xs ≡ length ys → ⊥) → same_names (map f xs) (map f ys) ≡ false
lengths_apart f xs ys h = many_apart (map f xs) (map f ys) (λ e. h (sym (length-map xs f) ∙ e ∙ length-map ys f))

one_more : (i : ℕ) → suc i ≡ i + 1
one_more i = omega arith

module _ (d : Station) where
  next_directed : (es : List EdgeNo) (ns : List (NodeNo × ℤ)) (i : ℕ) (e : EdgeNo) (n : NodeNo × ℤ) → i < length es → i < length ns
      → directed d (take (suc i) es) ns ≡ directed d (take i es) ns ++ (edge_name d (get_or es i e) ++ direction d (get_or es i e) (get_or ns i n).0) ∷ []
  next_directed [] ns i e n l m = absurd (omega arith)
  next_directed (g ∷ gs) [] i e n l m = absurd (omega arith)
  next_directed (g ∷ gs) (k ∷ ks) zero e n l m = refl
  next_directed (g ∷ gs) (k ∷ ks) (suc i) e n l m = ap (λ ts. (edge_name d g ++ direction d g k.0) ∷ ts) (next_directed gs ks i e n (omega arith) (omega arith))

  -- the names so far with that of this turn
  pub turn_directed : (es gs : List EdgeNo) (ns ms : List (NodeNo × ℤ)) (i : ℕ) (e : EdgeNo) (n : NodeNo × ℤ) {names : List (List ℕ)} {name : List ℕ}
      → gs ≡ es → ms ≡ ns → i < length gs → length es ≤ length ns → names ≡ directed d (take i es) ns
      → name ≡ edge_name d (get_or gs i e) ++ direction d (get_or gs i e) (get_or ms i n).0 → names ++ name ∷ [] ≡ directed d (take (i + 1) es) ns
  turn_directed es gs ns ms i e n {names} {name} f g l few before is =
      let less : i < length es = subst (λ ks. i < length ks) f l in
      let this : name ≡ edge_name d (get_or es i e) ++ direction d (get_or es i e) (get_or ns i n).0 =
      subst (λ ks. name ≡ edge_name d (get_or ks i e) ++ direction d (get_or ks i e) (get_or ns i n).0) f (subst (λ ks. name ≡ edge_name d (get_or gs i e) ++ direction d (get_or gs i e) (get_or ks i n).0) g is) in
      ap₂ (λ ts t. ts ++ t ∷ []) before this ∙ sym (next_directed es ns i e n less (omega arith)) ∙ ap (λ k. directed d (take k es) ns) (one_more i)

  over_next : (rs : List Route) (i : ℕ) (other : Route) (names : List (List ℕ)) → i < length rs
      → length (routes_over d (take (suc i) rs) names) ≡ length (routes_over d (take i rs) names) + cond (same_names (edge_names d (get_or rs i other)) names) 1 0
  over_next [] i other names l = absurd (omega arith)
  over_next (r ∷ rs) zero other names l = go (same_names (edge_names d r) names)
    where
      go : (b : Bool) → length (cond b (r ∷ []) []) ≡ 0 + cond b 1 0
      go true = refl
      go false = refl
  over_next (r ∷ rs) (suc i) other names l = go (same_names (edge_names d r) names) _ _ _ (over_next rs i other names (omega arith))
    where
      go : (b : Bool) (xs ys : List Route) (n : ℕ) → length xs ≡ length ys + n → length (cond b (r ∷ xs) xs) ≡ length (cond b (r ∷ ys) ys) + n
      go true xs ys n h = let e = h in omega arith
      go false xs ys n h = h

  pub next_over : (rs gs : List Route) (i : ℕ) (r other : Route) (names : List (List ℕ)) (b : Bool) → gs ≡ rs → i < length gs → r ≡ get_or gs i other → b ≡ same_names (edge_names d r) names
      → length (routes_over d (take (i + 1) rs) names) ≡ length (routes_over d (take i rs) names) + cond b 1 0
  next_over rs gs i r other names b e l is same =
      let this : same_names (edge_names d (get_or rs i other)) names ≡ b = ap (λ ks. same_names (edge_names d (get_or ks i other)) names) (sym e) ∙ ap (λ q. same_names (edge_names d q) names) (sym is) ∙ sym same in
      ap (λ k. length (routes_over d (take k rs) names)) (sym (one_more i)) ∙ over_next rs i other names (subst (λ ks. i < length ks) e l) ∙ ap (λ t. length (routes_over d (take i rs) names) + cond t 1 0) this

  pub edge_at : (es gs : List EdgeNo) (i : ℕ) (other : EdgeNo) → AreEdges d es → gs ≡ es → i < length gs → IsEdge d (get_or gs i other)
  edge_at es gs i other are same l = subst (λ ks. i < length ks → IsEdge d (get_or ks i other)) (sym same) (λ m. are (get_or es i other) (in_at es i other m)) l

  -- ---- the routes of an admitted design

  pub route_edges : is_admitted d ≡ true → (r : Route) → In r (routes_of d) → AreEdges d r.edges
  route_edges adm r m e k = let el = (route_is d (admitted d adm) r m).elementary in walk_edges d el.end r.edges el.walk e k

  as_many : (end : End) (es : List EdgeNo) → length (reached d end es) ≡ length es
  as_many end [] = refl
  as_many end (e ∷ es) = ap suc (as_many (through (far_end (edge_of d e) end)) es)

  pub route_nodes : is_admitted d ≡ true → (r : Route) → In r (routes_of d) → length r.edges ≤ length r.nodes
  route_nodes adm r m =
      let el = (route_is d (admitted d adm) r m).elementary in
      let many = ap length ((told d (admitted d adm) r m).nodes_are el.end el.leaves el.walk) in
      let one = length-map r.nodes (λ (n : NodeNo × ℤ). n.0) in
      let two = length-map (reached d el.end r.edges) (λ (e : End). e.node) in
      let three = as_many el.end r.edges in
      omega arith

-- what a loop takes from a table is in the list that the table is
pub of_table : {X : Type 0} (items table list : List X) (i : ℕ) (x other : X) → items ≡ table → table ≡ list → i < length items → x ≡ get_or items i other → In x list
of_table items table list i x other e f l is = subst (λ y. In y list) (sym is) (subst (λ ys. i < length ys → In (get_or ys i other) list) (sym (e ∙ f)) (λ m. in_at list i other m) l)

-- what is no error is there
pub there_unless : {T E : Type 0} (r : Result T E) (A : T → Type 0) (B : E → Type 0) → MatchResult r A B → ((e : E) → B e → ⊥) → IsOk r
there_unless (Ok x) A B m none = refl
there_unless (Err e) A B m none = absurd (none e m)
