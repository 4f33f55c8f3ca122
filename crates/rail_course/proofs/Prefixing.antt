-- The track ahead of a train is the prefix of its path that is granted to it.
use Rattle.std.proofs.Common.{◌≡◌, ℕ, zero, suc, ◌+◌, ◌≤◌, ◌<◌, ◌^◌, List, [], ◌∷◌, ◌++◌, map, flat_map, length, take, drop, get_or, refl, sym, ap, ◌∙◌, arith, append_assoc, length-append}
use Rattle.std.proofs.lemmas.List.{get_or-take}
use Rattle.rail_base.specs.declared.station.Station.{Station}
use Rattle.rail_base.specs.declared.station.EdgeNo.{EdgeNo}
use Rattle.rail_base.specs.declared.route.Route.{Route}
use Rattle.rail_base.specs.declared.route.RouteNo.{RouteNo}
use Rattle.rail_base.specs.declared.station.TrainNo.{TrainNo}
use Rattle.rail_base.specs.declared.state.TrainState.{TrainState}
use Rattle.rail_spec.specs.Motion.{next_speed}
use Rattle.rail_base.specs.Stations.{length_of}
use Rattle.rail_base.specs.Routes.{route_at}
use Rattle.rail_base.proofs.Lists.{length-map}
use Rattle.rail_motion.specs.declared.Span.{Span}
use Rattle.rail_motion.specs.Track.{stretch_of, stretches_of, IsRising, LeastAhead, NoneSlower}
use Rattle.rail_spec.specs.Track.{edge_ends}
use Rattle.rail_spec.specs.Dispatches.{Dispatch, stretch, stretches, rates, with_granted, authority, stood_after, moved}
use Rattle.rail_course.specs.declared.train_path.TrainPath.{TrainPath}
use Rattle.rail_course.specs.declared.prefixes.PathPrefix.{PathPrefix}
use Rattle.rail_course.specs.Prefixes.{prefix_of}
use Rattle.rail_course.specs.TrainPaths.{IsTrainPath}
use Rattle.rail_course.specs.Tracks.{routes_at}
use Rattle.rail_course.proofs.Numbered.{prefix_at, many_prefixes, take-map, length_within}

-- ---- the first edges of a path

ends_first : (d : Station) (o : ℕ) (es fs : List EdgeNo) → take (length es) (map (stretch d) (edge_ends d o (es ++ fs))) ≡ map (stretch d) (edge_ends d o es)
ends_first d o [] fs = refl
ends_first d o (e ∷ es) fs = ap (λ ss. stretch d (e, o + length_of d e) ∷ ss) (ends_first d (o + length_of d e) es fs)

edges_in_parts : (g : ℕ) (rs : List Route) → flat_map (λ (r : Route). r.edges) rs ≡ flat_map (λ (r : Route). r.edges) (take g rs) ++ flat_map (λ (r : Route). r.edges) (drop g rs)
edges_in_parts zero rs = refl
edges_in_parts (suc g) [] = refl
edges_in_parts (suc g) (r ∷ rs) = ap (λ es. r.edges ++ es) (edges_in_parts g rs) ∙ sym (append_assoc r.edges (flat_map (λ (q : Route). q.edges) (take g rs)) (flat_map (λ (q : Route). q.edges) (drop g rs)))

pub stretches_first : (d : Station) (rs : List Route) (g : ℕ) → take (prefix_of (take g rs)).spans (stretches d rs) ≡ stretches d (take g rs)
stretches_first d rs g =
    ap (λ es. take (length (flat_map (λ (r : Route). r.edges) (take g rs))) (map (stretch d) (edge_ends d 0 es))) (edges_in_parts g rs)
    ∙ ends_first d 0 (flat_map (λ (r : Route). r.edges) (take g rs)) (flat_map (λ (r : Route). r.edges) (drop g rs))

length-ends : (d : Station) (o : ℕ) (es : List EdgeNo) → length (map (stretch d) (edge_ends d o es)) ≡ length es
length-ends d o [] = refl
length-ends d o (e ∷ es) = ap suc (length-ends d (o + length_of d e) es)

length_take-least : (n : ℕ) (xs : List Span) → length (take n xs) ≤ n
length_take-least zero xs = omega arith
length_take-least (suc n) [] = omega arith
length_take-least (suc n) (x ∷ xs) = let l = length_take-least n xs in omega arith

pub rising_first : (n : ℕ) (spans : List Span) → n ≤ length spans → IsRising spans → IsRising (take n spans)
rising_first n spans fits h = λ i j other l m.
    let k : length (take n spans) ≤ n = length_take-least n spans in
    let less : i < n = omega arith in
    let near : j < n = omega arith in
    rw (get_or-take n spans i other less, get_or-take n spans j other near) (h i j other l (omega arith))

pub none_slower_first : (n : ℕ) (spans : List Span) → n ≤ length spans → NoneSlower spans → NoneSlower (take n spans)
none_slower_first n spans fits h = λ i j other l m.
    let k : length (take n spans) ≤ n = length_take-least n spans in
    let less : i < n = omega arith in
    let near : j < n = omega arith in
    rw (get_or-take n spans i other less, get_or-take n spans j other near) (h i j other l (omega arith))

pub least_first : (n : ℕ) (spans : List Span) → n ≤ length spans → LeastAhead spans → LeastAhead (take n spans)
least_first n spans fits h = λ i j m other l near within is.
    let k : length (take n spans) ≤ n = length_take-least n spans in
    let less : i < n = omega arith in
    let middle : j < n = omega arith in
    let last : m < n = omega arith in
    let mark : (get_or (take n spans) i other).least_in ≡ (get_or spans i other).least_in = ap (λ (s : Span). s.least_in) (get_or-take n spans i other less) in
    rw (get_or-take n spans m other last, get_or-take n spans j other middle) (h i j m other l near (omega arith) (omega arith))

pub length_of-take : {X : Type 0} (n : ℕ) (xs : List X) → n ≤ length xs → length (take n xs) ≡ n
length_of-take zero xs h = refl
length_of-take (suc n) [] h = absurd (omega arith)
length_of-take (suc n) (x ∷ xs) h = ap suc (length_of-take n xs (omega arith))

-- ---- the prefix of a train path

module _ (d : Station) (routes : List Route) (path : List RouteNo) (train_path : TrainPath) (is : IsTrainPath d routes path train_path) (g : ℕ) (within : g ≤ length path) where
  abbrev rs : List Route
  rs = routes_at routes path

  many : g ≤ length rs
  many = let l = length-map (route_at routes) path in omega arith

  pub prefix_fits : g < length train_path.prefixes.items
  prefix_fits = let a = ap length is.parts in let b = many_prefixes rs in let c = many in omega arith

  pub prefix_is : (other : PathPrefix) → get_or train_path.prefixes.items g other ≡ prefix_of (take g rs)
  prefix_is other = ap (λ fs. get_or fs g other) is.parts ∙ prefix_at rs g other many

  pub spans_fit : (prefix_of (take g rs)).spans ≤ length train_path.spans.items
  spans_fit =
      let a = sym (length-map stretch_of train_path.spans.items) ∙ ap length is.track ∙ length-ends d 0 (flat_map (λ (r : Route). r.edges) rs) in
      let b = ap length (edges_in_parts g rs) ∙ length-append (flat_map (λ (r : Route). r.edges) (take g rs)) (flat_map (λ (r : Route). r.edges) (drop g rs)) in
      omega arith

  pub spans_are : stretches_of (take (prefix_of (take g rs)).spans train_path.spans.items) ≡ stretches d (take g rs)
  spans_are = sym (take-map stretch_of (prefix_of (take g rs)).spans train_path.spans.items) ∙ ap (take (prefix_of (take g rs)).spans) is.track ∙ stretches_first d rs g

  pub prefix_short : (prefix_of (take g rs)).length < 2 ^ 47
  prefix_short = let h = is.range.below_2_47 in let l = length_within routes g path in omega arith

-- ---- a move

abbrev state : ℕ → ℕ → ℕ → ℕ → TrainState
state g x v n = record { granted = g; x = x; v = v; stood = n }

state_same : (g x y v w m n : ℕ) → x ≡ y → v ≡ w → m ≡ n → state g x v m ≡ state g y w n
state_same g x y v w m n p q r = cc

pub moved_is : (d : Station) (routes : List Route) (dispatch : Dispatch) (t : TrainNo) (old : TrainState) (g x v n : ℕ) → 1 ≤ g
    → v ≡ next_speed (rates d t) (stretches d (take g (routes_at routes (dispatch.path t)))) (authority d routes dispatch t (with_granted g old)) old.x old.v → x ≡ old.x + v
    → n ≡ stood_after d routes dispatch t (with_granted g old) → state g x v n ≡ moved d routes dispatch t old g
moved_is d routes dispatch t old zero x v n l s p w = absurd (omega arith)
moved_is d routes dispatch t old (suc g) x v n l s p w = state_same (suc g) x _ v _ n _ (p ∙ ap (λ u. old.x + u) s) s w
