-- The spans of a path end one after the other.
use Rattle.std.proofs.Common.{◌≡◌, ℕ, ◌+◌, ◌<◌, ◌≤◌, inl, inr, nat_abs, ◌<ℤ◌, List, [], ◌∷◌, map, refl, sym, subst, arith}
use Rattle.std.proofs.lemmas.Int.{ints}
use Rattle.rail_base.specs.declared.station.Station.{Station}
use Rattle.rail_base.specs.declared.station.EdgeNo.{EdgeNo}
use Rattle.rail_base.specs.Members.{In, Pairs}
use Rattle.rail_base.specs.Stations.{length_of}
use Rattle.rail_base.proofs.Lists.{in_map, pairs_map, pairs_more}
use Rattle.rail_base.proofs.Contained.{all_pairs_of}
use Rattle.rail_motion.specs.declared.Span.{Span}
use Rattle.rail_motion.specs.Track.{stretch_of, stretches_of, IsRising}
use Rattle.rail_spec.specs.Motion.{SpanSeen}
use Rattle.rail_spec.specs.Track.{edge_ends}
use Rattle.rail_spec.specs.Dispatches.{stretch}

-- edges that have a length end one after the other, behind where the first begins
pub record Rise (d : Station) (o : ℕ) (es : List EdgeNo) : Type 0 where
  pub pairs : Pairs (λ (m n : EdgeNo × ℕ). m.1 < n.1) (edge_ends d o es)
  pub past : (m : EdgeNo × ℕ) → In m (edge_ends d o es) → o < m.1

past_of : (d : Station) (o : ℕ) (e : EdgeNo) (es : List EdgeNo) → 1 ≤ length_of d e → Rise d (o + length_of d e) es → (m : EdgeNo × ℕ) → In m (edge_ends d o (e ∷ es)) → o < m.1
past_of d o e es l later m (inl s) = subst (λ (n : EdgeNo × ℕ). o < n.1) s (omega arith)
past_of d o e es l later m (inr i) = let k = later.past m i in omega arith

pub ends_rise : (d : Station) (o : ℕ) (es : List EdgeNo) → ((e : EdgeNo) → In e es → 1 ≤ length_of d e) → Rise d o es
ends_rise d o [] h = record { pairs = tt; past = λ m i. absurd i }
ends_rise d o (e ∷ es) h =
    let later = ends_rise d (o + length_of d e) es (λ g m. h g (inr m)) in
    record { pairs = (later.past, later.pairs); past = past_of d o e es (h e (inl refl)) later }

-- members of a list that are so related through a function
pub pairs_map_back : {X Y : Type 0} (R : Y → Y → Type 0) (f : X → Y) (xs : List X) → Pairs R (map f xs) → Pairs (λ (a b : X). R (f a) (f b)) xs
pairs_map_back R f [] p = tt
pairs_map_back R f (x ∷ xs) p = (λ y m. p.0 (f y) (in_map f xs y m), pairs_map_back R f xs p.1)

below : (s t : Span) → nat_abs s.end < nat_abs t.end → s.end <ℤ t.end
below s t h = let a = s.end_range.at_least in let b = t.end_range.at_least in omega (arith, ints)

pub spans_rise : (d : Station) (spans : List Span) (es : List EdgeNo) → ((e : EdgeNo) → In e es → 1 ≤ length_of d e) → stretches_of spans ≡ map (stretch d) (edge_ends d 0 es) → IsRising spans
spans_rise d spans es long made =
    let rising : Pairs (λ (s t : SpanSeen). s.end < t.end) (map (stretch d) (edge_ends d 0 es)) = pairs_map (λ (s t : SpanSeen). s.end < t.end) (λ (m n : EdgeNo × ℕ). m.1 < n.1) (stretch d) (edge_ends d 0 es) (λ a b h. h) (ends_rise d 0 es long).pairs in
    let here : Pairs (λ (s t : SpanSeen). s.end < t.end) (stretches_of spans) = subst (Pairs (λ (s t : SpanSeen). s.end < t.end)) (sym made) rising in
    all_pairs_of (λ (s t : Span). s.end <ℤ t.end) spans (pairs_more (λ (s t : Span). nat_abs s.end < nat_abs t.end) (λ (s t : Span). s.end <ℤ t.end) spans (λ a b m n h. below a b h) (pairs_map_back (λ (s t : SpanSeen). s.end < t.end) stretch_of spans here))
