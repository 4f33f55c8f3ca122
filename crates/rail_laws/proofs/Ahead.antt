-- Track in a row, and ends of authority that are as far or farther.
use Rattle.std.proofs.Common.{◌≡◌, ℕ, zero, suc, ◌+◌, ◌-◌, ◌≤◌, max, Bool, true, false, if◌then◌else◌, List, [], ◌∷◌, ◌++◌, map, sum_by, flat_map, Option, None, Some, refl, ap, ◌∙◌, arith, leb-true, le-leb}
use Rattle.std.proofs.lemmas.List.{map-append}
use Rattle.std.proofs.lemmas.List.Sums.{sum_by-append, sum_by-cons}
use Rattle.std.proofs.lemmas.Grind.{flat_map-append}
use Rattle.std.specs.List.{list_any}
use Rattle.rail_base.specs.declared.station.Station.{Station}
use Rattle.rail_base.specs.declared.station.EdgeNo.{EdgeNo}
use Rattle.rail_base.specs.declared.route.Route.{Route}
use Rattle.rail_spec.specs.Track.{edge_ends}
use Rattle.rail_base.specs.Stations.{length_of}
use Rattle.rail_spec.specs.Plans.{length_mm, exits}
use Rattle.rail_spec.specs.Motion.{MotorSeen, SpanSeen, keeps_limits, may_stop, can_brake, permitted}
use Rattle.rail_spec.specs.Dispatches.{stretch, stretches, track_end}
use Rattle.rail_laws.specs.Standing.{IsAsFar}
use Rattle.rail_laws.proofs.MotionLaws.{farthest, IsFarther, permitted_brakes}
use Rattle.rail_base.proofs.Members.{and_left, and_right, and_both}

-- ---- track in a row

pub edge_ends-append : (d : Station) (o : ℕ) (es fs : List EdgeNo) → edge_ends d o (es ++ fs) ≡ edge_ends d o es ++ edge_ends d (o + sum_by (length_of d) es) fs
edge_ends-append d o [] fs = ap (λ n. edge_ends d n fs) (omega arith)
edge_ends-append d o (e ∷ es) fs =
    ap (λ zs. (e, o + length_of d e) ∷ zs) (edge_ends-append d (o + length_of d e) es fs ∙ ap (λ n. edge_ends d (o + length_of d e) es ++ edge_ends d n fs) (let s = sum_by-cons (length_of d) e es in omega arith))

-- longer routes have the stretches of the shorter ones first
abbrev pub further : Station → List Route → List Route → List SpanSeen
further d rs more = map (stretch d) (edge_ends d (0 + sum_by (length_of d) (flat_map (λ r. r.edges) rs)) (flat_map (λ r. r.edges) more))

pub stretches-append : (d : Station) (rs more : List Route) → stretches d (rs ++ more) ≡ stretches d rs ++ further d rs more
stretches-append d rs more =
    ap (λ es. map (stretch d) (edge_ends d 0 es)) (flat_map-append (λ r. r.edges) rs more)
    ∙ ap (map (stretch d)) (edge_ends-append d 0 (flat_map (λ r. r.edges) rs) (flat_map (λ r. r.edges) more))
    ∙ map-append (stretch d) (edge_ends d 0 (flat_map (λ r. r.edges) rs)) (edge_ends d (0 + sum_by (length_of d) (flat_map (λ r. r.edges) rs)) (flat_map (λ r. r.edges) more))

-- they reach as far as their edges are long
pub reaches : (d : Station) (o x : ℕ) (es : List EdgeNo) → o ≤ x → o + sum_by (length_of d) es ≤ farthest x (map (stretch d) (edge_ends d o es))
reaches d o x [] h = omega arith
reaches d o x (e ∷ es) h = let s = sum_by-cons (length_of d) e es in let k = reaches d (o + length_of d e) (max x (o + length_of d e)) es (omega arith) in omega arith

pub authority_farther : (rs more : List Route) → IsFarther (sum_by length_mm rs) (track_end (rs ++ more))
authority_farther rs more = go (list_any exits (rs ++ more))
  where
    go : (b : Bool) → IsFarther (sum_by length_mm rs) (if b then None else Some (sum_by length_mm (rs ++ more)))
    go true = tt
    go false = let s = sum_by-append length_mm rs more in omega arith

pub authority_some : (rs : List Route) → list_any exits rs ≡ false → track_end rs ≡ Some (sum_by length_mm rs)
authority_some rs e = ap (λ b. if b then None else Some (sum_by length_mm rs)) e

pub authority_none : (rs : List Route) → list_any exits rs ≡ true → track_end rs ≡ None
authority_none rs e = ap (λ b. if b then None else Some (sum_by length_mm rs)) e

-- ---- ends as far or farther

pub as_far_same : (a : Option ℕ) → IsAsFar a a
as_far_same None = tt
as_far_same (Some e) = omega arith

pub as_far_trans : (a b c : Option ℕ) → IsAsFar a b → IsAsFar b c → IsAsFar a c
as_far_trans None b None h k = tt
as_far_trans (Some e) b None h k = tt
as_far_trans None None (Some g) h k = k
as_far_trans None (Some f) (Some g) h k = absurd h
as_far_trans (Some e) None (Some g) h k = absurd k
as_far_trans (Some e) (Some f) (Some g) h k = omega arith

pub as_far_farther : (e : ℕ) (b : Option ℕ) → IsAsFar (Some e) b → IsFarther e b
as_far_farther e None h = tt
as_far_farther e (Some f) h = h

pub farther_as_far : (e : ℕ) (b : Option ℕ) → IsFarther e b → IsAsFar (Some e) b
farther_as_far e None h = tt
farther_as_far e (Some f) h = h

pub may_stop_as_far : (a b : Option ℕ) (x : ℕ) → IsAsFar a b → may_stop a x ≡ true → may_stop b x ≡ true
may_stop_as_far a None x far h = refl
may_stop_as_far None (Some f) x far h = absurd far
may_stop_as_far (Some e) (Some f) x far h = let k = leb-true x e h in le-leb x f (omega arith)

can_brake_as_far : (m b tail : ℕ) (ss : List SpanSeen) (a c : Option ℕ) (x u : ℕ) → IsAsFar a c → can_brake m b tail ss a x u ≡ true → can_brake m b tail ss c x u ≡ true
can_brake_as_far m b tail ss a c x zero far h = may_stop_as_far a c x far h
can_brake_as_far zero b tail ss a c x (suc u) far h = cc
can_brake_as_far (suc m) b tail ss a c x (suc u) far h =
    and_both _ _ (and_left _ (can_brake m b tail ss a (x + suc u) (suc u - b)) h)
    (can_brake_as_far m b tail ss a c (x + suc u) (suc u - b) far (and_right (keeps_limits ss (x - tail) (x + suc u) (suc u)) _ h))

-- what is permitted stays so where the end of authority is as far
pub permitted_as_far : (m : MotorSeen) (ss : List SpanSeen) (a c : Option ℕ) (x v u : ℕ) → IsAsFar a c → permitted m ss a x v u ≡ true → permitted m ss c x v u ≡ true
permitted_as_far m ss a c x v u far h =
    and_both _ _ (and_left _ (can_brake u m.brake m.tail ss a x u) h) (can_brake_as_far u m.brake m.tail ss a c x u far (permitted_brakes m ss a x v u h))
