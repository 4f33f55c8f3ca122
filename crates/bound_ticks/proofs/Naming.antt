-- What a certificate that names what the design has may take for granted.
use Rattle.std.proofs.Common.{◌≡◌, ℕ, ◌≤◌, inl, inr, not, ◌&&◌, Bool, true, false, nat_le, List, [], ◌∷◌, All, length, Option, Some, None, if◌then◌else◌, refl, sym, ap, ap₂, subst, ◌∙◌, arith, leb-true}
use Rattle.std.specs.List.{list_all}
use Rattle.std.proofs.lemmas.List.Sums.{sum_by-cons}
use Rattle.rail_base.specs.declared.route.RouteNo.{RouteNo}
use Rattle.rail_base.specs.Admission.{is_from}
use Rattle.rail_base.specs.Members.{In, all_neighbors}
use Rattle.rail_base.specs.Routes.{IsRoute}
use Rattle.rail_base.proofs.Members.{and_left, and_right, list_all_at}
use Rattle.rail_course.proofs.Granting.{all_from_in}
use Rattle.interlocking.specs.declared.railway.Interlocking.{Interlocking}
use Rattle.cone_spec.specs.declared.Cone.{Cone}
use Rattle.rail_spec.specs.Plans.{is_train}
use Rattle.cone_spec.specs.Cones.{named}
use Rattle.cone_spec.specs.Validity.{free_granted, holder_fits, cone_visit}
use Rattle.cone_form.specs.Fits.{fits}
use Rattle.cone_run.specs.Runs.{visit_in_run}
use Rattle.bound_spec.specs.declared.Bound.{Bound}
use Rattle.bound_spec.specs.declared.Leg.{Leg}
use Rattle.bound_spec.specs.declared.Origin.TheVariants as origin
use Rattle.bound_spec.specs.declared.Place.{Place}
use Rattle.bound_spec.specs.declared.Place.TheVariants as place
use Rattle.bound_spec.specs.Certificates.{VisitOf, cone_at, train_to}
use Rattle.bound_spec.specs.Validity.{are_few_choices, are_increasing, contend_where_they_meet, is_empty, is_numbered, last_leg, leg_in_design, most_places, origin_in_design, place_in_design, places_of, requirement_in_design}
use Rattle.bound_ticks.specs.Claims.{IsNamed, cone_shows_of, from_of, made_at, names_fit}
use Rattle.bound_ticks.specs.Looks.{cap}
use Rattle.bound_ticks.specs.Walks.{IsLeg, IsPlaceOf}

from_is : (a b n : ℕ) → is_from a b n ≡ true → (a ≤ n) × (n ≤ b)
from_is a b n h = (leb-true a n (and_left (nat_le a n) (nat_le n b) h), leb-true n b (and_right (nat_le a n) (nat_le n b) h))

module _ (i : Interlocking) where
  numbered_routes : (rs : List RouteNo) → list_all (is_numbered i.design.station i.routes) rs ≡ true → All (IsRoute i.routes) rs
  numbered_routes rs h = all_from_in (IsRoute i.routes) rs (λ r m. from_is 1 (length i.routes) r.0 (list_all_at (is_numbered i.design.station i.routes) rs r h m))

  place_named : (p : Place) → place_in_design i.design.station i.routes p ≡ true → IsPlaceOf i.routes p
  place_named (place.Named r) h = numbered_routes (r ∷ []) (ap (λ b. b && true) h)
  place_named (place.Among rs without) h =
      let a = and_left (not (is_empty rs) && list_all (is_numbered i.design.station i.routes) rs && are_increasing rs && list_all (is_numbered i.design.station i.routes) without) (are_increasing without) h in
      let b = and_left (not (is_empty rs) && list_all (is_numbered i.design.station i.routes) rs && are_increasing rs) (list_all (is_numbered i.design.station i.routes) without) a in
      let c = and_left (not (is_empty rs) && list_all (is_numbered i.design.station i.routes) rs) (are_increasing rs) b in
      numbered_routes rs (and_right (not (is_empty rs)) (list_all (is_numbered i.design.station i.routes) rs) c)

  leg_named : (l : Leg) → leg_in_design i.design.station i.routes l ≡ true → length l.places ≤ 64 → IsLeg i l
  leg_named l h few =
      let places = and_right (is_from 1 (length i.design.station.trains) l.train.0 && not (is_empty l.places)) (list_all (place_in_design i.design.station i.routes) l.places) h in
      let prefix = and_left (is_from 1 (length i.design.station.trains) l.train.0 && not (is_empty l.places)) (list_all (place_in_design i.design.station i.routes) l.places) h in
      record {
        train = from_is 1 (length i.design.station.trains) l.train.0 (and_left (is_from 1 (length i.design.station.trains) l.train.0) (not (is_empty l.places)) prefix);
        places = all_from_in (IsPlaceOf i.routes) l.places (λ p m. place_named p (list_all_at (place_in_design i.design.station i.routes) l.places p places m));
        at_most_64 = few;
      }

  some_places : (l : Leg) → leg_in_design i.design.station i.routes l ≡ true → 1 ≤ length l.places
  some_places l h = go l.places (and_right (is_from 1 (length i.design.station.trains) l.train.0) (not (is_empty l.places)) (and_left (is_from 1 (length i.design.station.trains) l.train.0 && not (is_empty l.places)) (list_all (place_in_design i.design.station i.routes) l.places) h))
    where
      go : (ps : List Place) → not (is_empty ps) ≡ true → 1 ≤ length ps
      go [] e = absurd (cc)
      go (p ∷ ps) e = omega arith

  in_sum : (l : Leg) (ls : List Leg) → In l ls → length l.places ≤ places_of ls
  in_sum l [] m = absurd m
  in_sum l (k ∷ ks) (inl e) = let s = sum_by-cons (λ (l : Leg). length l.places) k ks in let f = ap (λ (l : Leg). length l.places) e in omega arith
  in_sum l (k ∷ ks) (inr m) = let s = sum_by-cons (λ (l : Leg). length l.places) k ks in let f = in_sum l ks m in omega arith

  more_places : (ls : List Leg) → list_all (leg_in_design i.design.station i.routes) ls ≡ true → length ls ≤ places_of ls
  more_places [] h = omega arith
  more_places (l ∷ ls) h =
      let s = sum_by-cons (λ (l : Leg). length l.places) l ls in
      let one = some_places l (and_left (leg_in_design i.design.station i.routes l) (list_all (leg_in_design i.design.station i.routes) ls) h) in
      let more = more_places ls (and_right (leg_in_design i.design.station i.routes l) (list_all (leg_in_design i.design.station i.routes) ls) h) in
      omega arith

  cone_fits : (b : Bound) → origin_in_design i.design.station i.routes b b.origin (from_of i b) ≡ true → (k : ℕ) (c : Cone) (v : VisitOf) → b.origin ≡ origin.Cone k c → from_of i b ≡ Some v → fits i c ≡ true
  cone_fits b h k c v at from =
      let g : origin_in_design i.design.station i.routes b (origin.Cone k c) (Some v) ≡ true = sym (ap₂ (λ o f. origin_in_design i.design.station i.routes b o f) at from) ∙ h in
      subst (λ z. fits i z ≡ true) (ap (cone_at b.requirement) at) g

  made_if : (b : Bound) (k : ℕ) (t : Bool) (at : Option ℕ) → made_at i b k (if t then at else None) ≡ (t && made_at i b k at)
  made_if b k true at = refl
  made_if b k false at = refl

  abbrev shows : Bound → ℕ → VisitOf → Cone → Bool
  shows b k v c = list_all (free_granted i.design.station i.routes c) c.trains && list_all (λ t. holder_fits i.design.station i.routes c t t.holder) c.trains
      && made_at i b k (cone_visit i.design.station i.routes c (named c v.train).horizon v.train v.number)

  -- a visit made in the run of the cone is what the certificate's cone shows
  pub cone_made : (b : Bound) (k : ℕ) (c : Cone) (v : VisitOf) → b.origin ≡ origin.Cone k c → made_at i b k (visit_in_run i c v.train v.number) ≡ cone_shows_of i b k v
  cone_made b k c v at =
      made_if b k (list_all (free_granted i.design.station i.routes c) c.trains && list_all (λ t. holder_fits i.design.station i.routes c t t.holder) c.trains) (cone_visit i.design.station i.routes c (named c v.train).horizon v.train v.number)
      ∙ ap (shows b k v) (sym (ap (cone_at b.requirement) at))

  pub is_named : (b : Bound) → names_fit i b ≡ true → IsNamed i b
  is_named b h =
      let d = i.design.station in
      let last = is_train (last_leg b.legs).train (train_to d b.requirement) in
      let meet = all_neighbors (contend_where_they_meet d i.routes) b.legs in
      let few = are_few_choices d i.routes b.legs in
      let small = nat_le (places_of b.legs) most_places in
      let legs = list_all (leg_in_design d i.routes) b.legs in
      let some = not (is_empty b.legs) in
      let required = requirement_in_design d i.routes b.requirement in
      let from = origin_in_design d i.routes b b.origin (from_of i b) in
      let h1 = and_left (required && some && legs && small && few && meet && last) from h in
      let h2 = and_left (required && some && legs && small && few && meet) last h1 in
      let h3 = and_left (required && some && legs && small && few) meet h2 in
      let h4 = and_left (required && some && legs && small) few h3 in
      let h5 = and_left (required && some && legs) small h4 in
      let h6 = and_left (required && some) legs h5 in
      let all_legs = and_right (required && some) legs h5 in
      let most = leb-true (places_of b.legs) 64 (and_right (required && some && legs) small h4) in
      let more = more_places b.legs all_legs in
      record {
        required = and_left required some h6;
        legs = all_from_in (IsLeg i) b.legs (λ l m. leg_named l (list_all_at (leg_in_design d i.routes) b.legs l all_legs m) (let p = in_sum l b.legs m in omega arith));
        at_most_64 = omega arith;
        cone = cone_fits b (and_right (required && some && legs && small && few && meet && last) from h);
      }

-- a count that is not too great is exact
pub exact : (s n : ℕ) → s ≡ cap n → s ≤ 33554432 → s ≡ n
exact s n e few = omega arith
