-- Places and choices, counted up to a limit.
use Rattle.std.proofs.Common.{◌≡◌, ℕ, zero, suc, ◌+◌, ◌*◌, ◌<◌, ◌≤◌, ◌⊎◌, inl, inr, min, Bool, true, false, ◌&&◌, nat_le, List, [], ◌∷◌, drop, get_or, length, refl, sym, ap, ◌∙◌, arith, le-leb}
use Rattle.std.proofs.lemmas.Bool.{lt-leb}
use Rattle.std.proofs.lemmas.List.Sums.{sum_by-cons}
use Rattle.std.proofs.Math.Nat.{mul_assoc, mul-zero}
use Rattle.rail_base.specs.declared.station.Station.{Station}
use Rattle.rail_base.specs.declared.route.Route.{Route}
use Rattle.rail_base.proofs.Members.{below_or_not}
use Rattle.bound_spec.specs.declared.Place.{Place}
use Rattle.bound_spec.specs.declared.Leg.{Leg}
use Rattle.bound_spec.specs.Certificates.{routes_of_place}
use Rattle.bound_spec.specs.Validity.{choices, places_of, are_few_choices}
use Rattle.cone_form.proofs.Walks.{drop_end}
use Rattle.bound_design.specs.Named.{few_choices_before}
use Rattle.std.proofs.lemmas.List.{drop_more}

-- ---- places

pub places_step : (ls : List Leg) (i : ℕ) (other : Leg) → i < length ls → places_of (drop i ls) ≡ length (get_or ls i other).places + places_of (drop (i + 1) ls)
places_step ls i other h = ap places_of (drop_more ls i other h) ∙ sum_by-cons (λ (l : Leg). length l.places) (get_or ls i other) (drop (i + 1) ls)

pub places_end : (ls : List Leg) (i : ℕ) → length ls ≤ i → places_of (drop i ls) ≡ 0
places_end ls i h = ap places_of (drop_end ls i h)

pub too_many : (left own rest all : ℕ) → left < own → left + all ≡ 64 + (own + rest) → false ≡ nat_le all 64
too_many left own rest all l e = sym (lt-leb all 64 (omega arith))

pub not_too_many : (left rest all : ℕ) → rest ≡ 0 → left + all ≡ 64 + rest → true ≡ nat_le all 64
not_too_many left rest all z e = sym (le-leb all 64 (omega arith))

-- ---- choices

times_suc : (c m : ℕ) → c * suc m ≡ c + c * m
times_suc c m = omega arith

-- a number that is capped before it is multiplied
pub capped_first : (c n : ℕ) → min 4097 (min 4097 c * n) ≡ min 4097 (c * n)
capped_first c zero = ap (min 4097) (mul-zero (min 4097 c) ∙ sym (mul-zero c))
capped_first c (suc m) = go (below_or_not c 4098)
  where
    go : (c < 4098) ⊎ (4098 ≤ c) → min 4097 (min 4097 c * suc m) ≡ min 4097 (c * suc m)
    go (inl l) = let e : min 4097 c ≡ c = omega arith in ap (λ k. min 4097 (k * suc m)) e
    go (inr l) =
        let e : min 4097 c ≡ 4097 = omega arith in
        let p = times_suc c m in
        ap (λ k. min 4097 (k * suc m)) e ∙ (omega arith)

pub capped_between : (t n c : ℕ) → min 4097 (min 4097 (t * n) * c) ≡ min 4097 (t * (n * c))
capped_between t n c = capped_first (t * n) c ∙ ap (min 4097) (mul_assoc t n c)

-- a number that is capped is as few as before
pub capped_few : (c : ℕ) → nat_le (min 4097 c) 4096 ≡ nat_le c 4096
capped_few c = go (below_or_not c 4098)
  where
    go : (c < 4098) ⊎ (4098 ≤ c) → nat_le (min 4097 c) 4096 ≡ nat_le c 4096
    go (inl l) = let e : min 4097 c ≡ c = omega arith in ap (λ k. nat_le k 4096) e
    go (inr l) = let e : min 4097 c ≡ 4097 = omega arith in ap (λ k. nat_le k 4096) e ∙ sym (lt-leb c 4096 (omega arith))

pub choices_step : (ps : List Place) (i : ℕ) (other : Place) → i < length ps → choices (drop i ps) ≡ length (routes_of_place (get_or ps i other)) * choices (drop (i + 1) ps)
choices_step ps i other h = ap choices (drop_more ps i other h)

pub choices_end : (ps : List Place) (i t : ℕ) → length ps ≤ i → t ≤ 4097 → min 4097 (t * choices (drop i ps)) ≡ t
choices_end ps i t h l = ap (λ (qs : List Place). min 4097 (t * choices qs)) (drop_end ps i h) ∙ (omega arith)

-- ---- legs

module _ (d : Station) (routes : List Route) where
  few_cons : (l : Leg) (ls : List Leg) → are_few_choices d routes (l ∷ ls) ≡ (few_choices_before l ls && are_few_choices d routes ls)
  few_cons l [] = go (few_choices_before l [])
    where
      go : (b : Bool) → b ≡ (b && true)
      go true = refl
      go false = refl
  few_cons l (m ∷ ls) = refl

  few_step : (ls : List Leg) (i : ℕ) (other : Leg) → i < length ls → are_few_choices d routes (drop i ls) ≡ (few_choices_before (get_or ls i other) (drop (i + 1) ls) && are_few_choices d routes (drop (i + 1) ls))
  few_step ls i other h = ap (are_few_choices d routes) (drop_more ls i other h) ∙ few_cons (get_or ls i other) (drop (i + 1) ls)

  pub few_stop : (ls : List Leg) (i : ℕ) (other : Leg) → i < length ls → few_choices_before (get_or ls i other) (drop (i + 1) ls) ≡ false → are_few_choices d routes (drop i ls) ≡ are_few_choices d routes ls → false ≡ are_few_choices d routes ls
  few_stop ls i other h e k = sym (ap (λ b. b && are_few_choices d routes (drop (i + 1) ls)) e) ∙ (sym (few_step ls i other h) ∙ k)

  pub few_next : (ls : List Leg) (i : ℕ) (other : Leg) → i < length ls → few_choices_before (get_or ls i other) (drop (i + 1) ls) ≡ true → are_few_choices d routes (drop i ls) ≡ are_few_choices d routes ls → are_few_choices d routes (drop (i + 1) ls) ≡ are_few_choices d routes ls
  few_next ls i other h e k = sym (ap (λ b. b && are_few_choices d routes (drop (i + 1) ls)) e) ∙ (sym (few_step ls i other h) ∙ k)

  pub few_end : (ls : List Leg) (i : ℕ) → length ls ≤ i → are_few_choices d routes (drop i ls) ≡ are_few_choices d routes ls → true ≡ are_few_choices d routes ls
  few_end ls i h k = sym (ap (are_few_choices d routes) (drop_end ls i h)) ∙ k
