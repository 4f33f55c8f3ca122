-- The first and the last of places.
use Rattle.std.proofs.Common.{◌≡◌, suc, ◌-◌, Bool, true, not, List, [], ◌∷◌, length, get_or, ◌≤◌, refl, ap, ◌∙◌, arith}
use Rattle.std.specs.List.{list_all}
use Rattle.rail_base.proofs.Members.{and_left, and_right}
use Rattle.bound_spec.specs.declared.Place.{Place}
use Rattle.bound_spec.specs.Certificates.{first_of_places, last_of_places}
use Rattle.bound_spec.specs.Validity.{is_empty}

pub first_passes : (test : Place → Bool) (ps : List Place) → not (is_empty ps) ≡ true → list_all test ps ≡ true → test (first_of_places ps) ≡ true
first_passes test [] e h = absurd (cc)
first_passes test (p ∷ ps) e h = and_left (test p) (list_all test ps) h

pub last_passes : (test : Place → Bool) (ps : List Place) → not (is_empty ps) ≡ true → list_all test ps ≡ true → test (last_of_places ps) ≡ true
last_passes test [] e h = absurd (cc)
last_passes test (p ∷ []) e h = and_left (test p) true h
last_passes test (p ∷ q ∷ ps) e h = last_passes test (q ∷ ps) refl (and_right (test p) (list_all test (q ∷ ps)) h)

-- ---- places by their index

pub some_places : (ps : List Place) → not (is_empty ps) ≡ true → 1 ≤ length ps
some_places [] e = absurd (cc)
some_places (p ∷ ps) e = omega arith

pub first_at : (ps : List Place) (other : Place) → not (is_empty ps) ≡ true → get_or ps 0 other ≡ first_of_places ps
first_at [] other e = absurd (cc)
first_at (p ∷ ps) other e = refl

pub last_at : (ps : List Place) (other : Place) → not (is_empty ps) ≡ true → get_or ps (length ps - 1) other ≡ last_of_places ps
last_at [] other e = absurd (cc)
last_at (p ∷ []) other e = refl
last_at (p ∷ q ∷ ps) other e =
    let k : length (p ∷ q ∷ ps) - 1 ≡ suc (length (q ∷ ps) - 1) = omega arith in
    ap (λ n. get_or (p ∷ q ∷ ps) n other) k ∙ last_at (q ∷ ps) other refl
