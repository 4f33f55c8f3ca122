-- The last of places and of legs.
use Rattle.std.proofs.Common.{◌≡◌, suc, ◌-◌, List, [], ◌∷◌, length, Option, Some, None, slice_get, ap, ◌∙◌, arith}
use Rattle.bound_spec.specs.declared.Place.{Place}
use Rattle.bound_spec.specs.declared.Leg.{Leg}
use Rattle.bound_spec.specs.Certificates.{last_of_places}
use Rattle.bound_spec.specs.Validity.{last_leg}

-- what is there, or else this
abbrev or_else : {X : Type 0} → X → Option X → X
or_else x None = x
or_else x (Some y) = y

-- the value
the_value : {X : Type 0} (x y : X) → Some x ≡ Some y → x ≡ y
the_value x y e = ap (or_else x) e

-- the last of two and more is that of those after the first
behind : {X : Type 0} (x y : X) (xs : List X) → slice_get (x ∷ y ∷ xs) (length (x ∷ y ∷ xs) - 1) ≡ slice_get (y ∷ xs) (length (y ∷ xs) - 1)
behind x y xs =
    let e : length (x ∷ y ∷ xs) - 1 ≡ suc (length (y ∷ xs) - 1) = omega arith in
    ap (slice_get (x ∷ y ∷ xs)) e

pub last_place : (ps : List Place) (p : Place) → Some p ≡ slice_get ps (length ps - 1) → p ≡ last_of_places ps
last_place [] p e = absurd (cc)
last_place (q ∷ []) p e = the_value p q e
last_place (q ∷ r ∷ ps) p e = last_place (r ∷ ps) p (e ∙ behind q r ps)

pub last_of_legs : (ls : List Leg) (l : Leg) → Some l ≡ slice_get ls (length ls - 1) → l ≡ last_leg ls
last_of_legs [] l e = absurd (cc)
last_of_legs (m ∷ []) l e = the_value l m e
last_of_legs (m ∷ n ∷ ls) l e = last_of_legs (n ∷ ls) l (e ∙ behind m n ls)
