-- The first place of a walk in parts.
use Rattle.std.proofs.Common.{◌≡◌, Bool, true, false, List, [], ◌∷◌, ◌++◌, flat_map, Some, None, Result, refl, if◌then◌else◌}
use Rattle.std.specs.List.{find}
use Rattle.design_table.specs.declared.fault.Code.{Code}
use Rattle.design_table.specs.declared.fault.DesignFault.{DesignFault}
use Rattle.design_table.specs.declared.fault.DesignFault.TheVariants as faults
use Rattle.design_table.specs.declared.place.Place.{Place}
use Rattle.design_table.specs.Reads.{at, first, Fails, ReadsOrRefuses}

-- a part with a place has the first one
pub first_here : (xs ys : List Place) (p : Place) → first xs ≡ Some p → first (xs ++ ys) ≡ Some p
first_here [] ys p h = absurd (cc)
first_here (x ∷ xs) ys p h = h

-- a part with no place leaves it to the rest
pub first_later : (xs ys : List Place) (p : Place) → xs ≡ [] → first ys ≡ Some p → first (xs ++ ys) ≡ Some p
first_later xs ys p e h = rw e h

pub none_in_both : (xs ys : List Place) → xs ≡ [] → ys ≡ [] → xs ++ ys ≡ []
none_in_both xs ys e f = rw (e, f) refl

-- four parts at once, so that a search need not go deep
pub first_past_four : (xs ys zs ws rest : List Place) (p : Place) → xs ≡ [] → ys ≡ [] → zs ≡ [] → ws ≡ [] → first rest ≡ Some p → first (xs ++ (ys ++ (zs ++ (ws ++ rest)))) ≡ Some p
first_past_four xs ys zs ws rest p a b c d h = rw (a, b, c, d) h

pub ruleset walk = (first_here, first_past_four, first_later, none_in_both)

-- a refusal in a part is one of the whole
pub fails_here : (e : DesignFault) (code : Code) (xs ys : List Place) → Fails e code xs → Fails e code (xs ++ ys)
fails_here (faults.Refused c p) code xs ys h = (h.0, first_here xs ys p h.1)
fails_here faults.Memory code xs ys h = tt

-- an answer of the rest is one of the whole, where a part has no place
pub reads_later : {X Y : Type 0} (view : X → Y) (r : Result X DesignFault) (code : Code) (xs ys : List Place) (y : Y) → xs ≡ [] → ReadsOrRefuses view r code ys y → ReadsOrRefuses view r code (xs ++ ys) y
reads_later view r code xs ys y n h = rw n h

-- the first that passes a test has the first place of those that pass it
module _ {X : Type 0} (test : X → Bool) (place : X → Place) where
  abbrev pub places : List X → List Place
  places xs = flat_map (λ x. at (test x) (place x)) xs

  pub found_first : (xs : List X) (x : X) → find test xs ≡ Some x → first (places xs) ≡ Some (place x)
  found_first [] x h = absurd (cc)
  found_first (y ∷ ys) x h = go (test y) (found_first ys x) h
    where
      go : (b : Bool) → (find test ys ≡ Some x → first (places ys) ≡ Some (place x)) → (if b then Some y else find test ys) ≡ Some x → first (at b (place y) ++ places ys) ≡ Some (place x)
      go true more h = let same : y ≡ x = cc in rw same refl
      go false more h = more h

  pub found_none : (xs : List X) → find test xs ≡ None → places xs ≡ []
  found_none [] h = refl
  found_none (y ∷ ys) h = go (test y) (found_none ys) h
    where
      go : (b : Bool) → (find test ys ≡ None → places ys ≡ []) → (if b then Some y else find test ys) ≡ None → at b (place y) ++ places ys ≡ []
      go true more h = absurd (cc)
      go false more h = more h
