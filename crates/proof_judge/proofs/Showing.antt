-- What is left of a clause is shown just where what shows it is valid, and something is left.
use Rattle.std.proofs.Common.{◌≡◌, true, List, is_none, option_map, Option, Some, None, Ok, Err, refl, ap, ap₂}
use Rattle.bound_spec.specs.declared.EvidenceFault.{EvidenceFault}
use Rattle.sat_clause.specs.declared.lit.Lit.{Lit}
use Rattle.proof_judge.specs.Judged.{shown_by}

pub valid_shows : (found : Option EvidenceFault) (other : EvidenceFault) (left : Option (List Lit)) (clause : List Lit) → found ≡ None → left ≡ Some clause → shown_by found other left ≡ Ok clause
valid_shows found other left clause none is = ap₂ (λ f l. shown_by f other l) none is

pub shown_valid : (found : Option EvidenceFault) (other : EvidenceFault) (left : Option (List Lit)) (clause : List Lit) → shown_by found other left ≡ Ok clause → (found ≡ None) × (left ≡ Some clause)
shown_valid found other None clause e = absurd (cc)
shown_valid (Some fault) other (Some own) clause e = absurd (cc)
shown_valid None other (Some own) clause e = (refl, cc)

-- where nothing is left, that what it names is not there is the reason
pub none_left : (found : Option EvidenceFault) (other : EvidenceFault) (left : Option (List Lit)) → left ≡ None → shown_by found other left ≡ Err other
none_left found other left none = ap (shown_by found other) none

-- and so where that is the first reason
pub not_there : (found : Option EvidenceFault) (other : EvidenceFault) (left : Option (List Lit)) → found ≡ Some other → shown_by found other left ≡ Err other
not_there found other None e = refl
not_there found other (Some clause) e = ap (λ f. shown_by f other (Some clause)) e

-- else the first reason is it
pub faulty : (found : Option EvidenceFault) (fault other : EvidenceFault) (left : Option (List Lit)) (clause : List Lit) → found ≡ Some fault → left ≡ Some clause → shown_by found other left ≡ Err fault
faulty found fault other left clause e is = ap₂ (λ f l. shown_by f other l) e is

-- there is no reason of the one kind where there is none at all
pub none_of : {F : Type 0} (of : F → EvidenceFault) (found : Option F) → option_map of found ≡ None → is_none found ≡ true
none_of of None e = refl
none_of of (Some fault) e = absurd (cc)

pub none_so : {F : Type 0} (of : F → EvidenceFault) (found : Option F) → is_none found ≡ true → option_map of found ≡ None
none_so of None e = refl
none_so of (Some fault) e = absurd (cc)
