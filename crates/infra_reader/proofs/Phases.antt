-- One code after the other.
use Rattle.std.proofs.Common.{◌≡◌, List, [], ◌∷◌, Some, Result, Err, refl, sym, subst}
use Rattle.design_table.specs.declared.fault.Code.{Code}
use Rattle.design_table.specs.declared.fault.DesignFault.{DesignFault}
use Rattle.design_table.specs.declared.fault.DesignFault.TheVariants as faults
use Rattle.design_table.specs.declared.place.Place.{Place}
use Rattle.design_table.specs.Reads.{first, Fails, unless_at, Refuses}

unless_here : {A : Type 0} (code : Code) (places : List Place) (next : Result A (Code × Place)) (p : Place) → first places ≡ Some p → unless_at code places next ≡ Err (code, p)
unless_here code [] next p h = absurd (cc)
unless_here code (q ∷ qs) next p h =
    let same : q ≡ p = cc in
    rw same refl

pub unless_later : {A : Type 0} (code : Code) (places : List Place) (next : Result A (Code × Place)) → places ≡ [] → unless_at code places next ≡ next
unless_later code places next h = rw h refl

-- the refusal of a code
pub refuses_now : {A : Type 0} (e : DesignFault) (code : Code) (places : List Place) (next : Result A (Code × Place)) → Fails e code places → Refuses e (unless_at code places next)
refuses_now (faults.Refused c p) code places next h = rw h.0 (unless_here code places next p h.1)
refuses_now faults.Memory code places next h = tt

-- the refusal of a later code
pub refuses_later : {A : Type 0} (e : DesignFault) (code : Code) (places : List Place) (next : Result A (Code × Place)) → places ≡ [] → Refuses e next → Refuses e (unless_at code places next)
refuses_later e code places next none h = subst (λ reading. Refuses e reading) (sym (unless_later code places next none)) h
