-- What a reader answers: the value, or a code at the first place where it holds.
use Rattle.std.specs.Prelude.{◌≡◌, ℕ, Bool, List, [], ◌∷◌, Option, Some, None, Result, Ok, Err, if◌then◌else◌, not}
use Rattle.std.specs.List.{enumerate_from, flat_map}
use Rattle.design_table.specs.declared.fault.Code.{Code}
use Rattle.design_table.specs.declared.fault.DesignFault.{DesignFault}
use Rattle.design_table.specs.declared.fault.DesignFault.TheVariants as faults
use Rattle.design_table.specs.declared.place.Place.{Place}
use Rattle.design_table.specs.declared.fault.Code.TheVariants.{D02}

-- ---- the places of one code, in the order of the walk

-- the place, where the test holds
abbrev pub at : Bool → Place → List Place
at test place = if test then place ∷ [] else []

-- the places of each entry in turn, the entries numbered from 1
abbrev pub in_each : {A : Type 0} → (ℕ → A → List Place) → List A → List Place
in_each places entries = flat_map (λ e. places e.0 e.1) (enumerate_from 1 entries)

-- the first place, if there is one
abbrev pub first : List Place → Option Place
first [] = None
first (p ∷ ps) = Some p

-- ---- a reader of one code

-- The refusal is this code, at the first of the places. Want of memory is free.
abbrev pub Fails : DesignFault → Code → List Place → Type 0
Fails (faults.Refused c p) code places = (c ≡ code) × (first places ≡ Some p)
Fails faults.Memory code places = Unit {0}

-- What was read, seen by view, is the value, and there is no place; or it is refused at the first place.
abbrev pub ReadsOrRefuses : {X Y : Type 0} → (X → Y) → Result X DesignFault → Code → List Place → Y → Type 0
ReadsOrRefuses view (Ok x) code places y = (places ≡ []) × (view x ≡ y)
ReadsOrRefuses view (Err e) code places y = Fails e code places

-- What was read, seen by view, is what the value spells, where this has the form; else it is D02 at the place.
abbrev pub ReadsParsed : {X Y V : Type 0} → (X → Y) → Result X DesignFault → (V → Bool) → (V → Y) → V → Place → Type 0
ReadsParsed view result has_form parsed value place =
    ReadsOrRefuses view result D02 (at (not (has_form value)) place) (parsed value)

-- The same, where a fact ties what was read to what it was read from.
abbrev pub ReadsBy : {X D : Type 0} → (X → D → Type 0) → Result X DesignFault → Code → List Place → D → Type 0
ReadsBy fact (Ok x) code places d = (places ≡ []) × fact x d
ReadsBy fact (Err e) code places d = Fails e code places

-- ---- one code after the other

-- the code at its first place, or what comes next where it has none
abbrev pub unless_at : {A : Type 0} → Code → List Place → Result A (Code × Place) → Result A (Code × Place)
unless_at code [] next = next
unless_at code (p ∷ ps) next = Err (code, p)

-- The refusal is the one that reading gives. Want of memory is free.
abbrev pub Refuses : {Y : Type 0} → DesignFault → Result Y (Code × Place) → Type 0
Refuses (faults.Refused c p) reading = reading ≡ Err (c, p)
Refuses faults.Memory reading = Unit {0}

-- What was read, seen by view, is what reading gives.
abbrev pub GivesOrRefuses : {X Y : Type 0} → (X → Y) → Result X DesignFault → Result Y (Code × Place) → Type 0
GivesOrRefuses view (Ok x) reading = reading ≡ Ok (view x)
GivesOrRefuses view (Err e) reading = Refuses e reading
