-- Literals that stand beside the clauses in the lists of watched ones.
use Rattle.std.specs.Prelude.{ℕ, ◌≡◌, ◌<◌, true, false, List, Some}
use Rattle.std.specs.List.{All}
use Rattle.std.specs.Global.{Vec}
use Rattle.sat_clause.specs.declared.lit.Lit.{Lit}
use Rattle.sat_clause.specs.Hints.{is_assigned}
use Rattle.sat_trail.specs.declared.entry.Entry.{Entry}
use Rattle.sat_trail.specs.Attached.{Seen, is_among, attached_clause}
use Rattle.sat_trail.specs.Watches.{entries}

-- the literal is one of the clause of this number, where that is attached and not loose
abbrev pub IsOf : Seen → List ℕ → ℕ → Lit → Type 0
IsOf seen loose id l = (c : List Lit) → attached_clause seen id ≡ Some c → is_among loose id ≡ false
    → is_assigned c l ≡ true

-- the number is below the count of pairs, and the blocker is a literal of its clause
pub record IsBlocked (seen : Seen) (loose : List ℕ) (count : ℕ) (e : Entry) : Type 0 where
  pub below : e.id < count
  pub member : IsOf seen loose e.id e.blocker

-- so it is with each entry of the lists
abbrev pub AllBlocked : Seen → List ℕ → ℕ → List (Vec Entry) → Type 0
AllBlocked seen loose count lists = All (All (IsBlocked seen loose count)) (entries lists)

-- what is blocked stays so
abbrev pub StaysBlocked : List (Vec Entry) → List (Vec Entry) → Type 0
StaysBlocked before after = (seen : Seen) (loose : List ℕ) (count : ℕ) → AllBlocked seen loose count before
    → AllBlocked seen loose count after

-- so it does where an entry that is put in is blocked
abbrev pub StaysBlockedWith : Entry → List (Vec Entry) → List (Vec Entry) → Type 0
StaysBlockedWith e before after = (seen : Seen) (loose : List ℕ) (count : ℕ) → IsBlocked seen loose count e
    → AllBlocked seen loose count before → AllBlocked seen loose count after
