-- The first place of a walk in parts.
use Rattle.std.proofs.Common.{◌≡◌, List, [], ◌++◌, Some, Result, Err, refl}
use Rattle.design_table.specs.declared.place.Place.{Place}
use Rattle.design_table.specs.declared.fault.Code.{Code}
use Rattle.design_table.specs.declared.fault.DesignFault.{DesignFault}
use Rattle.design_table.specs.Reads.{first, Fails, ReadsOrRefuses}
use Rattle.design_table.proofs.Walks.{first_here, first_later, none_in_both, fails_here, reads_later}

-- more parts at once, so that a search need not go deep
pub first_past_two : (xs ys rest : List Place) (p : Place) → xs ≡ [] → ys ≡ [] → first rest ≡ Some p → first (xs ++ (ys ++ rest)) ≡ Some p
first_past_two xs ys rest p a b h = rw (a, b) h

pub first_past_three : (xs ys zs rest : List Place) (p : Place) → xs ≡ [] → ys ≡ [] → zs ≡ [] → first rest ≡ Some p → first (xs ++ (ys ++ (zs ++ rest))) ≡ Some p
first_past_three xs ys zs rest p a b c h = rw (a, b, c) h

pub none_in_four : (xs ys zs ws : List Place) → xs ≡ [] → ys ≡ [] → zs ≡ [] → ws ≡ [] → xs ++ (ys ++ (zs ++ ws)) ≡ []
none_in_four xs ys zs ws a b c d = rw (a, b, c, d) refl

pub ruleset walk = (first_here, first_past_two, first_past_three, first_later, none_in_both, none_in_four)

-- ---- the same of what is answered

pub fails_later : (e : DesignFault) (code : Code) (xs ys : List Place) → xs ≡ [] → Fails e code ys → Fails e code (xs ++ ys)
fails_later e code xs ys n h = rw n h

pub reads_failed : {X Y : Type 0} (view : X → Y) (r : Result X DesignFault) (e : DesignFault) (code : Code) (xs : List Place) (y : Y) → r ≡ Err e → Fails e code xs → ReadsOrRefuses view r code xs y
reads_failed view r e code xs y is h = rw is h

pub ruleset answers = (fails_here, fails_later, reads_later, none_in_both)
