-- One place for all members of a list, as a loop tests them.
use Rattle.std.proofs.Common.{◌≡◌, ℕ, ◌+◌, ◌<◌, Bool, true, false, not, ◌&&◌, List, [], length, drop, get_or, map, refl, ◌∙◌}
use Rattle.std.specs.List.{list_all}
use Rattle.std.proofs.lemmas.List.{drop_more}
use Rattle.design_table.specs.declared.place.Place.{Place}
use Rattle.design_table.specs.declared.fault.Code.{Code}
use Rattle.design_table.specs.declared.fault.DesignFault.{DesignFault}
use Rattle.design_table.specs.declared.fault.DesignFault.TheVariants as faults
use Rattle.design_table.specs.Reads.{Fails, at}

pub passes : (b : Bool) (place : Place) → at (not b) place ≡ [] → b ≡ true
passes true place h = refl
passes false place h = absurd (cc)

fails_both : (e : DesignFault) (code : Code) (place : Place) (a b : Bool) → Fails e code (at (not a) place) → Fails e code (at (not (a && b)) place)
fails_both (faults.Refused c p) code place true b h = let f = h.1 in absurd (cc)
fails_both (faults.Refused c p) code place false b h = h
fails_both faults.Memory code place a b h = tt

module _ {X Y : Type 0} (test : Y → Bool) (seen : X → Y) (xs : List X) (k : ℕ) (x d : X) (is : x ≡ get_or xs k d) (place : Place) (total : Bool) (lt : k < length xs) (so_far : total ≡ list_all test (map seen (drop k xs))) where
  now_on : total ≡ (test (seen x) && list_all test (map seen (drop (k + 1) xs)))
  now_on = so_far ∙ rw (drop_more xs k d lt, ← is) refl

  pub one_fails : (e : DesignFault) (code : Code) → Fails e code (at (not (test (seen x))) place) → Fails e code (at (not total) place)
  one_fails e code h = rw now_on (fails_both e code place (test (seen x)) (list_all test (map seen (drop (k + 1) xs))) h)

  pub one_passes : at (not (test (seen x))) place ≡ [] → total ≡ list_all test (map seen (drop (k + 1) xs))
  one_passes h = now_on ∙ rw (passes (test (seen x)) place h) refl
