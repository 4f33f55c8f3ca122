-- The visits of what is required are of trains.
use Rattle.std.proofs.Common.{◌≡◌, ℕ, true, nat_le, length, Option, None, Some, sym, ap, subst, ◌∙◌, leb-true}
use Rattle.std.specs.Option.{ForSome}
use Rattle.rail_base.specs.declared.station.Within.{Within}
use Rattle.rail_base.specs.declared.station.Order.{Order}
use Rattle.rail_base.specs.Admitted.{IsGoodOrder, IsGoodWithin}
use Rattle.rail_base.specs.Stations.{no_order, no_within, order_of, within_of}
use Rattle.rail_base.proofs.Admitting.{admitted}
use Rattle.rail_base.proofs.Lists.{in_entry}
use Rattle.rail_base.proofs.Members.{and_left, and_right}
use Rattle.interlocking.specs.declared.railway.Interlocking.{Interlocking}
use Rattle.bound_spec.specs.declared.Requirement.{Requirement}
use Rattle.bound_spec.specs.declared.Requirement.TheVariants as requirement
use Rattle.bound_ticks.specs.Claims.{requirement_fits}

value_or : {X : Type 0} → X → Option X → X
value_or x None = x
value_or x (Some y) = y

-- what holds of a value holds of it as an option
pub some_is : {X : Type 0} (P : X → Type 0) (v : X) → P v → ForSome (Some v) P
unfolding value_or
some_is P v h = λ x e. subst P (ap (value_or v) e) h

module _ (i : Interlocking) (q : Requirement) (fits : requirement_fits i q ≡ true) where
  pub within_good : (n : ℕ) (w : Within) → q ≡ requirement.Within n → w ≡ within_of i.design.station n → IsGoodWithin i.design.station w
  within_good n w is same =
      let h = sym (ap (requirement_fits i) is) ∙ fits in
      let first = leb-true 1 n (and_left (nat_le 1 n) (nat_le n (length i.design.station.withins)) h) in
      let last = leb-true n (length i.design.station.withins) (and_right (nat_le 1 n) (nat_le n (length i.design.station.withins)) h) in
      subst (IsGoodWithin i.design.station) (sym same) ((admitted i.design.station i.design.admitted).within _ (in_entry no_within i.design.station.withins n first last))

  pub order_good : (n : ℕ) (o : Order) → q ≡ requirement.Order n → o ≡ order_of i.design.station n → IsGoodOrder i.design.station o
  order_good n o is same =
      let h = sym (ap (requirement_fits i) is) ∙ fits in
      let first = leb-true 1 n (and_left (nat_le 1 n) (nat_le n (length i.design.station.orders)) h) in
      let last = leb-true n (length i.design.station.orders) (and_right (nat_le 1 n) (nat_le n (length i.design.station.orders)) h) in
      subst (IsGoodOrder i.design.station) (sym same) ((admitted i.design.station i.design.admitted).order _ (in_entry no_order i.design.station.orders n first last))
