-- A cone is valid where no reason holds against it.
use Rattle.std.proofs.Common.{◌≡◌, Bool, true, false, refl, is_none, sym, true≢false, List}
use Rattle.std.specs.List.{list_all}
use Rattle.rail_base.specs.declared.station.Station.{Station}
use Rattle.rail_base.specs.declared.route.Route.{Route}
use Rattle.cone_spec.specs.declared.Cone.{Cone}
use Rattle.cone_spec.specs.Validity.{first_fault, in_design, free_granted, holder_fits, shows_violation, is_valid_cone}

pub valid_of : (d : Station) (routes : List Route) (k : Cone) → in_design d routes k ≡ true → list_all (free_granted d routes k) k.trains ≡ true → list_all (λ c. holder_fits d routes k c c.holder) k.trains ≡ true → shows_violation d routes k k.violation ≡ true → is_valid_cone d routes k ≡ true
valid_of d routes k = go (in_design d routes k) (list_all (free_granted d routes k) k.trains) (list_all (λ c. holder_fits d routes k c c.holder) k.trains) (shows_violation d routes k k.violation)
  where
    go : (a b c e : Bool) → a ≡ true → b ≡ true → c ≡ true → e ≡ true → is_none (first_fault a b c e) ≡ true
    go true true true true f g h s = refl
    go false b c e f g h s = absurd (true≢false (sym f))
    go true false c e f g h s = absurd (true≢false (sym g))
    go true true false e f g h s = absurd (true≢false (sym h))
    go true true true false f g h s = absurd (true≢false (sym s))
