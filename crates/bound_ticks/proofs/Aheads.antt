-- Whether all walks are ahead, one walk at a time.
use Rattle.std.proofs.Common.{◌≡◌, ℕ, ◌+◌, ◌≤◌, ◌<◌, Bool, true, false, ◌&&◌, List, [], ◌∷◌, map, drop, get_or, length, refl, sym, ap, ◌∙◌}
use Rattle.std.specs.List.{list_all}
use Rattle.std.proofs.lemmas.List.{drop_more}
use Rattle.std.proofs.Math.ListN.{drop_of_length-le}
use Rattle.rail_base.specs.declared.route.RouteNo.{RouteNo}
use Rattle.rail_course.specs.Tracks.{routes_at}
use Rattle.bound_spec.specs.declared.Leg.{Leg}
use Rattle.bound_spec.specs.Validity.{is_ahead}
use Rattle.bound_ticks.specs.declared.ahead.Between.{Between}
use Rattle.bound_ticks.specs.Ahead.{ahead_on, ahead_on_all}
use Rattle.leg_targets.specs.Visits.{visit_of}
use Rattle.bound_ticks.specs.Walks.{walks_by_number}
use Rattle.bound_ticks.proofs.Longer.{numbered}

module _ {X : Type 0} (f : X → Bool) (xs : List X) (i : ℕ) where
  pub one_fails : (v w : X) (b all : Bool) → i < length xs → v ≡ get_or xs i v → w ≡ v → b ≡ f w → b ≡ false → list_all f (drop i xs) ≡ all → false ≡ all
  one_fails v w b all less here same is fails h =
      let no : f (get_or xs i v) ≡ false = sym (is ∙ ap f (same ∙ here)) ∙ fails in
      sym (ap (λ t. t && list_all f (drop (i + 1) xs)) no) ∙ (sym (ap (list_all f) (drop_more xs i v less)) ∙ h)

  pub all_pass : (all : Bool) → length xs ≤ i → list_all f (drop i xs) ≡ all → true ≡ all
  all_pass all over h = sym (ap (list_all f) (drop_of_length-le xs over)) ∙ h

all_map : {X Y : Type 0} (f : Y → Bool) (g : X → Y) (xs : List X) → list_all (λ x. f (g x)) xs ≡ list_all f (map g xs)
all_map f g [] = refl
all_map f g (x ∷ xs) = ap (λ t. f (g x) && t) (all_map f g xs)

pub all_ahead : (b : Between) (l : Leg) (ls : List Leg) (ws : List (List RouteNo)) → ws ≡ walks_by_number b.interlocking.now.routes l.places → list_all (ahead_on b l ls) ws ≡ ahead_on_all b l ls
all_ahead b l ls ws are =
    let i = b.interlocking.now in
    let f = is_ahead i.design.station i.routes (visit_of b.from) (visit_of b.to) l ls in
    all_map f (routes_at i.routes) ws ∙ ap (list_all f) (ap (map (routes_at i.routes)) are ∙ numbered i.routes l.places)
