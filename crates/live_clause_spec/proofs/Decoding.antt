-- The plan that values give, from the live variables alone.
use Rattle.std.proofs.Common.{◌≡◌, ℕ, zero, suc, ◌-◌, ◌≤◌, inl, inr, Bool, true, false, cond, not, ◌&&◌, List, [], ◌∷◌, map, filter, refl, ap, ap₂, ◌∙◌, arith}
use Rattle.rail_base.specs.declared.station.Station.{Station}
use Rattle.rail_base.specs.declared.route.Route.{Route}
use Rattle.rail_base.specs.declared.plan.Command.{Command}
use Rattle.rail_base.specs.Numbering.{one_to}
use Rattle.rail_base.proofs.Members.{In}
use Rattle.rail_base.proofs.Lists.{in_count_back}
use Rattle.rail_spec.specs.Plans.{all_commands}
use Rattle.clause_spec.specs.Variables.{Variable, Given, number_of}
use Rattle.clause_spec.specs.Models.{cut_off, decoded, given_by, given_in}
use Rattle.live_clause_spec.specs.Variables.{live_number}
use Rattle.live_clause_spec.specs.Models.{live_decoded, live_given_in, spread}
use Rattle.live_clause_spec.proofs.Spread.{dead_false, live_same, spread_says}

-- those that pass are among those that are kept
filter_among : {X : Type 0} (test other keep : X → Bool) (xs : List X) → ((x : X) → In x xs → keep x ≡ true → test x ≡ other x) → ((x : X) → In x xs → keep x ≡ false → test x ≡ false) → filter test xs ≡ filter other (filter keep xs)
filter_among test other keep [] h k = refl
filter_among test other keep (x ∷ xs) h k = go (keep x) refl (filter_among test other keep xs (λ y m. h y (inr m)) (λ y m. k y (inr m)))
  where
    go : (b : Bool) → keep x ≡ b → filter test xs ≡ filter other (filter keep xs) → cond (test x) (x ∷ filter test xs) (filter test xs) ≡ filter other (cond b (x ∷ filter keep xs) (filter keep xs))
    go true e rest = ap (λ c. cond c (x ∷ filter test xs) (filter test xs)) (h x (inl refl) e) ∙ ap (λ ys. cond (other x) (x ∷ ys) ys) rest
    go false e rest = ap (λ c. cond c (x ∷ filter test xs) (filter test xs)) (k x (inl refl) e) ∙ rest

map_alike : {X Y : Type 0} (f g : X → Y) (xs : List X) → ((x : X) → In x xs → f x ≡ g x) → map f xs ≡ map g xs
map_alike f g [] h = refl
map_alike f g (x ∷ xs) h = ap₂ (λ y ys. y ∷ ys) (h x (inl refl)) (map_alike f g xs (λ z m. h z (inr m)))

module _ (live : Command → Bool) (d : Station) (routes : List Route) (n : ℕ) (values : ℕ → Bool) where
  abbrev says : Variable → Bool
  says v = spread live d routes n values (number_of d routes n v)

  abbrev alive : Variable → Bool
  alive v = values (live_number live d routes n v)

  given_alike : (c : Command) (i : ℕ) → In c (all_commands d routes) → i ≤ n → live c ≡ true → given_by says c i ≡ given_by alive c i
  given_alike c zero m h e = refl
  given_alike c (suc i) m h e = spread_says live d routes n values (Given c (suc i)) (m, omega arith, h) ∙ live_same live d routes n values (Given c (suc i)) (ap not e)

  not_given : (c : Command) (i : ℕ) → In c (all_commands d routes) → i ≤ n → live c ≡ false → given_by says c i ≡ false
  not_given c zero m h e = refl
  not_given c (suc i) m h e = spread_says live d routes n values (Given c (suc i)) (m, omega arith, h) ∙ dead_false live d routes n values (Given c (suc i)) (ap not e)

  step_alike : (i : ℕ) → i ≤ n → given_in d routes n says i ≡ live_given_in live d routes n alive i
  step_alike i h = filter_among (λ c. given_by says c i && not (given_by says c (i - 1))) (λ c. given_by alive c i && not (given_by alive c (i - 1))) live (all_commands d routes)
      (λ c m e. ap₂ (λ a b. a && not b) (given_alike c i m h e) (given_alike c (i - 1) m (omega arith) e))
      (λ c m e. ap (λ a. a && not (given_by says c (i - 1))) (not_given c i m h e))

  pub decoded_alike : decoded d routes n (spread live d routes n values) ≡ live_decoded live d routes n values
  decoded_alike = ap cut_off (map_alike (given_in d routes n says) (live_given_in live d routes n alive) (one_to n) (λ i m. (let r = in_count_back 1 n i m in let high = r.1 in step_alike i (omega arith))))
