-- The literals of a clause by their signs.
use Rattle.std.proofs.Common.{◌≡◌, ℕ, Bool, true, false, ◌&&◌, if◌then◌else◌, List, [], ◌∷◌, map, Option, None, Some, refl, sym, ap, ◌∙◌, true≢false}
use Rattle.rail_base.specs.declared.station.Station.{Station}
use Rattle.rail_base.specs.declared.route.Route.{Route}
use Rattle.rail_base.specs.declared.plan.Command.{Command}
use Rattle.rail_spec.specs.Plans.{route_at, contend}
use Rattle.clause_spec.specs.Variables.{Given, Before as BeforeIn}
use Rattle.live_clause_spec.specs.Variables.{live_number}
use Rattle.cone_spec.specs.declared.Cone.{Cone}
use Rattle.cone_spec.specs.Cones.{named, is_named, has_pair, is_free}
use Rattle.cone_spec.specs.Clauses.{Fact, Used, Before, is_closed, goes_further, used_literals, before_literals}
use Rattle.cone_clause.specs.Numbered.{left_lit, signed, variable_of}

module _ (live : Command → Bool) (d : Station) (routes : List Route) (n : ℕ) (k : Cone) where
  by_sign : (f : Fact) (v : ℕ) (a b : Bool) → v ≡ live_number live d routes n (variable_of n f)
      → signed v (if a then Some true else if b then Some false else None) ≡ map (left_lit live d routes n) (if a then record { fact = f; negated = true } ∷ [] else if b then record { fact = f; negated = false } ∷ [] else [])
  by_sign f v true b e = ap (λ x. record { var = x; negated = true } ∷ []) e
  by_sign f v false true e = ap (λ x. record { var = x; negated = false } ∷ []) e
  by_sign f v false false e = refl

  -- what is said of one command
  pub used_signed : (c : Command) (v : ℕ) (s : Option Bool) → v ≡ live_number live d routes n (Given c n)
      → s ≡ (if is_named k c then Some true else if is_closed d routes k c.train && goes_further (map (route_at routes) (named k c.train).path) (route_at routes c.route) then Some false else None)
      → signed v s ≡ map (left_lit live d routes n) (used_literals d routes k c)
  used_signed c v s e h = ap (signed v) h ∙ by_sign (Used c) v (is_named k c) (is_closed d routes k c.train && goes_further (map (route_at routes) (named k c.train).path) (route_at routes c.route)) e

  -- and of the order of two that contend
  pub before_signed : (e c : Command) (v : ℕ) (s : Option Bool) → contend routes e c ≡ true → v ≡ live_number live d routes n (BeforeIn e c)
      → s ≡ (if has_pair k e c then Some true else if is_free k c then Some false else None)
      → signed v s ≡ map (left_lit live d routes n) (before_literals d routes k e c)
  before_signed e c v s t m h =
      ap (signed v) h ∙ (ap (λ b. signed v (if has_pair k e c then Some true else if b then Some false else None)) (with_it (is_free k c) (contend routes e c) t)
      ∙ by_sign (Before e c) v (has_pair k e c) (is_free k c && contend routes e c) m)
    where
      with_it : (a b : Bool) → b ≡ true → a ≡ (a && b)
      with_it true b t = sym t
      with_it false b t = refl

-- ---- the three answers for a command that is not named

pub closed_further : (a b g : Bool) → a ≡ false → b ≡ true → g ≡ true → Some false ≡ (if a then Some true else if b && g then Some false else None)
closed_further true b g e f h = absurd (true≢false e)
closed_further false true true e f h = refl
closed_further false true false e f h = absurd (true≢false (sym h))
closed_further false false g e f h = absurd (true≢false (sym f))

pub closed_only : (a b g : Bool) → a ≡ false → g ≡ false → None ≡ (if a then Some true else if b && g then Some false else None)
closed_only true b g e h = absurd (true≢false e)
closed_only false true true e h = absurd (true≢false h)
closed_only false true false e h = refl
closed_only false false g e h = refl

pub not_closed : (a b g : Bool) → a ≡ false → b ≡ false → None ≡ (if a then Some true else if b && g then Some false else None)
not_closed true b g e f = absurd (true≢false e)
not_closed false true g e f = absurd (true≢false f)
not_closed false false g e f = refl
