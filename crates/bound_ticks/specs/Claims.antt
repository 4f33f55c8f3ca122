-- What a certificate claims, held against an interlocking.
use Rattle.std.specs.Prelude.{◌≡◌, ℕ, ◌≤◌, Bool, true, All, Option, Some, length}
use Rattle.interlocking.specs.declared.railway.Interlocking.{Interlocking}
use Rattle.cone_spec.specs.declared.Cone.{Cone}
use Rattle.bound_spec.specs.declared.Bound.{Bound}
use Rattle.bound_spec.specs.declared.Origin.{Origin}
use Rattle.bound_spec.specs.declared.Origin.TheVariants as origin
use Rattle.bound_spec.specs.declared.Requirement.{Requirement}
use Rattle.bound_spec.specs.Certificates.{VisitOf, visit_from, visit_to}
use Rattle.bound_spec.specs.Validity.{cone_shows, followed, is_made_at, origin_shows, is_too_long, names_design}
use Rattle.bound_spec.specs.Validity.{passes_between, requirement_in_design, ticks_from_visit, ticks_to}
use Rattle.cone_form.specs.Fits.{fits}
use Rattle.bound_ticks.specs.Walks.{IsLeg}

module _ (i : Interlocking) where
  -- the design has what is required
  abbrev pub requirement_fits : Requirement → Bool
  requirement_fits = requirement_in_design i.design.station i.routes

  -- what the certificate names is there, and the legs can wait for each other
  abbrev pub names_fit : Bound → Bool
  names_fit b = names_design i.design.station i.routes b

  -- the visit from which its ticks are counted, and that at which they end
  abbrev pub from_of : Bound → Option VisitOf
  from_of b = visit_from i.design.station b.requirement

  abbrev pub to_of : Bound → Option VisitOf
  to_of b = visit_to i.design.station b.requirement

  -- so many ticks of each leg are counted
  abbrev pub followed_of : Bound → ℕ
  followed_of b = followed i.design.station i.routes b.legs

  -- the least ticks to a visit, or to the grant of the last leg's first command
  abbrev pub ticks_of : ℕ → Bound → Option VisitOf → ℕ
  ticks_of h b to = ticks_to i.design.station i.routes h to b.legs

  -- the least ticks from one visit to another
  abbrev pub ticks_between_of : ℕ → Bound → VisitOf → VisitOf → ℕ
  ticks_between_of h b from to = ticks_from_visit i.design.station i.routes h from to b.legs

  -- the least ticks from the one visit to the other are too many
  abbrev pub passes_of : ℕ → Bound → VisitOf → VisitOf → Bool
  passes_of h b from to = let d = i.design.station in
      passes_between d i.routes h from to b.legs (is_too_long d i.routes b.requirement)

  -- by an origin the ticks are too many
  abbrev pub shows_by : Bound → Origin → Bool
  shows_by b o = origin_shows i.design.station i.routes b o (from_of b) (to_of b)

  -- the cone of the certificate makes the visit at this tick
  abbrev pub cone_shows_of : Bound → ℕ → VisitOf → Bool
  cone_shows_of b k v = cone_shows i.design.station i.routes b k v

  -- a visit made at some tick is made at this one
  abbrev pub made_at : Bound → ℕ → Option ℕ → Bool
  made_at b k at = is_made_at i.design.station i.routes b k at

  -- a certificate that names what the design has
  pub record IsNamed (b : Bound) : Type 0 where
    pub required : requirement_fits b.requirement ≡ true
    pub legs : All (IsLeg i) b.legs
    pub at_most_64 : length b.legs ≤ 64
    pub cone : (k : ℕ) (c : Cone) (v : VisitOf) → b.origin ≡ origin.Cone k c → from_of b ≡ Some v → fits i c ≡ true
