-- What is said of a cone or a bound.
use Rattle.std.specs.Prelude.{ℕ, Bool, true, List}
use Rattle.rail_base.specs.declared.station.Station.{Station}
use Rattle.rail_base.specs.declared.route.Route.{Route}
use Rattle.bound_spec.specs.declared.Evidence.{Evidence}
use Rattle.bound_spec.specs.declared.Evidence.TheVariants as evidence
use Rattle.bound_spec.specs.Validity.{names_design}
use Rattle.cone_words.specs.Cones.{cone_sentences}
use Rattle.evidence_words.specs.Bounds.{bound_sentences}

module _ (d : Station) (routes : List Route) where
  -- a bound names what the design has
  abbrev pub names_what_is_there : Evidence → Bool
  names_what_is_there (evidence.Cone c) = true
  names_what_is_there (evidence.Bound b) = names_design d routes b

  -- the sentences about the cone or the bound of the file's line of this number
  abbrev pub evidence_sentences : ℕ → Evidence → List (List ℕ)
  evidence_sentences n (evidence.Cone c) = cone_sentences d routes n c
  evidence_sentences n (evidence.Bound b) = bound_sentences d routes b n
