-- The base of which a search is made.
use Rattle.interlocking.specs.declared.railway.Interlocking.{Interlocking}
use Rattle.clause_spec.specs.declared.question.BaseKind.{BaseKind}
use Rattle.plan_encoding.specs.Bases.{IsBaseOf, speaks_of}
use Rattle.plan_encoding.specs.Numberings.{Numbered, IsNumberingOf}
use Rattle.plan_encoding.specs.declared.numbering.Base.{Base}
use Rattle.rail_spec.specs.Track.{routes_of}

-- it is that of the interlocking's design, for plans of as many steps as it says
abbrev pub IsBaseFor : BaseKind → Interlocking → Base → Type 0
IsBaseFor kind i b = IsBaseOf kind i.design.station (routes_of i.design.station) b.numbering.steps b

-- so are the numbers of the variables of a base
abbrev pub IsNumberingFor : BaseKind → Interlocking → Numbered → Type 0
IsNumberingFor kind i b =
    let d = i.design.station in IsNumberingOf (speaks_of kind d (routes_of d)) d (routes_of d) b.steps b
