-- How a base is made, or not.
use Rattle.std.specs.Prelude.{◌≡◌, ℕ, true, List, is_some, Option, Some, None, Result, Ok, Err}
use Rattle.base_spec.specs.Bases.{clauses_of}
use Rattle.clause_spec.specs.Clauses.{past_limit}
use Rattle.clause_spec.specs.declared.question.BaseKind.{BaseKind}
use Rattle.plan_encoding.specs.declared.numbering.Base.{Base}
use Rattle.plan_encoding.specs.declared.sink.BaseFault.{BaseFault}
use Rattle.plan_encoding.specs.declared.sink.BaseFault.TheVariants.{TooLarge, Memory}
use Rattle.rail_base.specs.declared.route.Route.{Route}
use Rattle.rail_base.specs.declared.station.Station.{Station}

-- so many literals are too much, where the fault is no want of memory
abbrev pub IsPast : Option ℕ → BaseFault → Type 0
IsPast past (TooLarge literals) = past ≡ Some literals
IsPast past Memory = Unit {0}

-- the clauses of the base have more than 16,000,000 literals
abbrev pub IsTooLarge : BaseKind → Station → List Route → ℕ → Type 0
IsTooLarge kind d routes n = is_some (past_limit 16000000 0 (clauses_of kind d routes n)) ≡ true

-- none is found where the base was too large
abbrev pub IsIfSmall : Result Base BaseFault → Result (Option Base) BaseFault → Type 0
IsIfSmall (Ok base) found = found ≡ Ok (Some base)
IsIfSmall (Err (TooLarge literals)) found = found ≡ Ok None
IsIfSmall (Err Memory) found = found ≡ Err Memory
