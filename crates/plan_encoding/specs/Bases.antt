-- What a base is.
use Rattle.std.specs.Prelude.{ℕ, ◌≡◌, ◌-◌, Bool, true, List, ◌++◌, map, flat_map, Some}
use Rattle.rail_base.specs.declared.station.Station.{Station}
use Rattle.rail_base.specs.declared.route.Route.{Route}
use Rattle.rail_base.specs.declared.plan.Command.{Command}
use Rattle.rail_base.specs.Numbering.{one_to}
use Rattle.rail_base.specs.Stations.{trains}
use Rattle.sat_clause.specs.declared.lit.Lit.{Lit}
use Rattle.clause_spec.specs.declared.question.BaseKind.{BaseKind}
use Rattle.clause_spec.specs.declared.question.BaseKind.TheVariants.{Plain, Sorted, Normal, Live}
use Rattle.clause_spec.specs.declared.question.Turns.{Turns}
use Rattle.clause_spec.specs.Clauses.{Clause, in_order, literals, not_at_once, past_limit, stays_given}
use Rattle.clause_spec.specs.Laws.{HasFewLiterals}
use Rattle.base_spec.specs.Bases.{clauses_of}
use Rattle.live_clause_spec.specs.Listed.{live_all_given, live_clauses, live_excluded, live_first_pairs}
use Rattle.live_clause_spec.specs.Listed.{live_makes_visits, live_starts_rightly, live_waits}
use Rattle.live_clause_spec.specs.Live.{is_live}
use Rattle.live_clause_spec.specs.Variables.{live_commands, live_numbered, live_pairs}
use Rattle.command_set.specs.Commands.{AreCommandsOf, is_among}
use Rattle.plan_encoding.specs.declared.numbering.Base.{Base}
use Rattle.plan_encoding.specs.declared.sink.BaseFault.{BaseFault}
use Rattle.plan_encoding.specs.declared.sink.BaseFault.TheVariants.{TooLarge, Memory}
use Rattle.plan_encoding.specs.Numberings.{IsNumberingOf}

-- which commands the base of a kind speaks of
abbrev pub speaks_of : BaseKind → Station → List Route → Command → Bool
speaks_of Plain d routes = λ c. true
speaks_of Sorted d routes = λ c. true
speaks_of Normal d routes = λ c. true
speaks_of (Live turns) d routes = is_live d routes

-- it is a base of these clauses over the live commands of a design with these routes, for n steps: the clauses are
-- there in their order, all live, and few
pub record HasClauses (live : Command → Bool) (cls : List (List Lit)) (d : Station) (table : List Route) (n : ℕ)
    (b : Base) : Type 0 where
  pub numbering : IsNumberingOf live d table n b.numbering
  pub clauses : b.clauses ≡ map (λ c. (c, true)) cls
  pub literals : b.literals ≡ literals cls
  pub few : HasFewLiterals cls

-- it is the base of this kind
abbrev pub IsBaseOf : BaseKind → Station → List Route → ℕ → Base → Type 0
IsBaseOf kind d table n b = HasClauses (speaks_of kind d table) (clauses_of kind d table n) d table n b

-- these have more than 16,000,000 literals, so many up to the first clause that is too much
abbrev pub AreRefused : List (List Lit) → BaseFault → Type 0
AreRefused cls (TooLarge k) = past_limit 16000000 0 cls ≡ Some k
AreRefused cls Memory = Unit {0}

-- those of the base of this kind are refused
abbrev pub IsRefused : BaseKind → Station → List Route → ℕ → BaseFault → Type 0
IsRefused kind d routes n fault = AreRefused (clauses_of kind d routes n) fault

-- ---- bases over some commands

module _ (live : Command → Bool) (d : Station) (routes : List Route) (n : ℕ) where
  -- what is left of the plain clauses where the other commands are never given
  abbrev pub plain_clauses : List Clause
  plain_clauses = flat_map (stays_given d routes n) (live_commands live d routes)
      ++ flat_map (live_starts_rightly live d routes n) (live_commands live d routes)
      ++ flat_map (live_excluded live d routes n) (trains d)
      ++ flat_map (not_at_once d routes n) (live_first_pairs live d routes n)
      ++ flat_map (live_waits live d routes n) (live_pairs live d routes)
      ++ flat_map (live_makes_visits live d routes n) (trains d)
      ++ flat_map (in_order d routes n) (live_pairs live d routes)
      ++ flat_map (live_all_given live d routes n) (one_to (n - 1))

  -- over numbers
  abbrev pub plain_base : List (List Lit)
  plain_base = map (map (live_numbered live d routes n)) plain_clauses

-- with those that these pairs of trains come in turn
abbrev pub turns_base : Turns → (Command → Bool) → Station → List Route → ℕ → List (List Lit)
turns_base turns live d routes n = map (map (live_numbered live d routes n)) (live_clauses turns live d routes n)

-- it is a base of these clauses over commands of a design
pub record IsOver (cs : List Command) (clauses : (Command → Bool) → Station → List Route → ℕ → List (List Lit))
    (d : Station) (table : List Route) (n : ℕ) (b : Base) : Type 0 where
  pub commands : AreCommandsOf d table cs
  pub base : HasClauses (is_among cs) (clauses (is_among cs) d table n) d table n b
