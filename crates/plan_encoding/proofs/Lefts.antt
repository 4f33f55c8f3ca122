-- What is left of a clause in the base of each kind.
use Rattle.std.proofs.Common.{◌≡◌, ℕ, Bool, if◌then◌else◌, List, map, Some, None, sym, ap, ap₂, subst, ◌∙◌}
use Rattle.rail_base.specs.declared.station.Station.{Station}
use Rattle.rail_base.specs.declared.route.Route.{Route}
use Rattle.rail_base.specs.declared.plan.Command.{Command}
use Rattle.clause_spec.specs.declared.question.BaseKind.{BaseKind}
use Rattle.clause_spec.specs.declared.question.BaseKind.TheVariants.{Live, Normal, Plain, Sorted}
use Rattle.clause_spec.specs.Variables.{numbered}
use Rattle.clause_spec.specs.Clauses.{Clause}
use Rattle.clause_spec.proofs.Families.{KnownAll}
use Rattle.base_spec.specs.Bases.{left_in}
use Rattle.live_clause_spec.specs.Clauses.{left_of}
use Rattle.live_clause_spec.specs.Live.{is_live}
use Rattle.live_clause_spec.specs.Variables.{live_commands, live_numbered, live_pairs}
use Rattle.command_set.specs.Commands.{AreCommandsOf, is_among}
use Rattle.command_set.proofs.Tests.{are_sets, left_alike, pairs_alike}
use Rattle.plan_encoding.specs.Bases.{speaks_of}
use Rattle.plan_encoding.specs.Numberings.{IsNumberingOf, Numbered}
use Rattle.plan_encoding.proofs.Over.{any, denies_none, whole, written_one}

module _ (d : Station) (routes : List Route) (n : ℕ) (cl : Clause) (known : KnownAll d routes n cl) where
  -- where all commands are live all of it is
  all_left : left_of any d routes n cl ≡ Some (map (numbered d routes n) cl)
  all_left =
      ap₂ (λ (b : Bool) (c : Clause). if b then None else Some (map (live_numbered any d routes n) c)) (denies_none cl) (whole cl)
      ∙ ap Some (written_one d routes n cl known)

  by_commands : (live : Command → Bool) (cs : List Command) → cs ≡ live_commands live d routes → left_of (is_among cs) d routes n cl ≡ left_of live d routes n cl
  by_commands live cs is = ap (λ (cs : List Command). left_of (is_among cs) d routes n cl) is ∙ left_alike live d routes n cl known

  -- by the commands that a base speaks of is left what is left in it
  pub left_by_kind : (kind : BaseKind) (cs : List Command) → cs ≡ live_commands (speaks_of kind d routes) d routes → left_of (is_among cs) d routes n cl ≡ left_in kind d routes n cl
  left_by_kind Plain cs is = by_commands any cs is ∙ all_left
  left_by_kind Sorted cs is = by_commands any cs is ∙ all_left
  left_by_kind Normal cs is = by_commands any cs is ∙ all_left
  left_by_kind (Live turns) cs is = by_commands (is_live d routes) cs is

-- the commands of a numbering are a design's, and its pairs those of them that contend
module _ (live : Command → Bool) (d : Station) (routes : List Route) (n : ℕ) (b : Numbered) (is : IsNumberingOf live d routes n b) where
  pub of_design : AreCommandsOf d routes b.commands
  of_design = subst (λ (cs : List Command). AreCommandsOf d routes cs) (sym is.commands) (are_sets live d routes)

  pub paired : b.pairs ≡ live_pairs (is_among b.commands) d routes
  paired = is.pairs ∙ (sym (pairs_alike live d routes) ∙ ap (λ (cs : List Command). live_pairs (is_among cs) d routes) (sym is.commands))
