-- The commands that a base speaks of, and the pairs of them that contend.
use Rattle.std.proofs.Common.{◌≡◌, List, sym, ap, subst, ◌∙◌}
use Rattle.clause_spec.specs.declared.question.BaseKind.{BaseKind}
use Rattle.command_set.specs.Commands.{AreCommandsOf, is_among}
use Rattle.command_set.proofs.Tests.{are_sets, pairs_alike}
use Rattle.interlocking.specs.declared.railway.Interlocking.{Interlocking}
use Rattle.live_clause_spec.specs.Variables.{live_commands, live_pairs}
use Rattle.plan_encoding.specs.Bases.{speaks_of}
use Rattle.plan_encoding.specs.Numberings.{IsNumberingOf, Numbered}
use Rattle.rail_base.specs.declared.plan.Command.{Command}
use Rattle.rail_base.specs.declared.route.Route.{Route}
use Rattle.rail_spec.specs.Track.{routes_of}
use Rattle.verify_loop.specs.Bases.{IsNumberingFor}

module _ (kind : BaseKind) (i : Interlocking) (b : Numbered) (numbers : IsNumberingFor kind i b) (table : i.routes ≡ routes_of i.design.station) where
  -- the numbering is that of the interlocking's own routes
  own : IsNumberingOf (speaks_of kind i.design.station i.routes) i.design.station i.routes b.steps b
  own = subst (λ (r : List Route). IsNumberingOf (speaks_of kind i.design.station r) i.design.station r b.steps b) (sym table) numbers

  module _ (cs : List Command) (same : cs ≡ b.commands) where
    -- its commands
    pub spoken : cs ≡ live_commands (speaks_of kind i.design.station i.routes) i.design.station i.routes
    spoken = same ∙ own.commands

    -- are commands of the design
    pub of_design_so : AreCommandsOf i.design.station i.routes cs
    of_design_so = subst (AreCommandsOf i.design.station i.routes) (sym spoken) (are_sets (speaks_of kind i.design.station i.routes) i.design.station i.routes)

    -- and its pairs are those of them
    pub paired_so : (ps : List (Command × Command)) → ps ≡ b.pairs → ps ≡ live_pairs (is_among cs) i.design.station i.routes
    paired_so ps pairs =
        pairs ∙ (own.pairs ∙ (sym (pairs_alike (speaks_of kind i.design.station i.routes) i.design.station i.routes)
        ∙ ap (λ (xs : List Command). live_pairs (is_among xs) i.design.station i.routes) (sym spoken)))
