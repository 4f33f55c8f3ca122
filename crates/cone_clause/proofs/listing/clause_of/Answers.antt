use Rattle.std.proofs.Common.{◌≡◌, Bool, true, false, List, Some, ◌++◌, map, flat_map, sym, ap, ap₂, ◌∙◌}
use Rattle.rail_base.specs.declared.plan.Command.{Command}
use Rattle.sat_clause.specs.declared.lit.Lit.{Lit}
use Rattle.command_set.specs.Commands.{is_among}
use Rattle.cone_spec.specs.Clauses.{used_literals}
use Rattle.cone_clause.specs.Contentions.{among}
use Rattle.cone_clause.specs.Numbered.{left_lit, names_only}
use Rattle.cone_clause.proofs.Left.{left_none, left_some}
use Rattle.cone_clause.proofs.Walked.{said}
use Rattle.cone_clause.proofs.listing.clause_of.Goals as goal

pub returns-then-not-names_only : goal.returns-then-not-names_only
returns-then-not-names_only c =
    let i = c.args.contention.now.interlocking.now in
    let k = c.args.cone.now in
    let names : names_only (among c.args.contention.now) k ≡ false = sym (c.names_only.ensures ∙ ap (λ (cs : List Command). names_only (is_among cs) k) c.commands.ensures) ∙ c.if-not-names_only.true in
    sym (left_none (among c.args.contention.now) i.design.station i.routes c.args.steps.count k c.requires.fits names)

pub returns : goal.returns
returns c =
    let i = c.args.contention.now.interlocking.now in
    let d = i.design.station in
    let k = c.args.cone.now in
    let n = c.args.steps.count in
    let live : Command → Bool = among c.args.contention.now in
    let names : names_only live k ≡ true = sym (c.names_only.ensures ∙ ap (λ (cs : List Command). names_only (is_among cs) k) c.commands.ensures) ∙ c.if-not-names_only.false in
    let lits : List Command → List (Command × Command) → List Lit = λ cs ps. map (left_lit live d i.routes n) (flat_map (used_literals d i.routes k) cs) ++ map (left_lit live d i.routes n) (flat_map (said d i.routes k) ps) in
    ap (λ (ls : List Lit). Some ls)
    (c.in_ok-push_before.ensures ∙ (ap (λ (ls : List Lit). ls ++ map (left_lit live d i.routes n) (flat_map (said d i.routes k) c.args.contention.now.pairs.now.pairs)) (c.in_ok-push_used.ensures ∙ ap (λ (ls : List Lit). ls ++ map (left_lit live d i.routes n) (flat_map (used_literals d i.routes k) c.args.contention.now.pairs.now.commands)) c.new-clause.ensures.items)
    ∙ ap₂ lits (sym c.args.contention.now.of_design) c.args.contention.now.paired))
    ∙ sym (left_some live d i.routes n k c.requires.fits names)
