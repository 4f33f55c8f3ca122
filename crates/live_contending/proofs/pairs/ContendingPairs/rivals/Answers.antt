use Rattle.std.proofs.Common.{◌≡◌, true, false, Global, List, Vec, map, filter, flat_map, subst, sym, ap, ◌∙◌, true≢false}
use Rattle.std.proofs.lemmas.Result.{IfOk-weaker}
use Rattle.rail_base.specs.declared.plan.Command.{Command}
use Rattle.rail_base.specs.Members.{In}
use Rattle.rail_base.proofs.Members.{list_any_from, list_any_gives}
use Rattle.rail_spec.specs.Plans.{is_command}
use Rattle.clause_spec.proofs.Lists.{Distinct}
use Rattle.clause_spec.proofs.Steps.{is_command_same, is_command_self}
use Rattle.command_set.specs.Commands.{is_among}
use Rattle.live_contending.specs.Pairs.{Contending, rivals}
use Rattle.live_contending.specs.Rows.{row_at, train_count}
use Rattle.live_contending.proofs.Distinct.{to_distinct}
use Rattle.live_contending.proofs.Listed.{all_rivals, own_none, own_pairs}
use Rattle.live_contending.proofs.pairs.ContendingPairs.rivals.Goals as goal

there : (cs : List Command) (e : Command) → is_among cs e ≡ true → In e cs
there cs e h =
    let g = list_any_gives (is_command e) cs h in
    subst (λ (x : Command). In x cs) (is_command_same e g.0 g.2) g.1

not_there : (cs : List Command) (e : Command) → is_among cs e ≡ false → In e cs → ⊥
not_there cs e h m = true≢false (sym (list_any_from (is_command e) cs e m (is_command_self e)) ∙ h)

-- the pairs of a command that is there
own : (listed : Command → List Command) (cs found : List Command) (view : List (Command × Command)) (e : Command) → Distinct cs → In e cs → found ≡ listed e
    → flat_map (λ x. map (λ c. (x, c)) (listed x)) cs ≡ view → map (λ c. (e, c)) found ≡ filter (λ p. is_command p.0 e) view
own listed cs found view e once m h is = ap (map (λ c. (e, c))) h ∙ (sym (own_pairs listed e cs once m) ∙ ap (filter (λ p. is_command p.0 e)) is)

pub returns-then-not-contains-clause-pairs : goal.returns-then-not-contains-clause-pairs
returns-then-not-contains-clause-pairs c =
    let rows = c.self.inside.rows in
    let e = c.args.command in
    ap (map (λ x. (e, x))) c.new.ensures.items
    ∙ (sym (own_none (rivals (train_count rows) (row_at rows)) e c.self.inside.commands (not_there c.self.inside.commands e (sym c.contains.ensures ∙ c.if-not-contains.true)))
    ∙ ap (λ (p : Contending). filter (λ q. is_command q.0 e) p.pairs) c.self.view_is)

pub returns-clause-pairs : goal.returns-clause-pairs
returns-clause-pairs c =
    let rows = c.self.inside.rows in
    let e = c.args.command in
    IfOk-weaker c.rivals_by_rows.result (λ (cs : Vec Command Global). cs.items ≡ rivals (train_count rows) (row_at rows) e) _
    (λ cs h. own (rivals (train_count rows) (row_at rows)) c.self.inside.commands cs.items c.args.self.now.pairs e
    (to_distinct c.self.inside.commands c.self.invariant.differ) (there c.self.inside.commands e (sym c.contains.ensures ∙ c.if-not-contains.false)) h
    (ap (λ (p : Contending). p.pairs) c.self.view_is))
    c.rivals_by_rows.ensures

pub returns-clause-all : goal.returns-clause-all
returns-clause-all c = λ d routes are is among.
    let e = c.args.command in
    let cs = c.args.self.now.commands in
    IfOk-weaker c.rivals_by_rows.result (λ (found : Vec Command Global). map (λ x. (e, x)) found.items ≡ filter (λ p. is_command p.0 e) c.args.self.now.pairs) _
    (λ found h. all_rivals c.args.self.now.pairs cs found.items e h d routes are
    (subst (λ (p : Contending). Distinct p.commands) c.self.view_is (to_distinct c.self.inside.commands c.self.invariant.differ)) (there cs e among) is)
    (returns-clause-pairs c)
