use Rattle.std.proofs.Common.{◌≡◌, ℕ, [], refl, ap, ◌∙◌, sym, append-nil, arith}
use Rattle.clause_spec.specs.declared.question.VariableCounts.{VariableCounts}
use Rattle.plan_exclusion.specs.Exclusions.{question_of}
use Rattle.proof_log.specs.Heads.{head_text}
use Rattle.proof_log.specs.declared.head.Head.TheVariants.{Of}
use Rattle.rail_spec.specs.Track.{routes_of}
use Rattle.sat_core.specs.Texts.{ended}
use Rattle.verify_loop.specs.Outcomes.{first_clauses, head, vars}
use Rattle.verify_loop.specs.Quests.{by_itself}
use Rattle.verify_loop.proofs.Held.{all-below, some-same, vars-up-to}
use Rattle.verify_loop.proofs.Known.{first_inner}
use Rattle.verify_loop.proofs.search.begin.Goals as goal

pub over-requires-clause-in_vars : goal.over-requires-clause-in_vars
over-requires-clause-in_vars c =
    let d = c.args.interlocking.now.design.station in
    let n = c.args.numbering.now.steps in
    let m = by_itself c.args.aim d n in
    let counted = ap (λ (v : VariableCounts). v.count) (c.variables-variables.ensures d (routes_of d) n c.requires.numbers) in
    vars-up-to (vars m d n) (first_clauses m d n) c.args.clauses c.variables-variables.result.count c.requires.clauses counted (first_inner m d n c.requires.at_least_one)

pub returns-clause-begun : goal.returns-clause-begun
returns-clause-begun c =
    let d = c.args.interlocking.now.design.station in
    let n = c.args.numbering.now.steps in
    let m = by_itself c.args.aim d n in
    let counted = ap (λ (v : VariableCounts). v.count) (c.variables-variables.ensures d (routes_of d) n c.requires.numbers) in
    let s = c.in-Ok-over.ensures in
    let named : head_text (Of c.question.result) ≡ head_text (head m d n) = ap (λ q. head_text (Of q)) (c.question.ensures ∙ ap (question_of m.base d) c.steps.ensures) in
    record {
      lines = [];
      clauses = s.clauses ∙ c.requires.clauses;
      numbers = s.learnt;
      run = record { text = s.text ∙ (c.in-Ok.ensures.text ∙ (ap ended named ∙ sym (append-nil (ended (head_text (head m d n)))))); go_on = tt };
      evidence = refl;
      limit = some-same _ _ s.limit ∙ c.in-Ok.ensures.limit;
      same_vars = s.vars ∙ counted;
      below_2_32 = omega (arith, counted);
      below = all-below (vars m d n) (first_clauses m d n) (first_inner m d n c.requires.at_least_one);
      derived = s.derives;
      none_learnt = refl;
      none_failed = c.new-2.ensures.items;
      first = refl;
      none_spent = refl;
      at_least_one = c.in-Ok-first_steps.ensures.at_least_one;
      at_most_n = (let most = c.in-Ok-first_steps.ensures.at_most_n in let same = c.steps-2.ensures in omega arith);
      fewer = c.in-Ok-first_steps.ensures.none_below;
    }
