use Rattle.std.proofs.Common.{◌≡◌, ◌≤◌, length, refl, ap, ap₂, ◌∙◌, subst}
use Rattle.rail_base.specs.declared.history.Verdict.{Verdict}
use Rattle.rail_spec.specs.Histories.{verdict_of}
use Rattle.cli_shell.specs.Shows.{verdict_at_horizon}
use Rattle.run_drawing.specs.Words.{run_size, run_words}
use Rattle.draw_cli.proofs.drawn.run_drawn.Goals as goal

pub returns : goal.returns
returns c =
    let d = c.args.interlocking.now.design.station in
    let plan = c.args.plan.now.steps in
    let same : c.in_ok-verdict.verdict ≡ verdict_at_horizon d plan = c.in_ok-verdict.ensures.value ∙ ap₂ (λ r h. verdict_of d r plan h) c.args.interlocking.now.table c.horizon.ensures.value in
    record {
      status = refl;
      picture = c.in_ok-picture.picture;
      lines = c.in_ok-lines.ensures;
      words_are = c.in_ok-picture.ensures.words ∙ ap (run_words d) same;
      within_limit = subst (λ (v : Verdict). length c.in_ok-picture.picture ≤ run_size d v) same c.in_ok-picture.ensures.size;
    }
