use Rattle.std.proofs.Common.{◌≡◌, false, true, [], sym, ◌∙◌}
use Rattle.named_files.proofs.Printing.{reported}
use Rattle.draw_cli.specs.Answers.{usage}
use Rattle.draw_cli.proofs.run.print_usage.Goals as goal

pub returns-clause-answer : goal.returns-clause-answer
returns-clause-answer g c = reported c.report.result _ _ _ _ (λ a. a ≡ usage) [] c.usage_made-made.result c.usage_made-made.ensures.makes c.report.ensures.reports

pub returns-clause-no_shelf : goal.returns-clause-no_shelf
returns-clause-no_shelf g c = λ fault. let e : false ≡ true = sym c.usage_made-made.ensures.read ∙ c.report.ensures.unread fault in absurd (cc)
