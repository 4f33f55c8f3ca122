use Rattle.named_files.proofs.Printing.{reports_ok, reports_refused}
use Rattle.named_files.proofs.reporting.report.Goals as goal

pub returns-in-Ok-clause-reports : goal.returns-in-Ok-clause-reports
returns-in-Ok-clause-reports g c = reports_ok c.print.result _ _ _ _ c.args.made c.in-Ok.reply c.in-Ok.is c.print.ensures.prints c.print.ensures.no_shelf

pub returns-in-Err-Refused-clause-reports : goal.returns-in-Err-Refused-clause-reports
returns-in-Err-Refused-clause-reports g c =
    reports_refused c.print-in-Err-Refused.result _ _ _ _ c.args.made c.in-Err-Refused.field-0 c.in-Err-Refused.reply c.in-Err-Refused.is c.in-Err-Refused.field-0-is c.print-in-Err-Refused.ensures.prints c.print-in-Err-Refused.ensures.no_shelf
