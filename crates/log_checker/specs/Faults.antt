-- Why a line of a proof file is refused.
use Rattle.std.specs.Prelude.{◌≡◌, Result, Err}
use Rattle.log_checker.specs.declared.check_result.Reason.{Reason}
use Rattle.log_checker.specs.declared.database.Fault.{Fault}
use Rattle.log_checker.specs.declared.database.Fault.TheVariants.{Bad}

-- it is so of the reason for which a line is refused, if it is
abbrev pub IfBad : {X : Type 0} → Result X Fault → (Reason → Type 0) → Type 0
IfBad result Is = (reason : Reason) → result ≡ Err (Bad reason) → Is reason
