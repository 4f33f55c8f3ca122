-- The reasons in words.
use Rattle.std.specs.Prelude.{ℕ, List, codes}
use Rattle.bound_spec.specs.declared.BoundFault.{BoundFault}
use Rattle.bound_spec.specs.declared.BoundFault.TheVariants.{BoundNotInDesign, PlaceNotCovered, BoundNotShown}
use Rattle.bound_spec.specs.declared.EvidenceFault.{EvidenceFault}
use Rattle.bound_spec.specs.declared.EvidenceFault.TheVariants as of
use Rattle.cone_spec.specs.declared.ConeFault.{ConeFault}
use Rattle.cone_spec.specs.declared.ConeFault.TheVariants.{PathNotInDesign, CommandNotGranted, HolderNotValid}
use Rattle.cone_spec.specs.declared.ConeFault.TheVariants.{ViolationNotShown}
use Rattle.log_checker.specs.declared.check_result.Reason.{Reason}
use Rattle.log_checker.specs.declared.check_result.Reason.TheVariants.{Text, HeadDiffers, BaseTooLarge, UnknownClause}
use Rattle.log_checker.specs.declared.check_result.Reason.TheVariants.{HintNotUnit, NoConflict, DropRefused, NotRefuted, NoFinalLine}

-- why a cone shows nothing
abbrev pub cone_fault_words : ConeFault → List ℕ
cone_fault_words PathNotInDesign = codes "path not in design"
cone_fault_words CommandNotGranted = codes "command not granted"
cone_fault_words HolderNotValid = codes "holder not valid"
cone_fault_words ViolationNotShown = codes "violation not shown"

-- why a bound shows nothing
abbrev pub bound_fault_words : BoundFault → List ℕ
bound_fault_words BoundNotInDesign = codes "bound not in design"
bound_fault_words PlaceNotCovered = codes "place not covered"
bound_fault_words BoundNotShown = codes "bound not shown"

-- why a cone or a bound shows nothing
abbrev pub evidence_fault_words : EvidenceFault → List ℕ
evidence_fault_words (of.Cone fault) = cone_fault_words fault
evidence_fault_words (of.Bound fault) = bound_fault_words fault

abbrev pub reason_words : Reason → List ℕ
reason_words Text = codes "text"
reason_words HeadDiffers = codes "head differs"
reason_words BaseTooLarge = codes "base too large"
reason_words UnknownClause = codes "unknown clause"
reason_words HintNotUnit = codes "hint not unit"
reason_words NoConflict = codes "no conflict"
reason_words DropRefused = codes "drop refused"
reason_words (NotRefuted fault) = evidence_fault_words fault
reason_words NoFinalLine = codes "no final line"
