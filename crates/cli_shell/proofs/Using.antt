-- No refusal of a file has the status of usage.
use Rattle.std.proofs.Common.{◌≡◌, ℕ, Bool, true, false, List, length, nat_lt, nat_le, if◌then◌else◌, Result, Ok, Err, refl, ap, ◌∙◌}
use Rattle.design_table.specs.declared.fault.Code.{Code}
use Rattle.design_table.specs.declared.place.Place.{Place}
use Rattle.infra_reader.specs.Design.{design_of}
use Rattle.rail_base.specs.declared.station.Station.{Station}
use Rattle.rail_base.specs.declared.plan.Command.{Command}
use Rattle.rail_plan.specs.Reading.{Refusal, plan_of}
use Rattle.rail_spec.specs.Track.{routes_of}
use Rattle.cli_shell.specs.declared.status.Status.{Status}
use Rattle.cli_shell.specs.declared.status.Status.TheVariants.{Usage, DesignRefused, PlanRefused, TooLong}
use Rattle.cli_shell.specs.declared.input.InputFile.{InputFile}
use Rattle.cli_shell.specs.Texts.{limit_of, too_long_line, design_refused_line, no_within_line, plan_refused_line}
use Rattle.cli_shell.specs.Answers.{ReplySeen, one_line, within_limit, with_routes, design_or_answer, and_then, design_in, with_within, plan_or_answer, plan_in}

-- no refusal of this reading has the status of usage
abbrev pub IsNoUsage : {X : Type 0} → Result X ReplySeen → Type 0
IsNoUsage r = (a : ReplySeen) → r ≡ Err a → a.status ≡ Usage → ⊥

-- an answer of one line has its status
pub one_status : {X : Type 0} (r : Result X ReplySeen) (s : Status) (line : List ℕ) (a : ReplySeen) → r ≡ Err (one_line s line) → r ≡ Err a → a.status ≡ Usage → s ≡ Usage
one_status r s line a one other is = let same : one_line s line ≡ a = cc in ap (λ (b : ReplySeen). b.status) same ∙ is

pub long_is_no_usage : (f : InputFile) (bytes : List ℕ) → IsNoUsage (within_limit f bytes)
long_is_no_usage f bytes a = go (nat_lt (limit_of f) (length bytes)) a
  where
    go : (long : Bool) (a : ReplySeen) → (if long then Err (one_line TooLong (too_long_line f)) else Ok bytes) ≡ Err a → a.status ≡ Usage → ⊥
    go true a e is = let kind : TooLong ≡ Usage = one_status _ TooLong (too_long_line f) a refl e is in absurd (cc)
    go false a e is = absurd (cc)

refused_design : (r : Result Station (Code × Place)) → IsNoUsage (design_or_answer r)
refused_design (Ok d) a e is = absurd (cc)
refused_design (Err x) a e is = let kind : DesignRefused ≡ Usage = one_status (design_or_answer (Err x)) DesignRefused (design_refused_line x.0 x.1) a refl e is in absurd (cc)

pub design_is_no_usage : (text : List ℕ) → IsNoUsage (design_in text)
design_is_no_usage text = refused_design (and_then (design_of text) with_routes)

pub within_is_no_usage : (w : ℕ) (d : Station) → IsNoUsage (with_within w d)
within_is_no_usage w d a = go (nat_le w (length d.withins)) a
  where
    go : (has : Bool) (a : ReplySeen) → (if has then Ok d else Err (one_line DesignRefused no_within_line)) ≡ Err a → a.status ≡ Usage → ⊥
    go true a e is = absurd (cc)
    go false a e is = let kind : DesignRefused ≡ Usage = one_status (Err (one_line DesignRefused no_within_line)) DesignRefused no_within_line a refl e is in absurd (cc)

refused_plan : (d : Station) (r : Result (List (List Command)) Refusal) → IsNoUsage (plan_or_answer d r)
refused_plan d (Ok plan) a e is = absurd (cc)
refused_plan d (Err x) a e is = let kind : PlanRefused ≡ Usage = one_status (plan_or_answer d (Err x)) PlanRefused (plan_refused_line d x.0 x.1) a refl e is in absurd (cc)

pub plan_is_no_usage : (d : Station) (text : List ℕ) → IsNoUsage (plan_in d text)
plan_is_no_usage d text = refused_plan d (plan_of d (routes_of d) text)
