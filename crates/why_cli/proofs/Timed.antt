-- Designs with a greatest time put in.
use Rattle.std.proofs.Common.{◌≡◌, ℕ, ◌≤◌, Bool, true, false, nat_le, if◌then◌else◌, List, length, Option, Some, None, Result, Ok, Err, refl, ap, sym, ◌∙◌, subst, le-leb, leb-true}
use Rattle.infra_reader.specs.Design.{design_of}
use Rattle.rail_base.specs.declared.station.Station.{Station}
use Rattle.rail_words.specs.declared.request.InTime.{InTime}
use Rattle.cli_shell.specs.declared.status.Status.TheVariants.{DesignRefused, Usage}
use Rattle.cli_shell.specs.Statuses.{is_verdict}
use Rattle.cli_shell.specs.Texts.{no_within_line}
use Rattle.cli_shell.specs.Answers.{ReplySeen, one_line, with_routes, and_then, design_in, with_within, unless_refused}
use Rattle.cli_shell.proofs.Passing.{design_refuses, within_refuses}
use Rattle.cli_shell.proofs.Using.{IsNoUsage, design_is_no_usage, within_is_no_usage}
use Rattle.proof_shell.specs.Answers.{put_in, timed}
use Rattle.proof_shell.specs.Verdicts.{HasWithin}
use Rattle.proof_shell.proofs.Judging.{time_passes}
use Rattle.proof_shell.proofs.Passing.{IsTimed, time_refuses, timed-is}
use Rattle.proof_shell.proofs.Using.{times_are_no_usage}
use Rattle.why_cli.specs.Answers.{with_time, timed_for, design_for}

-- ---- one reading after the other

-- both, and then an answer
pub goes_through : {X Y : Type 0} (r : Result X ReplySeen) (f : X → Result Y ReplySeen) (next : Y → ReplySeen) → unless_refused (and_then r f) next ≡ unless_refused r (λ x. unless_refused (f x) next)
goes_through (Ok x) f next = refl
goes_through (Err a) f next = refl

-- what was read by both
pub record Both {X Y : Type 0} (r : Result X ReplySeen) (f : X → Result Y ReplySeen) (y : Y) : Type 0 where
  pub read : X
  pub first : r ≡ Ok read
  pub second : f read ≡ Ok y

pub both_read : {X Y : Type 0} (r : Result X ReplySeen) (f : X → Result Y ReplySeen) (y : Y) → and_then r f ≡ Ok y → Both r f y
both_read (Ok x) f y e = record { read = x; first = refl; second = e }
both_read (Err a) f y e = absurd (cc)

-- an answer that refuses is one of the first, or of the second
refused_by : {X Y : Type 0} (Is : ReplySeen → Type 0) (r : Result X ReplySeen) (f : X → Result Y ReplySeen) → ((a : ReplySeen) → r ≡ Err a → Is a) → ((x : X) (a : ReplySeen) → f x ≡ Err a → Is a) → (a : ReplySeen) → and_then r f ≡ Err a → Is a
refused_by Is (Ok x) f first second a e = second x a e
refused_by Is (Err b) f first second a e = let same : b ≡ a = cc in subst Is same (first b refl)

-- ---- designs that have the within

passes_with : (t : InTime) (d : Station) (has : Bool) → has ≡ true → and_then (if has then Ok d else Err (one_line DesignRefused no_within_line)) (λ (same : Station). Ok (put_in (Some t) same)) ≡ Ok (put_in (Some t) d)
passes_with t d true e = refl
passes_with t d false e = absurd (cc)

with_time_passes : (t : Option InTime) (d : Station) → HasWithin t d → with_time t d ≡ Ok (put_in t d)
with_time_passes None d has = refl
with_time_passes (Some t) d has = passes_with t d (nat_le t.within (length d.withins)) (le-leb t.within (length d.withins) has)

pub passes_for : (steps : Option ℕ) (t : Option InTime) (d : Station) → HasWithin t d → timed_for steps t d ≡ Ok (put_in t d)
passes_for (Some n) t d has = time_passes n t d has
passes_for None t d has = with_time_passes t d has

pub reads_for : (steps : Option ℕ) (t : Option InTime) (text : List ℕ) (d : Station) → design_in text ≡ Ok d → HasWithin t d → design_for steps t text ≡ Ok (put_in t d)
reads_for steps t text d reads has = ap (λ r. and_then r (timed_for steps t)) reads ∙ passes_for steps t d has

-- with the within the steps don't matter
pub same_design : (steps other : Option ℕ) (t : Option InTime) (reading : Result Station ReplySeen) → ((d : Station) → reading ≡ Ok d → HasWithin t d) → and_then reading (timed_for steps t) ≡ and_then reading (timed_for other t)
same_design steps other t (Ok d) has = passes_for steps t d (has d refl) ∙ sym (passes_for other t d (has d refl))
same_design steps other t (Err a) has = refl

-- ---- designs that are read have it

with_time-is : (t : Option InTime) (d e : Station) → with_time t d ≡ Ok e → IsTimed t d e
with_time-is None d e h = record { has = tt; is = cc }
with_time-is (Some t) d e h = go (nat_le t.within (length d.withins)) refl h
  where
    go : (has : Bool) → nat_le t.within (length d.withins) ≡ has → and_then (if has then Ok d else Err (one_line DesignRefused no_within_line)) (λ (same : Station). Ok (put_in (Some t) same)) ≡ Ok e → IsTimed (Some t) d e
    go true at q = record { has = leb-true t.within (length d.withins) at; is = cc }
    go false at q = absurd (cc)

pub timed_for-is : (steps : Option ℕ) (t : Option InTime) (d e : Station) → timed_for steps t d ≡ Ok e → IsTimed t d e
timed_for-is (Some n) t d e h = timed-is n t d e h
timed_for-is None t d e h = with_time-is t d e h

-- ---- refusals

-- they are no verdicts
abbrev IsNone : ReplySeen → Type 0
IsNone a = is_verdict a.status ≡ true → ⊥

time_no_verdict : (steps : Option ℕ) (t : Option InTime) (d : Station) (a : ReplySeen) → timed_for steps t d ≡ Err a → IsNone a
time_no_verdict (Some n) t d a e = time_refuses n t d a e
time_no_verdict None None d a e = absurd (cc)
time_no_verdict None (Some t) d a e = refused_by IsNone (with_within t.within d) (λ (same : Station). Ok (put_in (Some t) same)) (within_refuses t.within d) (λ same b q. absurd (cc)) a e

pub design_no_verdict : (steps : Option ℕ) (t : Option InTime) (text : List ℕ) (a : ReplySeen) → design_for steps t text ≡ Err a → is_verdict a.status ≡ true → ⊥
design_no_verdict steps t text a e = refused_by IsNone (design_in text) (timed_for steps t) (design_refuses (and_then (design_of text) with_routes)) (time_no_verdict steps t) a e

-- and have not the status of usage
abbrev IsOther : ReplySeen → Type 0
IsOther a = a.status ≡ Usage → ⊥

time_no_usage : (steps : Option ℕ) (t : Option InTime) (d : Station) → IsNoUsage (timed_for steps t d)
time_no_usage (Some n) t d a e = times_are_no_usage n t d a e
time_no_usage None None d a e = absurd (cc)
time_no_usage None (Some t) d a e = refused_by IsOther (with_within t.within d) (λ (same : Station). Ok (put_in (Some t) same)) (within_is_no_usage t.within d) (λ same b q. absurd (cc)) a e

pub design_no_usage : (steps : Option ℕ) (t : Option InTime) (text : List ℕ) → IsNoUsage (design_for steps t text)
design_no_usage steps t text a e = refused_by IsOther (design_in text) (timed_for steps t) (design_is_no_usage text) (time_no_usage steps t) a e
