-- Clauses and withins that pass, where an answer is yes or no.
use Rattle.std.proofs.Common.{◌≡◌, ℕ, Bool, true, false, length, nat_le, if◌then◌else◌, Option, Some, None, Ok, Err, refl}
use Rattle.std.proofs.lemmas.Bool.{leb-true}
use Rattle.clause_spec.specs.Clauses.{past_limit}
use Rattle.clause_spec.specs.declared.question.BaseKind.TheVariants.{Plain}
use Rattle.base_spec.specs.Bases.{clauses_of}
use Rattle.rail_base.specs.declared.station.Station.{Station}
use Rattle.rail_spec.specs.Track.{routes_of}
use Rattle.rail_words.specs.declared.request.InTime.{InTime}
use Rattle.cli_shell.specs.declared.status.Status.TheVariants.{DesignRefused}
use Rattle.cli_shell.specs.Statuses.{is_verdict}
use Rattle.cli_shell.specs.Texts.{too_large_line, no_within_line}
use Rattle.cli_shell.specs.Answers.{ReplySeen, and_then}
use Rattle.proof_shell.specs.Answers.{unless_too_large, with_clauses, put_in, lacks_within, timed}
use Rattle.proof_shell.specs.Verdicts.{HasWithin}
use Rattle.cli_shell.proofs.Passing.{refused}

pub clauses_refuse : (d : Station) (many : Option ℕ) (a : ReplySeen) → unless_too_large d many ≡ Err a → is_verdict a.status ≡ true → ⊥
clauses_refuse d None a e verdict = absurd (cc)
clauses_refuse d (Some k) a e verdict = refused (unless_too_large d (Some k)) DesignRefused too_large_line a refl e refl verdict

pub clauses-same : (d : Station) (many : Option ℕ) (e : Station) → unless_too_large d many ≡ Ok e → d ≡ e
clauses-same d None e h = cc
clauses-same d (Some k) e h = absurd (cc)

-- ---- times put in

no_within_refuses : (d : Station) (many : Option ℕ) (a : ReplySeen) → and_then (unless_too_large d many) lacks_within ≡ Err a → is_verdict a.status ≡ true → ⊥
no_within_refuses d None a e verdict = refused (lacks_within d) DesignRefused no_within_line a refl e refl verdict
no_within_refuses d (Some k) a e verdict = refused (unless_too_large d (Some k)) DesignRefused too_large_line a refl e refl verdict

pub time_refuses : (n : ℕ) (t : Option InTime) (d : Station) (a : ReplySeen) → timed n t d ≡ Err a → is_verdict a.status ≡ true → ⊥
time_refuses n None d a = λ e verdict. absurd (cc)
time_refuses n (Some t) d a = go (nat_le t.within (length d.withins)) a
  where
    go : (has : Bool) (a : ReplySeen) → (if has then Ok (put_in (Some t) d) else and_then (with_clauses Plain n d) lacks_within) ≡ Err a → is_verdict a.status ≡ true → ⊥
    go true a e verdict = absurd (cc)
    go false a e verdict = no_within_refuses d (past_limit 16000000 0 (clauses_of Plain d (routes_of d) n)) a e verdict

-- the design that passes has the within, and the time is put in
pub record IsTimed (t : Option InTime) (d e : Station) : Type 0 where
  pub has : HasWithin t d
  pub is : put_in t d ≡ e

pub timed-is : (n : ℕ) (t : Option InTime) (d e : Station) → timed n t d ≡ Ok e → IsTimed t d e
timed-is n None d e h = record { has = tt; is = cc }
timed-is n (Some t) d e h = go (nat_le t.within (length d.withins)) refl h
  where
    never : (many : Option ℕ) → and_then (unless_too_large d many) lacks_within ≡ Ok e → ⊥
    never None q = cc
    never (Some k) q = cc

    go : (has : Bool) → nat_le t.within (length d.withins) ≡ has → (if has then Ok (put_in (Some t) d) else and_then (with_clauses Plain n d) lacks_within) ≡ Ok e → IsTimed (Some t) d e
    go true at q = record { has = leb-true t.within (length d.withins) at; is = cc }
    go false at q = absurd (never (past_limit 16000000 0 (clauses_of Plain d (routes_of d) n)) q)
