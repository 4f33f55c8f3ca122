-- No refusal of the clauses or of a within has the status of usage.
use Rattle.std.proofs.Common.{◌≡◌, ℕ, Bool, true, false, List, length, nat_le, if◌then◌else◌, Option, Some, None, Ok, Err, refl}
use Rattle.clause_spec.specs.Clauses.{base_clauses, past_limit}
use Rattle.clause_spec.specs.declared.question.BaseKind.TheVariants.{Plain}
use Rattle.rail_base.specs.declared.station.Station.{Station}
use Rattle.rail_words.specs.declared.request.InTime.{InTime}
use Rattle.rail_spec.specs.Track.{routes_of}
use Rattle.cli_shell.specs.declared.status.Status.TheVariants.{Usage, DesignRefused}
use Rattle.cli_shell.specs.Texts.{too_large_line, no_within_line}
use Rattle.cli_shell.specs.Answers.{ReplySeen, and_then}
use Rattle.proof_judge.specs.Judged.{past_plain}
use Rattle.proof_shell.specs.Answers.{for_file, unless_too_large, with_clauses, put_in, lacks_within, timed}
use Rattle.cli_shell.proofs.Using.{IsNoUsage, one_status}

too_large : (d : Station) (many : Option ℕ) → IsNoUsage (unless_too_large d many)
too_large d None a e is = absurd (cc)
too_large d (Some k) a e is = let kind : DesignRefused ≡ Usage = one_status (unless_too_large d (Some k)) DesignRefused too_large_line a refl e is in absurd (cc)

pub clauses_are_no_usage : (n : ℕ) (d : Station) → IsNoUsage (with_clauses Plain n d)
clauses_are_no_usage n d = too_large d (past_limit 16000000 0 (base_clauses d (routes_of d) n))

pub files_are_no_usage : (n : ℕ) (d : Station) (text : List ℕ) → IsNoUsage (for_file n d text)
files_are_no_usage n d text = too_large d (past_plain d n text)

no_within : (d : Station) (many : Option ℕ) → IsNoUsage (and_then (unless_too_large d many) lacks_within)
no_within d None a e is = let kind : DesignRefused ≡ Usage = one_status (lacks_within d) DesignRefused no_within_line a refl e is in absurd (cc)
no_within d (Some k) a e is = let kind : DesignRefused ≡ Usage = one_status (unless_too_large d (Some k)) DesignRefused too_large_line a refl e is in absurd (cc)

pub times_are_no_usage : (n : ℕ) (t : Option InTime) (d : Station) → IsNoUsage (timed n t d)
times_are_no_usage n None d a = λ e is. absurd (cc)
times_are_no_usage n (Some t) d a = go (nat_le t.within (length d.withins)) a
  where
    go : (has : Bool) (a : ReplySeen) → (if has then Ok (put_in (Some t) d) else and_then (with_clauses Plain n d) lacks_within) ≡ Err a → a.status ≡ Usage → ⊥
    go true a e is = absurd (cc)
    go false a e is = no_within d (past_limit 16000000 0 (base_clauses d (routes_of d) n)) a e is
