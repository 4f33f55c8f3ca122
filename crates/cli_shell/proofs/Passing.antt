-- What was read, where an answer is yes or no.
use Rattle.std.proofs.Common.{◌≡◌, ℕ, Bool, true, false, List, [], ◌∷◌, map, length, nat_lt, nat_le, if◌then◌else◌, Result, Ok, Err, refl, ap, sym, ◌∙◌}
use Rattle.design_table.specs.declared.fault.Code.{Code}
use Rattle.design_table.specs.declared.fault.Code.TheVariants.{D12, D13}
use Rattle.design_table.specs.declared.place.Place.{Place}
use Rattle.design_table.specs.declared.place.Place.TheVariants.{Routes}
use Rattle.design_table.specs.Reads.{at, unless_at}
use Rattle.infra_reader.specs.Design.{design_of}
use Rattle.rail_base.specs.declared.station.Station.{Station}
use Rattle.rail_spec.specs.Track.{all_walks, edges_met_again}
use Rattle.cli_shell.specs.declared.status.Status.{Status}
use Rattle.cli_shell.specs.declared.status.Status.TheVariants.{DesignRefused, TooLong}
use Rattle.cli_shell.specs.declared.input.InputFile.{InputFile}
use Rattle.cli_shell.specs.Statuses.{is_verdict}
use Rattle.cli_shell.specs.Texts.{limit_of, too_long_line, design_refused_line, no_within_line}
use Rattle.cli_shell.specs.Answers.{ReplySeen, one_line, within_limit, edge_place, with_routes, design_or_answer, and_then, design_in, with_within, unless_refused}

-- ---- what refuses ends with no verdict

-- what was read, and what comes of it
pub record Passed {X : Type 0} (r : Result X ReplySeen) (next : X → ReplySeen) : Type 0 where
  pub read : X
  pub is : r ≡ Ok read
  pub comes : unless_refused r next ≡ next read
  pub verdict : is_verdict (next read).status ≡ true

pub passed : {X : Type 0} (r : Result X ReplySeen) (next : X → ReplySeen) → ((a : ReplySeen) → r ≡ Err a → is_verdict a.status ≡ true → ⊥) → is_verdict (unless_refused r next).status ≡ true → Passed r next
passed (Ok x) next never verdict = record { read = x; is = refl; comes = refl; verdict = verdict }
passed (Err a) next never verdict = absurd (never a refl verdict)

-- an answer of one line ends with its status
pub refused : {X : Type 0} (r : Result X ReplySeen) (s : Status) (line : List ℕ) (a : ReplySeen) → r ≡ Err (one_line s line) → r ≡ Err a → is_verdict s ≡ false → is_verdict a.status ≡ true → ⊥
refused r s line a one other none verdict = let same : one_line s line ≡ a = cc in let kind : is_verdict s ≡ true = ap (λ (b : ReplySeen). is_verdict b.status) same ∙ verdict in cc

pub long_refuses : (f : InputFile) (bytes : List ℕ) (a : ReplySeen) → within_limit f bytes ≡ Err a → is_verdict a.status ≡ true → ⊥
long_refuses f bytes a = go (nat_lt (limit_of f) (length bytes)) a
  where
    go : (long : Bool) (a : ReplySeen) → (if long then Err (one_line TooLong (too_long_line f)) else Ok bytes) ≡ Err a → is_verdict a.status ≡ true → ⊥
    go true a e verdict = refused _ TooLong (too_long_line f) a refl e refl verdict
    go false a e verdict = absurd (cc)

pub design_refuses : (r : Result Station (Code × Place)) (a : ReplySeen) → design_or_answer r ≡ Err a → is_verdict a.status ≡ true → ⊥
design_refuses (Ok d) a e verdict = absurd (cc)
design_refuses (Err x) a e verdict = refused (design_or_answer (Err x)) DesignRefused (design_refused_line x.0 x.1) a refl e refl verdict

pub within_refuses : (w : ℕ) (d : Station) (a : ReplySeen) → with_within w d ≡ Err a → is_verdict a.status ≡ true → ⊥
within_refuses w d a = go (nat_le w (length d.withins)) a
  where
    go : (has : Bool) (a : ReplySeen) → (if has then Ok d else Err (one_line DesignRefused no_within_line)) ≡ Err a → is_verdict a.status ≡ true → ⊥
    go true a e verdict = absurd (cc)
    go false a e verdict = refused (Err (one_line DesignRefused no_within_line)) DesignRefused no_within_line a refl e refl verdict

-- ---- the design that is read is the one that is spelled

not_refused : (code : Code) (places : List Place) (next : Result Station (Code × Place)) (e : Station) → unless_at code places next ≡ Ok e → next ≡ Ok e
not_refused code [] next e h = h
not_refused code (p ∷ ps) next e h = absurd (cc)

with_routes-same : (d e : Station) → with_routes d ≡ Ok e → d ≡ e
with_routes-same d e h =
    let few : Result Station (Code × Place) = unless_at D13 (at (nat_le 2001 (length (all_walks d))) Routes) (Ok d) in
    let same = not_refused D13 (at (nat_le 2001 (length (all_walks d))) Routes) (Ok d) e (not_refused D12 (map edge_place (edges_met_again d)) few e h) in
    cc

admitted-same : (r : Result Station (Code × Place)) (e : Station) → design_or_answer r ≡ Ok e → r ≡ Ok e
admitted-same (Ok d) e h = let same : d ≡ e = cc in ap Ok same
admitted-same (Err x) e h = absurd (cc)

pub routes_answer-same : (d e : Station) → design_or_answer (with_routes d) ≡ Ok e → d ≡ e
routes_answer-same d e h = with_routes-same d e (admitted-same (with_routes d) e h)

pub read-same : (bytes : List ℕ) (d e : Station) → design_of bytes ≡ Ok d → design_in bytes ≡ Ok e → d ≡ e
read-same bytes d e spells read = routes_answer-same d e (ap (λ r. design_or_answer (and_then r with_routes)) (sym spells) ∙ read)

pub within-same : (w : ℕ) (d e : Station) → with_within w d ≡ Ok e → d ≡ e
within-same w d e = go (nat_le w (length d.withins))
  where
    go : (has : Bool) → (if has then Ok d else Err (one_line DesignRefused no_within_line)) ≡ Ok e → d ≡ e
    go true h = cc
    go false h = absurd (cc)
