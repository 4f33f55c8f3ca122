-- Checks in which the file shows something.
use Rattle.std.proofs.Common.{◌≡◌, ℕ, ◌+◌, ◌≤◌, ◌<◌, Bool, true, false, List, [], ◌∷◌, ◌++◌, length, nat_lt, nat_le, if◌then◌else◌, Option, Some, None, Result, Ok, Err, refl, ap, sym, ◌∙◌, subst}
use Rattle.std.proofs.lemmas.Bool.{le-leb, lt-leb}
use Rattle.infra_reader.specs.Design.{design_of}
use Rattle.log_checker.specs.declared.check_result.CheckResult.{CheckResult}
use Rattle.log_checker.specs.declared.check_result.CheckResult.TheVariants.{Yes, No}
use Rattle.clause_spec.specs.Clauses.{base_clauses, past_limit}
use Rattle.clause_spec.specs.declared.question.BaseKind.{BaseKind}
use Rattle.clause_spec.specs.declared.question.BaseKind.TheVariants.{Plain, Sorted, Normal, Live}
use Rattle.log_checker.specs.Verdict.{head_in}
use Rattle.proof_judge.specs.Judged.{base_named, judged, past_first, past_plain}
use Rattle.proof_judge.specs.Outcomes.{IsPast}
use Rattle.rail_text.specs.Pieces.{pieces}
use Rattle.proof_judge.proofs.Sound.{yes_infeasible}
use Rattle.rail_base.specs.Admitted.{IsAdmitted}
use Rattle.infra_reader.proofs.Reading.{spelled_admitted}
use Rattle.rail_base.specs.declared.station.Station.{Station}
use Rattle.rail_spec.specs.Feasible.{IsInfeasible}
use Rattle.rail_spec.specs.Track.{routes_of}
use Rattle.cli_shell.specs.declared.status.Status.TheVariants.{Done, DesignRefused}
use Rattle.cli_shell.specs.declared.input.InputFile.TheVariants as file
use Rattle.cli_shell.specs.Statuses.{is_verdict}
use Rattle.cli_shell.specs.Texts.{too_large_line}
use Rattle.proof_shell.specs.Texts.{yes_line}
use Rattle.cli_shell.specs.Answers.{ReplySeen, one_line, within_limit, with_routes, and_then, design_in, unless_refused}
use Rattle.proof_shell.specs.Answers.{unless_too_large, with_clauses, put_in, lacks_within, timed, for_file, reply_for, checked_against, with_proof, check_reply}
use Rattle.cli_shell.specs.Replies.{reply_seen}
use Rattle.cli_shell.specs.declared.reply.Reply.{Reply}
use Rattle.plan_encoding.specs.Bases.{IsRefused}
use Rattle.plan_encoding.specs.declared.sink.BaseFault.{BaseFault}
use Rattle.plan_encoding.specs.declared.sink.BaseFault.TheVariants.{TooLarge, Memory}
use Rattle.rail_base.specs.declared.route.Route.{Route}
use Rattle.base_spec.specs.Bases.{clauses_of}
use Rattle.cli_shell.proofs.Passing.{passed, long_refuses, design_refuses, read-same}
use Rattle.proof_shell.specs.Verdicts.{HasWithin}
use Rattle.proof_shell.proofs.Passing.{clauses_refuse, time_refuses, timed-is}
use Rattle.greatest_time.proofs.Admitted.{stays_admitted}
use Rattle.rail_words.specs.declared.request.InTime.{InTime}
use Rattle.rail_words.specs.Requests.{IsInTimeInRange}
use Rattle.cli_shell.proofs.Refusing.{file_is}

-- ---- what the file shows

-- the file shows k
record RefusedWith (v : CheckResult) : Type 0 where
  steps : ℕ
  is : v ≡ Yes steps

told_done : (v : CheckResult) → (reply_for v).status ≡ Done → RefusedWith v
told_done (Yes k) done = record { steps = k; is = refl }
told_done (No line reason) done = absurd (cc)

-- ---- the answer

-- it is `yes steps <k>`, and no plan of k steps is feasible
pub record Shows (n : ℕ) (d : Station) (a : ReplySeen) : Type 0 where
  pub steps : ℕ
  pub least : 1 ≤ steps
  pub within : steps ≤ n
  pub answer : a ≡ one_line Done (yes_line steps)
  pub none : IsInfeasible d steps

judged_shows : (n : ℕ) (d : Station) (bytes : List ℕ) → IsAdmitted d → 1 ≤ n → (checked_against d n bytes).status ≡ Done → Shows n d (checked_against d n bytes)
judged_shows n d bytes good some done =
    let t = told_done (judged d n bytes) done in
    let s = yes_infeasible d good n t.steps bytes some t.is in
    record { steps = t.steps; least = s.0; within = s.1.0; answer = ap reply_for t.is; none = s.1.1 }

-- the design with the time put in, and what the answer shows of it
pub record ShowsTimed (n : ℕ) (t : Option InTime) (d : Station) (a : ReplySeen) : Type 0 where
  pub design : Station
  pub is : timed n t d ≡ Ok design
  pub shows : Shows n design a

-- the design with the time put in is admitted
pub put_in_admitted : (t : Option InTime) (d : Station) → IsInTimeInRange t → HasWithin t d → IsAdmitted d → IsAdmitted (put_in t d)
put_in_admitted None d range has good = good
put_in_admitted (Some t) d range has good = stays_admitted d t.within range.0 has t.max_ms range.2 good

pub timed_admitted : (n : ℕ) (t : Option InTime) (d e : Station) → IsInTimeInRange t → IsAdmitted d → timed n t d ≡ Ok e → IsAdmitted e
timed_admitted n t d e range good put = let passes = timed-is n t d e put in subst IsAdmitted passes.is (put_in_admitted t d range passes.has good)

-- the file is judged against the design
proven_shows : (n : ℕ) (d : Station) (proof_bytes : List ℕ) → IsAdmitted d → 1 ≤ n → (with_proof n d proof_bytes).status ≡ Done → Shows n d (with_proof n d proof_bytes)
proven_shows n d proof_bytes good some done =
    let fits = passed (within_limit file.Proof proof_bytes) (λ proof. unless_refused (for_file n d proof) (λ same. checked_against d n proof)) (long_refuses file.Proof proof_bytes) (ap is_verdict done) in
    let few = passed (for_file n d fits.read) (λ same. checked_against d n fits.read) (clauses_refuse d (past_plain d n fits.read)) fits.verdict in
    let all : with_proof n d proof_bytes ≡ checked_against d n fits.read = fits.comes ∙ few.comes in
    let shows = judged_shows n d fits.read good some (ap (λ (a : ReplySeen). a.status) (sym all) ∙ done) in
    record { steps = shows.steps; least = shows.least; within = shows.within; answer = all ∙ shows.answer; none = shows.none }

-- what is left of a check with the design
abbrev design_checked : ℕ → Option InTime → List ℕ → Station → ReplySeen
design_checked n t proof_bytes d = unless_refused (timed n t d) (λ e. with_proof n e proof_bytes)

design_shows : (n : ℕ) (t : Option InTime) (d : Station) (proof_bytes : List ℕ) → IsAdmitted d → 1 ≤ n → IsInTimeInRange t → (design_checked n t proof_bytes d).status ≡ Done → ShowsTimed n t d (design_checked n t proof_bytes d)
design_shows n t d proof_bytes good some range done =
    let put = passed (timed n t d) (λ e. with_proof n e proof_bytes) (time_refuses n t d) (ap is_verdict done) in
    let shows = proven_shows n put.read proof_bytes (timed_admitted n t d put.read range good put.is) some (ap (λ (a : ReplySeen). a.status) (sym put.comes) ∙ done) in
    record { design = put.read; is = put.is; shows = subst (Shows n put.read) (sym put.comes) shows }

pub checked_shows : (n : ℕ) (t : Option InTime) (design_bytes proof_bytes : List ℕ) (d : Station) → 1 ≤ n → IsInTimeInRange t → design_of design_bytes ≡ Ok d → (check_reply n t design_bytes proof_bytes).status ≡ Done → ShowsTimed n t d (check_reply n t design_bytes proof_bytes)
checked_shows n t design_bytes proof_bytes d some range spells done =
    let one = passed (within_limit file.Design design_bytes) (λ text. unless_refused (design_in text) (design_checked n t proof_bytes)) (long_refuses file.Design design_bytes) (ap is_verdict done) in
    let two = passed (design_in one.read) (design_checked n t proof_bytes) (design_refuses (and_then (design_of one.read) with_routes)) one.verdict in
    let text : design_bytes ≡ one.read = file_is file.Design design_bytes one.read one.is in
    let same : two.read ≡ d = sym (read-same one.read d two.read (ap design_of (sym text) ∙ spells) two.is) in
    let all : check_reply n t design_bytes proof_bytes ≡ design_checked n t proof_bytes d = one.comes ∙ two.comes ∙ ap (design_checked n t proof_bytes) same in
    subst (ShowsTimed n t d) (sym all) (design_shows n t d proof_bytes (spelled_admitted design_bytes d spells) some range (ap (λ (a : ReplySeen). a.status) (sym all) ∙ done))

-- ---- withins that are there

passes_with : (n : ℕ) (t : InTime) (d : Station) (has : Bool) → has ≡ true → (if has then Ok (put_in (Some t) d) else and_then (with_clauses Plain n d) lacks_within) ≡ Ok (put_in (Some t) d)
passes_with n t d true e = refl
passes_with n t d false e = absurd (cc)

pub time_passes : (n : ℕ) (t : Option InTime) (d : Station) → HasWithin t d → timed n t d ≡ Ok (put_in t d)
time_passes n None d has = refl
time_passes n (Some t) d has = passes_with n t d (nat_le t.within (length d.withins)) (le-leb t.within (length d.withins) has)

no_within_after : (d : Station) (clauses : Result Station ReplySeen) → clauses ≡ Ok d → and_then clauses lacks_within ≡ lacks_within d
no_within_after d clauses e = ap (λ r. and_then r lacks_within) e

no_clauses_before : (d : Station) (clauses : Result Station ReplySeen) (a : ReplySeen) → clauses ≡ Err a → and_then clauses lacks_within ≡ Err a
no_clauses_before d clauses a e = ap (λ r. and_then r lacks_within) e

-- what a design without the within is answered
pub without_within : (n : ℕ) (t : InTime) (d : Station) → length d.withins < t.within → timed n (Some t) d ≡ and_then (with_clauses Plain n d) lacks_within
without_within n t d few = rw (lt-leb t.within (length d.withins) few) refl

pub within_wanted : (n : ℕ) (t : InTime) (d : Station) → length d.withins < t.within → with_clauses Plain n d ≡ Ok d → timed n (Some t) d ≡ lacks_within d
within_wanted n t d few fits = without_within n t d few ∙ no_within_after d (with_clauses Plain n d) fits

pub clauses_wanted : (n : ℕ) (t : InTime) (d : Station) (a : ReplySeen) → length d.withins < t.within → with_clauses Plain n d ≡ Err a → timed n (Some t) d ≡ Err a
clauses_wanted n t d a few e = without_within n t d few ∙ no_clauses_before d (with_clauses Plain n d) a e

-- ---- the clauses of the design

pub too_large_refused : (m : BaseKind) (n : ℕ) (d : Station) (k : ℕ) → past_limit 16000000 0 (clauses_of m d (routes_of d) n) ≡ Some k → with_clauses m n d ≡ Err (one_line DesignRefused too_large_line)
too_large_refused m n d k e = ap (unless_too_large d) e

pub small_passes : (m : BaseKind) (n : ℕ) (d : Station) → past_limit 16000000 0 (clauses_of m d (routes_of d) n) ≡ None → with_clauses m n d ≡ Ok d
small_passes m n d e = ap (unless_too_large d) e

-- the prefix of clauses that fit fits
prefix_fits : {X : Type 0} (limit sum : ℕ) (prefix more : List (List X)) → past_limit limit sum (prefix ++ more) ≡ None → past_limit limit sum prefix ≡ None
prefix_fits limit sum [] more h = refl
prefix_fits limit sum (c ∷ cs) more h = go (nat_lt limit (sum + length c)) (prefix_fits limit (sum + length c) cs more) h
  where
    go : (past : Bool) → (past_limit limit (sum + length c) (cs ++ more) ≡ None → past_limit limit (sum + length c) cs ≡ None)
        → (if past then Some (sum + length c) else past_limit limit (sum + length c) (cs ++ more)) ≡ None
        → (if past then Some (sum + length c) else past_limit limit (sum + length c) cs) ≡ None
    go true next h = absurd (cc)
    go false next h = next h

-- where the clauses of a search by any base fit, those that are asked of before them do
first_fits : (m : BaseKind) (n : ℕ) (d : Station) → past_limit 16000000 0 (clauses_of m d (routes_of d) n) ≡ None → past_first m d (routes_of d) n ≡ None
first_fits Plain n d h = h
first_fits Sorted n d h = prefix_fits 16000000 0 (base_clauses d (routes_of d) n) _ h
first_fits Normal n d h = prefix_fits 16000000 0 (base_clauses d (routes_of d) n) _ h
first_fits (Live turns) n d h = refl

not_many : (d : Station) (many : Option ℕ) (e : Station) → unless_too_large d many ≡ Ok e → many ≡ None
not_many d None e h = refl
not_many d (Some k) e h = absurd (cc)

-- so the clauses are few for a file that names the base of a search
pub base_passes : (m : BaseKind) (n : ℕ) (d : Station) (text : List ℕ) → base_named (head_in (pieces text)) ≡ m → with_clauses m n d ≡ Ok d → for_file n d text ≡ Ok d
base_passes m n d text names h =
    ap (unless_too_large d) (ap (λ k. past_first k d (routes_of d) n) names ∙ first_fits m n d (not_many d (past_limit 16000000 0 (clauses_of m d (routes_of d) n)) d h))

-- where a file was judged its design has few clauses for it
pub judged_passes : (n : ℕ) (d : Station) (text : List ℕ) → past_plain d n text ≡ None → for_file n d text ≡ Ok d
judged_passes n d text few = ap (unless_too_large d) few

pub unjudged_so : (n : ℕ) (d : Station) (text : List ℕ) (fault : BaseFault) (k : ℕ) → fault ≡ TooLarge k → IsPast (past_plain d n text) fault → for_file n d text ≡ Err (one_line DesignRefused too_large_line)
unjudged_so n d text (TooLarge j) k same e = ap (unless_too_large d) e
unjudged_so n d text Memory k same e = absurd (cc)

pub refused_so : (n : ℕ) (d : Station) (routes : List Route) (fault : BaseFault) (k : ℕ) → routes ≡ routes_of d → fault ≡ TooLarge k → IsRefused Plain d routes n fault → with_clauses Plain n d ≡ Err (one_line DesignRefused too_large_line)
refused_so n d routes (TooLarge j) k table same e = too_large_refused Plain n d j (ap (λ (r : List Route). past_limit 16000000 0 (base_clauses d r n)) (sym table) ∙ e)
refused_so n d routes Memory k table same e = absurd (cc)

-- ---- what is said of the proof

pub proof_shown : (n : ℕ) (d : Station) (proof_bytes text : List ℕ) (shown : CheckResult) (reply : Reply) → within_limit file.Proof proof_bytes ≡ Ok text → for_file n d text ≡ Ok d → shown ≡ judged d n text → reply_seen reply ≡ reply_for shown → with_proof n d proof_bytes ≡ reply_seen reply
proof_shown n d proof_bytes text shown reply fits few is seen =
    ap (λ q. unless_refused q (λ (proof : List ℕ). unless_refused (for_file n d proof) (λ same. checked_against d n proof))) fits
    ∙ (ap (λ q. unless_refused q (λ (same : Station). checked_against d n text)) few ∙ (ap reply_for (sym is) ∙ sym seen))
