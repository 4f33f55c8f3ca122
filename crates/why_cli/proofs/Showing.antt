-- Runs that say yes, and runs of which nothing is refused.
use Rattle.std.proofs.Common.{◌≡◌, ℕ, ◌≤◌, ◌&&◌, Bool, true, false, nat_le, if◌then◌else◌, List, [], ◌∷◌, ◌++◌, Option, Some, None, Result, Ok, refl, ap, sym, ◌∙◌, subst, leb-true}
use Rattle.std.specs.List.{concat}
use Rattle.log_checker.specs.Verdict.{head_in}
use Rattle.log_checker.specs.declared.check_result.CheckResult.TheVariants.{Yes}
use Rattle.infra_reader.proofs.Reading.{spelled_admitted}
use Rattle.proof_judge.specs.Judged.{judged}
use Rattle.proof_judge.proofs.Sound.{yes_infeasible}
use Rattle.proof_words.proofs.Naming.{proofs_deny}
use Rattle.proof_words.specs.Denied.{EachLineDenies}
use Rattle.proof_log.specs.declared.head.Head.{Head}
use Rattle.proof_log.specs.declared.head.Head.TheVariants.{Unnamed, Of}
use Rattle.proof_words.specs.Meanings.{file_sentences}
use Rattle.rail_base.specs.declared.station.Station.{Station}
use Rattle.rail_base.specs.Admitted.{IsAdmitted}
use Rattle.rail_spec.specs.Feasible.{IsInfeasible}
use Rattle.rail_base.proofs.Members.{and_left}
use Rattle.cli_shell.specs.declared.status.Status.{Status}
use Rattle.cli_shell.specs.declared.status.Status.TheVariants.{Done}
use Rattle.cli_shell.specs.declared.input.InputFile.TheVariants as file
use Rattle.cli_shell.specs.Statuses.{is_answered, is_verdict}
use Rattle.cli_shell.specs.Answers.{ReplySeen, within_limit, design_in, unless_refused}
use Rattle.proof_shell.specs.Answers.{reply_for, check_reply, put_in}
use Rattle.proof_shell.specs.Verdicts.{HasWithin}
use Rattle.proof_shell.proofs.Judging.{put_in_admitted}
use Rattle.cli_shell.specs.Prints.{Prints}
use Rattle.cli_shell.specs.Verdicts.{IsVerdict}
use Rattle.cli_shell.proofs.Passing.{passed, long_refuses, read-same}
use Rattle.cli_shell.proofs.Verdicts.{reads}
use Rattle.cli_shell.proofs.Refusing.{file_is, file_fits}
use Rattle.proof_shell.proofs.Verdicts.{checked_so, told_verdict}
use Rattle.rail_outside.specs.Files.{Files}
use Rattle.rail_outside.specs.Growth.{grown}
use Rattle.rail_text.specs.Pieces.{pieces}
use Rattle.why_words.specs.Wanted.{Wanted, AreStepsInRange, wanted_of}
use Rattle.why_cli.specs.Heads.{head_lines}
use Rattle.why_cli.specs.Answers.{if_in_range, steps_named, steps_in, steps_for, timed_for, design_for, explained_where, proof_for, explanation_reply}
use Rattle.why_cli.specs.Plans.{is_plan}
use Rattle.named_files.specs.Replies.{IsHeld, names_of}
use Rattle.named_files.proofs.Printing.{answered}
use Rattle.why_cli.specs.Replies.{IsAnswerOf, IsAnswerTo, IsBothAnswer, PrintsAnswer, design_name, file_name}
use Rattle.why_cli.specs.Shows.{Explains, ExplainsProof, IsUnrefused}
use Rattle.why_cli.proofs.Checking.{heads_name_steps, status_as_check, passes}
use Rattle.why_cli.proofs.Using.{proof_answer}
use Rattle.why_cli.proofs.Ranges.{wanted_in_range}
use Rattle.why_cli.proofs.Timed.{both_read, timed_for-is, design_no_verdict}
use Rattle.rail_words.specs.declared.request.InTime.{InTime}

-- ---- steps that the head names

some_in_range : (k n : ℕ) → if_in_range k ≡ Some n → 1 ≤ n
some_in_range k n e = go (nat_le 1 k && nat_le k 256) refl e
  where
    go : (within : Bool) → nat_le 1 k && nat_le k 256 ≡ within → (if within then Some k else None) ≡ Some n → 1 ≤ n
    go true is e = let same : k ≡ n = cc in subst (λ (m : ℕ). 1 ≤ m) same (leb-true 1 k (and_left (nat_le 1 k) (nat_le k 256) is))
    go false is e = absurd (cc)

some_named : (head : Option Head) (n : ℕ) → steps_named head ≡ Some n → 1 ≤ n
some_named None n e = absurd (cc)
some_named (Some Unnamed) n e = absurd (cc)
some_named (Some (Of question)) n e = some_in_range question.steps n e

-- what a reading gives is one
only_one : {X : Type 0} (Is : X → Type 0) (r : Result X ReplySeen) (x y : X) → r ≡ Ok x → r ≡ Ok y → Is x → Is y
only_one Is r x y one other h = let both : Ok x ≡ Ok y = sym one ∙ other in let same : x ≡ y = cc in subst Is same h

-- the head names so many, and the design that is read has the within
record Names (t : Option InTime) (design_bytes bytes : List ℕ) : Type 0 where
  steps : ℕ
  fits : within_limit file.Proof bytes ≡ Ok bytes
  named : steps_in bytes ≡ Some steps
  has : (d : Station) → design_in design_bytes ≡ Ok d → HasWithin t d

where_some : (t : Option InTime) (design : List ℕ) (s : Option ℕ) (d : Station) (text : List ℕ) → is_verdict (explained_where t design s d text).status ≡ true → (n : ℕ) × (s ≡ Some n)
where_some t design None d text verdict = absurd (cc)
where_some t design (Some n) d text verdict = (n, refl)

names : (t : Option InTime) (design_bytes proof_bytes : List ℕ) → (explanation_reply None t design_bytes proof_bytes).status ≡ Done → Names t design_bytes proof_bytes
names t design_bytes proof_bytes done =
    let one = passed (within_limit file.Design design_bytes) (λ text. unless_refused (design_for None t text) (λ e. proof_for t text None e proof_bytes)) (long_refuses file.Design design_bytes) (ap is_verdict done) in
    let two = passed (design_for None t one.read) (λ e. proof_for t one.read None e proof_bytes) (design_no_verdict None t one.read) one.verdict in
    let three = passed (within_limit file.Proof proof_bytes) (λ text. explained_where t one.read (steps_in text) two.read text) (long_refuses file.Proof proof_bytes) two.verdict in
    let same : proof_bytes ≡ three.read = file_is file.Proof proof_bytes three.read three.is in
    let some = where_some t one.read (steps_in three.read) two.read three.read three.verdict in
    let both = both_read (design_in one.read) (timed_for None t) two.read two.is in
    let text : design_bytes ≡ one.read = file_is file.Design design_bytes one.read one.is in
    record {
      steps = some.0;
      fits = three.is ∙ ap (λ (x : List ℕ). Ok x) (sym same);
      named = ap steps_in same ∙ some.1;
      has = λ d reads. only_one (HasWithin t) (design_in design_bytes) both.read d (ap design_in text ∙ both.first) reads (timed_for-is None t both.read two.read both.second).has;
    }

-- ---- an answer that says yes

-- it does so for as many steps
record Gives (steps : Option ℕ) (t : Option InTime) (design_bytes proof_bytes : List ℕ) : Type 0 where
  most : ℕ
  are_most : steps_for steps proof_bytes ≡ Some most
  some : 1 ≤ most
  same : explanation_reply steps t design_bytes proof_bytes ≡ explanation_reply (Some most) t design_bytes proof_bytes

gives : (steps : Option ℕ) (t : Option InTime) (design_bytes proof_bytes : List ℕ) → AreStepsInRange steps → (explanation_reply steps t design_bytes proof_bytes).status ≡ Done → Gives steps t design_bytes proof_bytes
gives (Some n) t design_bytes proof_bytes range done = record { most = n; are_most = refl; some = range.0; same = refl }
gives None t design_bytes proof_bytes range done =
    let h = names t design_bytes proof_bytes done in
    record { most = h.steps; are_most = h.named; some = some_named (head_in (pieces proof_bytes)) h.steps h.named; same = heads_name_steps h.steps t design_bytes proof_bytes h.fits h.named h.has }

-- the answer is that for as many steps as are given or named
as_many : (steps : Option ℕ) (n : ℕ) (t : Option InTime) (design_bytes proof_bytes : List ℕ) → within_limit file.Proof proof_bytes ≡ Ok proof_bytes → steps_for steps proof_bytes ≡ Some n → ((d : Station) → design_in design_bytes ≡ Ok d → HasWithin t d)
    → explanation_reply steps t design_bytes proof_bytes ≡ explanation_reply (Some n) t design_bytes proof_bytes
as_many (Some k) n t design_bytes proof_bytes fits is has = ap (λ (s : Option ℕ). explanation_reply s t design_bytes proof_bytes) is
as_many None n t design_bytes proof_bytes fits is has = heads_name_steps n t design_bytes proof_bytes fits is has

module _ (known : Option Files) (files : Files) (words : List (List ℕ)) (s : Status) (text new_text : Option (List ℕ)) (pieces new_pieces : Option (List (List ℕ))) (h : PrintsAnswer known (wanted_of words) s text new_text pieces new_pieces) (told : known ≡ Some files) where
  -- what an answered run prints of a proof
  of_proof : (w : Wanted) (proof : List ℕ) → wanted_of words ≡ Some w → w.file ≡ Some proof → is_plan (files proof) ≡ false → is_answered s ≡ true → Prints (explanation_reply w.steps w.in_time (files w.design) (files proof)) s text new_text pieces new_pieces
  of_proof w proof asked named no_plan answered_so =
      let p = answered s text new_text pieces new_pieces (IsAnswerTo (wanted_of words) h.first_bytes h.second_bytes) (names_of (design_name (wanted_of words)) (file_name (wanted_of words))) h.reports answered_so in
      let held = h.held files told in
      let of_design : h.first_bytes ≡ files w.design = subst (λ (x : Option Wanted). IsHeld files (design_name x) h.first_bytes) asked held.0 in
      let of_named : IsHeld files w.file h.second_bytes = subst (λ (x : Option Wanted). IsHeld files (file_name x) h.second_bytes) asked held.1 in
      let of_file : h.second_bytes ≡ files proof = subst (λ (f : Option (List ℕ)). IsHeld files f h.second_bytes) named of_named in
      let right : IsAnswerOf w.steps w.in_time w.file h.first_bytes h.second_bytes p.answer = subst (λ (x : Option Wanted). IsAnswerTo x h.first_bytes h.second_bytes p.answer) asked p.is_right in
      let both : IsBothAnswer w.steps w.in_time h.first_bytes h.second_bytes p.answer = subst (λ (f : Option (List ℕ)). IsAnswerOf w.steps w.in_time f h.first_bytes h.second_bytes p.answer) named right in
      let is : p.answer ≡ explanation_reply w.steps w.in_time h.first_bytes h.second_bytes = proof_answer w.steps w.in_time h.first_bytes h.second_bytes p.answer (ap is_plan of_file ∙ no_plan) both in
      subst (λ (a : ReplySeen). Prints a s text new_text pieces new_pieces)
      (is ∙ (ap (λ (b : List ℕ). explanation_reply w.steps w.in_time b h.second_bytes) of_design ∙ ap (explanation_reply w.steps w.in_time (files w.design)) of_file)) p.prints

  -- a run that says yes
  pub tells_why : (d : Station) (e : Explains files words d) → s ≡ Done → ExplainsProof files e.wanted e.proof d text new_text
  tells_why d e done =
      let w = e.wanted in
      let design = files w.design in
      let proof = files e.proof in
      let answered_so : is_answered s ≡ true = rw done refl in
      let t = w.in_time in
      let range = wanted_in_range words w e.asked in
      let prints = of_proof w e.proof e.asked e.proof_named e.no_plan answered_so in
      let yes : (explanation_reply w.steps t design proof).status ≡ Done = sym (prints.status answered_so) ∙ done in
      let g = gives w.steps t design proof range.steps yes in
      let yes_to_check : (check_reply g.most t design proof).status ≡ Done = sym (status_as_check g.most t design proof) ∙ (ap (λ (a : ReplySeen). a.status) (sym g.same) ∙ yes) in
      let p = passes g.most t design proof yes_to_check in
      let same : p.read ≡ d = sym (read-same design d p.read e.parses_design p.reads) in
      let has : HasWithin t d = subst (HasWithin t) same p.has_within in
      let good : IsAdmitted (put_in t d) = put_in_admitted t d range.in_time has (spelled_admitted design d e.parses_design) in
      let shown : judged (put_in t d) g.most proof ≡ Yes p.steps = ap (λ (x : Station). judged (put_in t x) g.most proof) (sym same) ∙ p.is_shown in
      let none = yes_infeasible (put_in t d) good g.most p.steps proof g.some shown in
      record {
        most = g.most;
        are_most = g.are_most;
        steps = p.steps;
        has_within = has;
        within = none.1.0;
        is_checked = p.is_checked;
        text = prints.written answered_so ∙ (ap (λ (a : ReplySeen). grown text (concat a.lines)) (g.same ∙ p.answer) ∙ ap (λ (x : Station). grown text (concat (head_lines t design proof p.steps ++ file_sentences (put_in t x) proof))) same);
        none = none.1.1;
        denies = proofs_deny (put_in t d) good g.most p.steps proof shown;
      }

  -- a run of which nothing is refused
  pub has_verdict : IsUnrefused files words → is_answered s ≡ true → IsVerdict s
  has_verdict u answered_so =
      let w = u.wanted in
      let design = files w.design in
      let proof = files u.proof in
      let t = w.in_time in
      let prints = of_proof w u.proof u.asked u.proof_named u.no_plan answered_so in
      let has = λ (x : Station) (reads_so : design_in design ≡ Ok x). only_one (HasWithin t) (design_in design) u.design x (reads design u.design u.parses_design) reads_so u.has_within in
      let so : explanation_reply w.steps t design proof ≡ explanation_reply (Some u.steps) t design proof = as_many w.steps u.steps t design proof (file_fits file.Proof proof u.within_limit) u.are_steps has in
      let shown = judged (put_in t u.design) u.steps proof in
      let of_check : (check_reply u.steps t design proof).status ≡ (reply_for shown).status = ap (λ (a : ReplySeen). a.status) (checked_so design u.design u.parses_design u.steps t proof u.has_within u.has_few_clauses u.within_limit) in
      let status : s ≡ (reply_for shown).status = prints.status answered_so ∙ (ap (λ (a : ReplySeen). a.status) so ∙ (status_as_check u.steps t design proof ∙ of_check)) in
      subst IsVerdict (sym status) (told_verdict shown)
