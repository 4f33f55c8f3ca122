-- Answers for some bytes of the files that are asked for.
use Rattle.std.proofs.Common.{◌≡◌, ◌≤◌, ◌<◌, ◌+◌, ℕ, List, [], length, replicate, Result, Ok, Err, IfOk, Vec, Global, refl, sym, ◌∙◌, subst, arith}
use Rattle.std.proofs.lemmas.List.{length-replicate}
use Rattle.std.proofs.lemmas.Bool.{lt-ltb}
use Rattle.std.specs.declared.alloc.AllocError.{AllocError}
use Rattle.rail_base.specs.declared.station.Station.{Station}
use Rattle.cli_shell.specs.declared.status.Status.TheVariants as statuses
use Rattle.cli_shell.specs.declared.input.InputFile.{InputFile}
use Rattle.cli_shell.specs.declared.input.InputFile.TheVariants as file
use Rattle.cli_shell.specs.declared.reply.Reply.{Reply}
use Rattle.cli_shell.specs.declared.ending.Ending.{Ending}
use Rattle.cli_shell.specs.declared.ending.Ending.TheVariants as ending
use Rattle.cli_shell.specs.Texts.{limit_of, too_long_line}
use Rattle.cli_shell.specs.Answers.{ReplySeen, one_line, within_limit, design_in, unless_refused, planned, simulation_reply, routes_answer, routes_reply}
use Rattle.cli_shell.specs.Replies.{reply_seen, ending_of, ReadsOrEnds, Replies}
use Rattle.cli_shell.proofs.Deciding.{answered_next, answered_refusal}
use Rattle.cli_shell.proofs.Refusing.{file_fits, ended_reads}

-- ---- some bytes of a file

-- bytes that are too long
too_many : (f : InputFile) (bytes : List ℕ) → limit_of f < length bytes → within_limit f bytes ≡ Err (one_line statuses.TooLong (too_long_line f))
too_many f bytes long = rw (lt-ltb (limit_of f) (length bytes) long) refl

below : (k : ℕ) → k < k + 1
below k = omega arith

long_refused : (f : InputFile) → within_limit f (replicate (limit_of f + 1) 0) ≡ Err (one_line statuses.TooLong (too_long_line f))
long_refused f = too_many f (replicate (limit_of f + 1) 0) (subst (λ (k : ℕ). limit_of f < k) (sym (length-replicate (limit_of f + 1) 0)) (below (limit_of f)))

pub some_fit : (f : InputFile) (v : Vec ℕ Global) → length v.items ≤ limit_of f → (bytes : List ℕ) × (within_limit f bytes ≡ Ok v.items)
some_fit f v short = (v.items, file_fits f v.items short)

pub some_long : (f : InputFile) (r : Result Reply AllocError) → IfOk r (λ reply. reply_seen reply ≡ one_line statuses.TooLong (too_long_line f)) → (bytes : List ℕ) × ReadsOrEnds (λ (v : Vec ℕ Global). v.items) (Err (ending_of r)) (within_limit f bytes)
some_long f r seen = (replicate (limit_of f + 1) 0, ended_reads (λ (v : Vec ℕ Global). v.items) r _ (within_limit f (replicate (limit_of f + 1) 0)) seen (long_refused f))

-- ---- one reading after the other

-- a reading that ends the work gives the answer
ends_here : {X Y : Type 0} (view : X → Y) (e : Ending) (reading : Result Y ReplySeen) (next : Y → ReplySeen) → ReadsOrEnds view (Err e) reading → Replies (Err e) (unless_refused reading next)
ends_here view (ending.RefusedWith reply) reading next h = answered_refusal reading (reply_seen reply) next h
ends_here view ending.Memory reading next h = tt
ends_here view ending.ShelfFault reading next h = tt

module _ (r : Result Reply Ending) where
  pub ends_so : {X Y : Type 0} (view : X → Y) (e : Ending) (reading : Result Y ReplySeen) (next : Y → ReplySeen) (answer : ReplySeen) → r ≡ Err e → ReadsOrEnds view (Err e) reading → answer ≡ unless_refused reading next → Replies r answer
  ends_so view e reading next answer is h same = subst (Replies r) (sym same) (subst (λ (x : Result Reply Ending). Replies x (unless_refused reading next)) (sym is) (ends_here view e reading next h))

-- ---- the answers, where the design is fetched and read

-- what is left of a simulation with the design's text, and then with the design
abbrev simulated_text : List ℕ → List ℕ → ReplySeen
simulated_text plan_bytes text = unless_refused (design_in text) (λ d. unless_refused (within_limit file.Plan plan_bytes) (planned d))

-- for any answer that reads the design first
module _ (bytes text : List ℕ) (fits : within_limit file.Design bytes ≡ Ok text) (next : Station → ReplySeen) where
  pub with_text : unless_refused (within_limit file.Design bytes) (λ t. unless_refused (design_in t) next) ≡ unless_refused (design_in text) next
  with_text = answered_next (within_limit file.Design bytes) text (λ t. unless_refused (design_in t) next) fits

  pub with_design : (d : Station) → design_in text ≡ Ok d → unless_refused (within_limit file.Design bytes) (λ t. unless_refused (design_in t) next) ≡ next d
  with_design d reads = with_text ∙ answered_next (design_in text) d next reads

-- ---- simulations

module _ (r : Result Reply Ending) where
  abbrev SimulatedSo : Type 0
  SimulatedSo = (a : List ℕ) × (b : List ℕ) × Replies r (simulation_reply a b)

  simulated_so : (a b : List ℕ) → Replies r (simulation_reply a b) → SimulatedSo
  simulated_so a b h = (a, b, h)

  pub no_design : (e : Ending) → r ≡ Err e → (bytes : List ℕ) × ReadsOrEnds (λ (v : Vec ℕ Global). v.items) (Err e) (within_limit file.Design bytes) → SimulatedSo
  no_design e is h = simulated_so h.0 [] (ends_so r (λ (v : Vec ℕ Global). v.items) e _ (simulated_text []) _ is h.1 refl)

  module _ (text : List ℕ) (first : (bytes : List ℕ) × (within_limit file.Design bytes ≡ Ok text)) where
    pub not_read : {X : Type 0} (view : X → Station) (e : Ending) → r ≡ Err e → ReadsOrEnds view (Err e) (design_in text) → SimulatedSo
    not_read view e is h = simulated_so first.0 [] (ends_so r view e (design_in text) (λ d. unless_refused (within_limit file.Plan []) (planned d)) _ is h (with_text first.0 text first.1 (λ d. unless_refused (within_limit file.Plan []) (planned d))))

    module _ (d : Station) (reads : design_in text ≡ Ok d) where
      pub no_plan : (e : Ending) → r ≡ Err e → (bytes : List ℕ) × ReadsOrEnds (λ (v : Vec ℕ Global). v.items) (Err e) (within_limit file.Plan bytes) → SimulatedSo
      no_plan e is h = simulated_so first.0 h.0 (ends_so r (λ (v : Vec ℕ Global). v.items) e _ (planned d) _ is h.1 (with_design first.0 text first.1 (λ f. unless_refused (within_limit file.Plan h.0) (planned f)) d reads))

      pub all_read : (plan_text : List ℕ) → (bytes : List ℕ) × (within_limit file.Plan bytes ≡ Ok plan_text) → Replies r (planned d plan_text) → SimulatedSo
      all_read plan_text second h = simulated_so first.0 second.0 (subst (Replies r) (sym (with_design first.0 text first.1 (λ f. unless_refused (within_limit file.Plan second.0) (planned f)) d reads ∙ answered_next (within_limit file.Plan second.0) plan_text (planned d) second.1)) h)

-- ---- lists of routes

module _ (r : Result Reply Ending) where
  abbrev ListedSo : Type 0
  ListedSo = (a : List ℕ) × Replies r (routes_reply a)

  listed_so : (a : List ℕ) → Replies r (routes_reply a) → ListedSo
  listed_so a h = (a, h)

  pub want_list : r ≡ Err ending.Memory → ListedSo
  want_list is = listed_so [] (subst (λ (x : Result Reply Ending). Replies x (routes_reply [])) (sym is) tt)

  pub unlisted : (e : Ending) → r ≡ Err e → (bytes : List ℕ) × ReadsOrEnds (λ (v : Vec ℕ Global). v.items) (Err e) (within_limit file.Design bytes) → ListedSo
  unlisted e is h = listed_so h.0 (ends_so r (λ (v : Vec ℕ Global). v.items) e _ (λ text. unless_refused (design_in text) routes_answer) _ is h.1 refl)

  module _ (text : List ℕ) (first : (bytes : List ℕ) × (within_limit file.Design bytes ≡ Ok text)) where
    pub unlisted_design : {X : Type 0} (view : X → Station) (e : Ending) → r ≡ Err e → ReadsOrEnds view (Err e) (design_in text) → ListedSo
    unlisted_design view e is h = listed_so first.0 (ends_so r view e (design_in text) routes_answer _ is h (with_text first.0 text first.1 routes_answer))

    pub all_listed : (d : Station) (reply : Reply) → design_in text ≡ Ok d → r ≡ Ok reply → reply_seen reply ≡ routes_answer d → ListedSo
    all_listed d reply reads is seen = listed_so first.0 (subst (λ (x : Result Reply Ending). Replies x (routes_reply first.0)) (sym is) (with_design first.0 text first.1 routes_answer d reads ∙ sym seen))
