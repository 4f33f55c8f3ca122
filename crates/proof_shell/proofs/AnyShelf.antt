-- Answers to a check, for some bytes of its files.
use Rattle.std.proofs.Common.{◌≡◌, ℕ, List, [], Option, Result, Ok, Err, Vec, Global, refl, sym, ◌∙◌, subst}
use Rattle.rail_base.specs.declared.station.Station.{Station}
use Rattle.rail_words.specs.declared.request.InTime.{InTime}
use Rattle.cli_shell.specs.declared.input.InputFile.TheVariants as file
use Rattle.cli_shell.specs.declared.reply.Reply.{Reply}
use Rattle.cli_shell.specs.declared.ending.Ending.{Ending}
use Rattle.cli_shell.specs.declared.ending.Ending.TheVariants as ending
use Rattle.cli_shell.specs.Answers.{ReplySeen, within_limit, design_in, unless_refused}
use Rattle.proof_shell.specs.Answers.{timed, for_file, checked_against, with_proof, check_reply}
use Rattle.cli_shell.specs.Replies.{ReadsOrEnds, Replies}
use Rattle.cli_shell.proofs.Deciding.{answered_next}
use Rattle.cli_shell.proofs.AnyShelf.{ends_so, with_text, with_design}

module _ (n : ℕ) (t : Option InTime) (proof_bytes : List ℕ) where
  -- what is left of a check with the design
  abbrev timed_design : Station → ReplySeen
  timed_design d = unless_refused (timed n t d) (λ e. with_proof n e proof_bytes)

  -- and with its text
  abbrev checked_text : List ℕ → ReplySeen
  checked_text text = unless_refused (design_in text) timed_design

module _ (r : Result Reply Ending) (n : ℕ) (t : Option InTime) where
  abbrev CheckedSo : Type 0
  CheckedSo = (a : List ℕ) × (b : List ℕ) × Replies r (check_reply n t a b)

  checked_so : (a b : List ℕ) → Replies r (check_reply n t a b) → CheckedSo
  checked_so a b h = (a, b, h)

  pub unchecked : (e : Ending) → r ≡ Err e → (bytes : List ℕ) × ReadsOrEnds (λ (v : Vec ℕ Global). v.items) (Err e) (within_limit file.Design bytes) → CheckedSo
  unchecked e is h = checked_so h.0 [] (ends_so r (λ (v : Vec ℕ Global). v.items) e _ (checked_text n t []) _ is h.1 refl)

  module _ (text : List ℕ) (first : (bytes : List ℕ) × (within_limit file.Design bytes ≡ Ok text)) where
    pub unchecked_design : {X : Type 0} (view : X → Station) (e : Ending) → r ≡ Err e → ReadsOrEnds view (Err e) (design_in text) → CheckedSo
    unchecked_design view e is h = checked_so first.0 [] (ends_so r view e (design_in text) (timed_design n t []) _ is h (with_text first.0 text first.1 (timed_design n t [])))

    module _ (d : Station) (reads : design_in text ≡ Ok d) where
      pub untimed : {X : Type 0} (view : X → Station) (e : Ending) → r ≡ Err e → ReadsOrEnds view (Err e) (timed n t d) → CheckedSo
      untimed view e is h = checked_so first.0 [] (ends_so r view e (timed n t d) (λ c. with_proof n c []) _ is h (with_design first.0 text first.1 (timed_design n t []) d reads))

      pub all_checked : (c : Station) → timed n t d ≡ Ok c → (bytes : List ℕ) × Replies r (with_proof n c bytes) → CheckedSo
      all_checked c put h =
          checked_so first.0 h.0 (subst (Replies r) (sym (with_design first.0 text first.1 (timed_design n t h.0) d reads ∙ answered_next (timed n t d) c (λ e. with_proof n e h.0) put)) h.1)

module _ (r : Result Reply Ending) (n : ℕ) (d : Station) where
  -- for some bytes of the proof
  abbrev ProvenSo : Type 0
  ProvenSo = (bytes : List ℕ) × Replies r (with_proof n d bytes)

  -- what is left where the file is not too long
  abbrev with_text_of : List ℕ → ReplySeen
  with_text_of text = unless_refused (for_file n d text) (λ same. checked_against d n text)

  pub no_proof : (e : Ending) → r ≡ Err e → (bytes : List ℕ) × ReadsOrEnds (λ (v : Vec ℕ Global). v.items) (Err e) (within_limit file.Proof bytes) → ProvenSo
  no_proof e is h = (h.0, ends_so r (λ (v : Vec ℕ Global). v.items) e _ with_text_of _ is h.1 refl)

  pub no_base : {X : Type 0} (view : X → Station) (e : Ending) → r ≡ Err e → (text : List ℕ) → (bytes : List ℕ) × (within_limit file.Proof bytes ≡ Ok text) → ReadsOrEnds view (Err e) (for_file n d text) → ProvenSo
  no_base view e is text first h =
      (first.0, ends_so r view e (for_file n d text) (λ same. checked_against d n text) _ is h (answered_next (within_limit file.Proof first.0) text with_text_of first.1))

  pub no_memory : r ≡ Err ending.Memory → ProvenSo
  no_memory is = ([], subst (λ (x : Result Reply Ending). Replies x (with_proof n d [])) (sym is) tt)
