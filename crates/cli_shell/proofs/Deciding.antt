-- One reading after the other, and what a simulation decides.
use Rattle.std.proofs.Common.{◌≡◌, ℕ, List, Option, Result, Ok, Err, IfOk, ap, sym, ◌∙◌, subst}
use Rattle.rail_base.specs.declared.station.Station.{Station}
use Rattle.cli_shell.specs.declared.status.Status.{Status}
use Rattle.cli_shell.specs.declared.reply.Reply.{Reply}
use Rattle.cli_shell.specs.declared.ending.Ending.{Ending}
use Rattle.cli_shell.specs.declared.ending.Ending.TheVariants as ending
use Rattle.cli_shell.specs.declared.input.InputFile.TheVariants as file
use Rattle.cli_shell.specs.Answers.{ReplySeen, within_limit, design_in, unless_refused, planned, simulation_reply}
use Rattle.cli_shell.specs.Replies.{reply_seen, OnReply, DecidesPlan, Decides}
use Rattle.cli_shell.specs.Prints.{Prints}
use Rattle.cli_shell.proofs.Refusing.{file_is}

-- ---- one reading after the other

pub answered_next : {X : Type 0} (r : Result X ReplySeen) (x : X) (next : X → ReplySeen) → r ≡ Ok x → unless_refused r next ≡ next x
answered_next r x next e = ap (λ q. unless_refused q next) e

pub answered_refusal : {X : Type 0} (r : Result X ReplySeen) (a : ReplySeen) (next : X → ReplySeen) → r ≡ Err a → unless_refused r next ≡ a
answered_refusal r a next e = ap (λ q. unless_refused q next) e

-- what is left of a simulation when its design is fetched
abbrev pub with_design : List ℕ → List ℕ → ReplySeen
with_design plan_bytes design_text = unless_refused (design_in design_text) (λ d. unless_refused (within_limit file.Plan plan_bytes) (planned d))

module _ (design_bytes plan_bytes : List ℕ) where
  pub too_long_design : (a : ReplySeen) → within_limit file.Design design_bytes ≡ Err a → simulation_reply design_bytes plan_bytes ≡ a
  too_long_design a e = answered_refusal (within_limit file.Design design_bytes) a (with_design plan_bytes) e

  module _ (design_text : List ℕ) (fits : within_limit file.Design design_bytes ≡ Ok design_text) where
    fetched_so : simulation_reply design_bytes plan_bytes ≡ with_design plan_bytes design_text
    fetched_so = answered_next (within_limit file.Design design_bytes) design_text (with_design plan_bytes) fits

    pub refused_design : (a : ReplySeen) → design_in design_text ≡ Err a → simulation_reply design_bytes plan_bytes ≡ a
    refused_design a e = fetched_so ∙ answered_refusal (design_in design_text) a (λ d. unless_refused (within_limit file.Plan plan_bytes) (planned d)) e

    module _ (d : Station) (reads : design_in design_text ≡ Ok d) where
      read_so : simulation_reply design_bytes plan_bytes ≡ unless_refused (within_limit file.Plan plan_bytes) (planned d)
      read_so = fetched_so ∙ answered_next (design_in design_text) d (λ e. unless_refused (within_limit file.Plan plan_bytes) (planned e)) reads

      pub too_long_plan : (a : ReplySeen) → within_limit file.Plan plan_bytes ≡ Err a → simulation_reply design_bytes plan_bytes ≡ a
      too_long_plan a e = read_so ∙ answered_refusal (within_limit file.Plan plan_bytes) a (planned d) e

      pub planned_so : (plan_text : List ℕ) → within_limit file.Plan plan_bytes ≡ Ok plan_text → simulation_reply design_bytes plan_bytes ≡ planned d plan_text
      planned_so plan_text e = read_so ∙ answered_next (within_limit file.Plan plan_bytes) plan_text (planned d) e

-- the plan is decided over the design that is spelled
pub decides_so : (design_bytes plan_bytes design_text plan_text : List ℕ) (d : Station) (r : Result Reply Ending) → within_limit file.Design design_bytes ≡ Ok design_text → within_limit file.Plan plan_bytes ≡ Ok plan_text → design_in design_text ≡ Ok d
    → IfOk r (λ reply. DecidesPlan d plan_text reply.status) → IfOk r (λ reply. Decides design_bytes plan_bytes reply.status)
decides_so design_bytes plan_bytes design_text plan_text d (Ok reply) fits_design fits_plan reads decides =
    let design = file_is file.Design design_bytes design_text fits_design in
    let plan = file_is file.Plan plan_bytes plan_text fits_plan in
    record {
      design = d;
      parsed = ap design_in design ∙ reads;
      decided = subst (λ (text : List ℕ). DecidesPlan d text reply.status) (sym plan) decides;
    }
decides_so design_bytes plan_bytes design_text plan_text d (Err e) fits_design fits_plan reads decides = tt

-- ---- replies

-- a reply that was made
pub told_reply : (e : Ending) (reply : Reply) (fact : Reply → Type 0) → e ≡ ending.RefusedWith reply → OnReply (Err e) fact → fact reply
told_reply (ending.RefusedWith r) reply fact same h = let this : r ≡ reply = cc in subst fact this h
told_reply ending.Memory reply fact same h = absurd (cc)
told_reply ending.ShelfFault reply fact same h = absurd (cc)

module _ (answer : ReplySeen) (reply : Reply) (t : Status) (text new_text : Option (List ℕ)) (pieces new_pieces : Option (List (List ℕ))) (replies : answer ≡ reply_seen reply) (prints : Prints (reply_seen reply) t text new_text pieces new_pieces) where
  -- its print is that of the answer
  pub prints_answer : Prints answer t text new_text pieces new_pieces
  prints_answer = subst (λ (a : ReplySeen). Prints a t text new_text pieces new_pieces) (sym replies) prints
