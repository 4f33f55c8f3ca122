-- Runs over a shelf whose files need not be known.
use Rattle.std.proofs.Common.{◌≡◌, ℕ, List, [], Option, Some, None, Result, Ok, Err, Vec, Global, refl, ap, sym, ◌∙◌, subst}
use Rattle.verify_loop.specs.declared.outcome.Aim.{Aim}
use Rattle.rail_words.specs.declared.request.SearchMode.{SearchMode}
use Rattle.rail_base.specs.declared.station.Station.{Station}
use Rattle.rail_words.specs.declared.request.InTime.{InTime}
use Rattle.rail_words.specs.Requests.{RequestSeen, simulate, routes, verify, tightest, check, trial}
use Rattle.verify_loop.specs.declared.outcome.Budgets.{Budgets}
use Rattle.verify_loop.specs.declared.outcome.Outcome.{Outcome}
use Rattle.verify_loop.specs.declared.outcome.Outcome.TheVariants as outcome
use Rattle.verify_loop.specs.Outcomes.{IsOutcome, Fits}
use Rattle.cli_shell.specs.declared.status.Status.{Status}
use Rattle.cli_shell.specs.declared.status.Status.TheVariants as statuses
use Rattle.cli_shell.specs.declared.input.InputFile.TheVariants as file
use Rattle.cli_shell.specs.declared.reply.Reply.{Reply}
use Rattle.cli_shell.specs.declared.ending.Ending.{Ending}
use Rattle.cli_shell.specs.declared.ending.Ending.TheVariants as ending
use Rattle.cli_shell.specs.Texts.{usage_line, limit_of}
use Rattle.cli_shell.specs.Answers.{ReplySeen, one_line, within_limit, design_in, unless_refused, simulation_reply, routes_reply}
use Rattle.proof_shell.specs.Answers.{check_reply}
use Rattle.rail_cli.specs.Ended.{plan_ended, none_ended}
use Rattle.rail_cli.specs.Answers.{budgets_of, searched_in, aim_of, search_reply, answer_given}
use Rattle.cli_shell.specs.Replies.{reply_seen, ReadsOrEnds, Replies}
use Rattle.rail_cli.specs.Replies.{RepliesSome, RepliesTrial}
use Rattle.rail_cli.specs.Searches.{EndsSearch, FindsGiven}
use Rattle.cli_shell.specs.Prints.{Prints}
use Rattle.rail_cli.specs.Prints.{PrintsSome}
use Rattle.cli_shell.proofs.Deciding.{prints_answer}
use Rattle.rail_cli.proofs.Finding.{read_so, within_budgets, RepliesBy}
use Rattle.cli_shell.proofs.Refusing.{file_is}
use Rattle.cli_shell.proofs.Silence.{silent_for_memory, silent_at_shelf}
use Rattle.cli_shell.proofs.AnyShelf.{ends_so, with_text}

module _ (r : Result Reply Ending) where
  -- nothing is said
  pub wanting : (asked : RequestSeen) → r ≡ Err ending.Memory → RepliesSome r (Some asked)
  wanting asked is = record {
    design_bytes = [];
    other_bytes = [];
    found = none_ended;
    finds = never asked;
    replies = subst (λ (x : Result Reply Ending). Replies x (answer_given [] [] none_ended (Some asked))) (sym is) tt;
  }
    where
      never : (asked : RequestSeen) → FindsGiven [] (Some asked) none_ended
      never (simulate design plan) = tt
      never (routes design) = tt
      never (verify n conflicts ticks mode design proof) = λ d parsed. (tt, tt)
      never (tightest n conflicts ticks w bounds design proof) = λ d parsed. (tt, tt)
      never (check n in_time design proof) = tt
      never (trial seed size) = (tt, tt)

-- ---- searches

abbrev searched_text : Aim → ℕ → ℕ → ℕ → Outcome → List ℕ → ReplySeen
searched_text m n conflicts ticks found text = unless_refused (design_in text) (λ d. searched_in m d n conflicts ticks found)

module _ (r : Result Reply Ending) (n : ℕ) (mode : SearchMode) (b : Budgets) (design proof : List ℕ) where
  abbrev SearchedSo : Type 0
  SearchedSo = RepliesSome r (Some (verify n b.conflicts b.ticks mode design proof))

  -- how plans that fail are excluded
  abbrev here : Aim
  here = aim_of mode

  -- memory was wanting
  wanting_so : (a : List ℕ) → Replies r (search_reply here n b.conflicts b.ticks a outcome.Memory) → SearchedSo
  wanting_so a h = record { design_bytes = a; other_bytes = []; found = none_ended; finds = λ d parsed. (tt, tt); replies = h }

  pub unsearched : (e : Ending) → r ≡ Err e → (bytes : List ℕ) × ReadsOrEnds (λ (v : Vec ℕ Global). v.items) (Err e) (within_limit file.Design bytes) → SearchedSo
  unsearched e is h = wanting_so h.0 (ends_so r (λ (v : Vec ℕ Global). v.items) e _ (searched_text here n b.conflicts b.ticks outcome.Memory) _ is h.1 refl)

  module _ (text : List ℕ) (first : (bytes : List ℕ) × (within_limit file.Design bytes ≡ Ok text)) where
    pub unsearched_design : {X : Type 0} (view : X → Station) (e : Ending) → r ≡ Err e → ReadsOrEnds view (Err e) (design_in text) → SearchedSo
    unsearched_design view e is h = wanting_so first.0 (ends_so r view e (design_in text) (λ d. searched_in here d n b.conflicts b.ticks outcome.Memory) _ is h (with_text first.0 text first.1 (λ d. searched_in here d n b.conflicts b.ticks outcome.Memory)))

    -- the outcome is that of the design
    ends_search : (d : Station) (found : Outcome) → design_in text ≡ Ok d → IsOutcome here d n (budgets_of b.conflicts b.ticks) found → Fits here d n found → EndsSearch here first.0 n b.conflicts b.ticks found
    ends_search d found reads says fits e parsed =
        let one : Ok d ≡ Ok e = sym reads ∙ (ap design_in (sym (file_is file.Design first.0 text first.1)) ∙ parsed) in
        let same : d ≡ e = cc in
        subst (λ (x : Station). IsOutcome here x n (budgets_of b.conflicts b.ticks) found × Fits here x n found) same (says, fits)

    pub all_searched : (d : Station) → b.log_bytes ≡ limit_of file.Proof → design_in text ≡ Ok d
        → RepliesBy r d n b here → SearchedSo
    all_searched d room reads h = record {
      design_bytes = first.0;
      other_bytes = [];
      found = plan_ended h.0;
      finds = ends_search d h.0 reads (within_budgets here d n b h.0 room h.1) h.2;
      replies = subst (Replies r) (sym (read_so here n b.conflicts b.ticks first.0 h.0 text first.1 d reads)) h.3;
    }

-- ---- requests

-- the answer to a simulation, for some bytes of its files
pub some_simulation : (r : Result Reply Ending) (design plan : List ℕ) → (a : List ℕ) × (b : List ℕ) × Replies r (simulation_reply a b) → RepliesSome r (Some (simulate design plan))
some_simulation r design plan h = record { design_bytes = h.0; other_bytes = h.1; found = none_ended; finds = tt; replies = h.2 }

-- to a request for routes
pub some_routes : (r : Result Reply Ending) (design : List ℕ) → (a : List ℕ) × Replies r (routes_reply a) → RepliesSome r (Some (routes design))
some_routes r design h = record { design_bytes = h.0; other_bytes = []; found = none_ended; finds = tt; replies = h.1 }

-- to a check
pub some_check : (r : Result Reply Ending) (n : ℕ) (in_time : Option InTime) (design proof : List ℕ) → (a : List ℕ) × (b : List ℕ) × Replies r (check_reply n in_time a b) → RepliesSome r (Some (check n in_time design proof))
some_check r n in_time design proof h = record { design_bytes = h.0; other_bytes = h.1; found = none_ended; finds = tt; replies = h.2 }

-- what is asked
pub asks_some : (r : Result Reply Ending) (a b : Option RequestSeen) → a ≡ b → RepliesSome r b → RepliesSome r a
asks_some r a b is h = subst (RepliesSome r) (sym is) h

pub asks_named : (r : Result Reply Ending) (a b : RequestSeen) → a ≡ b → RepliesSome r (Some b) → RepliesSome r (Some a)
asks_named r a b is h = subst (λ (x : RequestSeen). RepliesSome r (Some x)) (sym is) h

pub some_search : (r : Result Reply Ending) (n conflicts ticks : ℕ) (mode : SearchMode) (b : Budgets) (design proof : List ℕ) → b ≡ budgets_of conflicts ticks → RepliesSome r (Some (verify n b.conflicts b.ticks mode design proof)) → RepliesSome r (Some (verify n conflicts ticks mode design proof))
some_search r n conflicts ticks mode b design proof within h = subst (λ (x : Budgets). RepliesSome r (Some (verify n x.conflicts x.ticks mode design proof))) within h

pub some_trial : (r : Result Reply Ending) (seed size : ℕ) → RepliesTrial r seed size → RepliesSome r (Some (trial seed size))
some_trial r seed size h = record { design_bytes = []; other_bytes = []; found = plan_ended h.0; finds = h.1; replies = h.2 }

pub some_usage : (r : Result Reply Ending) (reply : Reply) → r ≡ Ok reply → reply_seen reply ≡ one_line statuses.Usage usage_line → RepliesSome r None
some_usage r reply is seen = record {
  design_bytes = [];
  other_bytes = [];
  found = none_ended;
  finds = tt;
  replies = subst (λ (x : Result Reply Ending). Replies x (one_line statuses.Usage usage_line)) (sym is) (sym seen);
}

pub some_wanting : (r : Result Reply Ending) (asked : Option RequestSeen) → r ≡ Err ending.Memory → RepliesSome r asked
some_wanting r None is = record {
  design_bytes = [];
  other_bytes = [];
  found = none_ended;
  finds = tt;
  replies = subst (λ (x : Result Reply Ending). Replies x (one_line statuses.Usage usage_line)) (sym is) tt;
}
some_wanting r (Some asked) is = wanting r asked is

-- ---- runs

module _ (asked : Option RequestSeen) (t : Status) (text new_text : Option (List ℕ)) (pieces new_pieces : Option (List (List ℕ))) where
  -- the reply was printed
  pub prints_some : (reply : Reply) → RepliesSome (Ok reply) asked → Prints (reply_seen reply) t text new_text pieces new_pieces → PrintsSome asked t text new_text pieces new_pieces
  prints_some reply h prints = record {
    design_bytes = h.design_bytes;
    other_bytes = h.other_bytes;
    found = h.found;
    finds = h.finds;
    prints = prints_answer (answer_given h.design_bytes h.other_bytes h.found asked) reply t text new_text pieces new_pieces h.replies prints;
  }

  pub prints_told : (e : Ending) (reply : Reply) → e ≡ ending.RefusedWith reply → RepliesSome (Err e) asked → Prints (reply_seen reply) t text new_text pieces new_pieces → PrintsSome asked t text new_text pieces new_pieces
  prints_told e reply is h prints = (let reply_for = subst (λ (x : Ending). RepliesSome (Err x) asked) is h in
      prints_some reply (record { design_bytes = reply_for.design_bytes; other_bytes = reply_for.other_bytes; found = reply_for.found; finds = reply_for.finds; replies = reply_for.replies }) prints)

module _ (asked : Option RequestSeen) (text : Option (List ℕ)) (pieces : Option (List (List ℕ))) where
  abbrev nothing_told : RepliesSome (Err ending.Memory) asked
  nothing_told = some_wanting (Err ending.Memory) asked refl

  pub want_prints : PrintsSome asked statuses.Memory text text pieces pieces
  want_prints = record { design_bytes = nothing_told.design_bytes; other_bytes = nothing_told.other_bytes; found = nothing_told.found; finds = nothing_told.finds; prints = silent_for_memory _ text pieces }

  pub fault_prints : PrintsSome asked statuses.ShelfFault text text pieces pieces
  fault_prints = record { design_bytes = nothing_told.design_bytes; other_bytes = nothing_told.other_bytes; found = nothing_told.found; finds = nothing_told.finds; prints = silent_at_shelf _ text pieces }
