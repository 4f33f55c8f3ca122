-- Replies, one reading after the other.
use Rattle.std.proofs.Common.{◌≡◌, true, ℕ, List, Result, Ok, Err, Vec, Global, refl, ap, sym, ◌∙◌, subst}
use Rattle.interlocking.specs.declared.railway.Interlocking.{Interlocking}
use Rattle.named_plans.specs.Numbered.{named_plan_of}
use Rattle.rail_base.specs.declared.plan.Command.{Command}
use Rattle.rail_base.specs.declared.plan.Plan.{Plan}
use Rattle.rail_base.specs.declared.station.Station.{Station}
use Rattle.rail_base.specs.Admission.{is_admitted}
use Rattle.rail_plan.specs.Reading.{Refusal, plan_of}
use Rattle.rail_spec.specs.Track.{routes_of}
use Rattle.cli_shell.specs.declared.reply.Reply.{Reply}
use Rattle.cli_shell.specs.declared.ending.Ending.{Ending}
use Rattle.cli_shell.specs.declared.ending.Ending.TheVariants as ending
use Rattle.cli_shell.specs.declared.input.InputFile.TheVariants as file
use Rattle.cli_shell.specs.Answers.{ReplySeen, and_then, design_in, plan_in, plan_or_answer, within_limit}
use Rattle.cli_shell.specs.Replies.{OnReply, ReadsOrEnds, Replies, reply_seen}
use Rattle.cli_shell.proofs.AnyShelf.{ends_so}
use Rattle.cli_shell.proofs.Deciding.{answered_next}
use Rattle.design_cli.specs.declared.wanted.Form.{Form}
use Rattle.design_cli.specs.declared.wanted.Form.TheVariants.{Numbers}
use Rattle.design_cli.specs.Answers.{design_in_file, file_answer, plan_answer, plan_file_answer, plan_given, plan_printed, plan_text_answer, printed, text_answer}

module _ (r : Result Reply Ending) where
  -- memory was wanting
  pub no_memory : (a : ReplySeen) → r ≡ Err ending.Memory → Replies r a
  no_memory a is = subst (λ (x : Result Reply Ending). Replies x a) (sym is) tt

  pub no_memory_for : (fact : Type 0) → r ≡ Err ending.Memory → OnReply r (λ reply. fact)
  no_memory_for fact is = subst (λ (x : Result Reply Ending). OnReply x (λ reply. fact)) (sym is) tt

  -- a reading that ended the work gave nothing
  ended_gives_none : {X Y : Type 0} (view : X → Y) (e : Ending) (reading : Result Y ReplySeen) (y : Y) (fact : Type 0) → ReadsOrEnds view (Err e) reading → reading ≡ Ok y → OnReply (Err e) (λ reply. fact)
  ended_gives_none view (ending.RefusedWith reply) reading y fact h is = absurd (cc)
  ended_gives_none view ending.Memory reading y fact h is = tt
  ended_gives_none view ending.ShelfFault reading y fact h is = tt

  pub gives_none : {X Y : Type 0} (view : X → Y) (e : Ending) (reading : Result Y ReplySeen) (y : Y) (fact : Type 0) → r ≡ Err e → ReadsOrEnds view (Err e) reading → reading ≡ Ok y → OnReply r (λ reply. fact)
  gives_none view e reading y fact is h given = subst (λ (x : Result Reply Ending). OnReply x (λ reply. fact)) (sym is) (ended_gives_none view e reading y fact h given)

  -- the text is refused
  pub text_refused : {X : Type 0} (view : X → Station) (e : Ending) (text : List ℕ) → r ≡ Err e → ReadsOrEnds view (Err e) (design_in text) → Replies r (text_answer text)
  text_refused view e text is h = ends_so r view e (design_in text) printed (text_answer text) is h refl

  -- the file is refused
  pub file_refused : (e : Ending) (bytes : List ℕ) → r ≡ Err e → ReadsOrEnds (λ (v : Vec ℕ Global). v.items) (Err e) (within_limit file.Design bytes) → Replies r (file_answer bytes)
  file_refused e bytes is h = ends_so r (λ (v : Vec ℕ Global). v.items) e (within_limit file.Design bytes) text_answer (file_answer bytes) is h refl

  -- the bytes are the text
  pub file_read : (bytes text : List ℕ) → within_limit file.Design bytes ≡ Ok text → Replies r (text_answer text) → Replies r (file_answer bytes)
  file_read bytes text fits h = subst (Replies r) (sym (answered_next (within_limit file.Design bytes) text text_answer fits)) h

-- the answer for a design that is read
pub text_printed : (text : List ℕ) (d : Station) (reply : Reply) → design_in text ≡ Ok d → reply_seen reply ≡ printed d → text_answer text ≡ reply_seen reply
text_printed text d reply reads seen = answered_next (design_in text) d printed reads ∙ sym seen

-- one design is read
pub one_design : (text : List ℕ) (d e : Station) → design_in text ≡ Ok d → design_in text ≡ Ok e → e ≡ d
one_design text d e one other = let same : Ok d ≡ Ok e = sym one ∙ other in cc

-- the design in a file is that of its text
pub from_text : (bytes text : List ℕ) (d : Station) → within_limit file.Design bytes ≡ Ok text → design_in_file bytes ≡ Ok d → design_in text ≡ Ok d
from_text bytes text d fits is = ap (λ r. and_then r design_in) (sym fits) ∙ is

-- a file that is refused has none
pub none_in_file : (bytes : List ℕ) (d : Station) → design_in_file bytes ≡ Ok d → (text : List ℕ) × (within_limit file.Design bytes ≡ Ok text)
none_in_file bytes d is = go (within_limit file.Design bytes) is
  where
    go : (q : Result (List ℕ) ReplySeen) → and_then q design_in ≡ Ok d → (text : List ℕ) × (q ≡ Ok text)
    go (Ok text) e = (text, refl)
    go (Err a) e = absurd (cc)

-- ---- plans over designs

-- a file that ended the work is no design
file_ended : {X Y : Type 0} (view : X → Y) (design : Interlocking → Station) (r : Result Interlocking Ending) (e : Ending) (fits : Result Y ReplySeen) (next : Y → Result Station ReplySeen) → r ≡ Err e → ReadsOrEnds view (Err e) fits → ReadsOrEnds design r (and_then fits next)
file_ended view design r e fits next is h = subst (λ (x : Result Interlocking Ending). ReadsOrEnds design x (and_then fits next)) (sym is) (go e h)
  where
    go : (e : Ending) → ReadsOrEnds view (Err e) fits → ReadsOrEnds design (Err e) (and_then fits next)
    go (ending.RefusedWith reply) k = ap (λ q. and_then q next) k
    go ending.Memory k = tt
    go ending.ShelfFault k = tt

abbrev pub station_of : Interlocking → Station
station_of i = i.design.station

module _ (r : Result Interlocking Ending) where
  pub design_ended : (e : Ending) (bytes : List ℕ) → r ≡ Err e → ReadsOrEnds (λ (v : Vec ℕ Global). v.items) (Err e) (within_limit file.Design bytes) → ReadsOrEnds station_of r (design_in_file bytes)
  design_ended e bytes is h = file_ended (λ (v : Vec ℕ Global). v.items) station_of r e (within_limit file.Design bytes) design_in is h

  pub design_read : (bytes text : List ℕ) → within_limit file.Design bytes ≡ Ok text → ReadsOrEnds station_of r (design_in text) → ReadsOrEnds station_of r (design_in_file bytes)
  design_read bytes text fits h = subst (λ (q : Result (List ℕ) ReplySeen). ReadsOrEnds station_of r (and_then q design_in)) (sym fits) h

module _ (r : Result Reply Ending) (form : Form) where
  -- the text of a plan is refused
  pub plan_refused : (d : Station) (e : Ending) (text : List ℕ) → r ≡ Err e → ReadsOrEnds (λ (p : Plan). p.steps) (Err e) (plan_given form d text) → Replies r (plan_text_answer form d text)
  plan_refused d e text is h = ends_so r (λ (p : Plan). p.steps) e (plan_given form d text) (plan_printed form d) (plan_text_answer form d text) is h refl

  -- its file is
  pub plan_file_refused : (d : Station) (e : Ending) (bytes : List ℕ) → r ≡ Err e → ReadsOrEnds (λ (v : Vec ℕ Global). v.items) (Err e) (within_limit file.Plan bytes) → Replies r (plan_file_answer form bytes d)
  plan_file_refused d e bytes is h = ends_so r (λ (v : Vec ℕ Global). v.items) e (within_limit file.Plan bytes) (plan_text_answer form d) (plan_file_answer form bytes d) is h refl

  -- the bytes are the text
  pub plan_file_read : (d : Station) (bytes text : List ℕ) → within_limit file.Plan bytes ≡ Ok text → Replies r (plan_text_answer form d text) → Replies r (plan_file_answer form bytes d)
  plan_file_read d bytes text fits h = subst (Replies r) (sym (answered_next (within_limit file.Plan bytes) text (plan_text_answer form d) fits)) h

  -- the design of the plan is refused
  pub plan_design_refused : (e : Ending) (bytes plan_bytes : List ℕ) → r ≡ Err e → ReadsOrEnds station_of (Err e) (design_in_file bytes) → Replies r (plan_answer form bytes plan_bytes)
  plan_design_refused e bytes plan_bytes is h = ends_so r station_of e (design_in_file bytes) (plan_file_answer form plan_bytes) (plan_answer form bytes plan_bytes) is h refl

  -- it is read
  pub plan_design_read : (d : Station) (bytes plan_bytes : List ℕ) → design_in_file bytes ≡ Ok d → Replies r (plan_file_answer form plan_bytes d) → Replies r (plan_answer form bytes plan_bytes)
  plan_design_read d bytes plan_bytes is h = subst (Replies r) (sym (answered_next (design_in_file bytes) d (plan_file_answer form plan_bytes) is)) h

-- the answer for a plan that is read
pub plan_is_printed : (form : Form) (d : Station) (text : List ℕ) (plan : List (List Command)) (reply : Reply) → plan_given form d text ≡ Ok plan → reply_seen reply ≡ plan_printed form d plan → plan_text_answer form d text ≡ reply_seen reply
plan_is_printed form d text plan reply reads seen = answered_next (plan_given form d text) plan (plan_printed form d) reads ∙ sym seen

-- what is read of the text with numbers is what the plan with names is
pub as_named : {X : Type 0} (view : X → List (List Command)) (r : Result X Ending) (d : Station) (numbered text : List ℕ) → plan_of d (routes_of d) numbered ≡ named_plan_of d text → ReadsOrEnds view r (plan_in d numbered) → ReadsOrEnds view r (plan_given Numbers d text)
as_named view r d numbered text same h = subst (λ (q : Result (List (List Command)) Refusal). ReadsOrEnds view r (plan_or_answer d q)) same h

-- the design of a file is one
pub one_of_file : (bytes : List ℕ) (d e : Station) → is_admitted d ≡ true → design_in_file bytes ≡ Ok d → design_in_file bytes ≡ Ok e → is_admitted e ≡ true
one_of_file bytes d e admitted one other = let same : Ok d ≡ Ok e = sym one ∙ other in let is : d ≡ e = cc in subst (λ (x : Station). is_admitted x ≡ true) is admitted
