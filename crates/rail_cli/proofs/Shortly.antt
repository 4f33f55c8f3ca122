-- The promises in short, from those at length.
use Rattle.std.proofs.Common.{◌≡◌, ℕ, ◌≤◌, Bool, true, false, List, [], ◌∷◌, length, map, nat_lt, nat_le, if◌then◌else◌, Option, None, Some, Result, Ok, Err, inl, inr, ⊎_elim, refl, ap, sym, ◌∙◌, arith}
use Rattle.std.proofs.lemmas.Bool.Decides.{nat_tests}
use Rattle.design_table.specs.declared.fault.Code.{Code}
use Rattle.design_table.specs.declared.fault.Code.TheVariants.{D12, D13}
use Rattle.design_table.specs.declared.place.Place.{Place}
use Rattle.design_table.specs.declared.place.Place.TheVariants.{Routes}
use Rattle.design_table.specs.Reads.{at, unless_at}
use Rattle.infra_reader.specs.Design.{design_of}
use Rattle.rail_base.specs.declared.station.Station.{Station}
use Rattle.rail_base.specs.declared.station.EdgeNo.{EdgeNo}
use Rattle.rail_base.specs.declared.plan.Command.{Command}
use Rattle.rail_outside.specs.Files.{Files}
use Rattle.rail_plan.specs.Reading.{Refusal, plan_of}
use Rattle.rail_spec.specs.Track.{routes_of, all_walks, edges_met_again}
use Rattle.rail_spelling.specs.Lines.{CheckLine, SimulateLine, VerifyLine}
use Rattle.rail_spelling.proofs.Asked.{simulate_asked, verify_asked, check_asked}
use Rattle.rail_spelling.proofs.Unique.{designs_spelled, spelled_one, plans_spelled, spelled_plans_one}
use Rattle.rail_words.specs.Requests.{simulate, verify, check, request_of}
use Rattle.timetable.specs.Timetable.{timetable_of}
use Rattle.rail_cli.specs.Ended.{Ended}
use Rattle.cli_shell.specs.declared.input.InputFile.{InputFile}
use Rattle.cli_shell.specs.declared.input.InputFile.TheVariants as file
use Rattle.cli_shell.specs.declared.status.Status.{Status}
use Rattle.cli_shell.specs.declared.status.Status.TheVariants.{Done, No, PlanRefused}
use Rattle.cli_shell.specs.Answers.{ReplySeen, one_line, within_limit, edge_place, with_routes, design_or_answer, and_then, design_in, plan_or_answer, plan_in, verdict_reply, unless_refused, planned}
use Rattle.proof_shell.specs.Answers.{with_proof}
use Rattle.rail_cli.specs.Answers.{searched_in, aim_of, answer_to, answer_of}
use Rattle.rail_cli.specs.Checks.{Checks, ReportsInfeasible}
use Rattle.cli_shell.specs.Prints.{Prints}
use Rattle.rail_cli.specs.Searches.{Finds, Searches, ReportsPlan, ReportsNone}
use Rattle.rail_cli.specs.Short.{IsDesign, IsVerdict, Simulated, Checked, Found, FoundNone}
use Rattle.cli_shell.specs.Shows.{verdict_at_horizon}
use Rattle.cli_shell.specs.Simulations.{ReportsFeasible}
use Rattle.rail_cli.specs.Simulations.{Simulates}
use Rattle.cli_shell.specs.Statuses.{is_answered, is_verdict}
use Rattle.cli_shell.specs.Texts.{limit_of, plan_refused_line}
use Rattle.cli_shell.proofs.Passing.{passed, long_refuses, design_refuses, routes_answer-same}
use Rattle.cli_shell.proofs.Refusing.{file_is}

-- ---- what was read

read_back : (r : Result Station (Code × Place)) (d : Station) → design_or_answer (and_then r with_routes) ≡ Ok d → (r ≡ Ok d) × (with_routes d ≡ Ok d)
read_back (Ok e) d h =
    let same : e ≡ d = routes_answer-same e d h in
    (ap Ok same, listed (with_routes d) (ap (λ x. design_or_answer (with_routes x)) (sym same) ∙ h))
  where
    listed : {d : Station} (r : Result Station (Code × Place)) → design_or_answer r ≡ Ok d → r ≡ Ok d
    listed (Ok x) h = let is : x ≡ _ = cc in ap Ok is
    listed (Err x) h = absurd (cc)
read_back (Err x) d h = absurd (cc)

pub is_read : (bytes : List ℕ) (d : Station) → design_of bytes ≡ Ok d → IsDesign bytes d
is_read bytes d h = record { spelled = designs_spelled bytes d h; alone = λ e s. spelled_one bytes d e h s }

-- the design of a reply that is a verdict
pub record Read (bytes : List ℕ) (next : Station → ReplySeen) : Type 0 where
  pub design : Station
  pub is : design_of bytes ≡ Ok design
  pub listed : with_routes design ≡ Ok design
  pub fits : within_limit file.Design bytes ≡ Ok bytes
  pub verdict : is_verdict (next design).status ≡ true

pub reads : (bytes : List ℕ) (next : Station → ReplySeen) → is_verdict (unless_refused (within_limit file.Design bytes) (λ text. unless_refused (design_in text) next)).status ≡ true → Read bytes next
reads bytes next verdict =
    let one = passed (within_limit file.Design bytes) (λ text. unless_refused (design_in text) next) (long_refuses file.Design bytes) verdict in
    let two = passed (design_in one.read) next (design_refuses (and_then (design_of one.read) with_routes)) one.verdict in
    let text : bytes ≡ one.read = file_is file.Design bytes one.read one.is in
    let back = read_back (design_of bytes) two.read (ap design_in text ∙ two.is) in
    record { design = two.read; is = back.0; listed = back.1; fits = one.is ∙ ap Ok (sym text); verdict = two.verdict }

-- ---- within limits

under : (f : InputFile) (bytes : List ℕ) → within_limit f bytes ≡ Ok bytes → length bytes ≤ limit_of f
under f bytes h = go _ (nat_lt (limit_of f) (length bytes)) refl h
  where
    go : (a : ReplySeen) (long : Bool) → nat_lt (limit_of f) (length bytes) ≡ long → (if long then Err a else Ok bytes) ≡ Ok bytes → length bytes ≤ limit_of f
    go a true is h = absurd (cc)
    go a false is h = grind (arith, nat_tests, is)

few_routes : (d : Station) → with_routes d ≡ Ok d → (edges_met_again d ≡ []) × (length (all_walks d) ≤ 2000)
few_routes d h = go (edges_met_again d) (nat_le 2001 (length (all_walks d))) refl refl h
  where
    go : (es : List EdgeNo) (many : Bool) → edges_met_again d ≡ es → nat_le 2001 (length (all_walks d)) ≡ many
        → unless_at D12 (map edge_place es) (unless_at D13 (at many Routes) (Ok d)) ≡ Ok d → (edges_met_again d ≡ []) × (length (all_walks d) ≤ 2000)
    go [] true e m h = absurd (cc)
    go [] false e m h = (e, grind (arith, nat_tests, m))
    go (x ∷ xs) many e m h = absurd (cc)

-- ---- the plan of a reply that is a verdict

plan_refuses : (d : Station) (r : Result (List (List Command)) Refusal) (a : ReplySeen) → plan_or_answer d r ≡ Err a → is_verdict a.status ≡ true → ⊥
plan_refuses d (Ok plan) a e verdict = absurd (cc)
plan_refuses d (Err x) a e verdict =
    let same : one_line PlanRefused (plan_refused_line d x.0 x.1) ≡ a = cc in
    let kind : false ≡ true = ap (λ (b : ReplySeen). is_verdict b.status) same ∙ verdict in
    cc

plan_back : (d : Station) (r : Result (List (List Command)) Refusal) (plan : List (List Command)) → plan_or_answer d r ≡ Ok plan → r ≡ Ok plan
plan_back d (Ok x) plan h = let same : x ≡ plan = cc in ap Ok same
plan_back d (Err x) plan h = absurd (cc)

-- ---- statuses

pub verdict_answered : (s : Status) → IsVerdict s → is_answered s ≡ true
verdict_answered s v = ⊎_elim (λ e. ap is_answered e) (λ e. ap is_answered e) v

pub verdict_so : (s : Status) → IsVerdict s → is_verdict s ≡ true
verdict_so s v = ⊎_elim (λ e. ap is_verdict e) (λ e. ap is_verdict e) v

pub no_verdict : (s : Status) → is_verdict s ≡ false → IsVerdict s → ⊥
no_verdict s isnt v = let h = verdict_so s v in cc

-- ---- the promises

-- what is known of a run: the answer, and what it prints
abbrev pub Answered : Files → List (List ℕ) → Status → Option (List ℕ) → Option (List ℕ) → Option (List (List ℕ)) → Option (List (List ℕ)) → Type 0
Answered files words t text new_text pieces new_pieces =
    (found : Ended) × Finds files (request_of words) found × Prints (answer_of files found words) t text new_text pieces new_pieces

module _ (files : Files) (words : List (List ℕ)) (t : Status) (text new_text : Option (List ℕ)) (pieces new_pieces : Option (List (List ℕ)))
    (answer : Answered files words t text new_text pieces new_pieces) where
  pub simulated : (design plan : List ℕ) → ((d : Station) (p : List (List Command)) → Simulates files words d p → is_answered t ≡ true → ReportsFeasible d p t text new_text)
      → SimulateLine words design plan → IsVerdict t → Simulated (files design) (files plan) t
  simulated design plan met line v =
      let (found, finds, prints) = answer in
      let asked = simulate_asked words design plan line in
      let answered = verdict_answered t v in
      let status : is_verdict (answer_to files found (Some (simulate design plan))).status ≡ true = ap (λ a. is_verdict (answer_to files found a).status) (sym asked) ∙ (ap is_verdict (sym (prints.status answered)) ∙ verdict_so t v) in
      let r = reads (files design) (λ d. unless_refused (within_limit file.Plan (files plan)) (planned d)) status in
      let three = passed (within_limit file.Plan (files plan)) (planned r.design) (long_refuses file.Plan (files plan)) r.verdict in
      let four = passed (plan_in r.design three.read) (λ p. verdict_reply r.design (verdict_at_horizon r.design p)) (plan_refuses r.design (plan_of r.design (routes_of r.design) three.read)) three.verdict in
      let same : files plan ≡ three.read = file_is file.Plan (files plan) three.read three.is in
      let back : plan_of r.design (routes_of r.design) (files plan) ≡ Ok four.read = ap (plan_of r.design (routes_of r.design)) same ∙ plan_back r.design _ four.read four.is in
      let few = few_routes r.design r.listed in
      let s : Simulates files words r.design four.read = record {
        design_name = design;
        plan_name = plan;
        asked = asked;
        short_design = under file.Design (files design) r.fits;
        short_plan = under file.Plan (files plan) (three.is ∙ ap Ok (sym same));
        parses_design = r.is;
        once = few.0;
        at_most_2000 = few.1;
        parses_plan = back;
      } in
      let reports = met r.design four.read s answered in
      record {
        design = r.design;
        plan = four.read;
        is_design = is_read (files design) r.design r.is;
        is_plan = record {
          spelled = plans_spelled r.design (routes_of r.design) (files plan) four.read back;
          alone = λ q h. spelled_plans_one (files design) r.design r.is (routes_of r.design) (files plan) four.read q back h;
        };
        settled = record { done = reports.done; safe = reports.safe };
      }

  pub checked : (n : ℕ) (design proof : List ℕ) → ((d : Station) → Checks files words n d → t ≡ Done → ReportsInfeasible n d text new_text)
      → CheckLine words n design proof → t ≡ Done → Checked (files design) n text new_text
  checked n design proof infeasible line done =
      let (found, finds, prints) = answer in
      let asked = check_asked words n design proof line in
      let status : is_verdict (answer_to files found (Some (check n None design proof))).status ≡ true = ap (λ a. is_verdict (answer_to files found a).status) (sym asked) ∙ (ap is_verdict (sym (prints.status (ap is_answered done))) ∙ ap is_verdict done) in
      let r = reads (files design) (λ d. with_proof n d (files proof)) status in
      record {
        design = r.design;
        is_design = is_read (files design) r.design r.is;
        reports = infeasible r.design (record { design_name = design; proof_name = proof; in_time = None; asked = asked; spelled = r.design; parses_design = r.is; put = refl }) done;
      }

  module _ (n : ℕ) (design proof : List ℕ) (line : VerifyLine words n design proof) where
    asked_here : request_of words ≡ Some (verify n line.conflicts line.ticks line.mode design proof)
    asked_here = verify_asked words n design proof line

    read_here : IsVerdict t → Read (files design) (λ d. searched_in (aim_of line.mode) d n line.conflicts line.ticks answer.0.plan)
    read_here v =
        let (found, finds, prints) = answer in
        let status : is_verdict (answer_to files found (Some (verify n line.conflicts line.ticks line.mode design proof))).status ≡ true = ap (λ a. is_verdict (answer_to files found a).status) (sym asked_here) ∙ (ap is_verdict (sym (prints.status (verdict_answered t v))) ∙ verdict_so t v) in
        reads (files design) (λ d. searched_in (aim_of line.mode) d n line.conflicts line.ticks found.plan) status

    search_here : (d : Station) → design_of (files design) ≡ Ok d → Searches files words n d
    search_here d is = record { conflicts = line.conflicts; ticks = line.ticks; mode = line.mode; design_name = design; proof_name = proof; asked = asked_here; parses_design = is }

    pub found : ((d : Station) (s : Searches files words n d) → t ≡ Done → ReportsPlan s.mode n d text new_text) → t ≡ Done → Found line.mode (files design) n text new_text
    unfolding search_here
    found finds done =
        let r = read_here (inl done) in
        let reports = finds r.design (search_here r.design r.is) done in
        record {
          design = r.design;
          is_design = is_read (files design) r.design r.is;
          plan = reports.plan;
          more = timetable_of r.design (verdict_at_horizon r.design reports.plan);
          text = reports.text;
          feasible = reports.feasible;
          fewest = reports.fewest;
          safe = reports.safe;
        }

    pub found_none : (known : Option Files) → ((d : Station) (s : Searches files words n d) → t ≡ No → ReportsNone files s.design_name s.proof_name n d text new_text known) → t ≡ No → FoundNone (files design) n text new_text
    found_none known proven ends =
        let r = read_here (inr ends) in
        let reports = proven r.design (search_here r.design r.is) ends in
        record { design = r.design; is_design = is_read (files design) r.design r.is; text = reports.text; none = reports.none }
