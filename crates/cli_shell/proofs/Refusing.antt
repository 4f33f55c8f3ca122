-- Readings that refuse, and readings that don't.
use Rattle.std.proofs.Common.{◌≡◌, ℕ, ◌≤◌, Bool, true, false, List, [], ◌∷◌, map, length, nat_lt, nat_le, if◌then◌else◌, Some, Result, Ok, Err, IfOk, refl, ap, sym, subst, ◌∙◌, arith}
use Rattle.std.specs.declared.alloc.AllocError.{AllocError}
use Rattle.std.proofs.lemmas.Bool.{le-ltb, lt-leb}
use Rattle.design_table.specs.declared.fault.Code.{Code}
use Rattle.design_table.specs.declared.fault.Code.TheVariants.{D12, D13}
use Rattle.design_table.specs.declared.fault.DesignFault.{DesignFault}
use Rattle.design_table.specs.declared.fault.DesignFault.TheVariants as design_fault
use Rattle.design_table.specs.declared.place.Place.{Place}
use Rattle.design_table.specs.declared.place.Place.TheVariants.{Routes}
use Rattle.design_table.specs.Reads.{Refuses, at, unless_at}
use Rattle.infra_reader.specs.Design.{design_of}
use Rattle.rail_base.specs.declared.station.Station.{Station}
use Rattle.rail_base.specs.declared.station.EdgeNo.{EdgeNo}
use Rattle.rail_base.specs.Numbering.{first_of_list}
use Rattle.rail_routes.specs.declared.fault.RouteFault.{RouteFault}
use Rattle.rail_routes.specs.declared.fault.RouteFault.TheVariants as fault
use Rattle.rail_routes.specs.Refusals.{HasFault}
use Rattle.rail_spec.specs.Track.{all_walks, edges_met_again}
use Rattle.cli_shell.specs.declared.reply.Reply.{Reply}
use Rattle.cli_shell.specs.declared.input.InputFile.{InputFile}
use Rattle.cli_shell.specs.Texts.{limit_of}
use Rattle.cli_shell.specs.Answers.{ReplySeen, within_limit, edge_place, with_routes, design_or_answer, and_then, design_in}
use Rattle.cli_shell.specs.Replies.{reply_seen, ending_of, ReadsOrEnds}

-- ---- routes

met_again : (d : Station) (e : EdgeNo) (es : List EdgeNo) (next : Result Station (Code × Place)) → first_of_list es ≡ Some e → unless_at D12 (map edge_place es) next ≡ Err (D12, edge_place e)
met_again d e [] next h = absurd (cc)
met_again d e (x ∷ xs) next h = let same : x ≡ e = cc in ap (λ y. Err (D12, edge_place y)) same

-- a path meets this edge again
pub again_refused : (d : Station) (e : EdgeNo) → first_of_list (edges_met_again d) ≡ Some e → with_routes d ≡ Err (D12, edge_place e)
again_refused d e h = met_again d e (edges_met_again d) _ h

pub found_again : (d : Station) (x : RouteFault) (e : EdgeNo) → x ≡ fault.RepeatsEdge e → HasFault d x → first_of_list (edges_met_again d) ≡ Some e
found_again d (fault.RepeatsEdge f) e same h = let this : f ≡ e = cc in h ∙ ap (λ (y : EdgeNo). Some y) this
found_again d fault.TooMany e same h = absurd (cc)
found_again d fault.Memory e same h = absurd (cc)

-- what a reader refuses is what reading gives
pub refused_reading : {Y : Type 0} (e : DesignFault) (code : Code) (place : Place) (reading : Result Y (Code × Place)) → e ≡ design_fault.Refused code place → Refuses e reading → reading ≡ Err (code, place)
refused_reading e code place reading is h = subst (λ (x : DesignFault). Refuses x reading) is h

routes_answer : (d : Station) (es : List EdgeNo) (many : Bool) → es ≡ [] → many ≡ false → unless_at D12 (map edge_place es) (unless_at D13 (at many Routes) (Ok d)) ≡ Ok d
routes_answer d [] false e f = refl
routes_answer d [] true e f = absurd (cc)
routes_answer d (x ∷ xs) many e f = absurd (cc)

-- no path does, and few close
pub routes_can_be_listed : (d : Station) → edges_met_again d ≡ [] → length (all_walks d) ≤ 2000 → with_routes d ≡ Ok d
routes_can_be_listed d once few = routes_answer d (edges_met_again d) (nat_le 2001 (length (all_walks d))) once (lt-leb 2001 (length (all_walks d)) (omega arith))

-- ---- a design and its routes

pub design_read : (bytes : List ℕ) (d : Station) → design_of bytes ≡ Ok d → with_routes d ≡ Ok d → design_in bytes ≡ Ok d
design_read bytes d reads routes = ap (λ r. design_or_answer (and_then r with_routes)) reads ∙ ap design_or_answer routes

-- ---- files within their limits

pub file_fits : (f : InputFile) (bytes : List ℕ) → length bytes ≤ limit_of f → within_limit f bytes ≡ Ok bytes
file_fits f bytes le = rw (le-ltb (limit_of f) (length bytes) le) refl

fitting : (f : InputFile) (long : Bool) (bytes text : List ℕ) (a : ReplySeen) → (if long then Err a else Ok bytes) ≡ Ok text → bytes ≡ text
fitting f true bytes text a e = absurd (cc)
fitting f false bytes text a e = cc

pub file_is : (f : InputFile) (bytes text : List ℕ) → within_limit f bytes ≡ Ok text → bytes ≡ text
file_is f bytes text e = fitting f (nat_lt (limit_of f) (length bytes)) bytes text _ e

-- ---- endings

-- the ending with the answer that a reading gives
pub ended_reads : {X Y : Type 0} (view : X → Y) (r : Result Reply AllocError) (answer : ReplySeen) (reading : Result Y ReplySeen) → IfOk r (λ reply. reply_seen reply ≡ answer) → reading ≡ Err answer → ReadsOrEnds view (Err (ending_of r)) reading
ended_reads view (Ok reply) answer reading seen e = e ∙ ap (λ a. Err a) (sym seen)
ended_reads view (Err x) answer reading seen e = tt
