use Rattle.std.proofs.Common.{◌≡◌, ℕ, List, refl, ap, sym, ◌∙◌, subst, arith, length, drop, get_or, None, false, ◌+◌, ◌<◌}
use Rattle.sat_trail.specs.declared.step.Step.{Step}
use Rattle.sat_trail.specs.declared.status.Visit.{Visit}
use Rattle.sat_trail.specs.Attached.{Seen, AreLive}
use Rattle.sat_trail.specs.Watches.{rows, row_at, code_of, IsCut, IsWatching, Pending, Looked}
use Rattle.std.specs.Global.{Vec}
use Rattle.sat_trail.specs.declared.entry.Entry.{Entry}
use Rattle.sat_trail.specs.Blockers.{IsBlocked, AllBlocked}
use Rattle.sat_trail.proofs.Grows.{forced-none, forced-then, forced-at, forced-depth, forced-assigned, forced-length, step-assigned}
use Rattle.sat_trail.proofs.Rows.{among-end}
use Rattle.sat_trail.proofs.Watched.{pending-start, pending-next, pending-cut, watching-cut, watching-next}
use Rattle.sat_clause.specs.Clauses.{opposite}
use Rattle.sat_trail.proofs.watch.visit_all.Goals as goal

abbrev no_step : Step
no_step = record { lit = record { var = 0; negated = false }; level = 0; reason = None }

pub list-init : goal.list-init
list-init c = record {
  is_false = step-assigned c.args.trail.now.steps c.args.head no_step (opposite c.args.w) c.requires.within (c.requires.there no_step);
  trail = c.requires.trail;
  forced = forced-none c.args.trail.now;
  watching = c.requires.watching;
  blocked = c.requires.blocked;
  loose = refl;
  pending = pending-start c.args.trail.now c.args.watches.now.loose.items (rows c.args.watches.now.lists.items) c.args.watches.now.pairs.items c.args.w c.args.head c.requires.watching;
}

pub visit_clause-requires-clause-attached : goal.visit_clause-requires-clause-attached
visit_clause-requires-clause-attached c = let P : Seen → Type 0 = λ z. AreLive c.args.arena.now z in subst P (sym c.list.invariant.forced.attached) c.requires.attached

pub overflow_add-i : goal.overflow_add-i
overflow_add-i c = omega (arith, c.in-Some.ensures.bound)

pub list-preserved-in-Blocked : goal.list-preserved-in-Blocked
list-preserved-in-Blocked c =
    let R = row_at (rows c.list.watches.lists.items) (code_of c.args.w) in
    let same : row_at (rows c.deref.result.now) c.code-place.result ≡ R = ap (λ z. row_at (rows z) c.code-place.result) c.deref.ensures.value ∙ ap (λ z. row_at (rows c.list.watches.lists.items) z) c.code-place.ensures in
    let v = c.visit_clause.new.trail in
    let loose = c.visit_clause.new.watches.loose.items in
    let pairs = c.visit_clause.new.watches.pairs.items in
    let new = rows c.visit_clause.new.watches.lists.items in
    let here : c.in-Some.entry.id ≡ get_or (row_at new (code_of c.args.w)) c.list.i 0 = c.in-Some.ensures.entry.1 ∙ ap (λ z. get_or z c.list.i 0) (same ∙ sym c.visit_clause.ensures.row) in
    let T : List ℕ → Type 0 = λ z. Pending v loose pairs c.args.w (drop c.list.i z) in
    let pending : T (row_at new (code_of c.args.w)) = subst T (sym c.visit_clause.ensures.row) (c.visit_clause.ensures.pending (drop c.list.i R) c.list.invariant.pending) in
    let L : Visit → Type 0 = λ z. Looked v loose pairs c.args.arena.now c.args.w c.in-Some.entry.id z in
    record {
      is_false = forced-assigned c.list.trail v (opposite c.args.w) c.visit_clause.ensures.forced c.list.invariant.is_false;
      trail = c.visit_clause.ensures.trail;
      forced = forced-then c.args.trail.now c.list.trail v c.list.invariant.forced c.visit_clause.ensures.forced;
      watching = c.visit_clause.ensures.watching;
      blocked = c.visit_clause.ensures.blocked;
      loose = c.visit_clause.ensures.loose ∙ c.list.invariant.loose;
      pending = pending-next v loose pairs c.args.w (row_at new (code_of c.args.w)) c.list.i c.in-Some.entry.id here (subst L c.in-Blocked.is c.in_ok-visit_clause.ensures.looked) pending;
    }

pub list-preserved : goal.list-preserved
list-preserved c =
    let R = row_at (rows c.list.watches.lists.items) (code_of c.args.w) in
    let same : row_at (rows c.deref.result.now) c.code-place.result ≡ R = ap (λ z. row_at (rows z) c.code-place.result) c.deref.ensures.value ∙ ap (λ z. row_at (rows c.list.watches.lists.items) z) c.code-place.ensures in
    let v = c.visit_clause.new.trail in
    let loose = c.visit_clause.new.watches.loose.items in
    let pairs = c.visit_clause.new.watches.pairs.items in
    let new = rows c.visit_clause.new.watches.lists.items in
    let here : c.in-Some.entry.id ≡ get_or (row_at new (code_of c.args.w)) c.list.i 0 = c.in-Some.ensures.entry.1 ∙ ap (λ z. get_or z c.list.i 0) (same ∙ sym c.visit_clause.ensures.row) in
    let T : List ℕ → Type 0 = λ z. Pending v loose pairs c.args.w (drop c.list.i z) in
    let pending : T (row_at new (code_of c.args.w)) = subst T (sym c.visit_clause.ensures.row) (c.visit_clause.ensures.pending (drop c.list.i R) c.list.invariant.pending) in
    let entry : IsBlocked c.list.trail.attached c.list.watches.loose.items (length c.list.watches.pairs.items) c.in-Some.entry = (let P : List (Vec Entry) → Type 0 = λ z. AllBlocked c.list.trail.attached c.list.watches.loose.items (length c.list.watches.pairs.items) z in
    c.in-Some.ensures.blocked c.list.trail.attached c.list.watches.loose.items (length c.list.watches.pairs.items) (subst P (sym c.deref.ensures.value) c.list.invariant.blocked)) in
    let below : c.in-Some.entry.id < length pairs = (let a = entry.below in let b = c.visit_clause.ensures.count in omega arith) in
    let L : Visit → Type 0 = λ z. Looked v loose pairs c.args.arena.now c.args.w c.in-Some.entry.id z in
    let satisfied = subst L c.in-Kept.is c.in_ok-visit_clause.ensures.looked in
    record {
      is_false = forced-assigned c.list.trail v (opposite c.args.w) c.visit_clause.ensures.forced c.list.invariant.is_false;
      trail = c.visit_clause.ensures.trail;
      forced = forced-then c.args.trail.now c.list.trail v c.list.invariant.forced c.visit_clause.ensures.forced;
      watching = (let P : List (List ℕ) → Type 0 = λ z. IsWatching v loose z pairs c.args.head in subst P (sym c.set_blocker.ensures.rows) c.visit_clause.ensures.watching);
      blocked = c.set_blocker.ensures.blocked v.attached loose (length pairs) (record { below = below; member = λ d e n. (satisfied d e n).0 }) c.visit_clause.ensures.blocked;
      loose = c.visit_clause.ensures.loose ∙ c.list.invariant.loose;
      pending = (let P : List (List ℕ) → Type 0 = λ z. Pending v loose pairs c.args.w (drop (c.list.i + 1) (row_at z (code_of c.args.w))) in
          subst P (sym c.set_blocker.ensures.rows) (pending-next v loose pairs c.args.w (row_at new (code_of c.args.w)) c.list.i c.in-Some.entry.id here (λ d e n. (satisfied d e n).1) pending));
    }

pub visit_clause-requires-clause-entry : goal.visit_clause-requires-clause-entry
visit_clause-requires-clause-entry c =
    let P : List (Vec Entry) → Type 0 = λ z. AllBlocked c.list.trail.attached c.list.watches.loose.items (length c.list.watches.pairs.items) z in
    c.in-Some.ensures.blocked c.list.trail.attached c.list.watches.loose.items (length c.list.watches.pairs.items) (subst P (sym c.deref.ensures.value) c.list.invariant.blocked)

pub visit_clause-requires-clause-blocked : goal.visit_clause-requires-clause-blocked
visit_clause-requires-clause-blocked c = c.list.invariant.blocked

pub set_blocker-requires-clause-within : goal.set_blocker-requires-clause-within
set_blocker-requires-clause-within c =
    let R = row_at (rows c.list.watches.lists.items) (code_of c.args.w) in
    let same : row_at (rows c.deref.result.now) c.code-place.result ≡ R = ap (λ z. row_at (rows z) c.code-place.result) c.deref.ensures.value ∙ ap (λ z. row_at (rows c.list.watches.lists.items) z) c.code-place.ensures in
    let a = ap length same in
    let b = ap length c.visit_clause.ensures.row in
    let p = ap (λ z. length (row_at (rows c.visit_clause.new.watches.lists.items) z)) c.code-place.ensures in
    let h = c.in-Some.ensures.entry.0 in
    omega arith

pub set_blocker-requires-clause-same : goal.set_blocker-requires-clause-same
set_blocker-requires-clause-same c =
    let R = row_at (rows c.list.watches.lists.items) (code_of c.args.w) in
    let same : row_at (rows c.deref.result.now) c.code-place.result ≡ R = ap (λ z. row_at (rows z) c.code-place.result) c.deref.ensures.value ∙ ap (λ z. row_at (rows c.list.watches.lists.items) z) c.code-place.ensures in
    c.in-Some.ensures.entry.1 ∙ ap (λ z. get_or z c.list.i 0) (same ∙ sym c.visit_clause.ensures.row) ∙ ap (λ z. get_or (row_at (rows c.visit_clause.new.watches.lists.items) z) c.list.i 0) (sym c.code-place.ensures)

pub returns-clause-blocked : goal.returns-clause-blocked
returns-clause-blocked c = c.list.invariant.blocked

pub list-preserved-in-Gone : goal.list-preserved-in-Gone
list-preserved-in-Gone c =
    let R = row_at (rows c.list.watches.lists.items) (code_of c.args.w) in
    let same : row_at (rows c.deref.result.now) c.code-place.result ≡ R = ap (λ z. row_at (rows z) c.code-place.result) c.deref.ensures.value ∙ ap (λ z. row_at (rows c.list.watches.lists.items) z) c.code-place.ensures in
    let v = c.visit_clause.new.trail in
    let loose = c.visit_clause.new.watches.loose.items in
    let pairs = c.visit_clause.new.watches.pairs.items in
    let new = rows c.visit_clause.new.watches.lists.items in
    let here : c.in-Some.entry.id ≡ get_or (row_at new (code_of c.args.w)) c.list.i 0 = c.in-Some.ensures.entry.1 ∙ ap (λ z. get_or z c.list.i 0) (same ∙ sym c.visit_clause.ensures.row) in
    let T : List ℕ → Type 0 = λ z. Pending v loose pairs c.args.w (drop c.list.i z) in
    let pending : T (row_at new (code_of c.args.w)) = subst T (sym c.visit_clause.ensures.row) (c.visit_clause.ensures.pending (drop c.list.i R) c.list.invariant.pending) in
    let L : Visit → Type 0 = λ z. Looked v loose pairs c.args.arena.now c.args.w c.in-Some.entry.id z in
    let not = subst L c.in-Gone.is c.in_ok-visit_clause.ensures.looked in
    let C : ℕ → Type 0 = λ z. IsCut new (rows c.cut_entry.new.lists.items) z c.list.i in
    let cut : C (code_of c.args.w) = subst C c.code-place.ensures c.cut_entry.ensures.cut in
    record {
      is_false = forced-assigned c.list.trail v (opposite c.args.w) c.visit_clause.ensures.forced c.list.invariant.is_false;
      trail = c.visit_clause.ensures.trail;
      forced = forced-then c.args.trail.now c.list.trail v c.list.invariant.forced c.visit_clause.ensures.forced;
      loose = c.visit_clause.ensures.loose ∙ c.list.invariant.loose;
      blocked = c.cut_entry.ensures.blocked v.attached loose (length pairs) c.visit_clause.ensures.blocked;
      watching = watching-cut v loose pairs c.args.w new (rows c.cut_entry.new.lists.items) c.list.i c.in-Some.entry.id c.args.head here not cut c.visit_clause.ensures.watching;
      pending = pending-cut v loose pairs c.args.w new (rows c.cut_entry.new.lists.items) c.list.i c.in-Some.entry.id here not cut pending;
    }

pub cut_entry-requires : goal.cut_entry-requires
cut_entry-requires c =
    let R = row_at (rows c.list.watches.lists.items) (code_of c.args.w) in
    let same : row_at (rows c.deref.result.now) c.code-place.result ≡ R = ap (λ z. row_at (rows z) c.code-place.result) c.deref.ensures.value ∙ ap (λ z. row_at (rows c.list.watches.lists.items) z) c.code-place.ensures in
    let a = ap length same in
    let b = ap length c.visit_clause.ensures.row in
    let p = ap (λ z. length (row_at (rows c.visit_clause.new.watches.lists.items) z)) c.code-place.ensures in
    let h = c.in-Some.ensures.entry.0 in
    omega arith

pub list-smaller-in-Gone : goal.list-smaller-in-Gone
list-smaller-in-Gone c =
    let R = row_at (rows c.list.watches.lists.items) (code_of c.args.w) in
    let same : row_at (rows c.deref.result.now) c.code-place.result ≡ R = ap (λ z. row_at (rows z) c.code-place.result) c.deref.ensures.value ∙ ap (λ z. row_at (rows c.list.watches.lists.items) z) c.code-place.ensures in
    let a = ap length same in
    let b = ap length c.visit_clause.ensures.row in
    let p = ap (λ z. length (row_at (rows c.visit_clause.new.watches.lists.items) z)) c.code-place.ensures in
    let q = ap (λ z. length (row_at (rows c.cut_entry.new.lists.items) z)) c.code-place.ensures in
    let h = c.in-Some.ensures.entry.0 in
    let s = c.cut_entry.ensures.cut.shorter in
    omega arith

pub list-smaller-in-Blocked : goal.list-smaller-in-Blocked
list-smaller-in-Blocked c =
    let R = row_at (rows c.list.watches.lists.items) (code_of c.args.w) in
    let same : row_at (rows c.deref.result.now) c.code-place.result ≡ R = ap (λ z. row_at (rows z) c.code-place.result) c.deref.ensures.value ∙ ap (λ z. row_at (rows c.list.watches.lists.items) z) c.code-place.ensures in
    let a = ap length same in
    let b = ap length c.visit_clause.ensures.row in
    let h = c.in-Some.ensures.entry.0 in
    omega arith

pub list-smaller : goal.list-smaller
list-smaller c =
    let R = row_at (rows c.list.watches.lists.items) (code_of c.args.w) in
    let same : row_at (rows c.deref.result.now) c.code-place.result ≡ R = ap (λ z. row_at (rows z) c.code-place.result) c.deref.ensures.value ∙ ap (λ z. row_at (rows c.list.watches.lists.items) z) c.code-place.ensures in
    let a = ap length same in
    let b = ap length c.visit_clause.ensures.row in
    let q = ap (λ z. length (row_at z (code_of c.args.w))) c.set_blocker.ensures.rows in
    let h = c.in-Some.ensures.entry.0 in
    omega arith

pub returns-in_err-visit_clause-clause-forced : goal.returns-in_err-visit_clause-clause-forced
returns-in_err-visit_clause-clause-forced c = forced-then c.args.trail.now c.list.trail c.visit_clause.new.trail c.list.invariant.forced c.visit_clause.ensures.forced

pub returns-in-False-clause-forced : goal.returns-in-False-clause-forced
returns-in-False-clause-forced c = forced-then c.args.trail.now c.list.trail c.visit_clause.new.trail c.list.invariant.forced c.visit_clause.ensures.forced

pub returns-clause-next : goal.returns-clause-next
returns-clause-next c =
    let R = row_at (rows c.list.watches.lists.items) (code_of c.args.w) in
    let same : row_at (rows c.deref.result.now) c.code-place.result ≡ R = ap (λ z. row_at (rows z) c.code-place.result) c.deref.ensures.value ∙ ap (λ z. row_at (rows c.list.watches.lists.items) z) c.code-place.ensures in
    let v = c.list.trail in
    let f = c.list.invariant.forced in
    let w = c.requires.within in
    let n = forced-length c.args.trail.now v f in
    let a = ap length same in
    let d = c.in_default.ensures.none in
    let lit = ap (λ (s : Step). s.lit) (forced-at c.args.trail.now v c.args.head no_step f w) ∙ c.requires.there no_step in
    let level = ap (λ (s : Step). s.level) (forced-at c.args.trail.now v c.args.head no_step f w) ∙ c.requires.level no_step ∙ sym (forced-depth c.args.trail.now v f) in
    watching-next v c.list.watches.loose.items (rows c.list.watches.lists.items) c.list.watches.pairs.items c.args.w (drop c.list.i R) c.args.head no_step c.list.invariant.watching c.list.invariant.pending (λ k m. among-end R c.list.i k (omega arith) m) (omega arith) lit level
