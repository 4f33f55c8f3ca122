-- A log with more lines at its end.
use Rattle.std.proofs.Common.{◌≡◌, ℕ, suc, ◌+◌, List, [], ◌∷◌, ◌++◌, map, flat_map, Result, inl, inr, refl, sym, ap, ◌∙◌, arith, append_assoc}
use Rattle.bound_spec.specs.declared.Evidence.{Evidence}
use Rattle.bound_spec.specs.declared.EvidenceFault.{EvidenceFault}
use Rattle.proof_log.specs.declared.head.Head.{Head}
use Rattle.clause_spec.specs.declared.question.VariableCounts.{VariableCounts}
use Rattle.sat_clause.specs.declared.lit.Lit.{Lit}
use Rattle.sat_clause.specs.Clauses.{Store}
use Rattle.sat_core.specs.Lines.{Entry, entry_text, with_lines, learnt_with, derive_count, after_entry, learnt_after}
use Rattle.sat_core.specs.Texts.{ended}
use Rattle.proof_log.specs.Heads.{head_text}
use Rattle.log_recorder.specs.Logs.{LogLine, Learnt, Forgot, Refuted, log_line_of, line_text, log_text, with_line, with_log, learnt_by, learnt_in, learnt_count, evidence_of, AllGoOn}

-- ---- the clauses

pub with_log-append : (store : Store) (xs ys : List LogLine) → with_log store (xs ++ ys) ≡ with_log (with_log store xs) ys
with_log-append store [] ys = refl
with_log-append store (x ∷ xs) ys = with_log-append (with_line store x) xs ys

pub with_log-lines : (store : Store) (more : List Entry) → with_log store (map log_line_of more) ≡ with_lines store more
with_log-lines store [] = refl
with_log-lines store (inl d ∷ es) = with_log-lines (after_entry store (inl d)) es
with_log-lines store (inr id ∷ es) = with_log-lines (after_entry store (inr id)) es

-- ---- the numbers of the derived clauses

pub learnt_in-append : (store : Store) (learnt : List ℕ) (xs ys : List LogLine) → learnt_in store learnt (xs ++ ys) ≡ learnt_in (with_log store xs) (learnt_in store learnt xs) ys
learnt_in-append store learnt [] ys = refl
learnt_in-append store learnt (x ∷ xs) ys = learnt_in-append (with_line store x) (learnt_by store learnt x) xs ys

pub learnt_in-lines : (store : Store) (learnt : List ℕ) (more : List Entry) → learnt_in store learnt (map log_line_of more) ≡ learnt_with store learnt more
learnt_in-lines store learnt [] = refl
learnt_in-lines store learnt (inl d ∷ es) = learnt_in-lines (after_entry store (inl d)) (learnt_after store learnt (inl d)) es
learnt_in-lines store learnt (inr id ∷ es) = learnt_in-lines (after_entry store (inr id)) (learnt_after store learnt (inr id)) es

-- ---- lines that go on

pub go-on-append : (head : Head) (refute : Evidence → Result (List Lit) EvidenceFault) (variables : VariableCounts) (store : Store) (learnt : List ℕ) (xs ys : List LogLine) → AllGoOn head refute variables store learnt xs → AllGoOn head refute variables (with_log store xs) (learnt_in store learnt xs) ys → AllGoOn head refute variables store learnt (xs ++ ys)
go-on-append head refute variables store learnt [] ys a b = b
go-on-append head refute variables store learnt (x ∷ xs) ys a b = (a.0, go-on-append head refute variables (with_line store x) (learnt_by store learnt x) xs ys a.1 b)

-- ---- the text

lines-append : (xs ys : List LogLine) → flat_map line_text (xs ++ ys) ≡ flat_map line_text xs ++ flat_map line_text ys
lines-append [] ys = refl
lines-append (x ∷ xs) ys = ap (λ t. line_text x ++ t) (lines-append xs ys) ∙ sym (append_assoc (line_text x) (flat_map line_text xs) (flat_map line_text ys))

pub log_text-append : (head : Head) (xs ys : List LogLine) → log_text head (xs ++ ys) ≡ log_text head xs ++ flat_map line_text ys
log_text-append head xs ys = ap (λ t. ended (head_text head) ++ t) (lines-append xs ys) ∙ sym (append_assoc (ended (head_text head)) (flat_map line_text xs) (flat_map line_text ys))

pub text-lines : (more : List Entry) → flat_map line_text (map log_line_of more) ≡ flat_map entry_text more
text-lines [] = refl
text-lines (inl d ∷ es) = ap (λ t. entry_text (inl d) ++ t) (text-lines es)
text-lines (inr id ∷ es) = ap (λ t. entry_text (inr id) ++ t) (text-lines es)

-- ---- how many clauses were derived

count-all : (more : List Entry) → learnt_count (map log_line_of more) ≡ derive_count more
count-all [] = refl
count-all (inl d ∷ es) = let c = count-all es in omega (arith, c)
count-all (inr id ∷ es) = count-all es

pub count-lines : (xs : List LogLine) (more : List Entry) → learnt_count (xs ++ map log_line_of more) ≡ learnt_count xs + derive_count more
count-lines [] more = let c = count-all more in omega (arith, c)
count-lines (Learnt d ∷ xs) more = let c = count-lines xs more in omega (arith, c)
count-lines (Forgot id ∷ xs) more = count-lines xs more
count-lines (Refuted k c ∷ xs) more = count-lines xs more

pub count-refuted : (xs : List LogLine) (k : Evidence) (c : List Lit) → learnt_count (xs ++ Refuted k c ∷ []) ≡ learnt_count xs
count-refuted [] k c = refl
count-refuted (Learnt d ∷ xs) k c = ap suc (count-refuted xs k c)
count-refuted (Forgot id ∷ xs) k c = count-refuted xs k c
count-refuted (Refuted j b ∷ xs) k c = count-refuted xs k c

-- ---- the cones and bounds

pub evidence-lines : (xs : List LogLine) (more : List Entry) → evidence_of (xs ++ map log_line_of more) ≡ evidence_of xs
evidence-lines [] [] = refl
evidence-lines [] (inl d ∷ es) = evidence-lines [] es
evidence-lines [] (inr id ∷ es) = evidence-lines [] es
evidence-lines (Learnt d ∷ xs) more = evidence-lines xs more
evidence-lines (Forgot id ∷ xs) more = evidence-lines xs more
evidence-lines (Refuted e c ∷ xs) more = ap (λ es. e ∷ es) (evidence-lines xs more)

pub evidence-refuted : (xs : List LogLine) (e : Evidence) (c : List Lit) → evidence_of (xs ++ Refuted e c ∷ []) ≡ evidence_of xs ++ e ∷ []
evidence-refuted [] e c = refl
evidence-refuted (Learnt d ∷ xs) e c = evidence-refuted xs e c
evidence-refuted (Forgot id ∷ xs) e c = evidence-refuted xs e c
evidence-refuted (Refuted f b ∷ xs) e c = ap (λ es. f ∷ es) (evidence-refuted xs e c)
