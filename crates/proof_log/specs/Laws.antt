-- What reading and writing have to do with one another.
use Rattle.std.specs.Prelude.{◌≡◌, ℕ, List, Some, IsTrue}
use Rattle.proof_log.specs.declared.head.Head.{Head}
use Rattle.proof_log.specs.declared.line.Line.{Line}
use Rattle.proof_log.specs.Heads.{head_of, head_text, keeps_head}
use Rattle.proof_log.specs.Lines.{line_in_bytes}
use Rattle.proof_log.specs.Text.{text_of_line, keeps_grammar}

-- the text of a line that keeps the grammar is read as that line
abbrev pub LinesReadBack : Type 0
LinesReadBack = (line : Line) → IsTrue (keeps_grammar line) → line_in_bytes (text_of_line line) ≡ Some line

-- bytes that are read as a line are the text of that line, which keeps the grammar
abbrev pub LinesHaveOneText : Type 0
LinesHaveOneText = (bytes : List ℕ) (line : Line) → line_in_bytes bytes ≡ Some line
    → (text_of_line line ≡ bytes) × IsTrue (keeps_grammar line)

-- the text of a head whose numbers have at most 18 digits is read as that head
abbrev pub HeadsReadBack : Type 0
HeadsReadBack = (head : Head) → IsTrue (keeps_head head) → head_of (head_text head) ≡ Some head

-- bytes that are read as a head are the text of that head
abbrev pub HeadsHaveOneText : Type 0
HeadsHaveOneText = (bytes : List ℕ) (head : Head) → head_of bytes ≡ Some head
    → (head_text head ≡ bytes) × IsTrue (keeps_head head)
