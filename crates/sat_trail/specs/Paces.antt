-- How decisions are counted, in parts. A part begins with each question and after each derived line.
use Rattle.std.specs.Prelude.{ℕ, ◌+◌, ◌-◌, ◌^◌, ◌%◌, true, ◌&&◌, nat_le, min, max}
use Rattle.sat_trail.specs.declared.pace.Pace.{Pace}
use Rattle.sat_trail.specs.declared.pace.Parts.{Parts}

-- no decision, and no part
abbrev pub no_pace : Pace
no_pace = record { made = 0; most = 0; steady = true }

abbrev pub no_parts : Parts
no_parts = record { questions = 0; lines = 0 }

-- after a decision that is made while this many stand: it is steady where all of its part stand
abbrev pub after_decision : Pace → ℕ → Pace
after_decision pace standing = record {
  made = min (pace.made + 1) (2 ^ 64 - 1);
  most = max pace.most (min (pace.made + 1) (2 ^ 64 - 1));
  steady = pace.steady && nat_le pace.made standing;
}

-- where a part begins
abbrev pub anew : Pace → Pace
anew pace = record { made = 0; most = pace.most; steady = pace.steady }

-- a part more that begins with a question
abbrev pub with_question : Parts → Parts
with_question parts = record { questions = (parts.questions + 1) % 2 ^ 64; lines = parts.lines }

-- the part that begins after the line of this number
abbrev pub with_line : Parts → ℕ → Parts
with_line parts line = record { questions = parts.questions; lines = line }
