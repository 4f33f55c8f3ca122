use Rattle.std.proofs.Common.{◌≡◌, length}
use Rattle.proof_log.specs.Words.{members_of}
use Rattle.proof_log.specs.Reading.{words_left}
use Rattle.proof_log.proofs.Gathering.{onto}
use Rattle.proof_log.proofs.members.read_members.Given as goal

abbrev pub invariant-words : goal.invariant-words
invariant-words g l = let member = g.M.Member.member_of in members_of member (words_left l.words) ≡ onto l.members (members_of member (words_left l.left))

abbrev pub decreases-words : goal.decreases-words
decreases-words g l = length (words_left l.left)
