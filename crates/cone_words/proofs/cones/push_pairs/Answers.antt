use Rattle.std.proofs.Common.{◌≡◌, take, arith}
use Rattle.std.proofs.lemmas.List.{take_all}
use Rattle.cone_words.proofs.cones.push_pairs.Goals as goal

pub returns : goal.returns
returns c =
    let all : take c.loop-first.first-index c.args.pairs.now ≡ c.args.pairs.now = take_all c.loop-first.first-index c.args.pairs.now (omega arith) in
    rw all at c.loop-first.invariant
