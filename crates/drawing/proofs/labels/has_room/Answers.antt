use Rattle.drawing.proofs.Placing.{more_room}
use Rattle.drawing.proofs.labels.has_room.Goals as goal

pub loop-shape-preserved : goal.loop-shape-preserved
loop-shape-preserved c = more_room c.args.area c.args.shapes.now c.loop-shape.shape-index c.shape-item.result c.loop-shape-test.true c.shape-item.is c.loop-shape.invariant (c.keeps_away.ensures c.if-not-keeps_away.false)
