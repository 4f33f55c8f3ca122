-- What a solver keeps.
use Rattle.sat_core.specs.declared.recorder.Recorder.{Ghosts}
use Rattle.sat_core.specs.declared.solver.Solver.{Solver}
use Rattle.sat_core.specs.Runs.{State, state_of}

-- its clauses, the text of its recorder and the limit, the numbers of the derived clauses, and how many were derived
abbrev pub state_in : {R : Type 0} {recorded : Ghosts R} → Solver R recorded → State
state_in {R} {recorded} solver =
    let kept = solver.recorder in
    state_of solver.arena (recorded.text kept) (recorded.limit kept) solver.learnt.items solver.derives
