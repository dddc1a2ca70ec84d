-- `flat::take_flat` meets its contract: what is gathered so far, and the records still to come. Assumes nothing.
use Rattle.flat.specs.Taking.{FlatReady}
use Rattle.flat.proofs.Flattening.{Taking}
use Rattle.flat.proofs.take_flat.Given as goal

abbrev pub invariant-loop-at : goal.invariant-loop-at
invariant-loop-at l = (q : FlatReady l.records l.initial.work l.p l.lo l.own l.bound l.initial.h.top l.low l.initial.h.groups l.initial.h.loose l.initial.h.edge)
    → Taking q l.work l.at l.below l.h.top l.h.groups l.h.loose l.h.edge

abbrev pub decreases-loop-at : goal.decreases-loop-at
decreases-loop-at l = l.at
