-- Invariant: the buffers hold what the pairs so far leave.
use Rattle.std.proofs.Common.{◌≡◌}
use Rattle.pace.specs.Pairs.{evens, odds}
use Rattle.pace.proofs.alternate.Given as goal

abbrev pub invariant-loop : goal.invariant-loop
invariant-loop l =
    (l.even ≡ evens l.width l.netlist l.load l.words l.initial.even l.counter)
    × (l.odd ≡ odds l.width l.netlist l.load l.words l.initial.even l.initial.odd l.counter)
