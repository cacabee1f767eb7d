-- Invariant: the terms below have passed, and the array holds what is known of them (`Going`).
use Rattle.tables.proofs.Scan.{Going}
use Rattle.tables.proofs.scanned.Given as goal

abbrev pub invariant-loop-k : goal.invariant-loop-k
invariant-loop-k l = Going l.width.bits l.table l.terms l.k
