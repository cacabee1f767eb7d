-- Where every wire passes 15, the test of its sort may be asked.
use Rattle.std.proofs.Common.{◌≡◌, ℕ, Bool, true, List, rules}
use Rattle.meaning.proofs.Tests.{both}
use Rattle.circuit.specs.declared.Port.{Port}
use Rattle.circuit.specs.Cells.{cell_count}
use Rattle.circuit.specs.Netlists.{wire_fits, all_ports}
use Rattle.cells.specs.Numbers.{EachPort}
use Rattle.cells.proofs.fits.refusal.Goals as goal

-- What a test of all three numbers says of each.
each : (test : Port → ℕ → Bool) (net : List ℕ) (n : ℕ) → all_ports test net n ≡ true → EachPort (λ p v. test p v ≡ true) net n
each test net n h = let a = both _ _ h in let b = both _ _ a.1 in (a.0, b.0, b.1)

pub all_ports-requires-3-whole : goal.all_ports-requires-3-whole
all_ports-requires-3-whole c =
    let net = c.args.netlist.now in
    let fit = wire_fits c.args.n (cell_count net) in
    let all : all_ports fit net c.args.n ≡ true = search rules in
    let each = each fit net c.args.n all in
    search (rules, each.0, each.1, each.2)
