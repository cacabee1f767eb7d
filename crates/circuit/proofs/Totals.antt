-- Law: the whole circuit has as many output wires and cells as `outs` and `whole_size` count. Assumes nothing.
use Prim.Native.Nat.{ℕ, ◌*◌}
use mathlib.Core.Path.{◌≡◌, ◌∙◌, ap}
use native.Mathlib.Omega.{arith}
use lib.ListN.{length, length-append}
use Rattle.meaning.specs.Terms.{Term}
use Rattle.meaning.specs.Counts.{ins, outs, size, whole_size}
use Rattle.meaning.proofs.Typed.{Well}
use Rattle.circuit.specs.Cells.{stride}
use Rattle.circuit.specs.Pieces.{◌after◌, wires_from}
use Rattle.circuit.specs.Compiling.{main_block, whole_cells, netlist_of}
use Rattle.circuit.proofs.Lengths.{wires-length, inputs-length, numbers-length}
use Rattle.circuit.proofs.Gives.{gives}
use Rattle.circuit.proofs.Sized.{sized}

-- The whole circuit of a well-typed term.
module _ {w : ℕ} {T : Term} (h : Well w T) where
  pub main-outs : length (main_block T).outs ≡ outs T
  main-outs = gives h (6 after ins T) (5 after ins T) (wires_from 1 (ins T)) (wires-length (ins T) 1)

  pub main-size : length (main_block T).cells ≡ size T
  main-size = sized h (6 after ins T) (5 after ins T) (wires_from 1 (ins T)) (wires-length (ins T) 1)

  pub whole-size : length (whole_cells T) ≡ whole_size T
  whole-size = simp length-append (omega (arith, inputs-length (ins T) 0, main-size))

  pub netlist-length : length (netlist_of T) ≡ whole_size T * stride
  netlist-length = numbers-length (whole_cells T) ∙ ap (λ (n : ℕ). n * stride) whole-size
