-- Law: how long a round of a Rec is. `compiler` cites this. Assumes nothing.
use Prim.Native.Nat.{ℕ, ◌+◌, ◌*◌}
use mathlib.Core.Path.{◌≡◌, ◌∙◌}
use mathlib.Core.List.{List}
use native.Mathlib.Omega.{arith}
use lib.ListN.{length, length-append}
use Rattle.circuit.specs.Cells.{Cell}
use Rattle.circuit.specs.Pieces.{◌after◌, wires_from, keeps, choices}
use Rattle.circuit.proofs.Lengths.{wires-length, keeps-length, choices-length}
use Rattle.pieces.specs.Seams.{round_of}

-- The choices of a round, and all its cells, are as many as the words say.
module _ (b s : ℕ) (xs : List ℕ) where
  abbrev chosen : List Cell
  chosen = choices b (wires_from (1 after b) (length xs)) xs

  chosen-long : length chosen ≡ length xs
  chosen-long =
      choices-length (wires_from (1 after b) (length xs)) xs b (wires-length (length xs) (1 after b))
      ∙ wires-length (length xs) (1 after b)

  pub round-long : length (round_of b s xs).cells ≡ 1 + 3 * length xs
  round-long =
      let o = 1 after b + length xs in
      let us = wires_from (1 after o) (length xs) in
      let ks = keeps (1 after o + length xs) o us in
      omega (
        arith,
        length-append chosen ks,
        chosen-long,
        keeps-length us (1 after o + length xs) o,
        wires-length (length xs) (1 after o),
      )
