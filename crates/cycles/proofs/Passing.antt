-- Law: a pass over the cells that writes each wire into a buffer: the wires so far, with the cells left, give what all cells give.
-- The loop of `cycles` cites it, whatever registers hold. Assumes nothing.
use Prim.Native.Nat.{ℕ, suc, ◌+◌, ◌-◌, ◌≤◌, ◌<◌}
use mathlib.Core.Path.{◌≡◌, sym, ap, ◌∙◌}
use mathlib.Core.Bool.{Bool}
use mathlib.Core.List.{List, [], ◌∷◌, ◌++◌}
use native.Mathlib.Numerals.{add-one}
use native.Mathlib.Omega.{arith}
use lib.ListN.{length, take, set}
use lib.Seq.{take-suc-set, length-take-le}
use Rattle.meaning.specs.Choices.{at}
use Rattle.meaning.specs.Words.{Words}
use Rattle.circuit.specs.Cells.{cell_count, cell_at, cells_from, cells_of, value}
use Rattle.circuit.specs.Clock.{Held, pass}

module _ (w : ℕ) (load : Bool) (words : Words) (held : Held) (net : List ℕ) where
  -- What the first n numbers of a buffer and the m cells from n on give.
  abbrev rest : List ℕ → ℕ → ℕ → List ℕ
  rest buffer n m = pass w load words held (take n buffer) (cells_from net n m)

  -- The first n wires stand in the buffer.
  pub record Passing (buffer : List ℕ) (n : ℕ) : Type 0 where
    pub same : rest buffer n (cell_count net - n) ≡ pass w load words held [] (cells_of net)

  module _ (buffer : List ℕ) (n v : ℕ) (l : n < cell_count net) (long : length buffer ≡ cell_count net)
      (e : v ≡ value w load words (held n) (at (take n buffer)) (cell_at net n)) where
    one_more : take (suc n) (set buffer n v) ≡
        take n buffer ++ (value w load words (held (length (take n buffer))) (at (take n buffer)) (cell_at net n) ∷ [])
    one_more =
        let k : n < length buffer = omega arith in
        let i : n ≤ length buffer = omega arith in
        let m : length (take n buffer) ≡ n = length-take-le n buffer i in
        take-suc-set buffer n v k ∙ rw (m, e)

    pub passing_on : Passing buffer n → Passing (set buffer n v) (n + 1)
    passing_on P = rw (add-one n) (record {
      same =
          let u : cell_count net - n ≡ suc (cell_count net - suc n) = omega arith in
          ap (λ (ws : List ℕ). pass w load words held ws (cells_from net (suc n) (cell_count net - suc n))) one_more
          ∙ sym (ap (rest buffer n) u) ∙ P.same;
    })
