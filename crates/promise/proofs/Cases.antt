-- Cases: the small runs of docs/READING.md on cells, computed from the definitions. Assumes nothing.
use Prim.Native.Nat.{ℕ, zero, suc}
use mathlib.Core.Path.{◌≡◌, refl}
use mathlib.Core.List.{List, [], ◌∷◌, ◌++◌, map}
use lib.ListN.{length}
use Rattle.meaning.specs.Choices.{num, bit, at}
use Rattle.meaning.specs.Words.{Words, binary, unary}
use Rattle.meaning.specs.Terms.{node_of, below, main_of}
use Rattle.meaning.proofs.Cases.{complement_table, countdown_table, multiplier_table}
use Rattle.circuit.specs.Compiling.{whole_cells, netlist_of}
use Rattle.circuit.specs.Promise.{done_of}

-- Run 1's cells, one by one.
complement-cells : netlist_of (main_of complement_table) ≡
    0 ∷ 0 ∷ 0 ∷ 0 ∷ 8 ∷ 0 ∷ 0 ∷ 0 ∷ 5 ∷ 0 ∷ 0 ∷ 0 ∷ 1 ∷ 2 ∷ 0 ∷ 0 ∷ 5 ∷ 7 ∷ 0 ∷ 0 ∷ 2 ∷ 0 ∷ 3 ∷ 0 ∷ 2 ∷ 5 ∷ 4 ∷ 0 ∷
    1 ∷ 6 ∷ 0 ∷ 0 ∷ 10 ∷ 10 ∷ 0 ∷ 0 ∷ 20 ∷ 1 ∷ 0 ∷ 0 ∷ 11 ∷ 6 ∷ 9 ∷ 8 ∷ []
unfolding below node_of
complement-cells = refl

-- The cells of runs 1, 2 and 4 are as many as docs/READING.md says.
lengths : map (λ (t : List ℕ). length (whole_cells (main_of t))) (complement_table ∷ countdown_table ∷ multiplier_table ∷ []) ≡
    11 ∷ 65 ∷ 108 ∷ []
unfolding below node_of
lengths = refl

-- Done in the first n cycles, under loads given as a list and the same words in every cycle.
abbrev seen : ℕ → List ℕ → List ℕ → Words → ℕ → List ℕ
seen w t loads x zero = []
seen w t loads x (suc n) =
    seen w t loads x n ++ (num (done_of w (λ k. 0) (main_of t) (λ k. bit (at loads k)) (λ k. x) n) ∷ [])

-- Run 1.
complement-done : seen 8 complement_table (0 ∷ 1 ∷ 1 ∷ 1 ∷ []) (5 ∷ []) 4 ≡ 1 ∷ 0 ∷ 1 ∷ 1 ∷ []
unfolding below node_of unary binary
complement-done = refl

-- Run 3: done is low at 1, 2, 3; a load that rises at 4 starts nothing, nor while it is held; load high from 0 on starts nothing.
countdown-done : seen 8 countdown_table (0 ∷ 1 ∷ 0 ∷ 0 ∷ 1 ∷ 1 ∷ 1 ∷ []) (0 ∷ []) 7 ≡ 1 ∷ 0 ∷ 0 ∷ 0 ∷ 1 ∷ 1 ∷ 1 ∷ []
unfolding below node_of unary binary
countdown-done = refl

countdown-held : seen 8 countdown_table (1 ∷ 1 ∷ 1 ∷ 1 ∷ 1 ∷ []) (0 ∷ []) 5 ≡ 1 ∷ 1 ∷ 1 ∷ 1 ∷ 1 ∷ []
unfolding below node_of unary binary
countdown-held = refl
