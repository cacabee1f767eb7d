-- Promise: when a run begins, and what done and the outputs then show. Definitions only.
-- docs/READING.md: "The handshake". It speaks of what is seen from outside: load and input words, done and output words, cycle by cycle.
-- Read after: meaning's `Cycles`, `Clock`. Assumes nothing.
use Rattle.std.specs.Prelude.{ℕ, zero, suc, ◌+◌, ◌≤◌, ◌<◌, ◌≡◌, Bool, true, false, map}
use Rattle.meaning.specs.Choices.{and, not, bit, at}
use Rattle.meaning.specs.Words.{Words}
use Rattle.meaning.specs.Terms.{Term}
use Rattle.meaning.specs.Cycles.{unfinished, ended, Evaluator}
use Rattle.circuit.specs.Compiling.{main_block, netlist_of}
use Rattle.circuit.specs.Clock.{wires}

-- A bit is low from cycle i on and before cycle j.
abbrev pub Low : (ℕ → Bool) → ℕ → ℕ → Type 0
Low b i j = (u : ℕ) → i ≤ u → u < j → b u ≡ false

-- A run begins where load rises and done was high the cycle before. Before cycle 0 both count as high, so none begins there.
abbrev pub begins : (ℕ → Bool) → (ℕ → Bool) → ℕ → Bool
begins load done zero = false
begins load done (suc t) = and (and (load (suc t)) (not (load t))) (done t)

pub record Promise (run : Evaluator) (load done : ℕ → Bool) (inputs outputs : ℕ → Words) : Type 0 where
  -- Done is high until a first run.
  pub first : (u : ℕ) → Low (begins load done) 0 (suc u) → done u ≡ true
  -- A run that ends in c cycles: done is low for exactly c cycles ..
  pub low : (t n c : ℕ) (ws : Words) → begins load done t ≡ true → run n (inputs t) ≡ ended c ws → Low done t (t + c)
  -- .. then high until the next run begins ..
  pub high : (t n c u : ℕ) (ws : Words) → begins load done t ≡ true → run n (inputs t) ≡ ended c ws →
      t + c ≤ u → Low (begins load done) (t + c) (suc u) → done u ≡ true
  -- .. with the right words, up to and in the cycle in which it begins.
  pub right : (t n c u : ℕ) (ws : Words) → begins load done t ≡ true → run n (inputs t) ≡ ended c ws →
      t + c ≤ u → Low (begins load done) (t + c) u → outputs u ≡ ws
  -- A run that is unfinished with a budget of n: done is low for more than n cycles.
  pub lasts : (t n : ℕ) → begins load done t ≡ true → run n (inputs t) ≡ unfinished → Low done t (suc (t + n))
  -- A run that does not end: done stays low.
  pub never : (t : ℕ) → begins load done t ≡ true → ((n : ℕ) → run n (inputs t) ≡ unfinished) →
      (u : ℕ) → t ≤ u → done u ≡ false

-- Done and the outputs of the circuit of a term, whose word registers start with any words.
abbrev pub done_of : ℕ → (ℕ → ℕ) → Term → (ℕ → Bool) → (ℕ → Words) → ℕ → Bool
done_of w starts T load inputs t = bit (at (wires w starts (netlist_of T) load inputs t) (main_block T).done)

abbrev pub outputs_of : ℕ → (ℕ → ℕ) → Term → (ℕ → Bool) → (ℕ → Words) → ℕ → Words
outputs_of w starts T load inputs t = map (at (wires w starts (netlist_of T) load inputs t)) (main_block T).outs
