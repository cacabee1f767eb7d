-- Law: what the simulator's checks 11 and 18 ask of netlists that are accepted. Assumes nothing.
use Prim.Native.Nat.{ℕ, zero, suc, ◌^◌, ◌≤◌, ◌<◌}
use mathlib.Core.Path.{◌≡◌, refl}
use mathlib.Core.Bool.{true}
use mathlib.Core.List.{List}
use native.Mathlib.Omega.{arith}
use lib.Dec.{eqb}
use borrow.Author.Tests.{eqb-true, leb-true, lt-ltb, le-leb, lt-leb}
use Rattle.meaning.specs.Choices.{at}
use Rattle.meaning.proofs.Tests.{clash, by-test, both, either}
use Rattle.circuit.specs.Cells.{cell_number, kind_at, cell_count, bit_kind, word_kind}
use Rattle.meaning.specs.Refusals.{passed}
use Rattle.circuit.specs.Netlists.{netlist_verdict}
use Rattle.circuit.specs.Simulated.{inputs_given, wire_refusal}
use Rattle.circuit.proofs.Checked.{known}
use Rattle.circuit.proofs.InRange.{Ranged}

-- Input cells that name one of m words.
pub names-given : (net : List ℕ) (m : ℕ) → ((n : ℕ) → n < cell_count net → kind_at net n ≡ 8 → cell_number net n 1 < m) →
    (n : ℕ) → n ≤ cell_count net → inputs_given net m n ≡ true
unfolding inputs_given
names-given net m h zero l = refl
names-given net m h (suc n) l =
    rw (names-given net m h n (omega arith))
    (by-test (λ b. b ≡ true) (eqb (kind_at net n) 8) _ true
    (λ e. lt-ltb (cell_number net n 1) m (h n (omega arith) (eqb-true (kind_at net n) 8 e))) (λ e. refl))

module _ (w : ℕ) (net : List ℕ) (ok : netlist_verdict w net ≡ passed) where
  -- A wire that is a word is of a word's kind, and no bit.
  pub word-kind : (n : ℕ) → n < cell_count net → 8 ≤ kind_at net n → word_kind (kind_at net n) ≡ true
  word-kind n l h =
      either (bit_kind (kind_at net n)) (word_kind (kind_at net n)) (known w net ok n l)
      (λ a. clash (bit_kind (kind_at net n)) a (lt-leb (kind_at net n) 6 (omega arith))) (λ a. a)

  pub wire-in-range : (earlier : List ℕ) (n : ℕ) → n < cell_count net → Ranged w (kind_at net) n (at earlier n) →
      wire_refusal w net earlier n ≡ passed
  wire-in-range earlier n l r =
      either (bit_kind (kind_at net n)) (word_kind (kind_at net n)) (known w net ok n l)
      (λ a. rw (a, le-leb (at earlier n) 1 (r.as_bit (leb-true (kind_at net n) 6 a))))
      (λ a. let h : 8 ≤ kind_at net n = leb-true 8 (kind_at net n) (both _ _ a).0 in
      rw (lt-leb (kind_at net n) 6 (omega arith), lt-ltb (at earlier n) (2 ^ w) (r.as_word h)))
