-- Law: which numbers a gate names. The code that goes by the kinds of cells cites this. Assumes nothing.
use Prim.Native.Nat.{ℕ, ◌≤◌, ◌<◌}
use mathlib.Core.Path.{◌≡◌, subst}
use lib.Dec.{eqb, ltb}
use borrow.Author.Tests.{eqb-true, ltb-true}
use Rattle.circuit.specs.declared.Gate.{Gate}
use Rattle.circuit.specs.declared.Gate.TheVariants as gate
use Rattle.circuit.specs.Gates.{gate_named}
use Rattle.meaning.proofs.Tests.{by-test}
use Rattle.meaning.proofs.Naming.{differs, past}

-- A number of an operation, or of no kind: not one of those that name a gate of their own.
abbrev pub Operates : ℕ → Type 0
Operates k =
    (k ≡ 0 → ⊥) × (k ≡ 1 → ⊥) × (k ≡ 2 → ⊥) × (k ≡ 3 → ⊥) × (k ≡ 4 → ⊥) × (k ≡ 5 → ⊥) × (k ≡ 6 → ⊥) × (k ≡ 8 → ⊥) × (k ≡ 9 → ⊥) ×
    (k ≡ 10 → ⊥) × (k ≡ 11 → ⊥) × (k ≡ 12 → ⊥)

-- What is so of the numbers that name a gate.
abbrev pub Named : ℕ → Gate → Type 0
Named k gate.Load = k ≡ 0
Named k gate.Not = k ≡ 1
Named k gate.And = k ≡ 2
Named k gate.Or = k ≡ 3
Named k gate.LowRegister = k ≡ 4
Named k gate.HighRegister = k ≡ 5
Named k gate.NonZero = k ≡ 6
Named k gate.Input = k ≡ 8
Named k gate.Constant = k ≡ 9
Named k gate.WordRegister = k ≡ 10
Named k gate.Choice = k ≡ 11
Named k gate.Copy = k ≡ 12
Named k gate.Binary = Operates k × (k < 20)
Named k gate.Unary = 20 ≤ k

gate-names : (k : ℕ) → Named k (gate_named k)
gate-names k =
    by-test (Named k) (eqb k 0) _ _ (λ e. eqb-true k 0 e) (λ a0.
    by-test (Named k) (eqb k 1) _ _ (λ e. eqb-true k 1 e) (λ a1.
    by-test (Named k) (eqb k 2) _ _ (λ e. eqb-true k 2 e) (λ a2.
    by-test (Named k) (eqb k 3) _ _ (λ e. eqb-true k 3 e) (λ a3.
    by-test (Named k) (eqb k 4) _ _ (λ e. eqb-true k 4 e) (λ a4.
    by-test (Named k) (eqb k 5) _ _ (λ e. eqb-true k 5 e) (λ a5.
    by-test (Named k) (eqb k 6) _ _ (λ e. eqb-true k 6 e) (λ a6.
    by-test (Named k) (eqb k 8) _ _ (λ e. eqb-true k 8 e) (λ a8.
    by-test (Named k) (eqb k 9) _ _ (λ e. eqb-true k 9 e) (λ a9.
    by-test (Named k) (eqb k 10) _ _ (λ e. eqb-true k 10 e) (λ a10.
    by-test (Named k) (eqb k 11) _ _ (λ e. eqb-true k 11 e) (λ a11.
    by-test (Named k) (eqb k 12) _ _ (λ e. eqb-true k 12 e) (λ a12.
    by-test (Named k) (ltb k 20) _ _
    (λ e. (
      (
        differs k 0 a0,
        differs k 1 a1,
        differs k 2 a2,
        differs k 3 a3,
        differs k 4 a4,
        differs k 5 a5,
        differs k 6 a6,
        differs k 8 a8,
        differs k 9 a9,
        differs k 10 a10,
        differs k 11 a11,
        differs k 12 a12,
      ),
      ltb-true k 20 e,
    ))
    (λ e. past k 20 e)))))))))))))

pub named : (k : ℕ) (K : Gate) → gate_named k ≡ K → Named k K
named k K e = subst (Named k) e (gate-names k)
