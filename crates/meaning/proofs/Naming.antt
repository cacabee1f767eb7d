-- Law: which numbers a kind names. The code that goes by kinds cites this. Assumes nothing.
use Prim.Native.Nat.{ℕ, ◌≤◌, ◌<◌}
use mathlib.Core.Path.{◌≡◌, subst}
use mathlib.Core.Bool.{false}
use mathlib.Core.Logic.{inl, inr}
use lib.Dec.{eqb, ltb}
use borrow.Author.Tests.{eqb-true, eq-eqb, ltb-true, lt-ltb}
use Rattle.meaning.specs.declared.Kind.{Kind}
use Rattle.meaning.specs.declared.Kind.TheVariants as kind
use Rattle.meaning.specs.Kinds.{kind_named}
use Rattle.meaning.proofs.Tests.{clash, split, by-test}

-- A kind below 13 that is no combinator and no Const.
pub record Other (k : ℕ) : Type 0 where
  pub seq : k ≡ 1 → ⊥
  pub par : k ≡ 2 → ⊥
  pub ite : k ≡ 3 → ⊥
  pub rec : k ≡ 4 → ⊥
  pub const : k ≡ 9 → ⊥

-- What is so of the numbers that name a kind.
abbrev pub Named : ℕ → Kind → Type 0
Named k kind.Seq = k ≡ 1
Named k kind.Par = k ≡ 2
Named k kind.Ite = k ≡ 3
Named k kind.Rec = k ≡ 4
Named k kind.Const = k ≡ 9
Named k kind.Field = Other k × (k < 13)
Named k kind.Binary = (13 ≤ k) × (k < 20)
Named k kind.Unary = 20 ≤ k

pub differs : (k n : ℕ) → eqb k n ≡ false → k ≡ n → ⊥
differs k n h e = clash _ (eq-eqb k n e) h

pub past : (k n : ℕ) → ltb k n ≡ false → n ≤ k
past k n h = elim (split k n) [ inl l ↦ clash _ (lt-ltb k n l) h | inr l ↦ l ]

kind-names : (k : ℕ) → Named k (kind_named k)
kind-names k =
    by-test (Named k) (eqb k 1) _ _ (λ e. eqb-true k 1 e) (λ a.
    by-test (Named k) (eqb k 2) _ _ (λ e. eqb-true k 2 e) (λ b.
    by-test (Named k) (eqb k 3) _ _ (λ e. eqb-true k 3 e) (λ c.
    by-test (Named k) (eqb k 4) _ _ (λ e. eqb-true k 4 e) (λ d.
    by-test (Named k) (eqb k 9) _ _ (λ e. eqb-true k 9 e) (λ f.
    by-test (Named k) (ltb k 13) _ _
    (λ e. (
      record { seq = differs k 1 a; par = differs k 2 b; ite = differs k 3 c; rec = differs k 4 d; const = differs k 9 f },
      ltb-true k 13 e,
    ))
    (λ g. by-test (Named k) (ltb k 20) _ _ (λ e. (past k 13 g, ltb-true k 20 e)) (λ e. past k 20 e)))))))

pub named : (k : ℕ) (K : Kind) → kind_named k ≡ K → Named k K
named k K e = subst (Named k) e (kind-names k)
