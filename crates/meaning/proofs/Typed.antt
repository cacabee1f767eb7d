-- Law: every term of an accepted table is well typed, at its own counts of words, each 1 to 16. Assumes nothing.
use Prim.Native.Nat.{ℕ, zero, suc, ◌+◌, ◌-◌, ◌^◌, ◌≤◌, ◌<◌}
use mathlib.Core.Path.{◌≡◌, refl, sym}
use mathlib.Core.Bool.{Bool, true, false}
use mathlib.Core.List.{List}
use native.Mathlib.Omega.{arith}
use lib.Dec.{ltb}
use borrow.Author.Tests.{le-ltb}
use Rattle.meaning.specs.Choices.{pick}
use Rattle.meaning.specs.Words.{arity}
use Rattle.meaning.specs.Terms.{number_of, kind_of, count, Term, leaf, seq, par, ite, rec, tree, main_of}
use Rattle.meaning.specs.Counts.{ins, outs}
use Rattle.meaning.proofs.Decoded.{tree-seq, tree-par, tree-ite, tree-rec, tree-leaf-from}
use Rattle.meaning.proofs.Accepted.{Fits, seq-fits, par-fits, ite-fits, rec-fits, const_fits, field_fits, op_fits, Accepted}

-- What a leaf asks of its numbers and of its count of inputs.
pub data LeafFits (w k b i : ℕ) : Type 0 where
  const_leaf : k ≡ 9 → b < 2 ^ w → LeafFits w k b i
  field_leaf : k ≡ 12 → b < i → LeafFits w k b i
  op_leaf : 13 ≤ k → k ≤ 22 → i ≡ arity k → LeafFits w k b i

-- `i` words in, `o` words out, each 1 to 16.
pub data Typed (w : ℕ) : Term → ℕ → ℕ → Type 0 where
  leaf_typed : {k a b i : ℕ} → i ≡ ins (leaf k a b) → 1 ≤ i → i ≤ 16 → LeafFits w k b i → Typed w (leaf k a b) i 1
  seq_typed : {f g : Term} {i o : ℕ} (m : ℕ) → Typed w f i m → Typed w g m o → Typed w (seq f g) i o
  par_typed : {f g : Term} {i : ℕ} (a b : ℕ) → a + b ≤ 16 → Typed w f i a → Typed w g i b → Typed w (par f g) i (a + b)
  ite_typed : {e f g : Term} {i o : ℕ} → Typed w e i 1 → Typed w f i o → Typed w g i o → Typed w (ite e f g) i o
  rec_typed : {e f g : Term} {i o : ℕ} → Typed w e i 1 → Typed w f i o → Typed w g i i → Typed w (rec e f g) i o

-- A well-typed term takes and gives 1 to 16 words.
pub few_ins : {w : ℕ} {T : Term} {i o : ℕ} → Typed w T i o → (1 ≤ i) × (i ≤ 16)
few_ins (leaf_typed e l u h) = (l, u)
few_ins (seq_typed m a b) = few_ins a
few_ins (par_typed m n l a b) = few_ins a
few_ins (ite_typed a b c) = few_ins a
few_ins (rec_typed a b c) = few_ins a

pub few_outs : {w : ℕ} {T : Term} {i o : ℕ} → Typed w T i o → (1 ≤ o) × (o ≤ 16)
few_outs (leaf_typed e l u h) = (omega arith, omega arith)
few_outs (seq_typed m a b) = few_outs b
few_outs (par_typed m n l a b) = let r = few_outs a in (omega arith, l)
few_outs (ite_typed a b c) = few_outs b
few_outs (rec_typed a b c) = few_outs b

-- The counts of a typing are those of the definition.
pub typed-ins : {w : ℕ} {T : Term} {i o : ℕ} → Typed w T i o → i ≡ ins T
typed-ins (leaf_typed e l u h) = e
typed-ins (seq_typed m a b) = typed-ins a
typed-ins (par_typed m n l a b) = typed-ins a
typed-ins (ite_typed a b c) = typed-ins a
typed-ins (rec_typed a b c) = typed-ins a

pub typed-outs : {w : ℕ} {T : Term} {i o : ℕ} → Typed w T i o → o ≡ outs T
typed-outs (leaf_typed e l u h) = refl
typed-outs (seq_typed m a b) = typed-outs b
typed-outs (par_typed m n l a b) = cc (typed-outs a, typed-outs b)
typed-outs (ite_typed a b c) = typed-outs b
typed-outs (rec_typed a b c) = typed-outs b

-- Well typed at the counts of the definition, from the parts.
abbrev pub Well : ℕ → Term → Type 0
Well w T = Typed w T (ins T) (outs T)

retyped : {w : ℕ} {T : Term} {i o j p : ℕ} → Typed w T i o → i ≡ j → o ≡ p → Typed w T j p
retyped h d e = rw (d, e) at h

pub typed-well : {w : ℕ} {T : Term} {i o : ℕ} → Typed w T i o → Well w T
typed-well h = retyped h (typed-ins h) (typed-outs h)

module _ {w : ℕ} {f g : Term} (a : Well w f) (b : Well w g) where
  seq-well : outs f ≡ ins g → Well w (seq f g)
  seq-well p = seq_typed (outs f) a (retyped b (sym p) refl)

  par-well : ins f ≡ ins g → outs f + outs g ≤ 16 → Well w (par f g)
  par-well p l = par_typed (outs f) (outs g) l a (retyped b (sym p) refl)

module _ {w : ℕ} {e f g : Term} (a : Well w e) (b : Well w f) (c : Well w g) (p : ins e ≡ ins f) (q : ins e ≡ ins g) (r : outs e ≡ 1) where
  ite-well : outs f ≡ outs g → Well w (ite e f g)
  ite-well s = ite_typed (retyped a refl r) (retyped b (sym p) refl) (retyped c (sym q) (sym s))

  rec-well : outs g ≡ ins e → Well w (rec e f g)
  rec-well s = rec_typed (retyped a refl r) (retyped b (sym p) refl) (retyped c (sym q) s)

arity-few : (k : ℕ) → (1 ≤ arity k) × (arity k ≤ 2)
arity-few k = few (ltb k 20)
  where
    few : (b : Bool) → (1 ≤ pick b 2 1) × (pick b 2 1 ≤ 2)
    few true = (omega arith, omega arith)
    few false = (omega arith, omega arith)

module _ (w : ℕ) (t : List ℕ) where
  -- A leaf of the table, at a count that is its own.
  leaf-well : (k i : ℕ) → 9 ≤ kind_of t k → ins (leaf (kind_of t k) (number_of t k 1) (number_of t k 2)) ≡ i → 1 ≤ i → i ≤ 16 →
      LeafFits w (kind_of t k) (number_of t k 2) i → Well w (tree t k)
  leaf-well k i h e l u f = rw (tree-leaf-from t k h) (retyped (leaf_typed (sym e) l u f) (sym e) refl)

  -- A term that fits, where the lower terms are well typed.
  term-well : (k : ℕ) → ((j : ℕ) → j < k → Well w (tree t j)) → Fits w t k → Well w (tree t k)
  term-well k ih (seq-fits e z a b p) = rw (tree-seq t k e a b) (seq-well (ih _ a) (ih _ b) p)
  term-well k ih (par-fits e z a b p q) = rw (tree-par t k e a b) (par-well (ih _ a) (ih _ b) p q)
  term-well k ih (ite-fits e a b c p q r s) = rw (tree-ite t k e a b c) (ite-well (ih _ a) (ih _ b) (ih _ c) p q r s)
  term-well k ih (rec-fits e a b c p q r s) = rw (tree-rec t k e a b c) (rec-well (ih _ a) (ih _ b) (ih _ c) p q r s)
  term-well k ih (const_fits e z l u v) = leaf-well k (number_of t k 1) (omega arith) (rw e) l u (const_leaf e v)
  term-well k ih (field_fits e z l u v) = leaf-well k (number_of t k 1) (omega arith) (rw e) l u (field_leaf e v)
  term-well k ih (op_fits l u a b c) =
      let few = arity-few (kind_of t k) in
      leaf-well k (arity (kind_of t k)) (omega arith) (rw (le-ltb (kind_of t k) 13 l)) few.0 (omega arith) (op_leaf l u refl)

  below-well : (n : ℕ) → ((k : ℕ) → k < n → Fits w t k) → (m k : ℕ) → k < m → m ≤ n → Well w (tree t k)
  below-well n f zero k h l = absurd (omega arith)
  below-well n f (suc m) k h l = term-well k (λ j a. below-well n f m j (omega arith) (omega arith)) (f k (omega arith))

  module _ (a : Accepted w t) where
    pub well : (k : ℕ) → k < count t → Well w (tree t k)
    well k h = below-well (count t) a.fits (count t) k h (omega arith)

    pub main-well : Well w (main_of t)
    main-well = let s = a.some in well (count t - 1) (omega arith)

    -- Each term's counts are 1 to 16.
    pub ins-few : (k : ℕ) → k < count t → (1 ≤ ins (tree t k)) × (ins (tree t k) ≤ 16)
    ins-few k h = few_ins (well k h)

    pub outs-few : (k : ℕ) → k < count t → (1 ≤ outs (tree t k)) × (outs (tree t k) ≤ 16)
    outs-few k h = few_outs (well k h)
