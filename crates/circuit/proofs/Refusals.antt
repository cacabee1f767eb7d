-- Law: a cell gives no refusal of 13 to 16 exactly where it is one of the rows of `Passes`. Assumes nothing.
use Prim.Native.Nat.{ℕ, suc, ◌^◌, ◌≤◌, ◌<◌}
use mathlib.Core.Path.{◌≡◌, refl, ◌∙◌}
use mathlib.Core.Bool.{true, false}
use mathlib.Core.List.{List}
use mathlib.Core.Logic.{inl, inr}
use native.Mathlib.Omega.{arith}
use lib.Dec.{eqb, ltb}
use borrow.Author.Tests.{ltb-true, eqb-true, leb-true, not-true, lt-ltb, le-ltb, le-leb, lt-leb, ne_eqb}
use Rattle.std.specs.Prelude.{Err}
use Rattle.meaning.specs.declared.Cause.TheVariants as cause
use Rattle.meaning.specs.Refusals.{Check, passed}
use Rattle.circuit.specs.declared.Port.{Port}
use Rattle.circuit.specs.declared.Port.TheVariants as port
use Rattle.meaning.specs.Choices.{pick, and, or, not}
use Rattle.meaning.specs.Words.{arity}
use Rattle.meaning.proofs.Tests.{clash, split, both, either}
use Rattle.circuit.specs.Cells.{Cell, cell, kind_at, bit_kind, word_kind, ports, ports_of}
use Rattle.circuit.specs.Netlists.{number_fits, wire_fits, sort_fits}
use Rattle.meaning.proofs.Verdicts.{went_on}
use Rattle.circuit.proofs.Passes.{
  BitBelow,
  WordBelow,
  Passes,
  load_passes,
  not_passes,
  and_passes,
  or_passes,
  low_passes,
  high_passes,
  nonzero_passes,
  input_passes,
  constant_passes,
  register_passes,
  choice_passes,
  copy_passes,
  two_passes,
  one_passes,
}

-- What a number has to be, by its port.
abbrev PortFits : ℕ → ℕ → (ℕ → ℕ) → ℕ → Port → ℕ → Type 0
PortFits w count kinds n port.Unused v = v ≡ 0
PortFits w count kinds n port.Input v = v ≤ 15
PortFits w count kinds n port.Constant v = v < 2 ^ w
PortFits w count kinds n port.Bit v = BitBelow kinds n v
PortFits w count kinds n port.Word v = WordBelow kinds n v
PortFits w count kinds n port.LaterBit v = BitBelow kinds count v
PortFits w count kinds n port.LaterWord v = WordBelow kinds count v

record Ported (w count : ℕ) (kinds : ℕ → ℕ) (n k x y z : ℕ) : Type 0 where
  on_x : PortFits w count kinds n (ports_of k).x x
  on_y : PortFits w count kinds n (ports_of k).y y
  on_z : PortFits w count kinds n (ports_of k).z z

-- Every known kind is one of the rows.
peel : {P : Type 0} (k n : ℕ) → n ≤ k → (k ≡ n → P) → (suc n ≤ k → P) → P
peel k n h here next = elim (split n k) [ inl a ↦ next a | inr a ↦ here (omega arith) ]

module _ {P : Type 0} (k : ℕ) where
  bit-kinds : k ≤ 6 → (k ≡ 0 → P) → (k ≡ 1 → P) → (k ≡ 2 → P) → (k ≡ 3 → P) → (k ≡ 4 → P) → (k ≡ 5 → P) → (k ≡ 6 → P) → P
  bit-kinds h p0 p1 p2 p3 p4 p5 p6 =
      peel k 0 (omega arith) p0 (λ a. peel k 1 a p1 (λ b. peel k 2 b p2 (λ c. peel k 3 c p3 (λ d.
      peel k 4 d p4 (λ e. peel k 5 e p5 (λ f. p6 (omega arith)))))))

  word-kinds : 8 ≤ k → k ≤ 22 → (k ≡ 8 → P) → (k ≡ 9 → P) → (k ≡ 10 → P) → (k ≡ 11 → P) → (k ≡ 12 → P) →
      (13 ≤ k → k ≤ 19 → P) → (20 ≤ k → k ≤ 22 → P) → P
  word-kinds l u p8 p9 p10 p11 p12 two one =
      peel k 8 l p8 (λ a. peel k 9 a p9 (λ b. peel k 10 b p10 (λ c. peel k 11 c p11 (λ d. peel k 12 d p12 (λ e.
      elim (split k 20) [ inl f ↦ two e (omega arith) | inr f ↦ one f u ])))))

-- The operations share a row of ports.
pub operation-ports : (k : ℕ) → 13 ≤ k → ports_of k ≡
    pick (eqb (arity k) 2) (ports port.Word port.Word port.Unused) (ports port.Word port.Unused port.Unused)
unfolding ports_of
operation-ports k l = rw (
  ne_eqb k 0 (λ q. omega arith),
  ne_eqb k 1 (λ q. omega arith),
  ne_eqb k 2 (λ q. omega arith),
  ne_eqb k 3 (λ q. omega arith),
  ne_eqb k 4 (λ q. omega arith),
  ne_eqb k 5 (λ q. omega arith),
  ne_eqb k 6 (λ q. omega arith),
  ne_eqb k 12 (λ q. omega arith),
  ne_eqb k 8 (λ q. omega arith),
  ne_eqb k 9 (λ q. omega arith),
  ne_eqb k 10 (λ q. omega arith),
  ne_eqb k 11 (λ q. omega arith),
)

pub two-ports : (k : ℕ) → 13 ≤ k → k < 20 → ports_of k ≡ ports port.Word port.Word port.Unused
two-ports k l u = operation-ports k l ∙ rw (lt-ltb k 20 u)

pub one-port : (k : ℕ) → 20 ≤ k → ports_of k ≡ ports port.Word port.Unused port.Unused
one-port k l = operation-ports k (omega arith) ∙ rw (le-ltb k 20 l)

-- A port's three tests, in the netlist that has the wires' kinds.
module _ (w : ℕ) (net : List ℕ) (count n : ℕ) where
  -- The refusal that a cell gives, from the cell itself.
  abbrev pub refusal_of : Cell → Check
  refusal_of (cell k x y z) =
      pick (or (bit_kind k) (word_kind k))
      (pick (and (number_fits w (ports_of k).x x) (and (number_fits w (ports_of k).y y) (number_fits w (ports_of k).z z)))
      (pick (and (wire_fits n count (ports_of k).x x) (and (wire_fits n count (ports_of k).y y) (wire_fits n count (ports_of k).z z)))
      (pick (and (sort_fits net (ports_of k).x x) (and (sort_fits net (ports_of k).y y) (sort_fits net (ports_of k).z z)))
      passed
      (Err cause.WireSort))
      (Err cause.CellWire))
      (Err cause.CellNumber))
      (Err cause.CellKind)

  module _ (known : (j : ℕ) → j < count → or (bit_kind (kind_at net j)) (word_kind (kind_at net j)) ≡ true) (below : n ≤ count) where
    is-bit : (v : ℕ) → v < count → not (word_kind (kind_at net v)) ≡ true → kind_at net v ≤ 6
    is-bit v l h =
        either (bit_kind (kind_at net v)) _ (known v l) (λ a. leb-true (kind_at net v) 6 a) (λ a. clash _ a (not-true _ h))

    is_word : (v : ℕ) → v < count → not (bit_kind (kind_at net v)) ≡ true → 8 ≤ kind_at net v
    is_word v l h =
        either (bit_kind (kind_at net v)) _ (known v l) (λ a. clash _ a (not-true _ h)) (λ a. leb-true 8 (kind_at net v) (both _ _ a).0)

    bit_below : (m v : ℕ) → m ≤ count → ltb v m ≡ true → not (word_kind (kind_at net v)) ≡ true → BitBelow (kind_at net) m v
    bit_below m v u l s = let h : v < m = ltb-true v m l in (h, is-bit v (omega arith) s)

    word_below : (m v : ℕ) → m ≤ count → ltb v m ≡ true → not (bit_kind (kind_at net v)) ≡ true → WordBelow (kind_at net) m v
    word_below m v u l s = let h : v < m = ltb-true v m l in (h, is_word v (omega arith) s)

    port-fits : (p : Port) (v : ℕ) → number_fits w p v ≡ true → wire_fits n count p v ≡ true → sort_fits net p v ≡ true →
        PortFits w count (kind_at net) n p v
    port-fits port.Unused v a b c = eqb-true v 0 a
    port-fits port.Input v a b c = leb-true v 15 a
    port-fits port.Constant v a b c = ltb-true v (2 ^ w) a
    port-fits port.Bit v a b c = bit_below n v below b c
    port-fits port.Word v a b c = word_below n v below b c
    port-fits port.LaterBit v a b c = bit_below count v (omega arith) b c
    port-fits port.LaterWord v a b c = word_below count v (omega arith) b c

    ported : (k x y z : ℕ) → refusal_of (cell k x y z) ≡ passed →
        (or (bit_kind k) (word_kind k) ≡ true) × Ported w count (kind_at net) n k x y z
    ported k x y z h =
        let a = went_on _ _ _ h in
        let b = went_on _ _ _ a.1 in
        let c = went_on _ _ _ b.1 in
        let d = went_on _ _ _ c.1 in
        let b' = both _ _ b.0 in
        let c' = both _ _ c.0 in
        let d' = both _ _ d.0 in
        let b2 = both _ _ b'.1 in
        let c2 = both _ _ c'.1 in
        let d2 = both _ _ d'.1 in (
          a.0,
          record {
            on_x = port-fits (ports_of k).x x b'.0 c'.0 d'.0;
            on_y = port-fits (ports_of k).y y b2.0 c2.0 d2.0;
            on_z = port-fits (ports_of k).z z b2.1 c2.1 d2.1;
          },
        )

-- From the ports to the rows.
module _ (w count : ℕ) (kinds : ℕ → ℕ) (n : ℕ) where
  -- A cell whose kind and numbers are those of a cell that passes.
  same-cell : {k x y z k' x' y' z' : ℕ} → k ≡ k' → x ≡ x' → y ≡ y' → z ≡ z' → Passes w 16 count kinds n (cell k' x' y' z') →
      Passes w 16 count kinds n (cell k x y z)
  same-cell a b c d h = rw (a, b, c, d) h

  of-kind : {k j x y z : ℕ} → k ≡ j → Ported w count kinds n k x y z → Ported w count kinds n j x y z
  of-kind e p = rw e at p

  two-row : (k x y z : ℕ) → 13 ≤ k → k ≤ 19 → Ported w count kinds n k x y z → Passes w 16 count kinds n (cell k x y z)
  two-row k x y z l u p =
      let e = two-ports k l (omega arith) in
      same-cell refl refl refl (rw e at p.on_z) (two_passes k x y l u (rw e at p.on_x) (rw e at p.on_y))

  one-row : (k x y z : ℕ) → 20 ≤ k → k ≤ 22 → Ported w count kinds n k x y z → Passes w 16 count kinds n (cell k x y z)
  one-row k x y z l u p =
      let e = one-port k l in
      same-cell refl refl (rw e at p.on_y) (rw e at p.on_z) (one_passes k x l u (rw e at p.on_x))

  row : (k x y z : ℕ) → or (bit_kind k) (word_kind k) ≡ true → Ported w count kinds n k x y z → Passes w 16 count kinds n (cell k x y z)
  unfolding ports_of
  row k x y z known p =
      either _ _ known
      (λ h. bit-kinds k (leb-true k 6 h)
      (λ e. let q = of-kind e p in same-cell e q.on_x q.on_y q.on_z load_passes)
      (λ e. let q = of-kind e p in same-cell e refl q.on_y q.on_z (not_passes x q.on_x))
      (λ e. let q = of-kind e p in same-cell e refl refl q.on_z (and_passes x y q.on_x q.on_y))
      (λ e. let q = of-kind e p in same-cell e refl refl q.on_z (or_passes x y q.on_x q.on_y))
      (λ e. let q = of-kind e p in same-cell e refl q.on_y q.on_z (low_passes x q.on_x))
      (λ e. let q = of-kind e p in same-cell e refl q.on_y q.on_z (high_passes x q.on_x))
      (λ e. let q = of-kind e p in same-cell e refl q.on_y q.on_z (nonzero_passes x q.on_x)))
      (λ h. let r = both _ _ h in word-kinds k (leb-true 8 k r.0) (leb-true k 22 r.1)
      (λ e. let q = of-kind e p in same-cell e refl q.on_y q.on_z (input_passes x (omega (arith, q.on_x))))
      (λ e. let q = of-kind e p in same-cell e refl q.on_y q.on_z (constant_passes x q.on_x))
      (λ e. let q = of-kind e p in same-cell e refl q.on_y q.on_z (register_passes x q.on_x))
      (λ e. let q = of-kind e p in same-cell e refl refl refl (choice_passes x y z q.on_x q.on_y q.on_z))
      (λ e. let q = of-kind e p in same-cell e refl q.on_y q.on_z (copy_passes x q.on_x))
      (λ l u. two-row k x y z l u p)
      (λ l u. one-row k x y z l u p))

-- A cell that is not refused, and one that passes.
module _ (w : ℕ) (net : List ℕ) (count n : ℕ) where
  pub passes_of : ((j : ℕ) → j < count → or (bit_kind (kind_at net j)) (word_kind (kind_at net j)) ≡ true) → n ≤ count →
      (c : Cell) → refusal_of w net count n c ≡ passed → Passes w 16 count (kind_at net) n c
  passes_of known below (cell k x y z) h =
      let p = ported w net count n known below k x y z h in
      row w count (kind_at net) n k x y z p.0 p.1

  bit-sort : (v : ℕ) → kind_at net v ≤ 6 → word_kind (kind_at net v) ≡ false
  bit-sort v h = rw (lt-leb 8 (kind_at net v) (omega arith))

  word-sort : (v : ℕ) → 8 ≤ kind_at net v → bit_kind (kind_at net v) ≡ false
  word-sort v h = lt-leb (kind_at net v) 6 (omega arith)

  two-not-refused : (k x y : ℕ) → 13 ≤ k → k ≤ 19 → WordBelow (kind_at net) n x → WordBelow (kind_at net) n y →
      refusal_of w net count n (cell k x y 0) ≡ passed
  two-not-refused k x y l u a b = rw (
    lt-leb k 6 (omega arith),
    le-leb 8 k (omega arith),
    le-leb k 22 (omega arith),
    two-ports k l (omega arith),
    lt-ltb x n a.0,
    lt-ltb y n b.0,
    word-sort x a.1,
    word-sort y b.1,
  )

  one-not-refused : (k x : ℕ) → 20 ≤ k → k ≤ 22 → WordBelow (kind_at net) n x → refusal_of w net count n (cell k x 0 0) ≡ passed
  one-not-refused k x l u a = rw (
    lt-leb k 6 (omega arith),
    le-leb 8 k (omega arith),
    le-leb k 22 (omega arith),
    one-port k l,
    lt-ltb x n a.0,
    word-sort x a.1,
  )

  pub refused_none : {c : Cell} → Passes w 16 count (kind_at net) n c → refusal_of w net count n c ≡ passed
  unfolding ports_of
  refused_none load_passes = refl
  refused_none (not_passes x a) = rw (lt-ltb x n a.0, bit-sort x a.1)
  refused_none (and_passes x y a b) = rw (lt-ltb x n a.0, lt-ltb y n b.0, bit-sort x a.1, bit-sort y b.1)
  refused_none (or_passes x y a b) = rw (lt-ltb x n a.0, lt-ltb y n b.0, bit-sort x a.1, bit-sort y b.1)
  refused_none (low_passes x a) = rw (lt-ltb x count a.0, bit-sort x a.1)
  refused_none (high_passes x a) = rw (lt-ltb x count a.0, bit-sort x a.1)
  refused_none (nonzero_passes x a) = rw (lt-ltb x n a.0, word-sort x a.1)
  refused_none (input_passes j a) = rw (le-leb j 15 (omega arith))
  refused_none (constant_passes v a) = rw (lt-ltb v (2 ^ w) a)
  refused_none (register_passes x a) = rw (lt-ltb x count a.0, word-sort x a.1)
  refused_none (choice_passes x y z a b c) =
      rw (lt-ltb x n a.0, lt-ltb y n b.0, lt-ltb z n c.0, bit-sort x a.1, word-sort y b.1, word-sort z c.1)
  refused_none (copy_passes x a) = rw (lt-ltb x n a.0, word-sort x a.1)
  refused_none (two_passes k x y l u a b) = two-not-refused k x y l u a b
  refused_none (one_passes k x l u a) = one-not-refused k x l u a
