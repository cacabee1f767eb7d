-- Law: a loop as Rec has it: what is wired beside its test and branches, and what one cycle does to a part that rests. Assumes nothing.
use Prim.Native.Nat.{ℕ, suc}
use mathlib.Core.Path.{◌≡◌}
use mathlib.Core.Bool.{true, false}
use Rattle.meaning.specs.Choices.{pick, and, or, not}
use Rattle.meaning.specs.Terms.{Term}
use Rattle.circuit.proofs.Streams.{Bits, Wires, and-false, Rise, rise-held}
use Rattle.circuit.proofs.Branching.{Branching}

-- A round is started from outside or by the register "again" of g's rise, on the words of outside or on the register of g's words.
-- Done: all three dones, and no rise of g's.
pub record Loop (w : ℕ) (e f g : Term) (s : Bits) (x : Wires) (d : Bits) : Type 1 where
  pub start : Bits
  pub round : Wires
  pub B : Branching w e f g start round
  pub pg : Bits
  pub rg : Bits
  pub D : Rise B.dg pg rg
  pub again : Bits
  pub again_first : again 0 ≡ false
  pub again_next : (t : ℕ) → again (suc t) ≡ rg t
  pub fed : Wires
  pub fed_next : (t : ℕ) → fed (suc t) ≡ B.yg t
  pub starts : (t : ℕ) → start t ≡ or (s t) (again t)
  pub rounds : (t : ℕ) → round t ≡ pick (again t) (fed t) (x t)
  pub dones : (t : ℕ) → d t ≡ and (and (and (B.de t) (B.df t)) (B.dg t)) (not (rg t))

module _ {w : ℕ} {e f g : Term} {s : Bits} {x : Wires} {d : Bits} (L : Loop w e f g s x d) where
  -- e, and g, rest so that their registers have seen it; so no round follows.
  pub record ERests (n : ℕ) : Type 0 where
    pub idle : L.B.E.Idle n
    pub seen : L.B.pe n ≡ true

  pub record GRests (n : ℕ) : Type 0 where
    pub idle : L.B.G.Idle n
    pub seen : L.pg n ≡ true
    pub once : L.again n ≡ false

  -- A cycle in which neither is started.
  pub e-on : (u n : ℕ) → n ≡ suc u → L.B.E.Idle u → L.start u ≡ false → ERests n × (L.B.de u ≡ true)
  e-on u n p i z =
      let h : L.B.de u ≡ true = L.B.E.done u i z in
      (record { idle = rw p (L.B.E.next u i z); seen = cc (L.B.D.follows u) }, h)

  pub g-on : (u n : ℕ) → n ≡ suc u → L.B.G.Idle u → L.pg u ≡ true → L.B.sg u ≡ false →
      GRests n × (L.B.dg u ≡ true) × (L.rg u ≡ false)
  g-on u n p i h z =
      let a : L.B.dg u ≡ true = L.B.G.done u i z in
      let b : L.rg u ≡ false = rise-held L.D u a h in
      (record { idle = rw p (L.B.G.next u i z); seen = cc (L.D.follows u); once = cc (L.again_next u) }, a, b)

  pub f-on : (u n : ℕ) → n ≡ suc u → L.B.F.Idle u → L.B.sf u ≡ false → L.B.F.Idle n
  f-on u n p i z = rw p (L.B.F.next u i z)

  -- Where e rests and is not started, there is no rise, and so neither branch is started.
  pub e-quiet : (u : ℕ) → ERests u → L.start u ≡ false → L.B.re u ≡ false
  e-quiet u i z = rise-held L.B.D u (L.B.E.done u i.idle z) i.seen

  pub no_start : (u : ℕ) → s u ≡ false → L.again u ≡ false → L.start u ≡ false
  no_start u a b = cc (L.starts u)

  -- Done is low where any of the three is, and where g's rises.
  pub low-e : (u : ℕ) → L.B.de u ≡ false → d u ≡ false
  low-e u h = cc (L.dones u)

  pub low-f : (u : ℕ) → L.B.df u ≡ false → d u ≡ false
  low-f u h = cc (L.dones u, and-false (L.B.de u))

  pub low-g : (u : ℕ) → L.B.dg u ≡ false → d u ≡ false
  low-g u h = cc (L.dones u, and-false (and (L.B.de u) (L.B.df u)))

  pub low-rise : (u : ℕ) → L.rg u ≡ true → d u ≡ false
  low-rise u h = cc (L.dones u, and-false (and (and (L.B.de u) (L.B.df u)) (L.B.dg u)))
