-- Law: a test with two branches, as Ite and Rec have it: what is wired, and which branch the end of the test starts. Assumes nothing.
use Prim.Native.Nat.{ℕ, suc}
use mathlib.Core.Path.{◌≡◌}
use mathlib.Core.Bool.{true, false}
use Rattle.meaning.specs.Choices.{pick, and, not}
use Rattle.meaning.specs.Words.{Words}
use Rattle.meaning.specs.Terms.{Term}
use Rattle.meaning.specs.Cycles.{holds}
use Rattle.circuit.proofs.Streams.{Bits, Wires, Rise}
use Rattle.circuit.proofs.Behaves.{Starts, BehavesAs}

-- e's block behaves, on start s and words x; the words are kept under s; the rise of e's done starts f or g on the kept words, as e's word
-- tells; and f's and g's blocks behave.
pub record Branching (w : ℕ) (e f g : Term) (s : Bits) (x : Wires) : Type 1 where
  pub de : Bits
  pub pe : Bits
  pub re : Bits
  pub test : Bits
  pub sf : Bits
  pub df : Bits
  pub sg : Bits
  pub dg : Bits
  pub ye : Wires
  pub k : Wires
  pub yf : Wires
  pub yg : Wires
  pub keep : (t : ℕ) → k (suc t) ≡ pick (s t) (x t) (k t)
  pub E : BehavesAs w e s x de ye
  pub D : Rise de pe re
  pub tests : (t : ℕ) → test t ≡ holds (ye t)
  pub to_f : (t : ℕ) → sf t ≡ and (re t) (test t)
  pub to_g : (t : ℕ) → sg t ≡ and (re t) (not (test t))
  pub F : BehavesAs w f sf k df yf
  pub G : BehavesAs w g sg k dg yg

module _ {w : ℕ} {e f g : Term} {s : Bits} {x : Wires} (B : Branching w e f g s x) where
  -- Without a rise neither branch is started.
  pub no-f : (u : ℕ) → B.re u ≡ false → B.sf u ≡ false
  no-f u h = cc (B.to_f u)

  pub no-g : (u : ℕ) → B.re u ≡ false → B.sg u ≡ false
  no-g u h = cc (B.to_g u)

  -- e has run at m with words of which v were given; its done rises there.
  pub record Tested (m : ℕ) (v a : Words) : Type 0 where
    pub e-idle : B.E.Idle m
    pub f-idle : B.F.Idle m
    pub g-idle : B.G.Idle m
    pub rise : B.re m ≡ true
    pub word : B.ye m ≡ a
    pub held : B.k m ≡ v

  module _ {m : ℕ} {v a : Words} (M : Tested m v a) where
    test-is : B.test m ≡ holds a
    test-is = cc (B.tests m, M.word)

    pub f-starts : holds a ≡ true → Starts B.F.Idle B.sf B.k m v
    f-starts h = record { idle = M.f-idle; high = cc (B.to_f m, test-is, M.rise); given = M.held }

    pub g-starts : holds a ≡ false → Starts B.G.Idle B.sg B.k m v
    g-starts h = record { idle = M.g-idle; high = cc (B.to_g m, test-is, M.rise); given = M.held }

    pub not-g : holds a ≡ true → B.sg m ≡ false
    not-g h = cc (B.to_g m, test-is, M.rise)

    pub not_f : holds a ≡ false → B.sf m ≡ false
    not_f h = cc (B.to_f m, test-is, M.rise)
