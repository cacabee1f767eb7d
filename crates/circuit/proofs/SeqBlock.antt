-- Law: a Seq's block behaves as Seq: f runs, the rise of its done starts g on its words, and both dones are done. Assumes nothing.
use Prim.Native.Nat.{ℕ, suc, ◌+◌, ◌≤◌}
use mathlib.Core.Path.{◌≡◌, refl, ◌∙◌}
use mathlib.Core.Bool.{true, false}
use native.Mathlib.Omega.{arith}
use Rattle.meaning.specs.Choices.{and}
use Rattle.meaning.specs.Words.{Words}
use Rattle.meaning.specs.Terms.{Term, seq}
use Rattle.meaning.specs.Published.{Runs, seq_runs, Lasts, first_lasts, second_lasts}
use Rattle.meaning.proofs.Runs.{positive}
use Rattle.circuit.specs.Promise.{Low}
use Rattle.circuit.proofs.Streams.{Bits, Wires, low_part, Rise}
use Rattle.circuit.proofs.Behaves.{Starts, part-starts, BehavesAs, stay, rest-high, rest-low, after-low, after-register, pulse}

module _ {w : ℕ} {f g : Term} (s df p r dg d : Bits) (x yf yg : Wires)
    (F : BehavesAs w f s x df yf) (D : Rise df p r) (G : BehavesAs w g r yf dg yg)
    (both-done : (t : ℕ) → d t ≡ and (df t) (dg t)) where
  -- Both rest, and the register has seen that f does.
  record SeqIdle (t : ℕ) : Type 0 where
    f-idle : F.Idle t
    g-idle : G.Idle t
    seen : p t ≡ true

  f-starts : {t : ℕ} {v : Words} → Starts SeqIdle s x t v → Starts F.Idle s x t v
  f-starts = part-starts (λ i. i.f-idle)

  not-risen : (t : ℕ) → SeqIdle t → s t ≡ false → r t ≡ false
  not-risen t i z = rest-low F D t i.f-idle i.seen z

  seq-done : (t : ℕ) → SeqIdle t → s t ≡ false → d t ≡ true
  seq-done t i z = cc (both-done t, F.done t i.f-idle z, G.done t i.g-idle (not-risen t i z))

  seq-next : (t : ℕ) → SeqIdle t → s t ≡ false → SeqIdle (suc t)
  seq-next t i z = record {
    f-idle = F.next t i.f-idle z;
    g-idle = G.next t i.g-idle (not-risen t i z);
    seen = D.follows t ∙ F.done t i.f-idle z;
  }

  -- f has run from t to m, and starts g there.
  record Handed (m : ℕ) (v : Words) : Type 0 where
    f-idle : F.Idle m
    g-starts : Starts G.Idle r yf m v

  hand : (t c m : ℕ) (v u : Words) → Starts SeqIdle s x t v → m ≡ t + c → Low s (suc t) (suc m) → Runs w f v c u → Handed m u
  hand t c m v u a e l q =
      let z = pulse F D t c m v u (f-starts a) e l q in
      record {
        f-idle = z.idle;
        g-starts = record {
          idle = (stay G t m (omega arith) a.idle.g-idle z.quiet).0;
          high = z.rise;
          given = z.words;
        };
      }

  seq-busy : (t k u : ℕ) (v : Words) → Starts SeqIdle s x t v → u ≡ t + k → Low s (suc t) (suc u) → Lasts w (seq f g) v k → d u ≡ false
  seq-busy t n u v a e l (first_lasts q) =
      cc (both-done u, F.busy t n u v (f-starts a) e l q)
  seq-busy t n u v a e l (second_lasts c k v' q q' h) =
      let m : ℕ = t + c in
      let z = hand t c m v v' a refl (low_part s l (suc t) (suc m) (omega arith) (omega arith)) q in
      let sl : Low s m (suc u) = low_part s l m (suc u) (omega (arith, positive q)) (omega arith) in
      let gl : dg u ≡ false = G.busy m k u v' z.g-starts (omega arith) (after-low F D m (suc u) z.f-idle sl) q' in
      cc (both-done u, rest-high F m (suc u) z.f-idle sl u (omega arith) (omega arith))

  seq-ends : (t c e : ℕ) (v ws : Words) → Starts SeqIdle s x t v → e ≡ t + c → Low s (suc t) e → Runs w (seq f g) v c ws →
      SeqIdle e × (yg e ≡ ws)
  seq-ends t n e v ws a p' l (seq_runs c k v' q q' h) =
      let m : ℕ = t + c in
      let k1 : 1 ≤ k = positive q' in
      let z = hand t c m v v' a refl (low_part s l (suc t) (suc m) (omega arith) (omega arith)) q in
      let sl : Low s m e = low_part s l m e (omega (arith, positive q)) (omega arith) in
      let y = G.ends m k e v' ws z.g-starts (omega arith) (after-low F D m e z.f-idle sl) q' in (
        record {
          f-idle = (stay F m e (omega arith) z.f-idle sl).0;
          g-idle = y.0;
          seen = after-register F D m e (omega arith) z.f-idle sl;
        },
        y.1,
      )

  pub seq-behaves : BehavesAs w (seq f g) s x d yg
  seq-behaves = record {
    Idle = SeqIdle;
    first = record { f-idle = F.first; g-idle = G.first; seen = D.starts };
    done = seq-done;
    next = seq-next;
    hold = λ t i z. G.hold t i.g-idle (not-risen t i z);
    busy = seq-busy;
    ends = seq-ends;
  }
