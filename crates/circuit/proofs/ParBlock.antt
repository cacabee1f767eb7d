-- Law: a Par's block behaves as Par: f and g run side by side from one start, and both dones are done. Assumes nothing.
use Prim.Native.Nat.{ℕ, suc, ◌+◌, ◌≤◌}
use mathlib.Core.Path.{◌≡◌, refl}
use mathlib.Core.Bool.{false}
use mathlib.Core.List.{◌++◌}
use native.Mathlib.Omega.{arith}
use Rattle.meaning.specs.Choices.{and}
use Rattle.meaning.specs.Words.{Words}
use Rattle.meaning.specs.Terms.{Term, par}
use Rattle.meaning.specs.Published.{Runs, par_runs, Lasts, left_lasts, right_lasts}
use Rattle.meaning.proofs.Runs.{positive}
use Rattle.circuit.specs.Promise.{Low}
use Rattle.circuit.proofs.Streams.{Bits, Wires, and-false, low_part}
use Rattle.circuit.proofs.Behaves.{Starts, part-starts, BehavesAs, stay}

module _ {w : ℕ} {f g : Term} (s df dg d : Bits) (x yf yg y : Wires)
    (F : BehavesAs w f s x df yf) (G : BehavesAs w g s x dg yg)
    (both-done : (t : ℕ) → d t ≡ and (df t) (dg t)) (joined : (t : ℕ) → y t ≡ yf t ++ yg t) where
  record ParIdle (t : ℕ) : Type 0 where
    f-idle : F.Idle t
    g-idle : G.Idle t

  f-starts : {t : ℕ} {v : Words} → Starts ParIdle s x t v → Starts F.Idle s x t v
  f-starts = part-starts (λ i. i.f-idle)

  g-starts : {t : ℕ} {v : Words} → Starts ParIdle s x t v → Starts G.Idle s x t v
  g-starts = part-starts (λ i. i.g-idle)

  par-busy : (t k u : ℕ) (v : Words) → Starts ParIdle s x t v → u ≡ t + k → Low s (suc t) (suc u) → Lasts w (par f g) v k → d u ≡ false
  par-busy t k u v a e l (left_lasts q) = cc (both-done u, F.busy t k u v (f-starts a) e l q)
  par-busy t k u v a e l (right_lasts q) = cc (both-done u, G.busy t k u v (g-starts a) e l q, and-false (df u))

  par-ends : (t c e : ℕ) (v ws : Words) → Starts ParIdle s x t v → e ≡ t + c → Low s (suc t) e → Runs w (par f g) v c ws →
      ParIdle e × (y e ≡ ws)
  par-ends t n e v ws a p l (par_runs c k u u' q q' m j) =
      let c1 : 1 ≤ c = positive q in
      let k1 : 1 ≤ k = positive q' in
      let rf = F.ends t c (t + c) v u (f-starts a) refl (low_part s l (suc t) (t + c) (omega arith) (omega arith)) q in
      let rg = G.ends t k (t + k) v u' (g-starts a) refl (low_part s l (suc t) (t + k) (omega arith) (omega arith)) q' in
      let sf = stay F (t + c) e (omega arith) rf.0 (low_part s l (t + c) e (omega arith) (omega arith)) in
      let sg = stay G (t + k) e (omega arith) rg.0 (low_part s l (t + k) e (omega arith) (omega arith)) in
      (record { f-idle = sf.0; g-idle = sg.0 }, cc (joined e, sf.1, sg.1, rf.1, rg.1))

  pub par-behaves : BehavesAs w (par f g) s x d y
  par-behaves = record {
    Idle = ParIdle;
    first = record { f-idle = F.first; g-idle = G.first };
    done = λ t i z. cc (both-done t, F.done t i.f-idle z, G.done t i.g-idle z);
    next = λ t i z. record { f-idle = F.next t i.f-idle z; g-idle = G.next t i.g-idle z };
    hold = λ t i z. cc (joined t, joined (suc t), F.hold t i.f-idle z, G.hold t i.g-idle z);
    busy = par-busy;
    ends = par-ends;
  }
