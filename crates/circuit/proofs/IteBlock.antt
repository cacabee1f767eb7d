-- Law: an Ite's block behaves as Ite: e runs on the inputs, then f or g on the words that were kept, and all three dones are done.
-- Assumes nothing.
use Prim.Native.Nat.{ℕ, suc, ◌+◌, ◌≤◌, ◌<◌}
use mathlib.Core.Path.{◌≡◌, refl, ◌∙◌}
use mathlib.Core.Bool.{true, false}
use native.Mathlib.Omega.{arith}
use Rattle.meaning.specs.Choices.{pick, and}
use Rattle.meaning.specs.Words.{Words}
use Rattle.meaning.specs.Terms.{Term, ite}
use Rattle.meaning.specs.Cycles.{holds}
use Rattle.meaning.specs.Published.{Runs, then_runs, else_runs, Lasts, if_lasts, then_lasts, else_lasts}
use Rattle.meaning.proofs.Runs.{positive}
use Rattle.circuit.specs.Promise.{Low}
use Rattle.circuit.proofs.Streams.{Bits, Wires, and-false, low-from, low_part, kept_word}
use Rattle.circuit.proofs.Behaves.{Starts, part-starts, BehavesAs, stay, rest-low, after-low, after-register, pulse}
use Rattle.circuit.proofs.Branching.{Branching, no-f, no-g, Tested, f-starts, g-starts, not-g, not_f}

module _ {w : ℕ} {e f g : Term} {s : Bits} {x : Wires} (B : Branching w e f g s x) (d : Bits) (y : Wires)
    (all_done : (t : ℕ) → d t ≡ and (and (B.de t) (B.df t)) (B.dg t))
    (chosen : (t : ℕ) → y t ≡ pick (B.test t) (B.yf t) (B.yg t)) where
  -- All three rest, and the register has seen that e does.
  record IteIdle (t : ℕ) : Type 0 where
    e-idle : B.E.Idle t
    f-idle : B.F.Idle t
    g-idle : B.G.Idle t
    seen : B.pe t ≡ true

  e-starts : {t : ℕ} {v : Words} → Starts IteIdle s x t v → Starts B.E.Idle s x t v
  e-starts = part-starts (λ i. i.e-idle)

  module _ (t : ℕ) (i : IteIdle t) (z : s t ≡ false) where
    not-f-now : B.sf t ≡ false
    not-f-now = no-f B t (rest-low B.E B.D t i.e-idle i.seen z)

    not-g-now : B.sg t ≡ false
    not-g-now = no-g B t (rest-low B.E B.D t i.e-idle i.seen z)

    ite-done : d t ≡ true
    ite-done =
        cc (all_done t, B.E.done t i.e-idle z, B.F.done t i.f-idle not-f-now, B.G.done t i.g-idle not-g-now)

    ite-next : IteIdle (suc t)
    ite-next = record {
      e-idle = B.E.next t i.e-idle z;
      f-idle = B.F.next t i.f-idle not-f-now;
      g-idle = B.G.next t i.g-idle not-g-now;
      seen = B.D.follows t ∙ B.E.done t i.e-idle z;
    }

    ite-hold : y (suc t) ≡ y t
    ite-hold = cc (
      chosen t,
      chosen (suc t),
      B.tests t,
      B.tests (suc t),
      B.E.hold t i.e-idle z,
      B.F.hold t i.f-idle not-f-now,
      B.G.hold t i.g-idle not-g-now,
    )

  -- e's run, from t to m.
  run-test : (t c m : ℕ) (v a : Words) → Starts IteIdle s x t v → m ≡ t + c → Low s (suc t) (suc m) → Runs w e v c a → Tested B m v a
  run-test t c m v a i p l q =
      let c1 : 1 ≤ c = positive q in
      let h = pulse B.E B.D t c m v a (e-starts i) p l q in
      let l' : Low s (suc t) m = low_part s l (suc t) m (omega arith) (omega arith) in
      record {
        e-idle = h.idle;
        f-idle = (stay B.F t m (omega arith) i.idle.f-idle (λ u a' b. no-f B u (h.quiet u a' b))).0;
        g-idle = (stay B.G t m (omega arith) i.idle.g-idle (λ u a' b. no-g B u (h.quiet u a' b))).0;
        rise = h.rise;
        word = h.words;
        held = kept_word s x B.k B.keep t m (omega arith) i.high l' ∙ i.given;
      }

  -- After the test no branch is started again.
  module _ (m n : ℕ) (i : B.E.Idle m) (l : Low s m n) where
    no-more-f : Low B.sf (suc m) n
    no-more-f u a b = no-f B u (after-low B.E B.D m n i l u a b)

    no-more-g : Low B.sg (suc m) n
    no-more-g u a b = no-g B u (after-low B.E B.D m n i l u a b)

  ite-busy : (t n u : ℕ) (v : Words) → Starts IteIdle s x t v → u ≡ t + n → Low s (suc t) (suc u) → Lasts w (ite e f g) v n → d u ≡ false
  ite-busy t n u v i p l (if_lasts q) = cc (all_done u, B.E.busy t n u v (e-starts i) p l q)
  ite-busy t n u v i p l (then_lasts c j a q h r o) =
      let m : ℕ = t + c in
      let M = run-test t c m v a i refl (low_part s l (suc t) (suc m) (omega arith) (omega arith)) q in
      let sl : Low s m (suc u) = low_part s l m (suc u) (omega (arith, positive q)) (omega arith) in
      let low : B.df u ≡ false = B.F.busy m j u v (f-starts B M h) (omega arith) (no-more-f m (suc u) M.e-idle sl) r in
      cc (all_done u, and-false (B.de u))
  ite-busy t n u v i p l (else_lasts c j a q h r o) =
      let m : ℕ = t + c in
      let M = run-test t c m v a i refl (low_part s l (suc t) (suc m) (omega arith) (omega arith)) q in
      let sl : Low s m (suc u) = low_part s l m (suc u) (omega (arith, positive q)) (omega arith) in
      let low : B.dg u ≡ false = B.G.busy m j u v (g-starts B M h) (omega arith) (no-more-g m (suc u) M.e-idle sl) r in
      cc (all_done u, and-false (and (B.de u) (B.df u)))

  -- The block rests at o, where the branches do and e has rested from m on.
  at-end : (m o : ℕ) (v a : Words) → Tested B m v a → m < o → Low s m o → B.F.Idle o → B.G.Idle o →
      IteIdle o × (B.test o ≡ holds a)
  at-end m o v a M h l fi gi =
      let z = stay B.E m o (omega arith) M.e-idle l in (
        record { e-idle = z.0; f-idle = fi; g-idle = gi; seen = after-register B.E B.D m o h M.e-idle l },
        cc (B.tests o, z.1, M.word),
      )

  ite-ends : (t n o : ℕ) (v ws : Words) → Starts IteIdle s x t v → o ≡ t + n → Low s (suc t) o → Runs w (ite e f g) v n ws →
      IteIdle o × (y o ≡ ws)
  ite-ends t n o v ws i p l (then_runs c j a q h r o') =
      let m : ℕ = t + c in
      let j1 : 1 ≤ j = positive r in
      let M = run-test t c m v a i refl (low_part s l (suc t) (suc m) (omega arith) (omega arith)) q in
      let sl : Low s m o = low_part s l m o (omega (arith, positive q)) (omega arith) in
      let z = B.F.ends m j o v ws (f-starts B M h) (omega arith) (no-more-f m o M.e-idle sl) r in
      let g' = stay B.G m o (omega arith) M.g-idle (low-from B.sg m o (not-g B M h) (no-more-g m o M.e-idle sl)) in
      let end = at-end m o v a M (omega arith) sl z.0 g'.0 in
      (end.0, cc (chosen o, end.1, z.1))
  ite-ends t n o v ws i p l (else_runs c j a q h r o') =
      let m : ℕ = t + c in
      let j1 : 1 ≤ j = positive r in
      let M = run-test t c m v a i refl (low_part s l (suc t) (suc m) (omega arith) (omega arith)) q in
      let sl : Low s m o = low_part s l m o (omega (arith, positive q)) (omega arith) in
      let z = B.G.ends m j o v ws (g-starts B M h) (omega arith) (no-more-g m o M.e-idle sl) r in
      let f' = stay B.F m o (omega arith) M.f-idle (low-from B.sf m o (not_f B M h) (no-more-f m o M.e-idle sl)) in
      let end = at-end m o v a M (omega arith) sl f'.0 z.0 in
      (end.0, cc (chosen o, end.1, z.1))

  pub ite-behaves : BehavesAs w (ite e f g) s x d y
  ite-behaves = record {
    Idle = IteIdle;
    first = record { e-idle = B.E.first; f-idle = B.F.first; g-idle = B.G.first; seen = B.D.starts };
    done = ite-done;
    next = ite-next;
    hold = ite-hold;
    busy = ite-busy;
    ends = ite-ends;
  }
