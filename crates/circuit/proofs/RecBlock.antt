-- Law: a Rec's block behaves as Rec, round by round. Assumes nothing.
use Prim.Native.Nat.{ℕ, suc, ◌+◌, ◌-◌, ◌≤◌}
use mathlib.Core.Path.{◌≡◌, refl}
use mathlib.Core.Bool.{true, false}
use native.Mathlib.Omega.{arith}
use Rattle.meaning.specs.Words.{Words}
use Rattle.meaning.specs.Terms.{Term, rec}
use Rattle.meaning.specs.Published.{Runs, last_runs, more_runs, Lasts, test_lasts, last_lasts, body_lasts, feed_lasts, more_lasts}
use Rattle.meaning.proofs.Runs.{positive}
use Rattle.circuit.specs.Promise.{Low}
use Rattle.circuit.proofs.Streams.{Bits, Wires, low_part}
use Rattle.circuit.proofs.Behaves.{Starts, BehavesAs}
use Rattle.circuit.proofs.Branching.{no-f, no-g, f-starts}
use Rattle.circuit.proofs.Loop.{Loop, GRests, e-on, g-on, e-quiet, no_start, low-e, low-f, low-g}
use Rattle.circuit.proofs.Round.{Rests, RoundStarts, while-e, run-test, while-f, while-g, turned}

module _ {w : ℕ} {e f g : Term} {s : Bits} {x : Wires} {d : Bits} (L : Loop w e f g s x d) where
  -- The rounds from t on, as long as they last, and to their end.
  round-busy : (t n u : ℕ) (v : Words) → RoundStarts L t v → u ≡ t + n → Low s (suc t) (suc u) → Lasts w (rec e f g) v n → d u ≡ false
  round-busy t n u v a p l (test_lasts q) = low-e L u ((while-e L t v a n (suc u) (omega arith) l q).done u (omega arith) (omega arith))
  round-busy t n u v a p l (last_lasts c i y r h q o) =
      let m : ℕ = t + c in
      let M = run-test L t v a c m y refl (low_part s l (suc t) (suc m) (omega arith) (omega arith)) r in
      let z = while-f L t v a m y M h i (suc u) (omega arith) (low_part s l (suc m) (suc u) (omega arith) (omega arith)) in
      low-f L u (L.B.F.busy m i u v (f-starts L.B M.tested h) (omega arith) z.started q)
  round-busy t n u v a p l (body_lasts c i y r h q o) =
      let m : ℕ = t + c in
      let M = run-test L t v a c m y refl (low_part s l (suc t) (suc m) (omega arith) (omega arith)) r in
      let z = while-g L t v a m y M h i (suc u) (omega arith) (low_part s l (suc m) (suc u) (omega arith) (omega arith)) q in
      low-g L u (z.done u (omega arith) (omega arith))
  round-busy t n u v a p l (feed_lasts c i y y' r h q o) =
      let m : ℕ = t + c in
      let M = run-test L t v a c m y refl (low_part s l (suc t) (suc m) (omega arith) (omega arith)) r in
      (turned L t v a m y M h i u (suc u) y' (omega arith) refl (low_part s l (suc m) (suc u) (omega arith) (omega arith)) q).low
  round-busy t n u v a p l (more_lasts c i j y y' r h q k o) =
      let m : ℕ = t + c in
      let M = run-test L t v a c m y refl (low_part s l (suc t) (suc m) (omega arith) (omega arith)) r in
      let b : ℕ = suc (m + i) in
      let T = turned L t v a m y M h i (m + i) b y' refl refl (low_part s l (suc m) b (omega arith) (omega arith)) q in
      round-busy b j u y' T.next (omega arith) (low_part s l (suc b) (suc u) (omega arith) (omega arith)) k

  round-ends : (t n o : ℕ) (v ws : Words) → RoundStarts L t v → o ≡ t + n → Low s (suc t) o → Runs w (rec e f g) v n ws →
      Rests L o × (L.again o ≡ false) × (L.B.yf o ≡ ws)
  round-ends t n o v ws a p l (last_runs c i y r h q np) =
      let m : ℕ = t + c in
      let i1 : 1 ≤ i = positive q in
      let M = run-test L t v a c m y refl (low_part s l (suc t) (suc m) (omega arith) (omega arith)) r in
      let z = while-f L t v a m y M h (i - 1) o (omega arith) (low_part s l (suc m) o (omega arith) (omega arith)) in
      let k = L.B.F.ends m i o v ws (f-starts L.B M.tested h) (omega arith) z.started q in (
        record { e-rests = z.e-rests; f-idle = k.0; g-idle = z.g-rests.idle; g-seen = z.g-rests.seen },
        z.g-rests.once,
        k.1,
      )
  round-ends t n o v ws a p l (more_runs c i j y y' r h q k np) =
      let m : ℕ = t + c in
      let b : ℕ = suc (m + i) in
      let j1 : 1 ≤ j = positive k in
      let M = run-test L t v a c m y refl (low_part s l (suc t) (suc m) (omega arith) (omega arith)) r in
      let T = turned L t v a m y M h i (m + i) b y' refl refl (low_part s l (suc m) b (omega arith) (omega arith)) q in
      round-ends b j o y' ws T.next (omega arith) (low_part s l (suc b) o (omega arith) (omega arith)) k

  -- All three rest, and no round follows.
  record RecIdle (t : ℕ) : Type 0 where
    rests : Rests L t
    once : L.again t ≡ false

  module _ (t : ℕ) (i : RecIdle t) (z : s t ≡ false) where
    not-started : L.start t ≡ false
    not-started = no_start L t z i.once

    not-f-now : L.B.sf t ≡ false
    not-f-now = no-f L.B t (e-quiet L t i.rests.e-rests not-started)

    g-now : GRests L (suc t) × (L.B.dg t ≡ true) × (L.rg t ≡ false)
    g-now = g-on L t (suc t) refl i.rests.g-idle i.rests.g-seen (no-g L.B t (e-quiet L t i.rests.e-rests not-started))

    rec-done : d t ≡ true
    rec-done = cc (
      L.dones t,
      L.B.E.done t i.rests.e-rests.idle not-started,
      L.B.F.done t i.rests.f-idle not-f-now,
      g-now.1,
      g-now.2,
    )

    rec-next : RecIdle (suc t)
    rec-next = record {
      rests = record {
        e-rests = (e-on L t (suc t) refl i.rests.e-rests.idle not-started).0;
        f-idle = L.B.F.next t i.rests.f-idle not-f-now;
        g-idle = g-now.0.idle;
        g-seen = g-now.0.seen;
      };
      once = g-now.0.once;
    }

  -- A start from outside is the start of a first round, on the words of outside.
  first_round : {t : ℕ} {v : Words} → Starts RecIdle s x t v → RoundStarts L t v
  first_round {t} a = record {
    idle = a.idle.rests;
    high = cc (L.starts t, a.high);
    given = cc (L.rounds t, a.idle.once, a.given);
  }

  rec-ends : (t n o : ℕ) (v ws : Words) → Starts RecIdle s x t v → o ≡ t + n → Low s (suc t) o → Runs w (rec e f g) v n ws →
      RecIdle o × (L.B.yf o ≡ ws)
  rec-ends t n o v ws a p l q =
      let z = round-ends t n o v ws (first_round a) p l q in
      (record { rests = z.0; once = z.1 }, z.2)

  pub rec-behaves : BehavesAs w (rec e f g) s x d L.B.yf
  rec-behaves = record {
    Idle = RecIdle;
    first = record {
      rests = record {
        e-rests = record { idle = L.B.E.first; seen = L.B.D.starts };
        f-idle = L.B.F.first;
        g-idle = L.B.G.first;
        g-seen = L.D.starts;
      };
      once = L.again_first;
    };
    done = rec-done;
    next = rec-next;
    hold = λ t i z. L.B.F.hold t i.rests.f-idle (not-f-now t i z);
    busy = λ t n u v a p l q. round-busy t n u v (first_round a) p l q;
    ends = rec-ends;
  }
