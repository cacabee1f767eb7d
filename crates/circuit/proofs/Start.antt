-- Law: a block that behaves, and is started exactly where runs begin, keeps the promise. Assumes nothing.
use Prim.Native.Nat.{ℕ, zero, suc, ◌+◌, ◌-◌, ◌≤◌}
use mathlib.Core.Path.{◌≡◌, refl, ◌∙◌}
use mathlib.Core.Bool.{Bool, true, false}
use native.Mathlib.Omega.{arith}
use Rattle.meaning.specs.Choices.{and, not}
use Rattle.meaning.specs.Words.{Words}
use Rattle.meaning.specs.Terms.{Term}
use Rattle.meaning.specs.Cycles.{Result, unfinished, ended, evaluate}
use Rattle.meaning.specs.Published.{Runs, Lasts}
use Rattle.meaning.proofs.Tests.{clash}
use Rattle.meaning.proofs.Runs.{positive}
use Rattle.meaning.proofs.Lasts.{before, down}
use Rattle.meaning.proofs.Sound.{Says, sound}
use Rattle.meaning.proofs.Exact.{ended-runs, unfinished-lasts}
use Rattle.circuit.specs.Promise.{Low, begins, Promise}
use Rattle.circuit.proofs.Streams.{Bits, Wires, and-false, low-none, low-more, low_part}
use Rattle.circuit.proofs.Behaves.{Starts, BehavesAs, stay, rest-high}

module _ {w : ℕ} {T : Term} (load d start : Bits) (x y : Wires) (begun : (t : ℕ) → start t ≡ begins load d t)
    (B : BehavesAs w T start x d y) where
  low-start : (i e : ℕ) → Low (begins load d) i e → Low start i e
  low-start i e l u a b = begun u ∙ l u a b

  -- Nothing starts a cycle after done was low.
  none-starts : (t u : ℕ) → u ≡ suc t → d t ≡ false → start u ≡ false
  none-starts t u p h = cc (begun (suc t), and-false (and (load (suc t)) (not (load t))))

  abbrev RunStarts : ℕ → Type 0
  RunStarts t = Starts B.Idle start x t (x t)

  -- What is known at t: the block rests, or a run that began at i had not ended a cycle ago.
  data Phase (t : ℕ) : Type 0 where
    resting : B.Idle t → Phase t
    running : (i k : ℕ) → t ≡ suc k → i ≤ k → RunStarts i → Low start (suc i) t → d k ≡ false → Phase t

  -- A run that began at i, and after which none began up to t: the evaluator, given t - i cycles, tells which of the two is next.
  go_on : (i t : ℕ) → i ≤ t → RunStarts i → Low start (suc i) (suc t) → (o : Result) → Says w T (x i) (t - i) o → Phase (suc t)
  go_on i t h a l unfinished q = running i t refl h a l (B.busy i (t - i) t (x i) a (omega arith) l q)
  go_on i t h a l (ended c ws) q =
      let c1 : 1 ≤ c = positive q.0 in
      let n : c ≤ t - i = q.1 in
      let r = B.ends i c (i + c) (x i) ws a refl (low_part start l (suc i) (i + c) (omega arith) (omega arith)) q.0 in
      resting (stay B (i + c) (suc t) (omega arith) r.0 (low_part start l (i + c) (suc t) (omega arith) (omega arith))).0

  from-rest : (t : ℕ) → B.Idle t → (b : Bool) → start t ≡ b → Phase (suc t)
  from-rest t i true z =
      go_on t t (omega arith) (record { idle = i; high = z; given = refl }) (low-none start (suc t) (suc t) (omega arith))
      (evaluate w T (t - t) (x t)) (sound w T (t - t) (x t))
  from-rest t i false z = resting (B.next t i z)

  phase-next : (t : ℕ) → Phase t → Phase (suc t)
  phase-next t (resting i) = from-rest t i (start t) refl
  phase-next t (running i k p h a l low) =
      go_on i t (omega arith) a (low-more start (suc i) t (suc t) refl l (none-starts k t p low))
      (evaluate w T (t - i) (x i)) (sound w T (t - i) (x i))

  phase : (t : ℕ) → Phase t
  phase zero = resting B.first
  phase (suc t) = phase-next t (phase t)

  -- So the block rests wherever a run begins.
  idle-at : (t : ℕ) → start t ≡ true → Phase t → B.Idle t
  idle-at t z (resting i) = i
  idle-at t z (running i k p h a l low) = clash (start t) z (none-starts k t p low)

  run-starts : (t : ℕ) → begins load d t ≡ true → RunStarts t
  run-starts t b = let z : start t ≡ true = begun t ∙ b in record { idle = idle-at t z (phase t); high = z; given = refl }

  -- A run that lasts past k cycles: done is low, and nothing begins up to the cycle after.
  lasting : (t : ℕ) → RunStarts t → (k e : ℕ) → e ≡ suc (t + k) → Lasts w T (x t) k → Low d t e × Low start (suc t) (suc e)
  lasting t a zero e p q =
      let low : d t ≡ false = B.busy t 0 t (x t) a (omega arith) (low-none start (suc t) (suc t) (omega arith)) q in (
        low-more d t t e (omega arith) (low-none d t t (omega arith)) low,
        low-more start (suc t) e (suc e) refl (low-none start (suc t) e (omega arith)) (none-starts t e (omega arith) low),
      )
  lasting t a (suc k) e p q =
      let m : ℕ = suc (t + k) in
      let ih = lasting t a k m refl (down q k (omega arith)) in
      let low : d m ≡ false = B.busy t (suc k) m (x t) a (omega arith) ih.1 q in (
        low-more d t m e (omega arith) ih.0 low,
        low-more start (suc t) e (suc e) refl (low_part start ih.1 (suc t) e (omega arith) (omega arith))
            (none-starts m e (omega arith) low),
      )

  promise-lasts : (t n : ℕ) → begins load d t ≡ true → evaluate w T n (x t) ≡ unfinished → Low d t (suc (t + n))
  promise-lasts t n b h = (lasting t (run-starts t b) n (suc (t + n)) refl (unfinished-lasts w T n (x t) h)).0

  -- A run that ends in c cycles.
  module _ (t n c : ℕ) (ws : Words) (b : begins load d t ≡ true) (h : evaluate w T n (x t) ≡ ended c ws) where
    its-run : Runs w T (x t) c ws
    its-run = (ended-runs w T n (x t) c ws h).0

    its-lasting : Low d t (t + c) × Low start (suc t) (suc (t + c))
    its-lasting =
        let c1 : 1 ≤ c = positive its-run in
        lasting t (run-starts t b) (c - 1) (t + c) (omega arith) (before its-run (c - 1) (omega arith))

    its-end : B.Idle (t + c) × (y (t + c) ≡ ws)
    its-end =
        B.ends t c (t + c) (x t) ws (run-starts t b) refl
        (low_part start its-lasting.1 (suc t) (t + c) (omega arith) (omega arith)) its-run

    promise-high : (u : ℕ) → t + c ≤ u → Low (begins load d) (t + c) (suc u) → d u ≡ true
    promise-high u f l = rest-high B (t + c) (suc u) its-end.0 (low-start (t + c) (suc u) l) u f (omega arith)

    promise-right : (u : ℕ) → t + c ≤ u → Low (begins load d) (t + c) u → y u ≡ ws
    promise-right u f l = (stay B (t + c) u f its-end.0 (low-start (t + c) u l)).1 ∙ its-end.1

  pub keeps-promise : Promise (evaluate w T) load d x y
  keeps-promise = record {
    first = λ u l. rest-high B 0 (suc u) B.first (low-start 0 (suc u) l) u (omega arith) (omega arith);
    low = λ t n c ws b h. (its-lasting t n c ws b h).0;
    high = λ t n c u ws b h. promise-high t n c ws b h u;
    right = λ t n c u ws b h. promise-right t n c ws b h u;
    lasts = promise-lasts;
    never = λ t b h u f. promise-lasts t (u - t) b (h (u - t)) u f (omega arith);
  }
