-- Law: one round of a loop: while one of e, f and g runs the other two rest, and g's end starts the next round on g's words.
-- Assumes nothing.
use Prim.Native.Nat.{ℕ, zero, suc, ◌+◌, ◌-◌, ◌≤◌}
use mathlib.Core.Path.{◌≡◌, refl, ◌∙◌}
use mathlib.Core.Bool.{true, false}
use native.Mathlib.Omega.{arith}
use Rattle.meaning.specs.Words.{Words}
use Rattle.meaning.specs.Terms.{Term}
use Rattle.meaning.specs.Cycles.{holds}
use Rattle.meaning.specs.Published.{Runs, Lasts}
use Rattle.meaning.proofs.Runs.{positive}
use Rattle.meaning.proofs.Lasts.{before, down}
use Rattle.circuit.specs.Promise.{Low}
use Rattle.circuit.proofs.Streams.{Bits, Wires, or-true, low-none, low-more, low_part, register, rise-low, rise-high, kept_word}
use Rattle.circuit.proofs.Behaves.{Starts, part-starts}
use Rattle.circuit.proofs.Branching.{no-f, no-g, Tested, g-starts, not-g, not_f}
use Rattle.circuit.proofs.Loop.{Loop, ERests, GRests, e-on, g-on, f-on, e-quiet, no_start, low-rise}

module _ {w : ℕ} {e f g : Term} {s : Bits} {x : Wires} {d : Bits} (L : Loop w e f g s x d) where
  -- All three rest: a round may start.
  pub record Rests (t : ℕ) : Type 0 where
    pub e-rests : ERests L t
    pub f-idle : L.B.F.Idle t
    pub g-idle : L.B.G.Idle t
    pub g-seen : L.pg t ≡ true

  -- A round starts at t on v.
  abbrev pub RoundStarts : ℕ → Words → Type 0
  RoundStarts = Starts Rests L.start L.round

  -- e runs from t on and has not ended before n: f and g rest.
  pub record WhileE (t n : ℕ) : Type 0 where
    pub started : Low L.start (suc t) n
    pub done : Low L.B.de t n
    pub f-idle : L.B.F.Idle n
    pub g-rests : GRests L n

  e-step : (t u n : ℕ) → n ≡ suc u → t ≤ u → Low L.start (suc t) n → Low L.B.de t n → L.B.F.Idle u → L.B.G.Idle u →
      L.pg u ≡ true → WhileE t n
  e-step t u n p h l m fi gi seen =
      let r : L.B.re u ≡ false = rise-low L.B.D u (m u h (omega arith)) in
      record {
        started = l;
        done = m;
        f-idle = f-on L u n p fi (no-f L.B u r);
        g-rests = (g-on L u n p gi seen (no-g L.B u r)).0;
      }

  module _ (t : ℕ) (v : Words) (a : RoundStarts t v) where
    e-starts : Starts L.B.E.Idle L.start L.round t v
    e-starts = part-starts (λ i. i.e-rests.idle) a

    pub while-e : (i n : ℕ) → n ≡ suc (t + i) → Low s (suc t) n → Lasts w e v i → WhileE t n
    while-e zero n p l q =
        let none : Low L.start (suc t) (suc t) = low-none L.start (suc t) (suc t) (omega arith) in
        let low : L.B.de t ≡ false = L.B.E.busy t 0 t v e-starts (omega arith) none q in
        e-step t t n (omega arith) (omega arith) (low-none L.start (suc t) n (omega arith))
        (low-more L.B.de t t n (omega arith) (low-none L.B.de t t (omega arith)) low)
        a.idle.f-idle a.idle.g-idle a.idle.g-seen
    while-e (suc i) n p l q =
        let m : ℕ = suc (t + i) in
        let np : n ≡ suc m = omega arith in
        let ih = while-e i m refl (low_part s l (suc t) m (omega arith) (omega arith)) (down q i (omega arith)) in
        let z : L.start m ≡ false = no_start L m (l m (omega arith) (omega arith)) ih.g-rests.once in
        let sl : Low L.start (suc t) (suc m) = low-more L.start (suc t) m (suc m) refl ih.started z in
        let low : L.B.de m ≡ false = L.B.E.busy t (suc i) m v e-starts (omega arith) sl q in
        e-step t m n np (omega arith) (low_part L.start sl (suc t) n (omega arith) (omega arith))
        (low-more L.B.de t m n np ih.done low) ih.f-idle ih.g-rests.idle ih.g-rests.seen

    -- e has run at m, and nothing starts there but a branch.
    pub record AfterTest (m : ℕ) (y : Words) : Type 0 where
      pub tested : Tested L.B m v y
      pub g-rests : GRests L m
      pub started : L.start m ≡ false

    pub run-test : (c m : ℕ) (y : Words) → m ≡ t + c → Low s (suc t) (suc m) → Runs w e v c y → AfterTest m y
    run-test c m y p l r =
        let c1 : 1 ≤ c = positive r in
        let h = while-e (c - 1) m (omega arith) (low_part s l (suc t) m (omega arith) (omega arith)) (before r (c - 1) (omega arith)) in
        let o = L.B.E.ends t c m v y e-starts p h.started r in
        let z : L.start m ≡ false = no_start L m (l m (omega arith) (omega arith)) h.g-rests.once in
        record {
          tested = record {
            e-idle = o.0;
            f-idle = h.f-idle;
            g-idle = h.g-rests.idle;
            rise = rise-high L.B.D m (L.B.E.done m o.0 z)
                (register L.B.D m (omega arith) ∙ h.done (m - 1) (omega arith) (omega arith));
            word = o.1;
            held = kept_word L.start L.round L.B.k L.B.keep t m (omega arith) a.high h.started ∙ a.given;
          };
          g-rests = h.g-rests;
          started = z;
        }

    module _ (m : ℕ) (y : Words) (M : AfterTest m y) where
      -- f runs from m on: e and g rest.
      pub record WhileF (n : ℕ) : Type 0 where
        pub e-rests : ERests L n
        pub g-rests : GRests L n
        pub started : Low L.B.sf (suc m) n

      pub while-f : holds y ≡ true → (i n : ℕ) → n ≡ suc (m + i) → Low s (suc m) n → WhileF n
      while-f h zero n p l =
          let np : n ≡ suc m = omega arith in
          record {
            e-rests = (e-on L m n np M.tested.e-idle M.started).0;
            g-rests = (g-on L m n np M.g-rests.idle M.g-rests.seen (not-g L.B M.tested h)).0;
            started = low-none L.B.sf (suc m) n (omega arith);
          }
      while-f h (suc i) n p l =
          let u : ℕ = suc (m + i) in
          let np : n ≡ suc u = omega arith in
          let ih = while-f h i u refl (low_part s l (suc m) u (omega arith) (omega arith)) in
          let z : L.start u ≡ false = no_start L u (l u (omega arith) (omega arith)) ih.g-rests.once in
          let r : L.B.re u ≡ false = e-quiet L u ih.e-rests z in
          record {
            e-rests = (e-on L u n np ih.e-rests.idle z).0;
            g-rests = (g-on L u n np ih.g-rests.idle ih.g-rests.seen (no-g L.B u r)).0;
            started = low-more L.B.sf (suc m) u n np ih.started (no-f L.B u r);
          }

      -- g runs from m on and has not ended before n: e and f rest.
      pub record WhileG (n : ℕ) : Type 0 where
        pub e-rests : ERests L n
        pub f-idle : L.B.F.Idle n
        pub once : L.again n ≡ false
        pub started : Low L.B.sg (suc m) n
        pub done : Low L.B.dg m n

      pub while-g : holds y ≡ false → (i n : ℕ) → n ≡ suc (m + i) → Low s (suc m) n → Lasts w g v i → WhileG n
      while-g h zero n p l q =
          let np : n ≡ suc m = omega arith in
          let none : Low L.B.sg (suc m) (suc m) = low-none L.B.sg (suc m) (suc m) (omega arith) in
          let low : L.B.dg m ≡ false = L.B.G.busy m 0 m v (g-starts L.B M.tested h) (omega arith) none q in
          let r : L.rg m ≡ false = rise-low L.D m low in
          record {
            e-rests = (e-on L m n np M.tested.e-idle M.started).0;
            f-idle = f-on L m n np M.tested.f-idle (not_f L.B M.tested h);
            once = cc (L.again_next m);
            started = low-none L.B.sg (suc m) n (omega arith);
            done = low-more L.B.dg m m n np (low-none L.B.dg m m (omega arith)) low;
          }
      while-g h (suc i) n p l q =
          let u : ℕ = suc (m + i) in
          let np : n ≡ suc u = omega arith in
          let ih = while-g h i u refl (low_part s l (suc m) u (omega arith) (omega arith)) (down q i (omega arith)) in
          let z : L.start u ≡ false = no_start L u (l u (omega arith) (omega arith)) ih.once in
          let r : L.B.re u ≡ false = e-quiet L u ih.e-rests z in
          let sl : Low L.B.sg (suc m) (suc u) = low-more L.B.sg (suc m) u (suc u) refl ih.started (no-g L.B u r) in
          let low : L.B.dg u ≡ false = L.B.G.busy m (suc i) u v (g-starts L.B M.tested h) (omega arith) sl q in
          let rg : L.rg u ≡ false = rise-low L.D u low in
          record {
            e-rests = (e-on L u n np ih.e-rests.idle z).0;
            f-idle = f-on L u n np ih.f-idle (no-f L.B u r);
            once = cc (L.again_next u);
            started = low_part L.B.sg sl (suc m) n (omega arith) (omega arith);
            done = low-more L.B.dg m u n np ih.done low;
          }

      -- g's run ends at j: done is low there too, and the next round starts a cycle later.
      pub record Turned (j n : ℕ) (u : Words) : Type 0 where
        pub next : RoundStarts n u
        pub low : d j ≡ false

      pub turned : holds y ≡ false → (c j n : ℕ) (u : Words) → j ≡ m + c → n ≡ suc j → Low s (suc m) (suc j) → Runs w g v c u → Turned j n u
      turned h c j n u p np l r =
          let c1 : 1 ≤ c = positive r in
          let i = while-g h (c - 1) j (omega arith) (low_part s l (suc m) j (omega arith) (omega arith)) (before r (c - 1) (omega arith)) in
          let o = L.B.G.ends m c j v u (g-starts L.B M.tested h) p i.started r in
          let z : L.start j ≡ false = no_start L j (l j (omega arith) (omega arith)) i.once in
          let re : L.B.re j ≡ false = e-quiet L j i.e-rests z in
          let dg : L.B.dg j ≡ true = L.B.G.done j o.0 (no-g L.B j re) in
          let rg : L.rg j ≡ true =
          rise-high L.D j dg (register L.D j (omega arith) ∙ i.done (j - 1) (omega arith) (omega arith)) in
          let again : L.again n ≡ true = cc (L.again_next j) in
          record {
            next = record {
              idle = record {
                e-rests = (e-on L j n np i.e-rests.idle z).0;
                f-idle = f-on L j n np i.f-idle (no-f L.B j re);
                g-idle = rw np (L.B.G.next j o.0 (no-g L.B j re));
                g-seen = cc (L.D.follows j);
              };
              high = cc (L.starts n, or-true (s n));
              given = cc (L.rounds n, L.fed_next j, o.1);
            };
            low = low-rise L j rg;
          }
