-- Law: what it is for a block to behave as a term, and what follows from it for a run, a rest and the rise of done. Assumes nothing.
use Prim.Native.Nat.{ℕ, zero, suc, ◌+◌, ◌-◌, ◌≤◌, ◌<◌}
use mathlib.Core.Path.{◌≡◌, sym, ◌∙◌, ap, subst}
use mathlib.Core.Bool.{true, false}
use native.Mathlib.Omega.{arith}
use Rattle.meaning.specs.Words.{Words}
use Rattle.meaning.specs.Terms.{Term}
use Rattle.meaning.specs.Published.{Runs, Lasts}
use Rattle.meaning.proofs.Runs.{positive}
use Rattle.meaning.proofs.Lasts.{before}
use Rattle.circuit.specs.Promise.{Low}
use Rattle.circuit.proofs.Streams.{Bits, Wires, low_part, Rise, register, rise-low, rise-held, rise-high}

-- A block is at rest at t, is started there, and its inputs then show v.
pub record Starts (Idle : ℕ → Type 0) (s : Bits) (x : Wires) (t : ℕ) (v : Words) : Type 0 where
  pub idle : Idle t
  pub high : s t ≡ true
  pub given : x t ≡ v

-- What rests as a whole is started as a part.
pub part-starts : {I J : ℕ → Type 0} {s : Bits} {x : Wires} {t : ℕ} {v : Words} → (I t → J t) → Starts I s x t v → Starts J s x t v
part-starts f a = record { idle = f a.idle; high = a.high; given = a.given }

-- A block with start s, inputs x, done d and outputs y behaves as a meaning: R is how it runs on words, L how long it lasts.
-- `busy` asks s to be low only up to the cycle that it speaks of, so that a loop may use it of a round that has not ended.
pub record Behaves (R : Words → ℕ → Words → Type 0) (L : Words → ℕ → Type 0) (s : Bits) (x : Wires) (d : Bits) (y : Wires) : Type 1 where
  -- It rests at first. While it rests and is not started, done is high, the outputs stay, and it goes on resting.
  pub Idle : ℕ → Type 0
  pub first : Idle 0
  pub done : (t : ℕ) → Idle t → s t ≡ false → d t ≡ true
  pub next : (t : ℕ) → Idle t → s t ≡ false → Idle (suc t)
  pub hold : (t : ℕ) → Idle t → s t ≡ false → y (suc t) ≡ y t
  -- Started at t and not again: done is low as long as the meaning lasts; where it has run, the block rests and shows the words.
  pub busy : (t k u : ℕ) (v : Words) → Starts Idle s x t v → u ≡ t + k → Low s (suc t) (suc u) → L v k → d u ≡ false
  pub ends : (t c e : ℕ) (v ws : Words) → Starts Idle s x t v → e ≡ t + c → Low s (suc t) e → R v c ws → Idle e × (y e ≡ ws)

abbrev pub BehavesAs : ℕ → Term → Bits → Wires → Bits → Wires → Type 1
BehavesAs w T = Behaves (Runs w T) (Lasts w T)

module _ {R : Words → ℕ → Words → Type 0} {L : Words → ℕ → Type 0} {s d : Bits} {x y : Wires} (B : Behaves R L s x d y) where
  stay-for : (k t e : ℕ) → e ≡ t + k → B.Idle t → Low s t e → B.Idle e × (y e ≡ y t)
  stay-for zero t e p i l = let q : t ≡ e = omega arith in (subst B.Idle q i, ap y (sym q))
  stay-for (suc k) t e p i l =
      let z : s t ≡ false = l t (omega arith) (omega arith) in
      let r = stay-for k (suc t) e (omega arith) (B.next t i z) (low_part s l (suc t) e (omega arith) (omega arith)) in
      (r.0, r.1 ∙ B.hold t i z)

  -- A block that is not started rests on, shows the same words, and its done is high.
  pub stay : (t e : ℕ) → t ≤ e → B.Idle t → Low s t e → B.Idle e × (y e ≡ y t)
  stay t e h = stay-for (e - t) t e (omega arith)

  pub rest-high : (t e : ℕ) → B.Idle t → Low s t e → (u : ℕ) → t ≤ u → u < e → d u ≡ true
  rest-high t e i l u a b = B.done u (stay t u a i (low_part s l t u (omega arith) (omega arith))).0 (l u a b)

  -- It behaves so as every meaning that says no more.
  pub weaker : {R' : Words → ℕ → Words → Type 0} {L' : Words → ℕ → Type 0} →
      ((v : Words) (c : ℕ) (ws : Words) → R' v c ws → R v c ws) → ((v : Words) (k : ℕ) → L' v k → L v k) → Behaves R' L' s x d y
  weaker r l = record {
    Idle = B.Idle;
    first = B.first;
    done = B.done;
    next = B.next;
    hold = B.hold;
    busy = λ t k u v a p z h. B.busy t k u v a p z (l v k h);
    ends = λ t c e v ws a p z h. B.ends t c e v ws a p z (r v c ws h);
  }

  -- With the rise of done: none while it rests, once the register shows that it did.
  module _ {p r : Bits} (D : Rise d p r) where
    pub rest-low : (t : ℕ) → B.Idle t → p t ≡ true → s t ≡ false → r t ≡ false
    rest-low t i h z = rise-held D t (B.done t i z) h

    pub after-low : (m e : ℕ) → B.Idle m → Low s m e → Low r (suc m) e
    after-low m e i l u a b =
        rise-held D u (rest-high m e i l u (omega arith) b)
        (register D u (omega arith) ∙ rest-high m e i l (u - 1) (omega arith) (omega arith))

    pub after-register : (m e : ℕ) → m < e → B.Idle m → Low s m e → p e ≡ true
    after-register m e h i l = register D e (omega arith) ∙ rest-high m e i l (e - 1) (omega arith) (omega arith)

module _ {w : ℕ} {T : Term} {s d : Bits} {x y : Wires} (B : BehavesAs w T s x d y) where
  -- Done is low throughout a run.
  pub run-low : (t c e : ℕ) (v ws : Words) → Starts B.Idle s x t v → e ≡ t + c → Low s (suc t) e → Runs w T v c ws → Low d t e
  run-low t c e v ws a p l r u f g =
      B.busy t (u - t) u v a (omega arith) (low_part s l (suc t) (suc u) (omega arith) (omega arith))
      (before r (u - t) (omega arith))

  -- A run that ends at m, where no other begins: the rise of done comes at m and not before.
  pub record Pulse (r : Bits) (t m : ℕ) (ws : Words) : Type 0 where
    pub quiet : Low r t m
    pub rise : r m ≡ true
    pub idle : B.Idle m
    pub words : y m ≡ ws

  pub pulse : {p r : Bits} → Rise d p r → (t c m : ℕ) (v ws : Words) → Starts B.Idle s x t v → m ≡ t + c → Low s (suc t) (suc m) →
      Runs w T v c ws → Pulse r t m ws
  pulse D t c m v ws a e l q =
      let c1 : 1 ≤ c = positive q in
      let l' : Low s (suc t) m = low_part s l (suc t) m (omega arith) (omega arith) in
      let dl : Low d t m = run-low t c m v ws a e l' q in
      let z = B.ends t c m v ws a e l' q in
      record {
        quiet = λ u f g. rise-low D u (dl u f g);
        rise = rise-high D m (B.done m z.0 (l m (omega arith) (omega arith)))
            (register D m (omega arith) ∙ dl (m - 1) (omega arith) (omega arith));
        idle = z.0;
        words = z.1;
      }
