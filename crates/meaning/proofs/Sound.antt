-- Law: evaluation within a budget says what is published: words and cycles of a run within it, or that the term lasts longer.
-- The circuit's proof goes on from this, and never from an equation about `evaluate`. Assumes nothing.
use Prim.Native.Nat.{ℕ, zero, suc, ◌+◌, ◌-◌, ◌≤◌, ◌<◌}
use mathlib.Core.Path.{◌≡◌, refl}
use mathlib.Core.Bool.{Bool, true, false}
use native.Mathlib.Omega.{arith}
use Rattle.meaning.specs.Choices.{pick}
use Rattle.meaning.specs.Words.{Words}
use Rattle.meaning.specs.Terms.{Term, leaf, seq, par, ite, rec}
use Rattle.meaning.specs.Cycles.{Result, unfinished, ended, Evaluator, later, holds, seq_rest, beside, ite_rest, feed_back, after_body}
use Rattle.meaning.specs.Cycles.{body, after_test, rounds, evaluate}
use Rattle.meaning.specs.Published.{Runs, leaf_runs, seq_runs, par_runs, then_runs, else_runs, last_runs, more_runs, Lasts}
use Rattle.meaning.specs.Published.{leaf_lasts, first_lasts, second_lasts, left_lasts, right_lasts, if_lasts, then_lasts, else_lasts}
use Rattle.meaning.specs.Published.{test_lasts, last_lasts, body_lasts, feed_lasts, more_lasts}
use Rattle.meaning.proofs.Runs.{positive}

-- What a result within n cycles says of a term on words.
abbrev pub Says : ℕ → Term → Words → ℕ → Result → Type 0
Says w T x n unfinished = Lasts w T x n
Says w T x n (ended c ws) = Runs w T x c ws × (c ≤ n)

-- An evaluator that says what a term does.
abbrev pub Tells : ℕ → Term → Evaluator → Type 0
Tells w T E = (n : ℕ) (x : Words) → Says w T x n (E n x)

module _ (w : ℕ) where
  module _ (f g : Term) (G : Evaluator) (tg : Tells w g G) (n : ℕ) (x : Words) where
    seq-later : (c : ℕ) (v : Words) → Runs w f x c v → c ≤ n → (s : Result) → Says w g v (n - c) s → Says w (seq f g) x n (later c s)
    seq-later c v r h unfinished l = second_lasts {n = n} c (n - c) v r l (omega arith)
    seq-later c v r h (ended d ws) s = let k = s.1 in (seq_runs c d v r s.0 refl, omega arith)

    seq-says : (r : Result) → Says w f x n r → Says w (seq f g) x n (seq_rest G n r)
    seq-says unfinished l = first_lasts l
    seq-says (ended c v) r = seq-later c v r.0 r.1 (G (n - c) v) (tg (n - c) v)

    par-says : (r s : Result) → Says w f x n r → Says w g x n s → Says w (par f g) x n (beside r s)
    par-says unfinished s l k = left_lasts l
    par-says (ended c u) unfinished r k = right_lasts k
    par-says (ended c u) (ended d v) r s =
        let a = r.1 in
        let b = s.1 in
        (par_runs c d u v r.0 s.0 refl refl, omega arith)

  module _ (e f g : Term) (F G : Evaluator) (tf : Tells w f F) (tg : Tells w g G) (n : ℕ) (x : Words) where
    module _ (c : ℕ) (v : Words) (r : Runs w e x c v) (h : c ≤ n) where
      then-says : holds v ≡ true → (s : Result) → Says w f x (n - c) s → Says w (ite e f g) x n (later c s)
      then-says t unfinished l = then_lasts {n = n} c (n - c) v r t l (omega arith)
      then-says t (ended d ws) s = let k = s.1 in (then_runs c d v r t s.0 refl, omega arith)

      else-says : holds v ≡ false → (s : Result) → Says w g x (n - c) s → Says w (ite e f g) x n (later c s)
      else-says t unfinished l = else_lasts {n = n} c (n - c) v r t l (omega arith)
      else-says t (ended d ws) s = let k = s.1 in (else_runs c d v r t s.0 refl, omega arith)

      taken : (b : Bool) → holds v ≡ b → Says w (ite e f g) x n (later c (pick b F G (n - c) x))
      taken true t = then-says t (F (n - c) x) (tf (n - c) x)
      taken false t = else-says t (G (n - c) x) (tg (n - c) x)

    ite-says : (r : Result) → Says w e x n r → Says w (ite e f g) x n (ite_rest F G n x r)
    ite-says unfinished l = if_lasts l
    ite-says (ended c v) r = taken c v r.0 r.1 (holds v) refl

  module _ (e f g : Term) (E F G : Evaluator) (te : Tells w e E) (tf : Tells w f F) (tg : Tells w g G) where
    -- A round, where `next` says what later rounds do within fewer cycles than n.
    module _ (next : Evaluator) (n : ℕ) (x : Words) (tn : (m : ℕ) (y : Words) → m < n → Says w (rec e f g) y m (next m y))
        (c : ℕ) (v : Words) (r : Runs w e x c v) (h : c ≤ n) where
      last_says : holds v ≡ true → (s : Result) → Says w f x (n - c) s → Says w (rec e f g) x n (later c s)
      last_says t unfinished l = last_lasts {n = n} c (n - c) v r t l (omega arith)
      last_says t (ended d ws) s = let k = s.1 in (last_runs c d v r t s.0 refl, omega arith)

      module _ (t : holds v ≡ false) where
        more-says : (d left : ℕ) (u : Words) → Runs w g x d u → n ≡ c + d + 1 + left → (s : Result) → Says w (rec e f g) u left s →
            Says w (rec e f g) x n (later c (later (suc d) s))
        more-says d left u b p unfinished l = more_lasts c d left v u r t b l p
        more-says d left u b p (ended k ws) s =
            let q = s.1 in
            (more_runs {n = c + (suc d + k)} c d k v u r t b s.0 (omega arith), omega arith)

        fed-says : (d left : ℕ) (u : Words) → Runs w g x d u → n ≡ c + d + left → Says w (rec e f g) x n (later c (feed_back next d u left))
        fed-says d zero u b p = feed_lasts {n = n} c d v u r t b (omega arith)
        fed-says d (suc left) u b p =
            more-says d left u b (omega arith) (next left u) (tn left u (omega (arith, positive r)))

        body-says : (s : Result) → Says w g x (n - c) s → Says w (rec e f g) x n (later c (after_body next (n - c) s))
        body-says unfinished l = body_lasts {n = n} c (n - c) v r t l (omega arith)
        body-says (ended d u) s = let k = s.1 in fed-says d (n - c - d) u s.0 (omega arith)

      round-taken : (b : Bool) → holds v ≡ b → Says w (rec e f g) x n (later c (pick b F (body G next) (n - c) x))
      round-taken true t = last_says t (F (n - c) x) (tf (n - c) x)
      round-taken false t = body-says t (G (n - c) x) (tg (n - c) x)

    round-says : (next : Evaluator) (n : ℕ) (x : Words) → ((m : ℕ) (y : Words) → m < n → Says w (rec e f g) y m (next m y)) →
        (r : Result) → Says w e x n r → Says w (rec e f g) x n (after_test F G next n x r)
    round-says next n x tn unfinished l = test_lasts l
    round-says next n x tn (ended c v) r = round-taken next n x tn c v r.0 r.1 (holds v) refl

    -- Budget + 1 rounds are enough.
    pub rounds-say : (m n : ℕ) (x : Words) → n < m → Says w (rec e f g) x n (rounds E F G m n x)
    rounds-say zero n x h = absurd (omega arith)
    rounds-say (suc m) n x h =
        round-says (rounds E F G m) n x (λ k y l. rounds-say m k y (omega arith)) (E n x) (te n x)

  pub sound : (T : Term) → Tells w T (evaluate w T)
  unfolding evaluate
  sound (leaf k a b) zero x = leaf_lasts refl
  sound (leaf k a b) (suc n) x = (leaf_runs refl refl, omega arith)
  sound (seq f g) n x = seq-says f g (evaluate w g) (sound g) n x (evaluate w f n x) (sound f n x)
  sound (par f g) n x = par-says f g (evaluate w g) (sound g) n x (evaluate w f n x) (evaluate w g n x) (sound f n x) (sound g n x)
  sound (ite e f g) n x =
      ite-says e f g (evaluate w f) (evaluate w g) (sound f) (sound g) n x (evaluate w e n x) (sound e n x)
  sound (rec e f g) n x =
      rounds-say e f g (evaluate w e) (evaluate w f) (evaluate w g) (sound e) (sound f) (sound g) (suc n) n x (omega arith)
