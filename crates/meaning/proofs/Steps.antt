-- Law: how a term's evaluation goes on once its first operand's is known, a combinator at a time; a later round of Rec is Rec again.
-- The evaluator's code takes these steps. Assumes nothing.
use Prim.Native.Nat.{ℕ, suc, ◌+◌, ◌-◌, ◌<◌, max}
use mathlib.Core.Path.{◌≡◌, refl, ◌∙◌}
use mathlib.Core.Bool.{true, false}
use mathlib.Core.List.{◌++◌}
use native.Mathlib.Omega.{arith}
use Rattle.meaning.specs.Words.{Words}
use Rattle.meaning.specs.Terms.{Term, seq, par, ite, rec}
use Rattle.meaning.specs.Cycles.{Result, unfinished, ended, later, holds, feed_back, rounds, evaluate}
use Rattle.meaning.proofs.Runs.{positive}
use Rattle.meaning.proofs.Sound.{sound, rounds-say}
use Rattle.meaning.proofs.Exact.{same-said, ended-runs}

-- Cycles that went before cycles that went before.
pub later-later : (a b : ℕ) (r : Result) → later a (later b r) ≡ later (a + b) r
later-later a b unfinished = refl
later-later a b (ended c ws) = let q : a + (b + c) ≡ a + b + c = omega arith in rw q

pub later-zero : (r : Result) → later 0 r ≡ r
later-zero unfinished = refl
later-zero (ended c ws) = let q : 0 + c ≡ c = omega arith in rw q

module _ (w : ℕ) (f g : Term) (n : ℕ) (x : Words) where
  pub seq_stops : evaluate w f n x ≡ unfinished → evaluate w (seq f g) n x ≡ unfinished
  unfolding evaluate
  seq_stops h = rw h

  pub seq-goes : (c : ℕ) (v : Words) → evaluate w f n x ≡ ended c v → evaluate w (seq f g) n x ≡ later c (evaluate w g (n - c) v)
  unfolding evaluate
  seq-goes c v h = rw h

  pub par-stops-first : evaluate w f n x ≡ unfinished → evaluate w (par f g) n x ≡ unfinished
  unfolding evaluate
  par-stops-first h = rw h

  pub par-stops-second : (c : ℕ) (u : Words) → evaluate w f n x ≡ ended c u → evaluate w g n x ≡ unfinished →
      evaluate w (par f g) n x ≡ unfinished
  unfolding evaluate
  par-stops-second c u h i = rw (h, i)

  pub par-ends : (c d : ℕ) (u v : Words) → evaluate w f n x ≡ ended c u → evaluate w g n x ≡ ended d v →
      evaluate w (par f g) n x ≡ ended (max c d) (u ++ v)
  unfolding evaluate
  par-ends c d u v h i = rw (h, i)

module _ (w : ℕ) (e f g : Term) (n : ℕ) (x : Words) where
  pub ite-stops : evaluate w e n x ≡ unfinished → evaluate w (ite e f g) n x ≡ unfinished
  unfolding evaluate
  ite-stops h = rw h

  pub ite-then : (c : ℕ) (v : Words) → evaluate w e n x ≡ ended c v → holds v ≡ true →
      evaluate w (ite e f g) n x ≡ later c (evaluate w f (n - c) x)
  unfolding evaluate
  ite-then c v h t = rw (h, t)

  pub ite-else : (c : ℕ) (v : Words) → evaluate w e n x ≡ ended c v → holds v ≡ false →
      evaluate w (ite e f g) n x ≡ later c (evaluate w g (n - c) x)
  unfolding evaluate
  ite-else c v h t = rw (h, t)

  pub rec-stops : evaluate w e n x ≡ unfinished → evaluate w (rec e f g) n x ≡ unfinished
  unfolding evaluate
  rec-stops h = rw h

  module _ (c : ℕ) (v : Words) (h : evaluate w e n x ≡ ended c v) where
    pub rec-last : holds v ≡ true → evaluate w (rec e f g) n x ≡ later c (evaluate w f (n - c) x)
    unfolding evaluate
    rec-last t = rw (h, t)

    module _ (t : holds v ≡ false) where
      pub rec-stops-body : evaluate w g (n - c) x ≡ unfinished → evaluate w (rec e f g) n x ≡ unfinished
      unfolding evaluate
      rec-stops-body i = rw (h, t, i)

      module _ (d : ℕ) (u : Words) (i : evaluate w g (n - c) x ≡ ended d u) where
        -- The round's g has ended with `left` of the budget.
        fed : (left : ℕ) → n - c - d ≡ left →
            evaluate w (rec e f g) n x ≡ later c (feed_back (rounds (evaluate w e) (evaluate w f) (evaluate w g) n) d u left)
        unfolding evaluate
        fed left q = rw (h, t, i, q)

        pub rec-stops-fed : n - c ≡ d → evaluate w (rec e f g) n x ≡ unfinished
        rec-stops-fed q = fed 0 (omega arith)

        -- Fewer rounds than budget + 1 are as good where less of the budget is left.
        again : (left : ℕ) → left < n → rounds (evaluate w e) (evaluate w f) (evaluate w g) n left u ≡ evaluate w (rec e f g) left u
        again left l =
            same-said w (rec e f g) left u
            (rounds-say w e f g (evaluate w e) (evaluate w f) (evaluate w g) (sound w e) (sound w f) (sound w g) n left u l)
            (sound w (rec e f g) left u)

        pub rec-goes : d < n - c → evaluate w (rec e f g) n x ≡ later (c + d + 1) (evaluate w (rec e f g) (n - (c + d + 1)) u)
        rec-goes l =
            let m = n - (c + d + 1) in
            let p = positive (ended-runs w e n x c v h).0 in
            fed (suc m) (omega arith) ∙ (later-later c (suc d) (rounds (evaluate w e) (evaluate w f) (evaluate w g) n m u) ∙
            (let q : c + suc d ≡ c + d + 1 = omega arith in rw (q, again m (omega arith))))
