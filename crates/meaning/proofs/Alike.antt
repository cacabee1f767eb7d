-- Law: words that are the same at every place, as words and the same words padded with zeros are, evaluate the same.
-- Assumes nothing.
use Prim.Native.Nat.{ℕ, zero, suc, ◌-◌}
use mathlib.Core.Path.{◌≡◌, refl, ap}
use mathlib.Core.Bool.{Bool, true, false}
use Rattle.meaning.specs.Choices.{pick, at, padded}
use Rattle.meaning.specs.Words.{Words}
use Rattle.meaning.specs.Terms.{Term, leaf, seq, par, ite, rec}
use Rattle.meaning.specs.Cycles.{Result, unfinished, ended, Evaluator, later, holds, ite_rest, body, after_body, after_test, rounds}
use Rattle.meaning.specs.Cycles.{evaluate}
use Rattle.meaning.proofs.Lists.{padded-at}

abbrev pub Alike : Words → Words → Type 0
Alike x y = (j : ℕ) → at x j ≡ at y j

-- An evaluator that does not tell alike words apart.
abbrev Blind : Evaluator → Type 0
Blind E = (n : ℕ) (x y : Words) → Alike x y → E n x ≡ E n y

module _ (F G : Evaluator) (bf : Blind F) (bg : Blind G) where
  pick-alike : (b : Bool) → Blind (pick b F G)
  pick-alike true = bf
  pick-alike false = bg

  module _ (n : ℕ) (x y : Words) (h : Alike x y) where
    ite-alike : (r : Result) → ite_rest F G n x r ≡ ite_rest F G n y r
    ite-alike unfinished = refl
    ite-alike (ended c v) = ap (later c) (pick-alike (holds v) (n - c) x y h)

  body_alike : (next : Evaluator) → Blind (body G next)
  body_alike next n x y h = ap (after_body next n) (bg n x y h)

  round-alike : (next : Evaluator) (n : ℕ) (x y : Words) → Alike x y → (r : Result) →
      after_test F G next n x r ≡ after_test F G next n y r
  round-alike next n x y h unfinished = refl
  round-alike next n x y h (ended c v) = ap (later c) (go (holds v))
    where
      go : (b : Bool) → pick b F (body G next) (n - c) x ≡ pick b F (body G next) (n - c) y
      go true = bf (n - c) x y h
      go false = body_alike next (n - c) x y h

  rounds-alike : (E : Evaluator) → Blind E → (m : ℕ) → Blind (rounds E F G m)
  rounds-alike E be zero n x y h = refl
  rounds-alike E be (suc m) n x y h = rw (be n x y h) (round-alike (rounds E F G m) n x y h (E n y))

pub alike : (w : ℕ) (T : Term) → Blind (evaluate w T)
unfolding evaluate
alike w (leaf k a b) zero x y h = refl
alike w (leaf k a b) (suc n) x y h = cc (h 0, h 1, h b)
alike w (seq f g) n x y h = rw (alike w f n x y h)
alike w (par f g) n x y h = cc (alike w f n x y h, alike w g n x y h)
alike w (ite e f g) n x y h =
    rw (alike w e n x y h) (ite-alike (evaluate w f) (evaluate w g) (alike w f) (alike w g) n x y h (evaluate w e n y))
alike w (rec e f g) n x y h =
    rounds-alike (evaluate w f) (evaluate w g) (alike w f) (alike w g) (evaluate w e) (alike w e) (suc n) n x y h

pub padded-evaluates : (w : ℕ) (T : Term) (n m : ℕ) (x : Words) → evaluate w T n (padded m x) ≡ evaluate w T n x
padded-evaluates w T n m x = alike w T n (padded m x) x (padded-at m x)
