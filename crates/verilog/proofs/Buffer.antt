-- Law: what the writer answers and leaves in the buffer, by its verdict. `write` cites the set, and unfolds the verdict itself.
-- Assumes nothing.
use Prim.Native.Nat.{ℕ, ◌≤◌}
use mathlib.Core.Path.{◌≡◌, refl}
use mathlib.Core.List.{List, ◌++◌}
use lib.ListN.{length, drop}
use Rattle.std.specs.Prelude.{Ok, Err}
use Rattle.meaning.specs.Refusals.{on_verdict}
use Rattle.spelling.specs.Pieces.{placed}
use Rattle.spelling.proofs.Placing.{at_front}
use Rattle.verilog.specs.Texts.{text_of}
use Rattle.verilog.specs.Writing.{write_verdict, written_of, text_after}

module _ (w : ℕ) (net : List ℕ) (i o d : ℕ) (outs : List ℕ) where
  pub answered : (room : ℕ) → written_of w net i o d outs room ≡
      on_verdict (write_verdict w net i o d outs room) (Ok (length (text_of w net i o d outs))) Err
  unfolding written_of
  answered room = refl

  pub left : (buffer : List ℕ) → text_after w net i o d outs buffer ≡
      on_verdict (write_verdict w net i o d outs (length buffer))
      (text_of w net i o d outs ++ drop (length (text_of w net i o d outs)) buffer)
      (λ r. buffer)
  unfolding text_after
  left buffer = refl

-- A text that fits stands at the front.
pub placed-front : (l a : List ℕ) → length a ≤ length l → placed l 0 a ≡ a ++ drop (length a) l
placed-front l a h = at_front (record { next_is = refl; holds = refl }) h

pub ruleset laws = (answered, left, placed-front)
