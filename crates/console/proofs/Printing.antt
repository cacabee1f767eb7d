-- Law: what is printed for a width and a table, step by step: a refusal of the compiler, of the writer, or the text.
-- `print` cites it. Assumes nothing.
use Rattle.std.proofs.Common.{◌≡◌, ℕ, ◌+◌, ◌*◌, ◌≤◌, List, ◌++◌, length, take, drop, Result, Ok, Err, MatchResult}
use Rattle.std.proofs.Common.{refl, sym, zero-add, take_at, leb-true, length-take-le}
use Rattle.meaning.specs.declared.Refusal.{Refusal}
use Rattle.meaning.specs.Terms.{Term, main_of}
use Rattle.meaning.specs.Counts.{whole_size}
use Rattle.meaning.specs.Checks.{verdict_of}
use Rattle.meaning.specs.Refusals.{Verdict, passed, on_verdict}
use Rattle.meaning.proofs.Verdicts.{no-error, went_on}
use Rattle.circuit.specs.declared.Compiled.{Compiled}
use Rattle.circuit.specs.Cells.{stride}
use Rattle.circuit.specs.Netlists.{netlist_verdict}
use Rattle.circuit.specs.Compiling.{netlist_of, compile_verdict, emitted, compiled_of, netlist_after}
use Rattle.promise.proofs.Holds.{netlist-size}
use Rattle.verilog.specs.Writing.{write_verdict, written_of, text_after}
use Rattle.spelling.specs.Pieces.{placed, Wrote}
use Rattle.spelling.proofs.Placing.{at_front}
use Rattle.console.specs.Messages.{refused_line}
use Rattle.console.specs.Response.{term_text, text_verdict, printed}

-- What an answer tells of the judgement that it follows.
refusal-given : {A : Type 0} (v : Verdict) (a : A) {r : Refusal} → Err r ≡ on_verdict v (Ok a) Err → v ≡ Err r
refusal-given (Ok u) a e = cc
refusal-given (Err r) a e = cc

answer-given : {A : Type 0} (v : Verdict) (a : A) {b : A} → Ok b ≡ on_verdict v (Ok a) Err → (v ≡ passed) × (b ≡ a)
answer-given (Ok u) a e = (refl, cc)
answer-given (Err r) a e = cc

-- A judgement of two steps accepts where both do.
both-accept : (v x : Verdict) → on_verdict v x Err ≡ passed → (v ≡ passed) × (x ≡ passed)
both-accept (Ok u) x e = (refl, e)
both-accept (Err r) x e = no-error r e

-- A text that is accepted fits.
text-fits : (w : ℕ) (T : Term) → text_verdict w T ≡ passed → length (term_text w T) ≤ 65536
unfolding text_verdict term_text write_verdict
text-fits w T v =
    let a = both-accept (netlist_verdict w (netlist_of T)) _ v in
    leb-true _ _ (went_on _ _ _ (went_on _ _ _ a.1).1).0

-- A piece at the front of a buffer that holds it.
fronted : (l a : List ℕ) → length a ≤ length l → Wrote l 0 a (length a) (a ++ drop (length a) l)
fronted l a h =
    let p : Wrote l 0 a (0 + length a) (placed l 0 a) = record { next_is = refl; holds = refl } in
    record { next_is = sym (zero-add (length a)); holds = sym (at_front p h) }

-- The writer's answer and what it leaves, by its judgement.
left : (v : Verdict) (a l after : List ℕ) (r : Result ℕ Refusal) → (v ≡ passed → length a ≤ length l) →
    r ≡ on_verdict v (Ok (length a)) Err → after ≡ on_verdict v (a ++ drop (length a) l) (λ e. l) →
    MatchResult r (λ k. Wrote l 0 (on_verdict v a refused_line) k after × (k ≤ length l))
    (λ e. (on_verdict v a refused_line ≡ refused_line e) × (after ≡ l))
left (Ok u) a l after r h p q = rw (p, q) (fronted l a (h refl), h refl)
left (Err e) a l after r h p q = rw (p, q) (refl, refl)

module _ (w : ℕ) (t : List ℕ) where
  -- The compiler refuses.
  pub compile_refused : {r : Refusal} → Err r ≡ compiled_of w t 2400 → printed w t ≡ refused_line r
  unfolding compiled_of printed
  compile_refused e = rw (refusal-given (compile_verdict w t 2400) _ e) refl

  module _ {C : Compiled} (made : Ok C ≡ compiled_of w t 2400) where
    accepted : (compile_verdict w t 2400 ≡ passed) × (C ≡ emitted (main_of t))
    unfolding compiled_of
    accepted = answer-given (compile_verdict w t 2400) _ made

    judged : (verdict_of w t ≡ passed) × (whole_size (main_of t) * stride ≤ 2400)
    unfolding compile_verdict
    judged =
        let a = both-accept _ _ accepted.0 in
        (a.0, leb-true (whole_size (main_of t) * stride) 2400 (went_on _ _ _ a.1).0)

    -- The cells fill the front of the lent memory.
    pub cells_fit : C.cells * 4 ≤ 2400
    cells_fit = rw accepted.1 judged.1

    module _ {net : List ℕ} (cells : List ℕ) (lent : length cells ≡ 2400) (filled : net ≡ netlist_after w t cells) where
      cells_are : take (C.cells * 4) net ≡ netlist_of (main_of t)
      unfolding netlist_after
      cells_are =
          rw (filled, lent, accepted.0, accepted.1) (take_at (netlist_of (main_of t)) _ _ (netlist-size w t judged.0))

      -- The writer, on these cells.
      pub text_left : (text : List ℕ) {after : List ℕ} {r : Result ℕ Refusal} → length text ≡ 65536 →
          r ≡ written_of w (take (C.cells * 4) net) C.ins C.outs C.done C.wires (length text) →
          after ≡ text_after w (take (C.cells * 4) net) C.ins C.outs C.done C.wires text →
          MatchResult r (λ k. Wrote text 0 (printed w t) k after × (k ≤ 65536))
          (λ e. (printed w t ≡ refused_line e) × (after ≡ text))
      unfolding printed text_verdict term_text written_of text_after
      text_left text {after} {r} l p q =
          let p = rw (cells_are, accepted.1, l) at p in
          let q = rw (cells_are, accepted.1, l) at q in
          let h = left (text_verdict w (main_of t)) (term_text w (main_of t)) text after r
          (λ v. rw l (text-fits w (main_of t) v)) p q in
          rw accepted.0 (rw l at h)

-- What the search takes: for a refusal of the compiler, and for the slice of the cells.
pub ruleset compiling = (compile_refused, cells_fit, length-take-le)
