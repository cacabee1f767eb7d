-- Law: what the facts of a table say where there are some: the table is accepted, and the array holds what is known of each term;
-- and what it says of a table that some width accepts it. Cited by the methods of an accepted table, and by who makes one.
-- Assumes nothing.
use Prim.Native.Nat.{ℕ, ◌≤◌, ◌<◌}
use mathlib.Core.Path.{◌≡◌, refl, sym, ap, ◌∙◌}
use mathlib.Core.List.{List}
use mathlib.Core.Logic.{∥∥₁_elim}
use mathlib.Core.HLevel.{⊥_prop}
use native.Mathlib.Omega.{arith}
use lib.ListN.{get_or}
use Rattle.std.specs.Prelude.{Result, Ok, Err}
use Rattle.std.proofs.Math.Pow.{pow_mono}
use Rattle.meaning.specs.declared.Refusal.{Refusal}
use Rattle.meaning.specs.declared.Known.{Known}
use Rattle.meaning.specs.Refusals.{Verdict, passed, on_verdict}
use Rattle.meaning.specs.Terms.{count, tree}
use Rattle.meaning.specs.Checks.{verdict_of}
use Rattle.meaning.specs.Answers.{known_of, nothing_known, known_facts, facts_of}
use Rattle.meaning.proofs.Accepted.{Fits, seq-fits, par-fits, ite-fits, rec-fits, const_fits, field_fits, op_fits, Accepted, accepted}
use Rattle.meaning.proofs.Accepting.{accepting}
use Rattle.meaning.proofs.Lists.{facts-at}
use Rattle.terms.specs.Judged.{Passing, Takes, Gives}

-- What an answer with facts says of the verdict, and of the facts.
pub answers : (v : Verdict) (f g : List Known) → ◌≡◌ {A = Result (List Known) Refusal} (on_verdict v (Ok f) Err) (Ok g) →
    (v ≡ passed) × (g ≡ f)
answers (Ok u) f g h = (refl, cc)
answers (Err d) f g h = let z : ◌≡◌ {A = ℕ} 0 1 = cc in absurd (omega arith)

module _ (w : ℕ) (t : List ℕ) (terms : List Known) (judged : facts_of w t ≡ Ok terms) where
  both : (verdict_of w t ≡ passed) × (terms ≡ known_facts t)
  unfolding facts_of
  both = answers _ _ _ judged

  pub passes : verdict_of w t ≡ passed
  passes = both.0

  pub table : Accepted w t
  table = accepted w t passes

  pub narrow : w ≤ 32
  narrow = table.wide.1

  pub somewhere : ∥ Passing t ∥₁
  somewhere = ∣ record { width = w; accepted = passes } ∣₁

  -- What is known of term k.
  pub term_at : (k : ℕ) → k < count t → get_or terms k nothing_known ≡ known_of (tree t k)
  term_at k l = rw both.1 (facts-at t (omega (arith, table.some)) k nothing_known l)

  pub takes_at : Takes t terms
  takes_at k l = ap (λ (x : Known). x.ins) (term_at k l)

  pub gives_at : Gives t terms
  gives_at k l = ap (λ (x : Known). x.outs) (term_at k l)

-- What one who makes an accepted table of such facts is asked.
pub ruleset from_facts = (passes, narrow, somewhere, takes_at, gives_at)

-- A table that a width accepts is accepted at 32 bits, the most there are: a width decides only which constants are words.
widened : {w : ℕ} {t : List ℕ} {k : ℕ} → w ≤ 32 → Fits w t k → Fits 32 t k
widened h (seq-fits e z a b p) = seq-fits e z a b p
widened h (par-fits e z a b p q) = par-fits e z a b p q
widened h (ite-fits e a b c p q r s) = ite-fits e a b c p q r s
widened h (rec-fits e a b c p q r s) = rec-fits e a b c p q r s
widened h (const_fits e z l u v) = const_fits e z l u (omega (arith, v, pow_mono h))
widened h (field_fits e z l u v) = field_fits e z l u v
widened h (op_fits l u a b c) = op_fits l u a b c

pub at_widest : (w : ℕ) (t : List ℕ) → verdict_of w t ≡ passed → verdict_of 32 t ≡ passed
at_widest w t h =
    let a = accepted w t h in
    accepting 32 t record {
      wide = (omega arith, omega arith);
      four = a.four;
      some = a.some;
      fits = λ k l. widened a.wide.1 (a.fits k l);
      small = a.small;
    }

module _ (t : List ℕ) (somewhere : ∥ Passing t ∥₁) where
  pub widest : Accepted 32 t
  widest = accepted 32 t (go (verdict_of 32 t) refl)
    where
      go : (v : Verdict) → verdict_of 32 t ≡ v → v ≡ passed
      go (Ok u) e = refl
      go (Err d) e = absurd (∥∥₁_elim somewhere ⊥_prop (λ p. let q = sym e ∙ at_widest p.width t p.accepted in cc))

  -- There are 1 to 256 terms.
  pub some_terms : 1 ≤ count t
  some_terms = widest.some.0

  pub few_terms : count t ≤ 256
  few_terms = widest.some.1
