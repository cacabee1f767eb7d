-- Theorem: the two sizings of an accepted table agree. The sizes that `check` answers, filled lowest term first and capped, are
-- what `cells` computes by recursion, wherever that is asked. Cited by no contract. Assumes nothing.
use Prim.Native.Nat.{ℕ, ◌≤◌, ◌<◌}
use mathlib.Core.Path.{◌≡◌, ◌∙◌}
use mathlib.Core.List.{List}
use lib.ListN.{get_or}
use native.Mathlib.Nat.{min-eq_left}
use native.Mathlib.Omega.{arith}
use Rattle.std.specs.Prelude.{Ok}
use Rattle.meaning.specs.declared.Known.{Known}
use Rattle.meaning.specs.Terms.{count, last_of, tree}
use Rattle.meaning.specs.Counts.{size, capped}
use Rattle.meaning.specs.Answers.{nothing_known, facts_of}
use Rattle.terms.specs.Judged.{Passing, Takes, Gives}
use Rattle.terms.proofs.Facts.{table, somewhere, term_at, takes_at, gives_at}

module _ (w : ℕ) (t : List ℕ) (f : List Known) (checked : facts_of w t ≡ Ok f) where
  -- For any answer r of `cells` on term k: the entry is r up to the cap, and is r where `cells` may be called.
  module _ (k : ℕ) (inside : k < count t) where
    pub sizings-agree : (r : ℕ) → r ≡ size (tree t k) →
        ((get_or f k nothing_known).cells ≡ capped r) × (r ≤ 4096 → (get_or f k nothing_known).cells ≡ r)
    sizings-agree r e =
        let entry : (get_or f k nothing_known).cells ≡ capped r = rw (term_at w t f checked k inside, e) in
        (entry, λ l. entry ∙ min-eq_left (omega arith))

  -- On the main term `cells` may always be called: what it asks of the table, of the array and of the term holds.
  pub main-can-size : ∥ Passing t ∥₁ × Gives t f × (last_of t < count t) × Takes t f × (size (tree t (last_of t)) ≤ 4096)
  main-can-size =
      let a = table w t f checked in
      let s = a.some in
      let m = a.small in
      (somewhere w t f checked, gives_at w t f checked, omega arith, takes_at w t f checked, omega arith)
