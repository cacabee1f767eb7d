-- Law: the reader's loop. At byte j, what is left to read, with what is listed, gives what the whole text gives.
-- `read` cites it. Assumes nothing.
use Rattle.std.proofs.Common.{◌≡◌, ℕ, ◌+◌, ◌^◌, ◌≤◌, ◌<◌, ◌⊎◌, List, [], ◌∷◌, length, get_or, drop, Option, Some, None}
use Rattle.std.proofs.Common.{refl, sym, ap, ◌∙◌, arith}
use Rattle.std.specs.Option.{option_map}
use Rattle.std.proofs.lemmas.List.{at_drop_more, at_drop_all}
use borrow.Author.Tests.{le-leb, lt-leb}
use Rattle.numbers.specs.declared.Listed.{Listed}
use Rattle.numbers.specs.Lists.{progress, closed, grown, read_from, limited, numbers_in, listed_as, listed_in, Holds}
use Rattle.numbers.proofs.ByteByByte.{read-digit, read-large, read-gap, read-other, over, too_many}

-- What comes of what is read, and of the bytes that are left.
abbrev pub allowed : Option (List ℕ) → Option Listed
allowed r = option_map listed_as (limited r)

abbrev pub answer : List ℕ → Option ℕ → List ℕ → Option Listed
answer ended current l = allowed (read_from l (progress ended current))

-- The loop's invariant.
pub record Underway (bytes : List ℕ) (listed : Listed) (current : Option ℕ) (j : ℕ) : Type 0 where
  pub ended : List ℕ
  pub holds : Holds ended listed
  pub same : answer ended current (drop j bytes) ≡ listed_in bytes

-- The texts that are too long, and the others at their start.
pub past-limit : (bytes : List ℕ) → 16384 < length bytes → None ≡ listed_in bytes
unfolding listed_in numbers_in
past-limit bytes h = rw (lt-leb (length bytes) 16384 h) refl

pub underway-none : (bytes : List ℕ) → length bytes ≤ 16384 → Underway bytes (listed_as []) None 0
unfolding listed_in numbers_in
underway-none bytes h = record {
  ended = [];
  holds = record { few = omega arith; held = refl };
  same = rw (le-leb (length bytes) 16384 h) refl;
}

module _ {bytes : List ℕ} {listed : Listed} {current : Option ℕ} {j : ℕ} (u : Underway bytes listed current j) where
  -- The numbers, if one ends at byte j.
  abbrev pub ending : List ℕ
  ending = closed (progress u.ended current)

  -- A byte more.
  module _ (h : j < length bytes) where
    goes : answer u.ended current (get_or bytes j 0 ∷ drop (j + 1) bytes) ≡ listed_in bytes
    goes = sym (at_drop_more (answer u.ended current) bytes j 0 h) ∙ u.same

    module _ (a : 48 ≤ get_or bytes j 0) (b : get_or bytes j 0 ≤ 57) where
      pub digit-on : grown current (get_or bytes j 0) < 2 ^ 32 → Underway bytes listed (Some (grown current (get_or bytes j 0))) (j + 1)
      digit-on l = record {
        ended = u.ended;
        holds = u.holds;
        same = ap allowed (sym (read-digit _ _ _ a b l)) ∙ goes;
      }

      pub digit-large : 2 ^ 32 ≤ grown current (get_or bytes j 0) → None ≡ listed_in bytes
      digit-large l = ap allowed (sym (read-large _ _ _ a b l)) ∙ goes

    pub other_byte : (48 ≤ get_or bytes j 0 → 57 < get_or bytes j 0) → ((get_or bytes j 0 ≡ 10) ⊎ (get_or bytes j 0 ≡ 32) → ⊥) →
        None ≡ listed_in bytes
    other_byte a b = ap allowed (sym (read-other _ _ _ a b)) ∙ goes

    module _ (g : (get_or bytes j 0 ≡ 10) ⊎ (get_or bytes j 0 ≡ 32)) where
      went : answer ending None (drop (j + 1) bytes) ≡ listed_in bytes
      went = ap allowed (sym (read-gap _ _ _ g)) ∙ goes

      pub gap-over : 1025 < length ending → None ≡ listed_in bytes
      gap-over l = ap (option_map listed_as) (sym (too_many _ _ l)) ∙ went

      pub gap-on : {after : Listed} → Holds ending after → Underway bytes after None (j + 1)
      gap-on p = record { ended = ending; holds = p; same = went }

  -- The end of the text.
  module _ (h : length bytes ≤ j) where
    ended_so : allowed (Some ending) ≡ listed_in bytes
    unfolding read_from
    ended_so = sym (at_drop_all (answer u.ended current) bytes j h) ∙ u.same

    pub end-over : 1025 < length ending → None ≡ listed_in bytes
    end-over l = ap (option_map listed_as) (sym (over ending l)) ∙ ended_so

    module _ {after : Listed} (p : Holds ending after) where
      counted : after.count ≡ length ending
      counted = ap (λ (x : Listed). x.count) p.held

      pub end_none : after.count ≡ 0 → None ≡ listed_in bytes
      end_none e =
          let l : length ending < 1 = omega (arith, counted) in
          rw (lt-leb 1 (length ending) l) at ended_so

      pub end_list : 1 ≤ after.count → Some after ≡ listed_in bytes
      end_list e =
          let l : 1 ≤ length ending = omega (arith, counted) in
          rw p.held (rw (le-leb 1 (length ending) l, le-leb (length ending) 1025 p.few) at ended_so)
