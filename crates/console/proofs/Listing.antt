-- Law: what a list of numbers that was read, or none, says of what is printed. `respond` cites it. Assumes nothing.
use Rattle.std.proofs.Common.{◌≡◌, ℕ, ◌-◌, ◌≤◌, List, length, get_or, take, drop, replicate, leb, Option, Some, None}
use Rattle.std.proofs.Common.{refl, arith, option_map, length-drop, take_at}
use Rattle.std.proofs.lemmas.Bool.Decides.{nat_tests}
use Rattle.std.proofs.lemmas.Option.{same_Some}
use lib.ListN.{get_or-append}
use lib.Seq.{drop-append-le}
use Rattle.meaning.proofs.Tests.{by-test}
use Rattle.numbers.specs.declared.Listed.{Listed}
use Rattle.numbers.specs.Lists.{begun, read_from, limited, numbers_in, listed_as, listed_in}
use Rattle.console.specs.Messages.{no_list_line}
use Rattle.console.specs.Response.{printed, printed_for, response_to}

-- A list that is read has 1 to 1,025 numbers.
abbrev Fits : ℕ → Type 0
Fits n = (1 ≤ n) × (n ≤ 1025)

limited-fits : (r : Option (List ℕ)) (ns : List ℕ) → limited r ≡ Some ns → Fits (length ns)
limited-fits (Some ms) ns e = grind (arith, nat_tests)
limited-fits None ns e = cc

read-fits : (l : List ℕ) (ns : List ℕ) → numbers_in l ≡ Some ns → Fits (length ns)
unfolding numbers_in
read-fits l ns =
    by-test (λ r. r ≡ Some ns → Fits (length ns)) (leb (length l) 16384) (limited (read_from l begun)) None
    (λ t. limited-fits (read_from l begun) ns) (λ t e. cc)

-- In its array the first number is the width, and the others that are counted are the table.
abbrev table_printed : Listed → List ℕ
table_printed L = printed (get_or L.numbers 0 0) (take (L.count - 1) (drop 1 L.numbers))

in-array : (ns : List ℕ) → 1 ≤ length ns → printed_for (Some ns) ≡ table_printed (listed_as ns)
in-array ns h =
    let z = replicate {A = ℕ} (1025 - length ns) 0 in
    rw (get_or-append ns z 0 0 h, drop-append-le 1 ns z h, take_at (drop 1 ns) z (length ns - 1) (length-drop 1 ns)) refl

-- What is read, and what is none.
of-list : (o : Option (List ℕ)) (L : Listed) → ((ns : List ℕ) → o ≡ Some ns → Fits (length ns)) →
    Some L ≡ option_map listed_as o → Fits L.count × (printed_for o ≡ table_printed L)
of-list (Some ns) L f e = let b = f ns refl in rw (same_Some _ _ e) (b, in-array ns b.0)
of-list None L f e = cc

of-none : (o : Option (List ℕ)) → None ≡ option_map listed_as o → printed_for o ≡ no_list_line
of-none (Some ns) e = cc
of-none None e = refl

module _ (input : List ℕ) where
  pub no_list : None ≡ listed_in input → response_to input ≡ no_list_line
  unfolding response_to listed_in
  no_list = of-none (numbers_in input)

  module _ {L : Listed} (read : Some L ≡ listed_in input) where
    pub list_fits : Fits L.count
    unfolding listed_in
    list_fits = (of-list (numbers_in input) L (read-fits input) read).0

    pub list_printed : response_to input ≡ table_printed L
    unfolding response_to listed_in
    list_printed = (of-list (numbers_in input) L (read-fits input) read).1

-- What the search takes.
pub ruleset listing = (no_list, list_fits, list_printed)
