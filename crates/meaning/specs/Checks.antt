-- Checks: the refusals 1 to 9 of a width and a table, in their order and with their places. Definitions only.
-- docs/READING.md: "Refusal numbers". Read after: `Counts`. Assumes nothing.
use Rattle.std.specs.Prelude.{ℕ, zero, suc, ◌+◌, ◌%◌, ◌^◌, Bool, true, List, eqb, ltb, leb, length, Err}
use Rattle.meaning.specs.declared.Cause.TheVariants as cause
use Rattle.meaning.specs.Choices.{pick, and, or}
use Rattle.meaning.specs.Refusals.{Check, Verdict, passed, refused, on_verdict}
use Rattle.meaning.specs.Terms.{number_of, kind_of, count, Term, tree, main_of}
use Rattle.meaning.specs.Counts.{ins, outs, whole_size}

-- 1: the width is 1 to 32.
abbrev pub width_fits : ℕ → Bool
width_fits w = and (leb 1 w) (leb w 32)

-- 2: there are 1 to 256 terms, of four numbers each.
abbrev pub length_fits : List ℕ → Bool
length_fits t = and (leb 1 (length t)) (and (eqb (length t % 4) 0) (leb (length t) 1024))

-- 3: the kind is one of the table's.
abbrev pub known_kind : ℕ → Bool
known_kind k = or (and (leb 1 k) (leb k 4)) (or (eqb k 9) (and (leb 12 k) (leb k 22)))

-- How many of a, b, c are operands, and how many are used at all (Const and Field use a and b).
unfoldable pub operands_of : ℕ → ℕ
operands_of k = pick (eqb k 1) 2 (pick (eqb k 2) 2 (pick (eqb k 3) 3 (pick (eqb k 4) 3 0)))

unfoldable pub used_of : ℕ → ℕ
used_of k = pick (eqb k 9) 2 (pick (eqb k 12) 2 (operands_of k))

-- 4: the numbers from the first unused one to c are 0.
abbrev pub unused_zero : List ℕ → ℕ → Bool
unused_zero t k =
    and (or (leb 1 (used_of (kind_of t k))) (eqb (number_of t k 1) 0))
    (and (or (leb 2 (used_of (kind_of t k))) (eqb (number_of t k 2) 0))
    (or (leb 3 (used_of (kind_of t k))) (eqb (number_of t k 3) 0)))

-- 5: m is 1 to 16; a Const's v is a word, a Field's k is below m.
abbrev pub few_words : ℕ → Bool
few_words m = and (leb 1 m) (leb m 16)

abbrev pub values_fit : ℕ → List ℕ → ℕ → Bool
values_fit w t k =
    pick (eqb (kind_of t k) 9) (and (few_words (number_of t k 1)) (ltb (number_of t k 2) (2 ^ w)))
    (pick (eqb (kind_of t k) 12) (and (few_words (number_of t k 1)) (ltb (number_of t k 2) (number_of t k 1)))
    true)

-- 6: the first n operands name terms below their own.
unfoldable pub operands_below : List ℕ → ℕ → ℕ → Bool
operands_below t k zero = true
operands_below t k (suc n) = and (operands_below t k n) (ltb (number_of t k (suc n)) k)

-- The term that operand j of term k names.
abbrev pub operand_tree : List ℕ → ℕ → ℕ → Term
operand_tree t k j = tree t (number_of t k j)

-- 7, kind by kind. Seq: g takes what f gives. Par: both take the same.
abbrev pub seq_fits : Term → Term → Bool
seq_fits f g = eqb (outs f) (ins g)

abbrev pub par_fits : Term → Term → Bool
par_fits f g = eqb (ins f) (ins g)

-- Ite and Rec: all three take the same, and the test gives one word ..
abbrev pub test_fits : Term → Term → Term → Bool
test_fits e f g = and (eqb (ins e) (ins f)) (and (eqb (ins e) (ins g)) (eqb (outs e) 1))

-- .. Ite: both branches give the same; Rec: g gives what the next round takes.
abbrev pub ite_fits : Term → Term → Term → Bool
ite_fits e f g = and (test_fits e f g) (eqb (outs f) (outs g))

abbrev pub rec_fits : Term → Term → Term → Bool
rec_fits e f g = and (test_fits e f g) (eqb (outs g) (ins e))

unfoldable pub counts_fit : List ℕ → ℕ → Bool
counts_fit t k =
    pick (eqb (kind_of t k) 1) (seq_fits (operand_tree t k 1) (operand_tree t k 2))
    (pick (eqb (kind_of t k) 2) (par_fits (operand_tree t k 1) (operand_tree t k 2))
    (pick (eqb (kind_of t k) 3) (ite_fits (operand_tree t k 1) (operand_tree t k 2) (operand_tree t k 3))
    (pick (eqb (kind_of t k) 4) (rec_fits (operand_tree t k 1) (operand_tree t k 2) (operand_tree t k 3))
    true)))

-- 8: Par gives at most 16 words.
unfoldable pub par_small : List ℕ → ℕ → Bool
par_small t k =
    pick (eqb (kind_of t k) 2) (leb (outs (operand_tree t k 1) + outs (operand_tree t k 2)) 16) true

-- 3 to 8 of term k: the first that it fails.
unfoldable pub refusal_at : ℕ → List ℕ → ℕ → Check
refusal_at w t k =
    pick (known_kind (kind_of t k))
    (pick (unused_zero t k)
    (pick (values_fit w t k)
    (pick (operands_below t k (operands_of (kind_of t k)))
    (pick (counts_fit t k)
    (pick (par_small t k)
    passed
    (Err cause.ParOutputs))
    (Err cause.WordCounts))
    (Err cause.Operand))
    (Err cause.TermValue))
    (Err cause.UnusedNumber))
    (Err cause.TermKind)

-- 9: the whole circuit of the main term has at most 4,096 cells.
abbrev pub size_verdict : List ℕ → Verdict
size_verdict t = pick (leb (whole_size (main_of t)) 4096) passed (refused cause.CircuitSize 0)

-- n places from place k on: the first that fails its check is refused for it; where there is none, what follows decides.
unfoldable pub first_refusal : (ℕ → Check) → ℕ → ℕ → Verdict → Verdict
first_refusal check zero k follows = follows
first_refusal check (suc n) k follows = on_verdict (check k) (first_refusal check n (suc k) follows) (λ c. refused c k)

-- 1 to 9: 3 to 8 term by term, lowest first, and 9 last.
unfoldable pub verdict_of : ℕ → List ℕ → Verdict
verdict_of w t =
    pick (width_fits w)
    (pick (length_fits t)
    (first_refusal (refusal_at w t) (count t) 0 (size_verdict t))
    (refused cause.TableLength 0))
    (refused cause.Width 0)
