-- Terms: a table's numbers, and each term as a tree of the terms that it names. Definitions only.
-- docs/READING.md: "Term tables". Read after: `Words`. Assumes nothing.
use Rattle.std.specs.Prelude.{ℕ, zero, suc, ◌+◌, ◌*◌, ◌-◌, ◌/◌, List, eqb, length}
use Rattle.meaning.specs.Choices.{pick, at}

-- A term is four numbers: number 0 is its kind, numbers 1, 2, 3 are its a, b, c.
abbrev pub number_of : List ℕ → ℕ → ℕ → ℕ
number_of t k j = at t (k * 4 + j)

abbrev pub kind_of : List ℕ → ℕ → ℕ
kind_of t k = number_of t k 0

-- How many terms a table has; the last is the main one.
abbrev pub count : List ℕ → ℕ
count t = length t / 4

abbrev pub last_of : List ℕ → ℕ
last_of t = count t - 1

-- A term with its operands in place of their numbers. A leaf has its kind, 9 or more, and its a and b.
pub data Term : Type 0 where
  leaf : ℕ → ℕ → ℕ → Term
  seq par : Term → Term → Term
  ite rec : Term → Term → Term → Term

-- Term k made of the terms `ts` that its operands name.
abbrev pub Node : Type 0
Node = List ℕ → (ℕ → Term) → ℕ → Term

abbrev pub leaf_node : Node
leaf_node t ts k = leaf (kind_of t k) (number_of t k 1) (number_of t k 2)

abbrev pub two_node : (Term → Term → Term) → Node
two_node join t ts k = join (ts (number_of t k 1)) (ts (number_of t k 2))

abbrev pub three_node : (Term → Term → Term → Term) → Node
three_node join t ts k = join (ts (number_of t k 1)) (ts (number_of t k 2)) (ts (number_of t k 3))

-- 1 Seq, 2 Par, 3 Ite, 4 Rec; every other kind is a leaf.
unfoldable pub node_of : ℕ → Node
node_of kind =
    pick (eqb kind 1) (two_node seq)
    (pick (eqb kind 2) (two_node par)
    (pick (eqb kind 3) (three_node ite)
    (pick (eqb kind 4) (three_node rec) leaf_node)))

-- The terms below n. Operands name lower terms, so what stands for the others is never asked for in a table that passes check 6.
unfoldable pub below : List ℕ → ℕ → ℕ → Term
below t zero = λ k. leaf 0 0 0
below t (suc n) = λ k. pick (eqb k n) (node_of (kind_of t k) t (below t n)) (below t n) k

-- Term k. Each operand is a tree of its own, as each use of a term is a circuit of its own.
abbrev pub tree : List ℕ → ℕ → Term
tree t k = below t (suc k) k

abbrev pub main_of : List ℕ → Term
main_of t = tree t (last_of t)
