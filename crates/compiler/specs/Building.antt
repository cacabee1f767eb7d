-- Building: what the block of a term needs before it is emitted, and what stands in the netlist afterwards. Definitions only.
-- Read after: `Writing`, circuit's `Blocks`, terms' `Judged`. Assumes nothing.
use Rattle.std.specs.Prelude.{ℕ, ◌+◌, ◌<◌, ◌≡◌, List, ◌++◌, length, take}
use Rattle.meaning.specs.Choices.{padded}
use Rattle.meaning.specs.declared.Kind.{Kind}
use Rattle.meaning.specs.declared.Known.{Known}
use Rattle.meaning.specs.Kinds.{kind_named}
use Rattle.meaning.specs.Terms.{number_of, kind_of, count, Term, tree}
use Rattle.meaning.specs.Counts.{ins, size}
use Rattle.meaning.specs.Checks.{operand_tree}
use Rattle.terms.specs.Judged.{Takes}
use Rattle.circuit.specs.Cells.{Cell}
use Rattle.circuit.specs.Pieces.{◌after◌, Block, Emitter, gates}
use Rattle.circuit.specs.Blocks.{emit}
use Rattle.pieces.specs.declared.leaves.Made.{Made}
use Rattle.pieces.specs.declared.seams.Forked.{Forked}
use Rattle.pieces.specs.Writing.{written, Room}

-- Term k of a table, of whose terms an array has how many words they take, can be emitted at p; and one of kind K can.
pub record Ready (t : List ℕ) (known : List Known) (k : ℕ) (net : List ℕ) (p : ℕ) : Type 0 where
  pub takes : Takes t known
  pub there : k < count t
  pub room : Room net p (size (tree t k))

pub record ReadyAs (K : Kind) (t : List ℕ) (known : List Known) (k : ℕ) (net : List ℕ) (p : ℕ) : Type 0 where
  pub kind : kind_named (kind_of t k) ≡ K
  pub takes : Takes t known
  pub there : k < count t
  pub room : Room net p (size (tree t k))

-- The block of a term on the first of 16 wires, as many as it takes.
abbrev pub block_of : Term → ℕ → ℕ → List ℕ → Block
block_of T p s words = emit T p s (take (ins T) words)

-- The block of T stands at p, the row of 16 has its output wires, and the answer what follows it and its done wire.
pub record Emits (T : Term) (p s : ℕ) (words old new row : List ℕ) (r : Made) : Type 0 where
  pub next : r.next ≡ p + size T
  pub done : r.done ≡ (block_of T p s words).done
  pub outs : row ≡ padded 16 (block_of T p s words).outs
  pub sixteen : length row ≡ 16
  pub net : new ≡ written old p (block_of T p s words).cells

-- A test and its two branches, as Ite and Rec share them: e's block, its gates at `gate`, the blocks of f and g, and what follows.
pub record Fork : Type 0 where
  pub test : Block
  pub gate : ℕ
  pub yes : Block
  pub no : Block
  pub next : ℕ

abbrev pub fork_of : Emitter → Emitter → Emitter → ℕ → ℕ → List ℕ → List ℕ → Fork
fork_of e f g n s us ks =
    let E = e n s us in
    let p = n + length E.cells in
    let F = f (7 after p) (5 after p) ks in
    let q = 7 after p + length F.cells in
    let G = g q (6 after p) ks in
    record { test = E; gate = p; yes = F; no = G; next = q + length G.cells }

abbrev pub fork_cells : Fork → List Cell
fork_cells B = B.test.cells ++ (gates B.gate B.test ++ (B.yes.cells ++ B.no.cells))

-- How many cells a fork of term k's operands has.
abbrev pub fork_size : List ℕ → ℕ → ℕ
fork_size t k = size (operand_tree t k 1) + 7 + size (operand_tree t k 2) + size (operand_tree t k 3)

-- They, lower terms that take the same words, can be emitted so from p on.
pub record ForkReady (t : List ℕ) (known : List Known) (k : ℕ) (net : List ℕ) (p : ℕ) : Type 0 where
  pub takes : Takes t known
  pub there : k < count t
  pub lower : (number_of t k 1 < k) × (number_of t k 2 < k) × (number_of t k 3 < k)
  pub same : (ins (operand_tree t k 1) ≡ ins (operand_tree t k 2)) × (ins (operand_tree t k 1) ≡ ins (operand_tree t k 3))
  pub room : Room net p (fork_size t k)

-- The fork of term k's operands, on as many of the live and of the kept wires as the test takes.
abbrev pub fork_at : List ℕ → ℕ → ℕ → ℕ → List ℕ → List ℕ → Fork
fork_at t k p s live kept =
    fork_of (emit (operand_tree t k 1)) (emit (operand_tree t k 2)) (emit (operand_tree t k 3)) p s
    (take (ins (operand_tree t k 1)) live) (take (ins (operand_tree t k 1)) kept)

-- It stands at p and has n cells, the rows of 16 have the output wires of both branches, and the answer its other wires.
pub record Forks (B : Fork) (p n : ℕ) (old new ends feeds : List ℕ) (r : Forked) : Type 0 where
  pub gate : r.gate ≡ B.gate
  pub next : r.next ≡ B.next
  pub past : r.next ≡ p + n
  pub tested : r.tested ≡ B.test.done
  pub left : r.left ≡ B.yes.done
  pub again : r.again ≡ B.no.done
  pub yes : ends ≡ padded 16 B.yes.outs
  pub no : feeds ≡ padded 16 B.no.outs
  pub sixteen : (length ends ≡ 16) × (length feeds ≡ 16)
  pub net : new ≡ written old p (fork_cells B)
