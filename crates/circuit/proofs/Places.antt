-- Law: the parts of each combinator's block, where they stand, and that what is said of every cell of a block is said of each part's.
-- Assumes nothing.
use Prim.Native.Nat.{ℕ, suc, ◌+◌}
use mathlib.Core.Path.{◌≡◌, refl}
use mathlib.Core.List.{List, [], ◌∷◌, ◌++◌}
use native.Mathlib.Omega.{arith}
use lib.ListN.{length}
use Rattle.circuit.specs.Cells.{Cell}
use Rattle.circuit.specs.Pieces.{◌after◌, Block, Emitter, wires_from, keeps, kept, gates}

-- Seq and Par: f's block, where it ends, g's block, and where that ends.
pub record PairPlaces : Type 0 where
  pub F : Block
  pub p : ℕ
  pub G : Block
  pub r : ℕ

abbrev pub seq_places : Emitter → Emitter → ℕ → ℕ → List ℕ → PairPlaces
seq_places f g b s xs =
    let F = f b s xs in
    let p = b + length F.cells in
    let G = g (3 after p) (2 after p) F.outs in
    record { F = F; p = p; G = G; r = 3 after p + length G.cells }

abbrev pub par_places : Emitter → Emitter → ℕ → ℕ → List ℕ → PairPlaces
par_places f g b s xs =
    let F = f b s xs in
    let p = b + length F.cells in
    let G = g p s xs in
    record { F = F; p = p; G = G; r = p + length G.cells }

-- A test with two branches, as Ite and Rec have it: the kept words; from n on e's block, from p on the gates, then f's block, from q on
-- g's, which ends at r.
pub record BranchPlaces : Type 0 where
  pub ks : List ℕ
  pub n : ℕ
  pub E : Block
  pub p : ℕ
  pub F : Block
  pub q : ℕ
  pub G : Block
  pub r : ℕ

abbrev pub branch_places : Emitter → Emitter → Emitter → ℕ → ℕ → List ℕ → BranchPlaces
branch_places e f g b s xs =
    let ks = kept b xs in
    let n = b + length (keeps b s xs) in
    let E = e n s xs in
    let p = n + length E.cells in
    let F = f (7 after p) (5 after p) ks in
    let q = 7 after p + length F.cells in
    let G = g q (6 after p) ks in
    record { ks = ks; n = n; E = E; p = p; F = F; q = q; G = G; r = q + length G.cells }

-- Its cells, and what stands behind them.
abbrev pub branch_cells : Emitter → Emitter → Emitter → ℕ → ℕ → List ℕ → List Cell → List Cell
branch_cells e f g b s xs rest =
    let B = branch_places e f g b s xs in
    keeps b s xs ++ (B.E.cells ++ (gates B.p B.E ++ (B.F.cells ++ (B.G.cells ++ rest))))

-- Rec: before its branches stand "again" at b and the registers, at o what starts a round, from m on the words of the round.
pub record LoopPlaces : Type 0 where
  pub o : ℕ
  pub m : ℕ
  pub us : List ℕ
  pub k : ℕ

abbrev pub loop_places : ℕ → List ℕ → LoopPlaces
loop_places b xs =
    let o = 1 after b + length xs in
    record { o = o; m = 1 after o; us = wires_from (1 after o) (length xs); k = 1 after o + length xs }

-- What is said of each of the cells that stand from n on.
abbrev pub Each : (ℕ → Cell → Type 0) → ℕ → List Cell → Type 0
Each P n [] = Unit {0}
Each P n (c ∷ cs) = P n c × Each P (suc n) cs

module _ (P : ℕ → Cell → Type 0) where
  pub each-split : (a b : List Cell) (n m : ℕ) → m ≡ n + length a → Each P n (a ++ b) → Each P n a × Each P m b
  each-split [] b n m p h = let q : m ≡ n = omega arith in (tt, rw q h)
  each-split (c ∷ a) b n m p h =
      let r = each-split a b (suc n) m (omega arith) h.1 in
      ((h.0, r.0), r.1)

  pub each-join : (a b : List Cell) (n m : ℕ) → m ≡ n + length a → Each P n a → Each P m b → Each P n (a ++ b)
  each-join [] b n m p h k = let q : n ≡ m = omega arith in rw q k
  each-join (c ∷ a) b n m p h k = (h.0, each-join a b (suc n) m (omega arith) h.1 k)

  -- The parts of a test with two branches.
  module _ (e f g : Emitter) (b s : ℕ) (xs : List ℕ) (rest : List Cell) where
    abbrev places : BranchPlaces
    places = branch_places e f g b s xs

    pub record Branches : Type 0 where
      pub on-keeps : Each P b (keeps b s xs)
      pub on-e : Each P places.n places.E.cells
      pub on-gates : Each P places.p (gates places.p places.E)
      pub on-f : Each P (7 after places.p) places.F.cells
      pub on-g : Each P places.q places.G.cells
      pub on-rest : Each P places.r rest

    pub branch-split : Each P b (branch_cells e f g b s xs rest) → Branches
    branch-split h =
        let B = places in
        let t3 : List Cell = B.G.cells ++ rest in
        let t2 : List Cell = B.F.cells ++ t3 in
        let t1 : List Cell = gates B.p B.E ++ t2 in
        let t0 : List Cell = B.E.cells ++ t1 in
        let h0 = each-split (keeps b s xs) t0 b B.n refl h in
        let h1 = each-split B.E.cells t1 B.n B.p refl h0.1 in
        let h2 = each-split (gates B.p B.E) t2 B.p (7 after B.p) (omega arith) h1.1 in
        let h3 = each-split B.F.cells t3 (7 after B.p) B.q refl h2.1 in
        let h4 = each-split B.G.cells rest B.q B.r refl h3.1 in
        record { on-keeps = h0.0; on-e = h1.0; on-gates = h2.0; on-f = h3.0; on-g = h4.0; on-rest = h4.1 }

    pub branch_join : Branches → Each P b (branch_cells e f g b s xs rest)
    branch_join h =
        let B = places in
        let t3 : List Cell = B.G.cells ++ rest in
        let t2 : List Cell = B.F.cells ++ t3 in
        let t1 : List Cell = gates B.p B.E ++ t2 in
        let t0 : List Cell = B.E.cells ++ t1 in
        each-join (keeps b s xs) t0 b B.n refl h.on-keeps
        (each-join B.E.cells t1 B.n B.p refl h.on-e
        (each-join (gates B.p B.E) t2 B.p (7 after B.p) (omega arith) h.on-gates
        (each-join B.F.cells t3 (7 after B.p) B.q refl h.on-f
        (each-join B.G.cells rest B.q B.r refl h.on-g h.on-rest))))
