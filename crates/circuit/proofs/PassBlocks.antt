-- Law: the blocks of well-typed terms pass the cell checks; their done is a bit and their outputs are words. Assumes nothing.
use Prim.Native.Nat.{ℕ, ◌+◌, ◌≤◌, ◌<◌}
use mathlib.Core.Path.{◌≡◌, refl, ◌∙◌}
use mathlib.Core.Bool.{Bool, true, false}
use mathlib.Core.List.{List, [], ◌∷◌, ◌++◌}
use native.Mathlib.Omega.{arith}
use lib.Dec.{ltb}
use lib.ListN.{length, length-append}
use borrow.Author.Tests.{ltb-true, ltb-false, le-ltb}
use Rattle.meaning.specs.Choices.{pick, at}
use Rattle.meaning.proofs.Typed.{LeafFits, const_leaf, field_leaf, op_leaf}
use Rattle.circuit.specs.Cells.{Cell, and_cell}
use Rattle.circuit.specs.Pieces.{◌after◌, Block, Emitter, rise}
use Rattle.circuit.specs.Blocks.{operation_cell, leaf_block, seq_block, par_block}
use Rattle.circuit.proofs.Places.{PairPlaces, seq_places, par_places, Each, each-split, each-join}
use Rattle.circuit.proofs.Gives.{Gives}
use Rattle.circuit.proofs.Passes.{
  BitBelow,
  Passes,
  not_passes,
  and_passes,
  constant_passes,
  register_passes,
  choice_passes,
  copy_passes,
  two_passes,
  one_passes,
  kind_of_cell,
}
use Rattle.circuit.proofs.PassPieces.{HasKind, AllWords, words_up, words_append, word_at, rise-pass}

module _ (kinds : ℕ → ℕ) (w given count : ℕ) where
  -- A block at b: its cells pass; done is a bit and the outputs are words, before its end.
  pub record Fine (b : ℕ) (N : Block) : Type 0 where
    pub cells-pass : Each (Passes w given count kinds) b N.cells
    pub done-bit : BitBelow kinds (b + length N.cells) N.done
    pub out-words : AllWords kinds (b + length N.cells) N.outs

  -- An emitter makes such blocks of i input words, where `kinds` tells its cells and there is room.
  abbrev pub Passing : Emitter → ℕ → Type 0
  Passing N i = (b s : ℕ) (xs : List ℕ) → length xs ≡ i → BitBelow kinds b s → AllWords kinds b xs →
      Each (HasKind kinds) b (N b s xs).cells → b + length (N b s xs).cells ≤ count → Fine b (N b s xs)

  -- Leaves.
  word-by-arity : (k v : ℕ) (xs : List ℕ) (two : Bool) → ltb k 20 ≡ two → 13 ≤ k → 8 ≤ kind_of_cell (operation_cell k v xs)
  word-by-arity k v xs true e h = rw (le-ltb k 13 h, e) (omega arith)
  word-by-arity k v xs false e h = rw (le-ltb k 13 h, e) (omega arith)

  operation-word : (k v i : ℕ) (xs : List ℕ) → LeafFits w k v i → 8 ≤ kind_of_cell (operation_cell k v xs)
  operation-word k v i xs (const_leaf e h) = rw e (omega arith)
  operation-word k v i xs (field_leaf e h) = rw e (omega arith)
  operation-word k v i xs (op_leaf h h' e) = word-by-arity k v xs (ltb k 20) refl h

  pass-by-arity : (k v n : ℕ) (xs : List ℕ) (two : Bool) → ltb k 20 ≡ two → 13 ≤ k → k ≤ 22 → length xs ≡ pick two 2 1 →
      AllWords kinds n xs → Passes w given count kinds n (operation_cell k v xs)
  pass-by-arity k v n xs true e h h' q a =
      rw (le-ltb k 13 h, e) (two_passes k (at xs 0) (at xs 1) h (omega (arith, ltb-true k 20 e))
      (word_at kinds xs 0 n (omega arith) a) (word_at kinds xs 1 n (omega arith) a))
  pass-by-arity k v n xs false e h h' q a =
      rw (le-ltb k 13 h, e) (one_passes k (at xs 0) (ltb-false k 20 e) h' (word_at kinds xs 0 n (omega arith) a))

  operation-passes : (k v i n : ℕ) (xs : List ℕ) → LeafFits w k v i → length xs ≡ i → AllWords kinds n xs →
      Passes w given count kinds n (operation_cell k v xs)
  operation-passes k v i n xs (const_leaf e h) q a = rw e (constant_passes v h)
  operation-passes k v i n xs (field_leaf e h) q a = rw e (copy_passes (at xs v) (word_at kinds xs v n (omega arith) a))
  operation-passes k v i n xs (op_leaf h h' e) q a = pass-by-arity k v n xs (ltb k 20) refl h h' (q ∙ e) a

  pub leaf-passing : (k v i : ℕ) → LeafFits w k v i → Passing (leaf_block k v) i
  leaf-passing k v i f b s xs q h a ks l =
      let k0 = ks.0 in
      let k1 = ks.1.0 in
      let k2 : kinds (2 after b) ≡ kind_of_cell (operation_cell k v xs) = ks.1.1.0 in
      let o : 8 ≤ kinds (2 after b) = rw k2 (operation-word k v i xs f) in
      let k3 = ks.1.1.1.0 in
      record {
        cells-pass = (
          not_passes s h,
          (
            register_passes (3 after b) (omega arith, omega arith),
            (
              operation-passes k v i (2 after b) xs f q (words_up kinds xs b (2 after b) (omega arith) a),
              (choice_passes s (2 after b) (1 after b) (omega arith, h.1) (omega arith, o) (omega arith, omega arith), tt),
            ),
          ),
        );
        done-bit = (omega arith, omega arith);
        out-words = ((omega arith, omega arith), tt);
      }

  pub seq-passing : (f g : Emitter) (i m : ℕ) → Passing f i → Gives f i m → Passing g m → Passing (seq_block f g) i
  seq-passing f g i m ff of fg b s xs q h a ks l =
      let P : PairPlaces = seq_places f g b s xs in
      let t2 : List Cell = and_cell P.F.done P.G.done ∷ [] in
      let t1 : List Cell = P.G.cells ++ t2 in
      let t0 : List Cell = rise P.p P.F.done ++ t1 in
      let len : b + length (P.F.cells ++ t0) ≡ 1 after P.r = simp length-append (omega arith) in
      let k0 = each-split (HasKind kinds) P.F.cells t0 b P.p refl ks in
      let k1 = each-split (HasKind kinds) (rise P.p P.F.done) t1 P.p (3 after P.p) (omega arith) k0.1 in
      let k2 = each-split (HasKind kinds) P.G.cells t2 (3 after P.p) P.r refl k1.1 in
      let kr : kinds (2 after P.p) ≡ 2 = k1.0.1.1.0 in
      let kd : kinds P.r ≡ 2 = k2.1.0 in
      let x : Fine b P.F = ff b s xs q h a k0.0 (omega arith) in
      let y : Fine (3 after P.p) P.G =
      fg (3 after P.p) (2 after P.p) P.F.outs (of b s xs q) (omega arith, omega arith)
      (words_up kinds P.F.outs P.p (3 after P.p) (omega arith) x.out-words) k2.0 (omega arith) in
      let xd : P.F.done < P.p = x.done-bit.0 in
      let yd : P.G.done < P.r = y.done-bit.0 in
      record {
        cells-pass = each-join (Passes w given count kinds) P.F.cells t0 b P.p refl x.cells-pass
            (each-join (Passes w given count kinds) (rise P.p P.F.done) t1 P.p (3 after P.p) (omega arith)
            (rise-pass kinds w given count P.p P.F.done x.done-bit k1.0 (omega arith))
            (each-join (Passes w given count kinds) P.G.cells t2 (3 after P.p) P.r refl y.cells-pass
            (and_passes P.F.done P.G.done (omega arith, x.done-bit.1) (omega arith, y.done-bit.1), tt)));
        done-bit = (omega arith, omega arith);
        out-words = words_up kinds P.G.outs P.r _ (omega arith) y.out-words;
      }

  pub par-passing : (f g : Emitter) (i : ℕ) → Passing f i → Passing g i → Passing (par_block f g) i
  par-passing f g i ff fg b s xs q h a ks l =
      let P : PairPlaces = par_places f g b s xs in
      let t1 : List Cell = and_cell P.F.done P.G.done ∷ [] in
      let t0 : List Cell = P.G.cells ++ t1 in
      let len : b + length (P.F.cells ++ t0) ≡ 1 after P.r = simp length-append (omega arith) in
      let k0 = each-split (HasKind kinds) P.F.cells t0 b P.p refl ks in
      let k1 = each-split (HasKind kinds) P.G.cells t1 P.p P.r refl k0.1 in
      let kd : kinds P.r ≡ 2 = k1.1.0 in
      let x : Fine b P.F = ff b s xs q h a k0.0 (omega arith) in
      let y : Fine P.p P.G =
      fg P.p s xs q (omega arith, h.1) (words_up kinds xs b P.p (omega arith) a) k1.0 (omega arith) in
      let xd : P.F.done < P.p = x.done-bit.0 in
      let yd : P.G.done < P.r = y.done-bit.0 in
      record {
        cells-pass = each-join (Passes w given count kinds) P.F.cells t0 b P.p refl x.cells-pass
            (each-join (Passes w given count kinds) P.G.cells t1 P.p P.r refl y.cells-pass
            (and_passes P.F.done P.G.done (omega arith, x.done-bit.1) (omega arith, y.done-bit.1), tt));
        done-bit = (omega arith, omega arith);
        out-words = words_append kinds P.F.outs P.G.outs _
            (words_up kinds P.F.outs P.p _ (omega arith) x.out-words)
            (words_up kinds P.G.outs P.r _ (omega arith) y.out-words);
      }
