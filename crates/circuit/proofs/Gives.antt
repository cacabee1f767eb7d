-- Law: a term's block has as many output wires as `outs` counts. Assumes nothing.
use Prim.Native.Nat.{ℕ}
use mathlib.Core.Path.{◌≡◌, refl, ◌∙◌}
use mathlib.Core.List.{List}
use native.Mathlib.Omega.{arith}
use lib.ListN.{length, length-append}
use Rattle.meaning.specs.Terms.{Term}
use Rattle.meaning.proofs.Typed.{Typed, leaf_typed, seq_typed, par_typed, ite_typed, rec_typed}
use Rattle.circuit.specs.Pieces.{Emitter}
use Rattle.circuit.specs.Blocks.{emit}
use Rattle.circuit.proofs.Lengths.{wires-length, kept-length}
use Rattle.circuit.proofs.Places.{PairPlaces, par_places, LoopPlaces, loop_places}

-- On i input wires an emitter gives o output wires.
abbrev pub Gives : Emitter → ℕ → ℕ → Type 0
Gives N i o = (b s : ℕ) (xs : List ℕ) → length xs ≡ i → length (N b s xs).outs ≡ o

pub gives : {w : ℕ} {T : Term} {i o : ℕ} → Typed w T i o → Gives (emit T) i o
gives (leaf_typed e l u h) b s xs q = refl
gives (seq_typed m tf tg) b s xs q = gives tg _ _ _ (gives tf _ _ _ q)
gives (par_typed {f = f} {g = g} m n l tf tg) b s xs q =
    let B : PairPlaces = par_places (emit f) (emit g) b s xs in
    omega (arith, length-append B.F.outs B.G.outs, gives tf b s xs q, gives tg B.p s xs q)
gives (ite_typed te tf tg) b s xs q = wires-length _ _ ∙ gives tf _ _ _ (kept-length xs b ∙ q)
gives (rec_typed te tf tg) b s xs q =
    let L : LoopPlaces = loop_places b xs in
    gives tf _ _ _ (kept-length L.us L.k ∙ (wires-length (length xs) L.m ∙ q))
