-- Pieces: text as a list of bytes, numbers in decimal, templates with blanks, and buffers that pieces are written to. Definitions only.
-- docs/READING.md: "The Verilog text". Read after: meaning's `Choices`. Assumes nothing.
use Rattle.std.specs.Prelude.{ℕ, zero, suc, ◌+◌, ◌-◌, ◌/◌, ◌%◌, ◌≡◌, List, [], ◌∷◌, ◌++◌, eqb, ltb, length}
use Prim.Native.Char.{code}
use Prim.Native.String.{String, [] as none, ◌∷◌ as ◌and◌}
use lib.Seq.{sets}
use Rattle.meaning.specs.Choices.{pick, at}
use Rattle.spelling.specs.declared.Blanks.{Blanks}

-- A text's bytes.
abbrev pub bytes : String → List ℕ
bytes none = []
bytes (c and s) = code c ∷ bytes s

-- The byte of a digit, 0 to 9.
abbrev pub digit : ℕ → ℕ
digit d = code "0" + d

-- A number in decimal: below 10 one digit, else the digits of its tenth and then its last. k is more than the number.
abbrev pub Spell : Type 0
Spell = ℕ → List ℕ

abbrev pub last_after : Spell → Spell
last_after tenth n = tenth (n / 10) ++ (digit (n % 10) ∷ [])

unfoldable pub digits_within : ℕ → Spell
digits_within zero = λ n. []
digits_within (suc k) = λ n. pick {A = Spell} (ltb n 10) (λ m. digit m ∷ []) (last_after (digits_within k)) n

unfoldable pub digits : ℕ → List ℕ
digits n = digits_within (suc n) n

-- One text for each number below n, one after the other.
unfoldable pub rows : (ℕ → List ℕ) → ℕ → List ℕ
rows f zero = []
rows f (suc n) = rows f n ++ f n

-- A template filled with a width and the numbers n and x.
abbrev pub blanks : ℕ → ℕ → ℕ → Blanks
blanks w n x = record { n = n; x = x; y = 0; z = 0; width = w; top = w - 1 }

-- What a byte of a template gives: N, X, Y and Z numbers, W the width, T the highest bit's number, every other byte itself.
unfoldable pub spelled : Blanks → ℕ → List ℕ
spelled b c =
    pick (eqb c (code "N")) (digits b.n)
    (pick (eqb c (code "X")) (digits b.x)
    (pick (eqb c (code "Y")) (digits b.y)
    (pick (eqb c (code "Z")) (digits b.z)
    (pick (eqb c (code "W")) (digits b.width)
    (pick (eqb c (code "T")) (digits b.top)
    (c ∷ []))))))

-- A template with its blanks filled in.
abbrev pub filled : Blanks → List ℕ → List ℕ
filled b t = rows (λ j. spelled b (at t j)) (length t)

-- l with the bytes vs stored from index i on, as far as l goes.
unfoldable pub placed : List ℕ → ℕ → List ℕ → List ℕ
placed l i vs = sets l i vs

-- A piece is written from index i on: where the next one goes, and what the buffer then holds.
pub record Wrote (before : List ℕ) (i : ℕ) (piece : List ℕ) (next : ℕ) (after : List ℕ) : Type 0 where
  pub next_is : next ≡ i + length piece
  pub holds : after ≡ placed before i piece
