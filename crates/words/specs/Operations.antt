-- Operations: what a number from 13 on names. Definitions only. docs/READING.md: "Term tables". Assumes nothing.
use Rattle.std.specs.Prelude.{ℕ, eqb, ltb}
use Rattle.meaning.specs.Choices.{pick}
use Rattle.words.specs.declared.Operation.{Operation}
use Rattle.words.specs.declared.Operation.TheVariants as op

abbrev pub operation_named : ℕ → Operation
operation_named k =
    pick (eqb k 13) op.Add
    (pick (eqb k 14) op.Subtract
    (pick (eqb k 15) op.And
    (pick (eqb k 16) op.Or
    (pick (eqb k 17) op.Xor
    (pick (eqb k 18) op.Equal
    (pick (eqb k 20) op.Complement
    (pick (eqb k 21) op.ShiftLeft
    (pick (ltb k 20) op.Less op.ShiftRight))))))))
