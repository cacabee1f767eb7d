-- Kinds: what a kind's number makes of a term. Definitions only. docs/READING.md: "Term tables". Assumes nothing.
use Rattle.std.specs.Prelude.{ℕ, eqb, ltb}
use Rattle.meaning.specs.declared.Kind.{Kind}
use Rattle.meaning.specs.declared.Kind.TheVariants as kind
use Rattle.meaning.specs.Choices.{pick}

-- What a kind's number names. Numbers of no kind name one too: refusal 3 judges them.
abbrev pub kind_named : ℕ → Kind
kind_named k =
    pick (eqb k 1) kind.Seq
    (pick (eqb k 2) kind.Par
    (pick (eqb k 3) kind.Ite
    (pick (eqb k 4) kind.Rec
    (pick (eqb k 9) kind.Const
    (pick (ltb k 13) kind.Field
    (pick (ltb k 20) kind.Binary kind.Unary))))))
