-- A Seq or a Par leaves c unused, and has no values to fit.
use Rattle.std.proofs.Common.{◌≡◌, sym, ◌∙◌, inl, inr}
use Rattle.meaning.specs.declared.Kind.TheVariants as kind
use Rattle.meaning.specs.Checks.{used_of, operands_of}
use Rattle.meaning.proofs.Naming.{named}
use Rattle.kinds.proofs.early.Goals as goal

pub returns-in-Seq : goal.returns-in-Seq
unfolding used_of operands_of
returns-in-Seq c = elim c.in-Seq.is [
  | inl s ↦ (let e : c.args.kind ≡ 1 = named c.args.kind kind.Seq (sym c.from.ensures ∙ s) in rw (c.require-in-Seq.ensures, e))
  | inr p ↦ (let e : c.args.kind ≡ 2 = named c.args.kind kind.Par (sym c.from.ensures ∙ p) in rw (c.require-in-Seq.ensures, e))
]
