-- Shapes: the refusals 7 and 8 and what a term gives, from what is known of its operands. Definitions only.
-- docs/READING.md: "Term tables", "Cells". Assumes nothing.
use Rattle.std.specs.Prelude.{◌+◌, ◌*◌, ◌≤◌, Bool, eqb, leb, Result, Ok, Err}
use Rattle.meaning.specs.declared.Cause.{Cause}
use Rattle.meaning.specs.declared.Cause.TheVariants as cause
use Rattle.meaning.specs.declared.Known.{Known}
use Rattle.meaning.specs.Choices.{pick, and}
use Rattle.meaning.specs.Counts.{capped}

-- Small enough that no sum of three wraps.
pub record Small (f : Known) : Type 0 where
  pub few_ins : f.ins ≤ 16
  pub few_outs : f.outs ≤ 16
  pub few_cells : f.cells ≤ 4097

-- What each combinator makes of its operands. Seq and Par:
unfoldable pub seq_shape : Known → Known → Result Known Cause
seq_shape f g =
    pick (eqb f.outs g.ins)
    (Ok (record { ins = f.ins; outs = g.outs; cells = capped (f.cells + g.cells + 4) }))
    (Err cause.WordCounts)

unfoldable pub par_shape : Known → Known → Result Known Cause
par_shape f g =
    pick (eqb f.ins g.ins)
    (pick (leb (f.outs + g.outs) 16)
    (Ok (record { ins = f.ins; outs = f.outs + g.outs; cells = capped (f.cells + g.cells + 1) }))
    (Err cause.ParOutputs))
    (Err cause.WordCounts)

-- Ite and Rec, which share what they ask of the test.
abbrev pub test_passes : Known → Known → Known → Bool
test_passes e f g = and (eqb e.ins f.ins) (and (eqb e.ins g.ins) (eqb e.outs 1))

unfoldable pub ite_shape : Known → Known → Known → Result Known Cause
ite_shape e f g =
    pick (and (test_passes e f g) (eqb f.outs g.outs))
    (Ok (record {
      ins = e.ins;
      outs = f.outs;
      cells = capped (2 * e.ins + e.cells + f.cells + g.cells + 9 + f.outs);
    }))
    (Err cause.WordCounts)

unfoldable pub rec_shape : Known → Known → Known → Result Known Cause
rec_shape e f g =
    pick (and (test_passes e f g) (eqb g.outs e.ins))
    (Ok (record { ins = e.ins; outs = f.outs; cells = capped (4 * e.ins + e.cells + f.cells + g.cells + 16) }))
    (Err cause.WordCounts)
