use Rattle.line_sweeping.proofs.EventLaws.{worded_start, word_part, worded_sweepable, worded_swept, worded_more, worded_end}
use Rattle.line_sweeping.proofs.AloneLaws.{said-less}
use Prim.Native.Nat.{◌+◌, ◌/◌, ◌%◌, ◌<◌, min}
use native.Mathlib.Omega.{arith}
use borrow.Author.Rules.{rules}
use Rattle.line_sweeping.proofs.sweep.Goals as goal

pub loop-k-init : goal.loop-k-init
loop-k-init c = search (worded_start, rules)

pub sweep_part-f-requires : goal.sweep_part-f-requires
sweep_part-f-requires c =
    let some : c.loop-k.k < c.args.p.size / 64 + min 1 (c.args.p.size % 64) = omega (arith, c.div_ceil-k-end.ensures) in
    (rw c.min.ensures (word_part c.args.p.size c.loop-k.k some), worded_sweepable c.loop-k.invariant c.min.result (omega (arith, c.min.ensures)), said-less c.min.result c.requires.1 (omega (arith, c.min.ensures)), worded_swept c.loop-k.invariant some)

pub loop-k-preserved : goal.loop-k-preserved
loop-k-preserved c = worded_more c.loop-k.invariant _ _ (rw c.min.ensures at c.sweep_part-f.ensures)

pub returns : goal.returns
returns c = search (worded_end, rules)
