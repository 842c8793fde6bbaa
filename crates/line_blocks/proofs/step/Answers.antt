-- A block planned, its row, its events, and the walls that they finish.
use Rattle.line_blocks.proofs.PassBlocks.{ask_can_plan, ask_evaluable, ask_fillable, ask_sweepable, block_made}
use Rattle.line_blocks.proofs.StepLaws.{step_delivering, step_done}
use mathlib.Core.Path.{refl}
use borrow.Author.Rules.{rules}
use Rattle.line_blocks.proofs.step.Goals as goal

pub plan-ended-requires : goal.plan-ended-requires
plan-ended-requires c = (ask_can_plan c.requires.0.ask _ c.requires.1 c.requires.2, c.requires.1.said)

pub block_row-row-requires : goal.block_row-row-requires
block_row-row-requires c =
    let ask = c.requires.0.ask in
    (ask_evaluable ask, ask_fillable ask c.plan-ended.result c.plan-ended.ensures.0 c.plan-ended.ensures.1)

pub sweep-m-requires : goal.sweep-m-requires
sweep-m-requires c = (ask_sweepable c.requires.0.ask c.plan-ended.result c.plan-ended.ensures.0 c.plan-ended.ensures.1 (search rules), c.plan-ended.ensures.1)

pub deliver-run-requires : goal.deliver-run-requires
deliver-run-requires c = step_delivering _ c.is_some.ensures (block_made c.requires.0.ask c.plan-ended.result c.plan-ended.ensures.0 c.plan-ended.ensures.1 c.block_row-row.ensures c.sweep-m.ensures refl c.plan-ended.ensures.2) c.requires.0

pub shape_of-words : goal.shape_of-words
shape_of-words c = c.block_row-row.ensures.long

pub returns-clause-step : goal.returns-clause-step
returns-clause-step c = step_done _ c.is_some.ensures (block_made c.requires.0.ask c.plan-ended.result c.plan-ended.ensures.0 c.plan-ended.ensures.1 c.block_row-row.ensures c.sweep-m.ensures c.goes_past.ensures c.plan-ended.ensures.2) c.deliver-run.ensures.put
