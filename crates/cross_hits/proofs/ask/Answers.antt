-- `cross_hits::ask` meets its contract: by whether the line is level on the axis.
use native.Mathlib.Omega.{arith}
use Rattle.cross_axis.proofs.AxisLaws.{beside-starts, zero_known}
use Rattle.cross_hits.proofs.HitLaws.{chosen_picked, told_level, told_slant, fillable_part, wider, sixteen_most}
use borrow.Author.Rules.{rules}
use Rattle.cross_hits.proofs.ask.Goals as goal

pub returns-then-is_level-clause-told : goal.returns-then-is_level-clause-told
returns-then-is_level-clause-told c = λ probe cuts masks crosses. told_level crosses _ _ (search (zero_known, rules)) (chosen_picked _ (λ j b p. search rules) c.picked.ensures)

pub returns-then-is_level-clause-beside : goal.returns-then-is_level-clause-beside
returns-then-is_level-clause-beside c = (beside-starts, beside-starts)

pub fill_slant-requires-clause-fillable : goal.fill_slant-requires-clause-fillable
fill_slant-requires-clause-fillable c = search (fillable_part, rules)

pub fill_slant-requires-clause-component_value : goal.fill_slant-requires-clause-component_value
fill_slant-requires-clause-component_value c = search (zero_known, rules)

pub returns-clause-told : goal.returns-clause-told
returns-clause-told c = λ probe cuts masks crosses. told_slant crosses _ (search (zero_known, rules)) _ (search rules) c.fill_slant.ensures (search rules) _ (chosen_picked _ (λ j b p. search rules) c.picked-2.ensures)

pub returns-clause-beside : goal.returns-clause-beside
returns-clause-beside c = (wider _ _ _ (search rules) (omega arith) c.fill_slant.ensures.lessers_beside, wider _ _ _ (search rules) (omega arith) c.fill_slant.ensures.greaters_beside)
