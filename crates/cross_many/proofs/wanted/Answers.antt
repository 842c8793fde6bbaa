-- `cross_many::wanted` meets its contract: room for two crossings a shape and line is enough, else they are counted.
use Rattle.cross_many.proofs.ManyLaws.{rows_fit_machine, room_for_two}
use borrow.Author.Rules.{rules}
use Rattle.cross_many.proofs.wanted.Goals as goal

pub overflow_mul-drawing : goal.overflow_mul-drawing
overflow_mul-drawing c = search (rows_fit_machine, rules)

pub returns-then-drawing-count : goal.returns-then-drawing-count
returns-then-drawing-count c = search (room_for_two, rules)
