-- `line_strips::flip_start` meets its contract.
use Rattle.line_strips.proofs.Flips.{start_flipped, part_bytes}
use borrow.Author.Rules.{rules}
use Rattle.line_strips.proofs.flip_start.Goals as goal

pub flip_row-requires : goal.flip_row-requires
flip_row-requires c = (search rules, search rules, search (part_bytes, rules))

pub returns : goal.returns
returns c = search (start_flipped, rules)
