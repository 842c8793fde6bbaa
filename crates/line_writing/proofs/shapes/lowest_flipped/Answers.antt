use Rattle.line_writing.proofs.GroupLaws.{group_positions, group-within, few_group, group_many}
use borrow.Author.Rules.{rules}
use Rattle.line_writing.proofs.shapes.lowest_flipped.Goals as goal

pub group_start-g-requires : goal.group_start-g-requires
group_start-g-requires c = (search rules, search (group_positions, rules))

pub slice_bounds-part-end : goal.slice_bounds-part-end
slice_bounds-part-end c = search (group-within, rules)

pub tally-requires : goal.tally-requires
tally-requires c = search (few_group, rules)

pub least-requires : goal.least-requires
least-requires c = search (few_group, rules)

pub returns : goal.returns
returns c = search group_many
