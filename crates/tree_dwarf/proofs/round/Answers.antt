use borrow.Author.Rules.{rules}
use Rattle.tree_dwarf.proofs.RoundLaws.{compress_room, round_to}
use Rattle.tree_dwarf.proofs.round.Goals as goal

pub compress-requires : goal.compress-requires
compress-requires c = search (compress_room, rules)

pub returns : goal.returns
returns c = search (round_to, rules)
