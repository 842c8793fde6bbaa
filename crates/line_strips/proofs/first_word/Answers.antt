-- `line_strips::first_word` meets its contract.
use Rattle.line_strips.proofs.Flips.{layable_word}
use Rattle.line_strips.proofs.Blocks.{word_starts}
use borrow.Author.Rules.{rules}
use Rattle.line_strips.proofs.first_word.Goals as goal

pub lay-requires : goal.lay-requires
lay-requires c = (search rules, search rules, search (layable_word, rules))

pub returns : goal.returns
returns c = search (word_starts, rules)
