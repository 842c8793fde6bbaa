use borrow.Author.Rules.{rules}
use Rattle.line_strips.proofs.Lays.{word_none, word_more, word_end, alone_named, alone_lays}
use Rattle.line_strips.proofs.lay.Goals as goal

pub lay_run-requires : goal.lay_run-requires
lay_run-requires c = (search rules, search rules, search rules, search (alone_named, rules))

pub returns-then-from : goal.returns-then-from
returns-then-from c = search (alone_lays, rules)

pub loop-j-init : goal.loop-j-init
loop-j-init c = search (word_none, rules)

pub loop-j-preserved : goal.loop-j-preserved
loop-j-preserved c = search (word_more, rules)

pub returns : goal.returns
returns c = search (word_end, rules)
