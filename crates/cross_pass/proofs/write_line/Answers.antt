-- `cross_pass::write_line` meets its contract: each list is written from where the line begins.
use Rattle.cross_pass.proofs.PutLaws.{part_room, numbered, line_put}
use borrow.Author.Rules.{rules}
use Rattle.cross_pass.proofs.write_line.Goals as goal

pub write-requires : goal.write-requires
write-requires c = search (part_room, rules)

pub returns-clause-put : goal.returns-clause-put
returns-clause-put c = line_put _ _ _ _ _ _ _ _ _ _ _ _ _ _ c.write.ensures (numbered _ _ _ _ _ (search rules) (c.fill.ensures.after (λ y e. search rules)))
