-- `accepting::prepare` meets its contract: a sheet is refused, or its tree is built.
use Rattle.accepting.proofs.PreparedLaws.{few_codes, planned, built}
use borrow.Author.Rules.{rules}
use Rattle.accepting.proofs.prepare.Goals as goal

pub build_tree-built-requires : goal.build_tree-built-requires
build_tree-built-requires c =
    let f = few_codes _ _ _ _ c.in_ok-accepted.ensures in
    let p = planned _ _ _ _ c.in_ok-accepted.ensures in
    search rules

pub returns-clause-says : goal.returns-clause-says
returns-clause-says c = built _ _ _ _ c.in_ok-accepted.ensures _ _ c.build_tree-built.ensures.dwarfed
