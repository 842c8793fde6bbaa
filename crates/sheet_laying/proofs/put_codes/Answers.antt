use Rattle.sheet_laying.proofs.Putting.{putting_none, high_there, low_there, putting_more, putting_all}
use borrow.Author.Rules.{rules}
use Rattle.sheet_laying.proofs.put_codes.Goals as goal

pub loop-i-init : goal.loop-i-init
loop-i-init c = search putting_none

pub bounds-bytes-at : goal.bounds-bytes-at
bounds-bytes-at c = search high_there

pub bounds-bytes-at-in-loop-i : goal.bounds-bytes-at-in-loop-i
bounds-bytes-at-in-loop-i c = search low_there

pub loop-i-preserved : goal.loop-i-preserved
loop-i-preserved c = search (putting_more, rules)

pub returns : goal.returns
returns c = search putting_all
