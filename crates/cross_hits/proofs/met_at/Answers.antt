-- `cross_hits::met_at` meets its contract: by whether the shape is a half-space.
use Rattle.cross_hits.proofs.HitLaws.{met-twice, met_never, met_half}
use borrow.Author.Rules.{rules}
use Rattle.cross_hits.proofs.met_at.Goals as goal

pub returns-then-columns-i-ne0 : goal.returns-then-columns-i-ne0
returns-then-columns-i-ne0 c = λ cuts at. search (met_half, rules)

pub returns-then-a-b : goal.returns-then-a-b
returns-then-a-b c = λ cuts at. search (met-twice, rules)

pub returns : goal.returns
returns c = λ cuts at. search (met_never, rules)
