-- `cross_line::number_at` meets its contract: a number that the list lacks is a NaN.
use borrow.Author.Rules.{rules}
use Rattle.std.proofs.lemmas.Option.{unwrap_or-slice_get}
use Rattle.cross_line.proofs.LentLaws.{nan_is}
use Rattle.cross_line.proofs.number_at.Goals as goal

pub returns : goal.returns
returns c = search (nan_is, unwrap_or-slice_get, rules)
