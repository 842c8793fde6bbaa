-- `cross_positions::rounded` meets its contract: a NaN has no position; else the bits give sign and size, and the range is judged on them.
use Rattle.cross_positions.proofs.Rounding.{nan_bad, plus_bad, plus-at, minus_bad, minus_at}
use Rattle.cross_positions.proofs.rounded.Goals as goal

pub returns-then-is_nan : goal.returns-then-is_nan
returns-then-is_nan c = search nan_bad

pub returns-then-size-gt-GREATEST : goal.returns-then-size-gt-GREATEST
returns-then-size-gt-GREATEST c = search plus_bad

pub returns-then-bits-lt-SIGN : goal.returns-then-bits-lt-SIGN
returns-then-bits-lt-SIGN c = search plus-at

pub returns-then-size-ge-MIDDLE : goal.returns-then-size-ge-MIDDLE
returns-then-size-ge-MIDDLE c = search minus_bad

pub returns : goal.returns
returns c = search minus_at
