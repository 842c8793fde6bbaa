-- What the code's spans say of a box: none where a position may not be given.
use Rattle.std.specs.Prelude.{Option, Some, None}
use Rattle.cross_ranks.specs.Ranks.{unrank}
use Rattle.cross_shapes.specs.Shapes.{Range, wrong, missed, free, from}
use Rattle.cross_shapes.specs.declared.Span.{Span}
use Rattle.cross_shapes.specs.declared.Span.TheVariants.{Missed, Free, Between}

abbrev pub span_of : Option Span → Range
span_of None = wrong
span_of (Some Missed) = missed
span_of (Some Free) = free
span_of (Some (Between a b)) = from (unrank a) (unrank b)
