-- The events of a block, by its columns: where metal changes, and where it goes on past the last column of its line.
use Rattle.std.specs.Prelude.{ℕ, zero, suc, ◌+◌, Bool, true, not, ◌&&◌, cond, List, [], ◌∷◌, ◌++◌, ℤ, get_or}
use Rattle.std.specs.Bool.{beq}
use Rattle.lines.specs.AtIndex.{group_ends_at}
use Rattle.line_lists.specs.Block.{columns, is_start}

-- All that stands at the position of column j has acted, where the block's first crossing is a: a line's start stands alone.
unfoldable pub ends_in : List ℕ → List ℤ → ℕ → List ℕ → ℕ → Bool
ends_in ls ps a cols j = cond (is_start cols j) true (group_ends_at ls ps (a + get_or cols j 0))

-- What there is after a column, with `metal` before it: what its bit says, once all that stands there has acted.
abbrev pub settled : Bool → Bool → Bool → Bool
settled ends bit metal = cond ends bit metal

-- Column j, where metal changes at it.
abbrev pub changes_at : Bool → Bool → Bool → ℕ → List ℕ
changes_at ends bit metal j = cond (ends && not (beq metal bit)) (j ∷ []) []

-- And column j again, further on, where metal goes on past it and it is the last of its line.
abbrev pub opens_at : Bool → Bool → ℕ → List ℕ
opens_at last metal j = cond (last && metal) ((columns + j) ∷ []) []

abbrev pub events_at : Bool → Bool → Bool → Bool → ℕ → List ℕ
events_at ends bit last metal j = changes_at ends bit metal j ++ opens_at last (settled ends bit metal) j

-- Nothing runs on into another line.
abbrev pub metal_next : Bool → Bool → Bool → Bool → Bool
metal_next ends bit last metal = not last && settled ends bit metal

-- After the first n columns: what there is, and the events.
unfoldable pub metal_after : (ℕ → Bool) → (ℕ → Bool) → (ℕ → Bool) → Bool → ℕ → Bool
metal_after ends bits last metal zero = metal
metal_after ends bits last metal (suc n) = metal_next (ends n) (bits n) (last n) (metal_after ends bits last metal n)

unfoldable pub events_after : (ℕ → Bool) → (ℕ → Bool) → (ℕ → Bool) → Bool → ℕ → List ℕ
events_after ends bits last metal zero = []
events_after ends bits last metal (suc n) = events_after ends bits last metal n ++ events_at (ends n) (bits n) (last n) (metal_after ends bits last metal n) n
