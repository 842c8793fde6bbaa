-- The room that the code has found for the lines' crossings.
use Rattle.std.specs.Prelude.{ℕ, ◌≤◌, ◌<◌, ◌≡◌, length}
use Rattle.cross_drawn.specs.Drawn.{Drawn, lines_from}

-- So many entries are wanted of a list with this room: no more than there are if the crossings have room in it, else as many as they are.
pub record Wanted (lines : Drawn) (room wanted : ℕ) : Type 0 where
  pub enough : wanted ≤ room → length (lines_from 0 lines) ≤ room
  pub short : room < wanted → wanted ≡ length (lines_from 0 lines)
