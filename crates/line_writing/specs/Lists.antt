-- The lists that walls are put into.
use Rattle.std.specs.Prelude.{◌≡◌}
use Rattle.lines.specs.Lines.{AnswerLists, answer_lists}
use Rattle.line_writing.specs.declared.lists.WallLists.{WallLists}

-- what they hold
abbrev pub lists_in : WallLists → AnswerLists
lists_in w = answer_lists w.lines.now w.starts.now w.ends.now w.start_shapes.now w.end_shapes.now

-- they are the lists that were lent
pub record SameLists (old new : WallLists) : Type 0 where
  pub lines : new.lines.ghost_name ≡ old.lines.ghost_name
  pub starts : new.starts.ghost_name ≡ old.starts.ghost_name
  pub ends : new.ends.ghost_name ≡ old.ends.ghost_name
  pub start_shapes : new.start_shapes.ghost_name ≡ old.start_shapes.ghost_name
  pub end_shapes : new.end_shapes.ghost_name ≡ old.end_shapes.ghost_name
