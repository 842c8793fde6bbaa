-- What the answer lists hold after a call.
use Rattle.std.specs.Prelude.{◌≡◌, List, map}
use Rattle.outcome.specs.Outcome.{Outcome, part}
use Rattle.outcome.specs.Lent.{after_call}
use Rattle.lines.specs.Lines.{AnswerLists, Wall}

-- Of the job's outcome and the lists as lent: an entry a wall in each list, and past the last one what was lent.
pub record WallLists (o : Outcome (List Wall)) (lent given : AnswerLists) : Type 0 where
  pub lines_list : given.lines ≡ after_call (part (map (λ (w : Wall). w.line)) o) lent.lines
  pub starts_list : given.starts ≡ after_call (part (map (λ (w : Wall). w.start)) o) lent.starts
  pub ends_list : given.ends ≡ after_call (part (map (λ (w : Wall). w.end)) o) lent.ends
  pub start_shapes_list : given.start_shapes ≡ after_call (part (map (λ (w : Wall). w.start_shape)) o) lent.start_shapes
  pub end_shapes_list : given.end_shapes ≡ after_call (part (map (λ (w : Wall). w.end_shape)) o) lent.end_shapes
