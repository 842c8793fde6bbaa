-- A clone of 0 is 0.
use Rattle.line_strips.proofs.Opens.{cleared_long, cleared_blank}
use Rattle.line_strips.proofs.clear.Goals as goal

pub returns : goal.returns
returns c =
    let zeros = c.fill.ensures.after (λ y e. e) in
    (cleared_long _ _ _ zeros c.requires.1 c.requires.0, cleared_blank _ _ _ zeros c.requires.1 c.requires.0)
