-- A block on: its walls put into five lists, whoever lends them.
use Rattle.std.specs.Prelude.{ℕ, ◌+◌, ◌/◌, ◌≤◌, ◌<◌, ◌≡◌, None, List, ◌++◌, length}
use Rattle.formula.specs.Formula.{Formula, postfix, Over}
use Rattle.lines.specs.Lines.{LineLists, row_count, AnswerLists, Wall}
use Rattle.line_lists.specs.Block.{columns}
use Rattle.line_words.specs.Stretches.{StandFor}
use Rattle.line_words.specs.declared.Arranged.{Arranged}
use Rattle.line_blocks.specs.Blocks.{Sized, left_of, PassingAt, Going, BlockAsk, Begun}
use Rattle.line_writing.specs.Writing.{open_of, Put, HasRoom}
use Rattle.line_blocks.specs.declared.Progress.{Progress}

-- the room that document 02 asks for
abbrev pub room_for : ℕ → LineLists → ℕ
room_for names c = length c.lines / 2 + row_count names c.rows

-- a block of the pass, which has a column; and room for as many walls as a block can finish and as the lists can still have
pub record StepAsk (table : List ℕ) (arranged : Arranged) (names : ℕ) (c : LineLists) (words : List ℕ) (p : Progress) (now : AnswerLists) : Type 0 where
  pub ask : BlockAsk table arranged names c words p.pass
  pub found : List Wall
  pub passing : PassingAt ask.going.standing.formula names c p.pass words (open_of p.run) found
  pub room : (n : ℕ) → n ≤ columns → length found + n ≤ room_for names c → HasRoom (p.run.count + n) now

-- its walls are put from the entry that is next on, and the pass is that much further
pub record StepDone (table : List ℕ) (arranged : Arranged) (names : ℕ) (c : LineLists) (words : List ℕ) (p : Progress) (now : AnswerLists) (words' cols lasts events : List ℕ) (p' : Progress) (after : AnswerLists) : Type 0 where
  pub new : List Wall
  pub put : Put new p.run.count now after
  pub count : p'.run.count ≡ p.run.count + length new
  pub room : HasRoom p'.run.count now
  pub passes : (f : Formula) → StandFor (postfix f) table arranged → Over names f → (done : List Wall) → PassingAt f names c p.pass words (open_of p.run) done → PassingAt f names c p'.pass words' (open_of p'.run) (done ++ new)
  pub going : Going table arranged names c words' p'.pass
  pub long : length words' ≡ length words
  pub sized : Sized cols lasts events p'.pass.numbered
  pub fewer : length (left_of names c p'.pass) < length (left_of names c p.pass)

-- a pass that has done nothing
pub record NothingDone (names : ℕ) (rows : List ℕ) (p : Progress) : Type 0 where
  pub begun : Begun names rows p.pass
  pub air : p.run.from ≡ None
  pub none : p.run.count ≡ 0
