-- The numbers and values for each case of the answer for many lines, and the job's promise.
use Rattle.std.specs.Prelude.{ℕ, ◌≡◌, length, Result, Ok, Err}
use Rattle.outcome.specs.Outcome.{part}
use Rattle.outcome.specs.Lent.{after_call}
use Rattle.outcome.specs.Refusing.{number_of}
use Rattle.outcome.specs.declared.Fault.{Fault}
use Rattle.lines.specs.Lines.{LineLists}
use Rattle.cross_drawn.specs.Drawn.{Drawn, rows_of, lines_from, positions_in, shapes_in}
use Rattle.cross_drawn.specs.Refusing.{OfLines, gives, refuses, part_of, outcome_of}
use Rattle.cross_many.specs.declared.Counts.{Counts}
use Rattle.cross_many.specs.declared.LineFault.{LineFault}

-- How many lines there are, and how many crossings.
abbrev pub many_counts : ℕ → ℕ → Counts
many_counts lines crossings = record { lines = lines; crossings = crossings }

abbrev pub many_counts_of : Drawn → Counts
many_counts_of lines = many_counts (length lines) (length (lines_from 0 lines))

-- What is wrong with the line of this number.
abbrev pub on_line : ℕ → Fault → LineFault
on_line line f = record { fault = f; line = line }

abbrev pub many_of : {A : Type 0} → Result A LineFault → OfLines A
many_of (Ok a) = gives a
many_of (Err f) = refuses (number_of f.fault.reason) f.fault.place f.line

-- Of the job's outcome and the lists as lent: the lists after the call.
pub record ManyLists (o : OfLines Drawn) (lent after : LineLists) : Type 0 where
  pub rows_list : after.rows ≡ after_call (part rows_of (outcome_of o)) lent.rows
  pub lines_list : after.lines ≡ after_call (part (lines_from 0) (outcome_of o)) lent.lines
  pub positions_list : after.positions ≡ after_call (part positions_in (outcome_of o)) lent.positions
  pub shapes_list : after.shapes ≡ after_call (part shapes_in (outcome_of o)) lent.shapes

-- And the answer r: how many lines and crossings there are.
pub record CrossedMany (o : OfLines Drawn) (lent : LineLists) (r : Result Counts LineFault) (after : LineLists) : Type 0 where
  pub answer : many_of r ≡ part_of many_counts_of o
  pub lists : ManyLists o lent after
