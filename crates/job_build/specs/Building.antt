-- Building: what the job gives for the sheets of a call and for answer lists of some lengths.
use Rattle.std.specs.Prelude.{ℕ, List, length}
use Rattle.outcome.specs.Outcome.{Outcome, given, room, ◌>>=◌, ◌>>◌}
use Rattle.formula.specs.Formula.{Formula, leaves}
use Rattle.contraction.specs.Records.{Rec}
use Rattle.contraction.specs.Rounds.{dwarf, rounds_of}
use Rattle.contraction.specs.Height.{height}
use Rattle.sheet.specs.Sheet.{Sheets}
use Rattle.accepting.specs.Accepting.{accepted}

-- What is built: the number of leaves, of rounds, the height, and the record of every dwarf node.
pub record DwarfTree : Type 0 where
  pub leaves : ℕ
  pub rounds : ℕ
  pub height : ℕ
  pub records : List Rec

abbrev pub dwarf_tree : Formula → DwarfTree
dwarf_tree f = record { leaves = leaves f; rounds = rounds_of f; height = height (dwarf f); records = dwarf f }

-- 9 for kinds, firsts, seconds, one entry a dwarf node each.
unfoldable pub giving : Formula → ℕ → ℕ → ℕ → Outcome DwarfTree
giving f kinds firsts seconds = do
  room (length (dwarf f)) kinds
  room (length (dwarf f)) firsts
  room (length (dwarf f)) seconds
  given (dwarf_tree f)

-- The sheets and the height first.
unfoldable pub building : Sheets → ℕ → ℕ → ℕ → Outcome DwarfTree
building c kinds firsts seconds = do
  sheet ← accepted c
  giving sheet.formula kinds firsts seconds

-- Building answers the leaves, dwarf nodes, rounds and height.
pub data Summary : Type 0 where
  summary : ℕ → ℕ → ℕ → ℕ → Summary

abbrev pub summary_of : DwarfTree → Summary
summary_of t = summary t.leaves (length t.records) t.rounds t.height
