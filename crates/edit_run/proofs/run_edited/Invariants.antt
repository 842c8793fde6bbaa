-- `edit_run::run_edited` meets its contract: places and tables are filled, and the loop keeps: of j acts k were edits.
use Rattle.edit_labels.specs.Edited.{KindsAlone}
use Rattle.edit_run.proofs.RunLaws.{Running}
use Rattle.edit_run.proofs.run_edited.Given as goal

abbrev pub invariant-loop-j : goal.invariant-loop-j
invariant-loop-j l = record {
  running : Running l.formula l.initial.records.kinds l.initial.records.firsts l.initial.records.seconds l.board.size l.board.toggles.now l.board.edits.moments.now l.board.edits.positions.now l.board.edits.codes.now l.initial.roots l.initial.counts l.labels l.initial.edit_counts l.board.places.now l.board.rules.now l.initial.current l.board.links.now l.j l.k l.records.kinds l.current l.roots l.counts l.edit_counts;
  kinds_alone : KindsAlone l.initial.records l.records;
}
