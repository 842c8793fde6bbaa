-- `job_names::list_sheet` meets its contract. The invariant: the names before are listed, and the next one's tag is at `at`.
use Rattle.job_names.proofs.Listing.{Listing}
use Rattle.job_names.proofs.list_sheet.Given as goal

abbrev pub invariant-loop-i : goal.invariant-loop-i
invariant-loop-i l = Listing l.which l.sheet l.n l.initial.sheets l.initial.firsts l.initial.pasts l.at l.i l.sheets l.firsts l.pasts
