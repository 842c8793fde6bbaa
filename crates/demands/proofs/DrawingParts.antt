-- From a drawing to its walls, in parts: each part's lines are crossed and classified by themselves, and the walls put together are the whole's.
use Prim.Native.Nat.{ℕ, ◌*◌, ◌<◌, ◌≤◌}
use native.Mathlib.Omega.{arith}
use mathlib.Core.Path.{◌≡◌, sym, ap, ◌∙◌, subst}
use mathlib.Core.List.{List, map}
use lib.Ieee.{Float}
use lib.ListN.{length}
use Rattle.outcome.specs.Outcome.{given}
use Rattle.sheet.specs.Sheet.{Sheets, Sheet}
use Rattle.accepting.specs.Accepting.{accepted}
use Rattle.lines.specs.Lines.{LineLists, row_count, AnswerLists, roomy_lists, Wall}
use Rattle.line_cuts.specs.Cuts.{parts_of, total, Cuttable, EachGiven, join_walls, room_for}
use Rattle.cross_many.specs.Crossing.{crossing_many}
use Rattle.cross_drawn.specs.Drawn.{drawn, Drawn, drawn_lists}
use Rattle.cross_drawn.specs.Lent.{probes_of}
use Rattle.cross_parts.specs.Parts.{probe_parts, EachDrawn, one_after_another}
use Rattle.cross_parts.proofs.DrawnParts.{each_drawn}
use Rattle.cross_parts.proofs.JobParts.{drawn-whole}
use Rattle.cross_parts.proofs.CutAgain.{parts_drawn, drawn_cuttable, drawn-rows}
use Rattle.job_classify.specs.Classifying.{classifying}
use Rattle.demands.proofs.Parts.{named, classify_parts}

-- The sheets s, accepted as x, a drawing with as many shapes as there are names, and its lines, cut into parts of these sizes, the last of the rest.
module _ (s : Sheets) (x : Sheet) (is : accepted s ≡ given x) (kinds : List ℕ) (numbers : List Float) (as_many : length kinds ≡ length x.names)
    (sizes : List ℕ) (lines : List Float) (whole : 6 * total sizes ≤ length lines) (few : length (probes_of lines) ≤ 4294967296) where
  abbrev lists : LineLists
  lists = drawn_lists (drawn kinds numbers (probes_of lines))

  cut : Cuttable (length x.names) sizes lists
  cut = subst (λ (n : ℕ). Cuttable n sizes lists) as_many (drawn_cuttable kinds numbers sizes lines whole few)

  some : 0 < length kinds
  some = omega (arith, named s x is sizes lists cut)

  few_rows : row_count (length x.names) lists.rows ≤ 4294967296
  few_rows = subst (λ (n : ℕ). row_count n lists.rows ≤ 4294967296) as_many (omega (arith, drawn-rows kinds numbers some lines))

  -- What is crossed part by part and classified part by part gives the walls of the whole, if that is lent the room it asks for.
  pub drawing_parts : (vs : List Drawn) → EachDrawn (crossing_many kinds numbers) (probe_parts sizes lines) vs → (wss : List (List Wall)) → EachGiven (classifying s) (map drawn_lists vs) wss
      → (lent : AnswerLists) → roomy_lists (room_for (length x.names) (drawn_lists (one_after_another vs))) lent ≡ given tt → classifying s (drawn_lists (one_after_another vs)) lent ≡ given (join_walls sizes wss)
  drawing_parts vs g wss h lent room =
      let same : drawn kinds numbers (probes_of lines) ≡ one_after_another vs = drawn-whole kinds numbers sizes lines whole vs g in
      let apart : parts_of (length x.names) sizes lists ≡ map drawn_lists vs = subst (λ (n : ℕ). parts_of n sizes lists ≡ map drawn_lists vs) as_many
      (parts_drawn kinds numbers sizes lines whole few ∙ ap (map drawn_lists) (sym (each_drawn kinds numbers (probe_parts sizes lines) vs g))) in
      ap (λ (v : Drawn). classifying s (drawn_lists v) lent) (sym same)
      ∙ classify_parts s x is sizes lists cut wss (subst (λ (cs : List LineLists). EachGiven (classifying s) cs wss) (sym apart) h) few_rows lent
      (subst (λ (v : Drawn). roomy_lists (room_for (length x.names) (drawn_lists v)) lent ≡ given tt) (sym same) room)
