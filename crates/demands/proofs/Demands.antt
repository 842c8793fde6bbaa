-- Demands 2 and 3, as theorems on what the jobs are promised to answer. Demand 1 stands beside each promise, in `Settled.antt`.
use Prim.Native.Nat.{ℕ, zero, suc, ◌+◌, ◌*◌, ◌≤◌, ◌<◌}
use native.Mathlib.Numerals.{add-one}
use native.Mathlib.Omega.{arith}
use mathlib.Core.Path.{◌≡◌, refl, sym, ap, ◌∙◌, fun_ext}
use mathlib.Core.List.{List, [], ◌∷◌, ◌++◌, map, append_assoc}
use lib.ListN.{length, get_or, take, get_or-append}
use Rattle.outcome.specs.Outcome.{Outcome, given}
use Rattle.outcome.specs.Lent.{filled}
use Rattle.outcome.proofs.Questions.{given-same, part-given}
use Rattle.formula.specs.Formula.{Formula, inside}
use Rattle.formula.specs.States.{State, outside, toggled_by}
use Rattle.contraction.specs.Rounds.{dwarf}
use Rattle.contraction.specs.Height.{height}
use Rattle.sheet.specs.Sheet.{Sheets, Sheet}
use Rattle.sheet.proofs.Guaranteed.{guaranteed}
use Rattle.accepting.specs.Accepting.{accepted}
use Rattle.accepting.proofs.Accepted.{accepted-read}
use Rattle.labels.specs.Labels.{bit, labels as labels_of}
use Rattle.labels.proofs.Afresh.{length-labels}
use Rattle.toggles.specs.Toggles.{Answers, toggle_run}
use Rattle.toggles.specs.Demand.{roots_after, roots as roots_of, leaves_of}
use Rattle.toggles.proofs.Runs.{run_roots, length-roots, length-counts}
use Rattle.toggles.proofs.Count.{count_bound}
use Rattle.lines.specs.Lines.{LineLists, entries, row_count, start_state, AnswerLists, Wall}
use Rattle.lines.specs.Right.{Right}
use Rattle.lines.proofs.Theorems.{right-only, classified-right}
use Rattle.job_run.specs.Running.{answers_of, running}
use Rattle.job_classify.specs.Classifying.{classifying}
use Rattle.job_run.specs.Ran.{Ran}
use Rattle.job_classify.specs.Classified.{Classified}
use Rattle.std.specs.Prelude.{Ok}
use Rattle.job_run.proofs.Settled.{ran_accepted}
use Rattle.job_classify.proofs.ClassifyLaws.{classifying-accepted}

-- ---- A toggle run that is answered

roots-at : (f : Formula) (done ts : List ℕ) (i : ℕ) → i < length ts
    → get_or (roots_after f done ts) i 0 ≡ bit (inside f (toggled_by (done ++ take (suc i) ts)))
roots-at f done [] i h = absurd (omega arith)
roots-at f done (t ∷ ts) zero h = refl
roots-at f done (t ∷ ts) (suc i) h =
    roots-at f (done ++ (t ∷ [])) ts i (omega arith) ∙ ap (λ us. bit (inside f (toggled_by us))) (append_assoc done (t ∷ []) (take (suc i) ts))

-- The sheets s, accepted as x, and the toggles ts; the lists after the call.
module _ (s : Sheets) (x : Sheet) (is : accepted s ≡ given x) (ts rs cs ls : List ℕ) (nodes : ℕ) (rs' cs' ls' : List ℕ)
    (ran : Ran (running s ts (length rs) (length cs) (length ls)) rs cs ls (given nodes) rs' cs' ls') where
  abbrev job : Outcome Answers
  job = running s ts (length rs) (length cs) (length ls)

  answered : (job ≡ given (answers_of x.formula ts)) × (length (dwarf x.formula) ≡ nodes)
  answered =
      let a = part-given (λ v. length v.final) job nodes ran.answer in
      let y = ran_accepted s ts _ _ _ a.0 a.1 in
      let same : answers_of x.formula ts ≡ a.0 = ap (λ (z : Sheet). answers_of z.formula ts) (given-same x y.0 (sym is ∙ y.1)) ∙ y.2 in
      (a.1 ∙ ap given (sym same), sym (length-labels (toggled_by ts) (dwarf x.formula)) ∙ ap (λ (v : Answers). length v.final) same ∙ a.2)

  -- Demand 2: after each toggle the answer is the formula's value, where a shape is inside after an odd number of toggles.
  pub root_after-toggle : (i : ℕ) → i < length ts → get_or rs' i 0 ≡ bit (inside x.formula (toggled_by (take (i + 1) ts)))
  root_after-toggle i h =
      let f = x.formula in
      let listed : rs' ≡ filled (roots_of f ts) rs = rw answered.0 at ran.lists.roots_list in
      let long : length (roots_of f ts) ≡ length ts = ap length (sym (run_roots f ts)) ∙ length-roots (dwarf f) (labels_of outside (dwarf f)) ts in
      ap (λ l. get_or l i 0) listed ∙ get_or-append (roots_of f ts) _ 0 i (omega arith) ∙ rw add-one (roots-at f [] ts i h)

  -- Demand 3: the count is the number of labels that the rules say are reworked,
  pub count_of-toggle : (i : ℕ) → i < length ts → get_or cs' i 0 ≡ get_or (toggle_run x.formula ts).counts i 0
  count_of-toggle i h =
      let f = x.formula in
      let listed : cs' ≡ filled (toggle_run f ts).counts cs = rw answered.0 at ran.lists.counts_list in
      ap (λ l. get_or l i 0) listed ∙ get_or-append (toggle_run f ts).counts _ 0 i (omega (arith, length-counts (dwarf f) (labels_of outside (dwarf f)) ts))

  -- and is at most the leaves of that shape times the contracted tree's height.
  pub count-at_most : (i : ℕ) → i < length ts → get_or cs' i 0 ≤ leaves_of (get_or ts i 0) x.formula * height (dwarf x.formula)
  count-at_most i h = omega (arith, count_of-toggle i h, count_bound x.formula ts i h)

  -- The label at every node is the one worked out afresh from the shapes then inside.
  pub label-afresh : (d : ℕ) → d < nodes → get_or ls' d 0 ≡ get_or (labels_of (toggled_by ts) (dwarf x.formula)) d 0
  label-afresh d h =
      let f = x.formula in
      let listed : ls' ≡ filled (labels_of (toggled_by ts) (dwarf f)) ls = rw answered.0 at ran.lists.labels_list in
      ap (λ l. get_or l d 0) listed ∙ get_or-append (labels_of (toggled_by ts) (dwarf f)) _ 0 d (omega (arith, answered.1, length-labels (toggled_by ts) (dwarf f)))

-- Two toggle lists in which each shape is toggled an odd number of times in both or an even number in both leave the same label at every node.
pub same_oddness-same-labels : (s : Sheets) (x : Sheet) → accepted s ≡ given x
    → (ts rs cs ls : List ℕ) (nodes : ℕ) (rs' cs' ls' : List ℕ) → Ran (running s ts (length rs) (length cs) (length ls)) rs cs ls (given nodes) rs' cs' ls'
    → (us ps ds ms : List ℕ) (nodes₂ : ℕ) (ps' ds' ms' : List ℕ) → Ran (running s us (length ps) (length ds) (length ms)) ps ds ms (given nodes₂) ps' ds' ms'
    → ((shape : ℕ) → toggled_by ts shape ≡ toggled_by us shape)
    → (nodes ≡ nodes₂) × ((d : ℕ) → d < nodes → get_or ls' d 0 ≡ get_or ms' d 0)
same_oddness-same-labels s x is ts rs cs ls nodes rs' cs' ls' a us ps ds ms nodes₂ ps' ds' ms' b same =
    let m = (answered s x is ts rs cs ls nodes rs' cs' ls' a).1 in
    let n = (answered s x is us ps ds ms nodes₂ ps' ds' ms' b).1 in (
      sym m ∙ n,
      (λ d h.
          label-afresh s x is ts rs cs ls nodes rs' cs' ls' a d h
          ∙ ap (λ state. get_or (labels_of state (dwarf x.formula)) d 0) (fun_ext same)
          ∙ sym (label-afresh s x is us ps ds ms nodes₂ ps' ds' ms' b d (omega arith))),
    )

-- ---- Demand 2, lines that are answered: of each line that has a row, the walls reported are the longest stretches of positive length inside, all of them, in rising order, each with the shapes that bound it; a shape is inside by its start state, changed by an odd number of crossings

module _ (s : Sheets) (x : Sheet) (is : accepted s ≡ given x) (c : LineLists) (lent : AnswerLists) (ws : List Wall) (gives : classifying s c lent ≡ given ws) where
  abbrev rows : ℕ
  rows = row_count (length x.names) c.rows

  abbrev start : ℕ → State
  start = start_state (length x.names) c.rows

  pub walls-right : Right x.formula (row_count (length x.names) c.rows) (start_state (length x.names) c.rows) (entries c) ws
  walls-right =
      classified-right x.formula (length x.names) (guaranteed s x (accepted-read s x is).0).own.good_names.few c lent ws
      (sym (classifying-accepted c lent s x is) ∙ gives)

  -- No other list is right.
  pub walls-only : (vs : List Wall) → Right x.formula (row_count (length x.names) c.rows) (start_state (length x.names) c.rows) (entries c) vs → vs ≡ ws
  walls-only vs right = right-only x.formula rows start (entries c) vs ws right walls-right

-- They are what the five lists hold, entry by entry, and their number is the answer.
pub walls-listed : (o : Outcome (List Wall)) (lent : AnswerLists) (n : ℕ) (after : AnswerLists) → Classified o lent (Ok n) after
    → (ws : List Wall) × (o ≡ given ws) × (n ≡ length ws)
    × (after.lines ≡ filled (map (λ (w : Wall). w.line) ws) lent.lines) × (after.starts ≡ filled (map (λ (w : Wall). w.start) ws) lent.starts)
    × (after.ends ≡ filled (map (λ (w : Wall). w.end) ws) lent.ends)
    × (after.start_shapes ≡ filled (map (λ (w : Wall). w.start_shape) ws) lent.start_shapes) × (after.end_shapes ≡ filled (map (λ (w : Wall). w.end_shape) ws) lent.end_shapes)
walls-listed o lent n after c =
    let a = part-given length o n c.answer in
    let l = c.lists in
    (a.0, a.1, sym a.2, rw a.1 at l.lines_list, rw a.1 at l.starts_list, rw a.1 at l.ends_list, rw a.1 at l.start_shapes_list, rw a.1 at l.end_shapes_list)
