-- A line gathered, and what is kept after it.
use mathlib.Core.Path.{◌≡◌, refl, sym, ap, ◌∙◌, subst}
use mathlib.Core.Bool.{Bool, true, false, cond, ◌&&◌, true≢false}
use mathlib.Core.List.{List, [], ◌∷◌}
use Prim.Native.Nat.{ℕ, ◌+◌}
use borrow.Author.Tests.{eq-eqb}
use lib.ListN.{length, get_or, get_or-map}
use lib.Seq.{get_or-take}
use lib.Signed.{lt_z}
use lib.Ieee.{Float, nan}
use Rattle.outcome.specs.Outcome.{Outcome, given, refused, unfit}
use Rattle.cross_cuts.specs.Cuts.{Cut, fault, cut, start_of, faultless}
use Rattle.cross_cuts.specs.Keys.{Complete, Ends}
use Rattle.std.specs.Prelude.{Result, Ok, Err}
use Rattle.std.specs.Result.{result_unwrap_or}
use Rattle.cross_shapes.specs.Shapes.{Range, wrong, missed, free, from, box_range, crossed_twice, good_pair, box_cut}
use Rattle.cross_shapes.specs.declared.Probe.{Probe}
use Rattle.cross_columns.specs.Columns.{cuts_in}
use Rattle.cross_columns.proofs.CutLaws.{cuts-length, cuts-at}
use Rattle.cross_axis.specs.Axes.{Beside}
use Rattle.cross_hits.specs.Hits.{Clear}
use Rattle.cross_kept.specs.Keeping.{starts_at, Over, Crossed}
use Rattle.cross_kept.specs.declared.Kept.{Kept}
use Rattle.cross_kept.proofs.KeepLaws.{ranked_beside}

-- ---- how many crossings
is_refused : Outcome (Unit {0}) → Bool
is_refused (given a) = false
is_refused (refused number place) = true
is_refused (unfit number place) = true

complete : (cuts : List Cut) (shapes : ℕ) → length cuts ≡ shapes → (bytes keys : List ℕ) → faultless 16 0 cuts ≡ given tt → (r : Result ℕ ℕ) → Ends 256 16 cuts bytes keys r → Complete 256 16 cuts bytes keys shapes (result_unwrap_or r 0)
unfolding is_refused
complete cuts shapes long bytes keys no_fault (Err i) ends = absurd (true≢false (ap is_refused (sym ends ∙ no_fault)))
complete cuts shapes long bytes keys no_fault (Ok m) ends = subst (λ (k : ℕ). Complete 256 16 cuts bytes keys k m) long ends

-- ---- a line starts outside of every box
twice-outside : (r : Range) → start_of (crossed_twice r) ≡ 0
twice-outside wrong = refl
twice-outside missed = refl
twice-outside free = refl
twice-outside (from a b) = by (lt_z a b)
  where
    by : (t : Bool) → start_of (cond t (cut false (a ∷ b ∷ [])) (cut false [])) ≡ 0
    by true = refl
    by false = refl

box_outside : (probe : Probe) (a b c d e f : Float) → start_of (box_cut probe a b c d e f) ≡ 0
unfolding box_cut
box_outside probe a b c d e f = by (good_pair a d && (good_pair b e && good_pair c f))
  where
    by : (t : Bool) → start_of (cond t (crossed_twice (box_range probe a b c d e f)) fault) ≡ 0
    by true = twice-outside (box_range probe a b c d e f)
    by false = refl

clear_after : (probe : Probe) (shapes : ℕ) (lows highs : List Float) (halves bytes keys : List ℕ) (m : ℕ) → Complete 256 16 (cuts_in probe shapes lows highs halves) bytes keys shapes m → Clear halves bytes 0 shapes
clear_after probe shapes lows highs halves bytes keys m done = record {
  zero = λ j h l box.
      let whole = box_cut probe (get_or lows j nan) (get_or lows (256 + j) nan) (get_or lows (512 + j) nan) (get_or highs j nan) (get_or highs (256 + j) nan) (get_or highs (512 + j) nan) in
      let e : get_or (cuts_in probe shapes lows highs halves) j fault ≡ whole = cuts-at probe lows highs halves shapes j l ∙ rw (eq-eqb (get_or halves j 0) 0 box) in
      sym (get_or-take shapes bytes j 0 l)
      ∙ ap (λ (row : List ℕ). get_or row j 0) done.gathered.started
      ∙ get_or-map start_of (cuts_in probe shapes lows highs halves) j fault
      ∙ ap start_of e
      ∙ box_outside probe (get_or lows j nan) (get_or lows (256 + j) nan) (get_or lows (512 + j) nan) (get_or highs j nan) (get_or highs (256 + j) nan) (get_or highs (512 + j) nan);
}

-- ---- the line, over its axes
module _ {probe : Probe} {kept : Kept} {halves : List ℕ} {lows highs : List Float} {l₀ g₀ bytes₀ keys₀ : List ℕ} (over : Over probe kept halves lows highs l₀ g₀ bytes₀ keys₀) where
  pub over-crossed : {l g bytes keys : List ℕ} (start : ℕ) → start ≡ starts_at kept.alone → Beside start (start + 256) l₀ l → Beside start (start + 256) g₀ g → (r : Result ℕ ℕ) (n : ℕ) → Ends 256 16 (cuts_in probe kept.shapes lows highs halves) bytes keys r → n ≡ result_unwrap_or r 0
      → Crossed probe kept halves lows highs l g bytes keys n
  over-crossed {l} {g} {bytes} {keys} start e bl bg r n ends counted =
      let whole = complete (cuts_in probe kept.shapes lows highs halves) kept.shapes (cuts-length probe lows highs halves kept.shapes) bytes keys over.lent.no_fault r ends in
      let done : Complete 256 16 (cuts_in probe kept.shapes lows highs halves) bytes keys kept.shapes n = subst (λ (m : ℕ). Complete 256 16 (cuts_in probe kept.shapes lows highs halves) bytes keys kept.shapes m) (sym counted) whole in
      let ranked = ranked_beside over.follows.ranked (subst (λ (o : ℕ). Beside o (o + 256) l₀ l) e bl) (subst (λ (o : ℕ). Beside o (o + 256) g₀ g) e bg) in
      record { ranked = ranked; gathered = done; clear = clear_after probe kept.shapes lows highs halves bytes keys n done }
