-- The lines gone through in turn, and their crossings counted.
use Prim.Native.Nat.{ℕ, zero, suc, ◌+◌, ◌*◌, ◌<◌, ◌≤◌}
use native.Mathlib.Omega.{arith}
use mathlib.Core.Path.{◌≡◌, refl, sym, ap, ◌∙◌, subst}
use Rattle.std.specs.Prelude.{Option, Some, None}
use mathlib.Core.Bool.{true}
use mathlib.Core.List.{List, map}
use lib.ListN.{length, get_or, replicate, take, drop, length-append, length-map}
use lib.Seq.{take_all}
use lib.Ieee.{Float}
use Rattle.outcome.specs.Outcome.{Outcome, given, refused, unfit, need}
use Rattle.outcome.proofs.Questions.{need_yes, then_given}
use Rattle.cross_cuts.specs.Cuts.{Cut, line_crossings, LineCrossing, faultless}
use Rattle.cross_cuts.specs.Keys.{Complete}
use Rattle.cross_shapes.specs.declared.Probe.{Probe}
use Rattle.cross_line.specs.Crossing.{good_probe, shape_cuts}
use Rattle.cross_columns.specs.Columns.{Columns, cuts_in}
use Rattle.cross_columns.specs.declared.Columns as Columns
use Rattle.cross_columns.proofs.CutLaws.{columns-cuts, columns-finite}
use Rattle.cross_hits.specs.Hits.{Clear}
use Rattle.cross_kept.specs.Keeping.{Ranked, CanPair, Lent, Follows, Over, Crossed}
use Rattle.cross_kept.specs.declared.Kept.{Kept}
use Rattle.cross_drawn.specs.Asking.{line_judged}
use Rattle.cross_drawn.specs.Drawn.{lines_from, drawn}
use Rattle.cross_drawn.specs.Gathered.{Sound}
use Rattle.cross_drawn.specs.Judging.{lines_judged}
use Rattle.cross_drawn.specs.Lent.{probe_from, probes_of}
use Rattle.cross_drawn.specs.Refusing.{OfLines, gives, refuses, of_line, ◌>>◌}
use Rattle.cross_drawn.proofs.LineLaws.{sound-count, sound_few, lines_next, left_here}
use Rattle.cross_pass.specs.Passing.{Passing}
use Rattle.cross_pass.specs.declared.Pass.{Pass}

no_byte : (n j : ℕ) → ◌≡◌ {A = ℕ} (get_or (replicate n 0) j 0) 0
no_byte zero j = refl
no_byte (suc n) zero = refl
no_byte (suc n) (suc j) = no_byte n j

-- ---- before the first line
module _ {kinds : List ℕ} {numbers : List Float} {columns : Columns.Columns} {lessers greaters keys : List ℕ} where
  passing_of : length kinds ≤ 256 → Columns kinds numbers (length kinds) columns.lows columns.highs columns.halves → length lessers ≡ 1024 → length greaters ≡ 1024 → length keys ≡ 512
      → Passing kinds numbers (record { columns = columns; ranks = record { lessers = lessers; greaters = greaters }; kept = None; bytes = replicate 256 0; keys = keys })
  passing_of few columns l g k = record {
    few = few;
    columns = columns;
    keeps = record { ranked = λ k e. absurd (let z : ◌≡◌ {A = ℕ} 0 1 = cc in omega arith) };
    clear = record { zero = λ j h k z. no_byte 256 j };
    lessers_sized = l;
    greaters_sized = g;
    bytes_sized = refl;
    keys_sized = k;
  }

pub passing_starts : (kinds : List ℕ) (numbers : List Float) {lows highs : List Float} {halves lessers greaters keys : List ℕ} → length kinds ≤ 256 → Columns kinds numbers (length kinds) lows highs halves → length lessers ≡ 1024 → length greaters ≡ 1024 → length keys ≡ 512
    → Passing kinds numbers (record { columns = record { lows = lows; highs = highs; halves = halves }; ranks = record { lessers = lessers; greaters = greaters }; kept = None; bytes = replicate 256 0; keys = keys })
passing_starts kinds numbers few columns l g k = passing_of few columns l g k

pub empty_passes : {kinds : List ℕ} {numbers : List Float} {columns : Columns.Columns} → length kinds ≤ 256 → Columns kinds numbers (length kinds) columns.lows columns.highs columns.halves
    → Passing kinds numbers (record { columns = columns; ranks = record { lessers = replicate 1024 0; greaters = replicate 1024 0 }; kept = None; bytes = replicate 256 0; keys = replicate 512 0 })
empty_passes few columns = passing_of few columns refl refl refl

-- ---- one line that is not at fault
line-asked : (kinds : List ℕ) (numbers : List Float) (probe : Probe) → line_judged kinds numbers probe ≡ given tt → (good_probe probe ≡ true) × (faultless 16 0 (shape_cuts probe kinds numbers) ≡ given tt)
unfolding line_judged
line-asked kinds numbers probe sound =
    let asked = then_given (need (good_probe probe) 16 65535) (faultless 16 0 (shape_cuts probe kinds numbers)) tt sound in
    (need_yes (good_probe probe) 16 65535 asked.1, asked.2)

module _ {kinds : List ℕ} {numbers : List Float} {pass : Pass} (passing : Passing kinds numbers pass) {probe here : Probe} (read : probe ≡ here) (judged : line_judged kinds numbers here ≡ given tt) where
  abbrev c : Columns.Columns
  c = pass.columns

  sound : line_judged kinds numbers probe ≡ given tt
  sound = subst (λ (p : Probe). line_judged kinds numbers p ≡ given tt) (sym read) judged

  pub can_pair : CanPair probe (length kinds) c.halves c.lows c.highs pass.ranks.lessers pass.ranks.greaters
  can_pair = record {
    good = (line-asked kinds numbers probe sound).0;
    few = passing.few;
    halves_length = passing.columns.sized.halves_length;
    sized = record { lows_length = passing.columns.sized.lows_length; highs_length = passing.columns.sized.highs_length; lessers_length = passing.lessers_sized; greaters_length = passing.greaters_sized };
    faces = columns-finite passing.columns probe (line-asked kinds numbers probe sound).1;
  }

  module _ {l g : List ℕ} {kept : Kept} (follows : Follows probe (length kinds) c.halves c.lows c.highs l g kept) where
    pub line-over : Over probe kept c.halves c.lows c.highs l g pass.bytes pass.keys
    line-over = record {
      lent = subst (λ (n : ℕ). Lent probe n c.halves c.lows c.highs pass.bytes pass.keys) (sym follows.shapes_still) (record {
        good = can_pair.good;
        no_fault = ap (faultless 16 0) (columns-cuts probe c.lows c.highs c.halves passing.columns) ∙ (line-asked kinds numbers probe sound).1;
        faces = can_pair.faces;
        bytes_sized = passing.bytes_sized;
        keys_sized = passing.keys_sized;
        clear = passing.clear;
      });
      follows = record { shapes_still = refl; one = follows.one; other = follows.other; ranked = follows.ranked };
    }

    module _ {l' g' bytes keys : List ℕ} {m : ℕ} (crossed : Crossed probe kept c.halves c.lows c.highs l' g' bytes keys m) where
      pub line-sound : Sound kinds numbers here bytes keys m
      line-sound = subst (λ (p : Probe). Sound kinds numbers p bytes keys m) read (record {
        not_at_fault = sound;
        gathered =
            subst (λ (cuts : List Cut). Complete 256 16 cuts bytes keys (length kinds) m) (columns-cuts probe c.lows c.highs c.halves passing.columns)
            (subst (λ (n : ℕ). Complete 256 16 (cuts_in probe n c.lows c.highs c.halves) bytes keys n m) follows.shapes_still crossed.gathered);
      })

      pub line-passed : {o : Option Kept} → o ≡ Some kept → Passing kinds numbers (record { columns = c; ranks = record { lessers = l'; greaters = g' }; kept = o; bytes = bytes; keys = keys })
      line-passed is = record {
        few = passing.few;
        columns = passing.columns;
        keeps = record { ranked = λ k e. let s : kept ≡ k = cc in subst (λ (j : Kept). (j.shapes ≡ length kinds) × Ranked j c.halves c.lows c.highs l' g') s (follows.shapes_still, crossed.ranked) };
        clear = subst (λ (n : ℕ). Clear c.halves bytes 0 n) follows.shapes_still crossed.clear;
        lessers_sized = crossed.ranked.sized.lessers_length;
        greaters_sized = crossed.ranked.sized.greaters_length;
        bytes_sized = crossed.gathered.held.starts_sized;
        keys_sized = crossed.gathered.held.keys_sized;
      }

-- ---- k lines are gone through, and have so many crossings; no line that is left is at fault
pub record Counting (kinds : List ℕ) (numbers lines : List Float) (count k total : ℕ) : Type 0 where
  pub all : count ≡ length (probes_of lines)
  pub few : count ≤ 4294967296
  pub within : k ≤ count
  pub left : lines_judged k kinds numbers (drop k (probes_of lines)) ≡ gives tt
  pub counted : total ≡ length (lines_from 0 (drawn kinds numbers (take k (probes_of lines))))
  pub bounded : total ≤ 512 * k

pub counting_starts : (kinds : List ℕ) (numbers lines : List Float) (count : ℕ) → count ≡ length (probes_of lines) → count ≤ 4294967296 → lines_judged 0 kinds numbers (probes_of lines) ≡ gives tt → Counting kinds numbers lines count 0 0
unfolding lines_from
counting_starts kinds numbers lines count all few judged = record { all = all; few = few; within = omega arith; left = judged; counted = refl; bounded = omega arith }

never_both : (number place line : ℕ) → ◌≡◌ {A = OfLines (Unit {0})} (refuses number place line) (gives tt) → ⊥
never_both number place line e = let z : ◌≡◌ {A = ℕ} 0 1 = cc in omega arith

module _ {kinds : List ℕ} {numbers lines : List Float} {count k total : ℕ} (counting : Counting kinds numbers lines count k total) where
  module _ (more : k < count) where
    abbrev probe : Probe
    probe = probe_from (drop (6 * k) lines)

    pub more_lines : k < length (probes_of lines)
    more_lines = omega (arith, counting.all)

    -- no line that is left is at fault, and so the next one is not
    pub next-sound : line_judged kinds numbers probe ≡ given tt
    next-sound = by (line_judged kinds numbers probe) (sym (left_here kinds numbers lines k probe refl more_lines) ∙ counting.left)
      where
        by : (o : Outcome (Unit {0})) → (of_line k o >> lines_judged (k + 1) kinds numbers (drop (k + 1) (probes_of lines))) ≡ gives tt → o ≡ given tt
        by (given tt) e = refl
        by (refused number place) e = absurd (never_both number place k e)
        by (unfit number place) e = absurd (never_both number place k e)

    pub counting_near : k < 4294967296
    counting_near = omega (arith, counting.few)

    module _ {bytes keys : List ℕ} {m : ℕ} (sound : Sound kinds numbers probe bytes keys m) where
      pub counting_fits : total + m < 18446744073709551616
      counting_fits = omega (arith, counting.bounded, counting.few, sound_few kinds numbers probe bytes keys m sound)

      pub counting_on : Counting kinds numbers lines count (k + 1) (total + m)
      counting_on =
          let xs = drawn kinds numbers (take k (probes_of lines)) in
          let cs = line_crossings (shape_cuts probe kinds numbers) in
          record {
            all = counting.all;
            few = counting.few;
            within = omega arith;
            left = rw next-sound at (sym (left_here kinds numbers lines k probe refl more_lines) ∙ counting.left);
            counted =
                omega (
                  arith,
                  counting.counted,
                  ap length (lines_next kinds numbers lines k probe refl more_lines),
                  length-append (lines_from 0 xs) (map (λ (c : LineCrossing). length xs) cs),
                  length-map cs (λ (c : LineCrossing). length xs),
                  sound-count kinds numbers probe bytes keys m sound,
                );
            bounded = omega (arith, counting.bounded, sound_few kinds numbers probe bytes keys m sound);
          }

  pub counting_ends : count ≤ k → total ≡ length (lines_from 0 (drawn kinds numbers (probes_of lines)))
  counting_ends h = counting.counted ∙ ap (λ l. length (lines_from 0 (drawn kinds numbers l))) (take_all k (probes_of lines) (omega (arith, counting.all)))
