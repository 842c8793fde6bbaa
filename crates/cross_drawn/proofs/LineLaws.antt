-- One line judged, and the line that is read among all lines.
use Prim.Native.Nat.{ℕ, ◌+◌, ◌*◌, ◌<◌, ◌≤◌}
use native.Mathlib.Numerals.{add-one}
use native.Mathlib.Omega.{arith}
use mathlib.Core.Path.{◌≡◌, refl, sym, ap, ◌∙◌}
use mathlib.Core.Bool.{Bool, true, false}
use mathlib.Core.List.{List, [], ◌∷◌, ◌++◌, map}
use lib.ListN.{length, take, drop, get_or, drop_of_length-le}
use lib.Seq.{take-suc, drop-cons}
use lib.Ieee.{Float}
use Rattle.outcome.specs.Outcome.{refused}
use Rattle.cross_cuts.specs.Cuts.{line_crossings}
use Rattle.cross_cuts.specs.Keys.{Held, Ends}
use Rattle.std.proofs.Common.{Result, Ok, Err}
use Rattle.cross_answer.proofs.GiveLaws.{crossings-count}
use Rattle.cross_shapes.specs.declared.Probe.{Probe}
use Rattle.cross_line.specs.Crossing.{good_probe, shape_cuts}
use Rattle.cross_line.specs.Making.{Gatherable}
use Rattle.cross_line.proofs.LentLaws.{length-cuts, cuts_in_range}
use Rattle.cross_drawn.specs.Asking.{line_judged}
use Rattle.cross_drawn.specs.Drawn.{lines_from, drawn}
use Rattle.cross_drawn.specs.Gathered.{Sound, LineEnds}
use Rattle.cross_drawn.specs.Judging.{lines_judged}
use Rattle.cross_drawn.specs.Lent.{probe_from, probes_of}
use Rattle.cross_drawn.specs.Refusing.{gives, of_line, ◌>>◌}
use Rattle.cross_drawn.proofs.ProbeLaws.{probe_of_lem}
use Rattle.cross_drawn.proofs.DrawnLaws.{lines_more}

-- ---- one line
module _ (kinds : List ℕ) (numbers : List Float) (probe : Probe) (w : Bool) (says : w ≡ good_probe probe) where
  pub bad_probe : w ≡ false → line_judged kinds numbers probe ≡ refused 16 65535
  unfolding line_judged
  bad_probe e = rw (sym says ∙ e)

  pub lined : w ≡ true → (wide : ℕ) (bytes keys : List ℕ) (r : Result ℕ ℕ) → wide ≡ 256 → Ends wide 16 (shape_cuts probe kinds numbers) bytes keys r → LineEnds kinds numbers probe bytes keys r
  unfolding line_judged
  lined e wide bytes keys r sized ends = by r (rw sized at ends)
    where
      by : (r : Result ℕ ℕ) → Ends 256 16 (shape_cuts probe kinds numbers) bytes keys r → LineEnds kinds numbers probe bytes keys r
      by (Err i) ends = rw (sym says ∙ e) ends
      by (Ok m) ends = record { not_at_fault = rw (sym says ∙ e) ends.none; gathered = rw (length-cuts probe kinds numbers) at ends }

pub all_gatherable : (n : ℕ) (bytes keys : List ℕ) → n ≤ 256 → length bytes ≡ 256 → length keys ≡ 512 → Gatherable n bytes keys
all_gatherable n bytes keys few b k = record { few = few; room = omega arith; twice = omega arith }

module _ (kinds : List ℕ) (numbers : List Float) (probe : Probe) (bytes keys : List ℕ) (m : ℕ) (sound : Sound kinds numbers probe bytes keys m) where
  pub sound-held : Held 256 bytes keys (length kinds) m
  sound-held = sound.gathered.held

  pub sound-count : length (line_crossings (shape_cuts probe kinds numbers)) ≡ m
  sound-count = crossings-count sound.gathered (cuts_in_range probe kinds numbers)

  pub sound_few : m ≤ 512
  sound_few = omega (arith, sound-held.few, sound-held.some)

-- ---- the line that is read is the next one
abbrev none : Probe
none = probe_from []

module _ (lines : List Float) (k : ℕ) (probe : Probe) (read : probe ≡ probe_from (drop (6 * k) lines)) (more : k < length (probes_of lines)) where
  next_is : get_or (probes_of lines) k none ≡ probe
  next_is = probe_of_lem lines k none more ∙ sym read

  next-left : drop k (probes_of lines) ≡ probe ∷ drop (k + 1) (probes_of lines)
  next-left = rw (add-one, drop-cons (probes_of lines) k none more, next_is)

  next-taken : take (k + 1) (probes_of lines) ≡ take k (probes_of lines) ++ (probe ∷ [])
  next-taken = rw (add-one, take-suc (probes_of lines) k none more, next_is)

pub map-append : {A B : Type 0} (f : A → B) (xs ys : List A) → map f (xs ++ ys) ≡ map f xs ++ map f ys
map-append f [] ys = refl
map-append f (x ∷ xs) ys = ap (λ l. f x ∷ l) (map-append f xs ys)

module _ (kinds : List ℕ) (numbers : List Float) (lines : List Float) (k : ℕ) (probe : Probe) (read : probe ≡ probe_from (drop (6 * k) lines)) (more : k < length (probes_of lines)) where
  pub drawn-next : drawn kinds numbers (take (k + 1) (probes_of lines)) ≡ drawn kinds numbers (take k (probes_of lines)) ++ (shape_cuts probe kinds numbers ∷ [])
  drawn-next = ap (drawn kinds numbers) (next-taken lines k probe read more) ∙ map-append (λ p. shape_cuts p kinds numbers) (take k (probes_of lines)) (probe ∷ [])

  pub lines_next : lines_from 0 (drawn kinds numbers (take (k + 1) (probes_of lines)))
      ≡ lines_from 0 (drawn kinds numbers (take k (probes_of lines))) ++ map (λ c. length (drawn kinds numbers (take k (probes_of lines)))) (line_crossings (shape_cuts probe kinds numbers))
  lines_next = ap (lines_from 0) drawn-next ∙ lines_more (drawn kinds numbers (take k (probes_of lines))) (shape_cuts probe kinds numbers)

  -- the lines from this one on, judged
  pub left_here : lines_judged k kinds numbers (drop k (probes_of lines)) ≡ (of_line k (line_judged kinds numbers probe) >> lines_judged (k + 1) kinds numbers (drop (k + 1) (probes_of lines)))
  unfolding lines_judged
  left_here = rw (next-left lines k probe read more, add-one k)

pub left-none : (kinds : List ℕ) (numbers lines : List Float) (k : ℕ) → length (probes_of lines) ≤ k → lines_judged k kinds numbers (drop k (probes_of lines)) ≡ gives tt
unfolding lines_judged
left-none kinds numbers lines k past = rw (drop_of_length-le (probes_of lines) past)
