-- The lines judged in turn.
use Prim.Native.Nat.{ℕ, ◌+◌, ◌*◌, ◌<◌, ◌≤◌}
use native.Mathlib.Omega.{arith}
use mathlib.Core.Path.{◌≡◌, refl, sym, ap, ◌∙◌}
use mathlib.Core.Bool.{Bool, true}
use mathlib.Core.List.{List}
use lib.ListN.{length, drop}
use lib.Ieee.{Float}
use Rattle.std.proofs.Common.{Result, Ok, Err}
use Rattle.outcome.specs.Outcome.{refused}
use Rattle.outcome.specs.Refusing.{number_of}
use Rattle.cross_shapes.specs.declared.Probe.{Probe}
use Rattle.cross_drawn.specs.Asking.{line_judged}
use Rattle.cross_drawn.specs.Gathered.{Sound, LineEnds}
use Rattle.cross_drawn.specs.Judging.{lines_judged}
use Rattle.cross_drawn.specs.Lent.{probe_from, probes_of}
use Rattle.cross_drawn.specs.Refusing.{gives, refuses, of_line, ◌>>◌}
use Rattle.cross_drawn.proofs.LineLaws.{left_here, left-none}
use Rattle.cross_judge.specs.Covering.{Covers, NoFault}
use Rattle.cross_judge.specs.declared.Reach.{Reach}
use Rattle.cross_many.specs.Answer.{many_of}
use Rattle.cross_many.specs.declared.LineFault.{LineFault}

-- ---- one line
module _ (kinds : List ℕ) (numbers : List Float) (probe : Probe) (k : ℕ) (bytes keys : List ℕ) (r : Result ℕ ℕ) (ends : LineEnds kinds numbers probe bytes keys r) where
  pub line_wrong : (place : ℕ) → r ≡ Err place → refuses 16 place k ≡ of_line k (line_judged kinds numbers probe)
  line_wrong place e =
      let f : line_judged kinds numbers probe ≡ refused 16 place = rw e at ends in
      sym (rw f)

  pub line_right : (m : ℕ) → r ≡ Ok m → gives tt ≡ of_line k (line_judged kinds numbers probe)
  line_right m e =
      let s : Sound kinds numbers probe bytes keys m = rw e at ends in
      sym (rw s.not_at_fault)

pub line_reached : (kinds : List ℕ) (numbers : List Float) (probe : Probe) (reach : Reach) (k : ℕ) (w : Bool) → (w ≡ true → NoFault probe reach) → w ≡ true → Covers kinds numbers (length kinds) reach
    → gives tt ≡ of_line k (line_judged kinds numbers probe)
line_reached kinds numbers probe reach k w says judged_so covers = sym (rw ((says judged_so).right kinds numbers covers))

-- ---- the lines: what is left decides
pub record Judging (kinds : List ℕ) (numbers lines : List Float) (count : ℕ) (reach : Reach) (k : ℕ) : Type 0 where
  pub covers : Covers kinds numbers (length kinds) reach
  pub few_shapes : length kinds ≤ 256
  pub all : count ≡ length (probes_of lines)
  pub few : count ≤ 4294967296
  pub within : k ≤ count
  pub left : lines_judged 0 kinds numbers (probes_of lines) ≡ lines_judged k kinds numbers (drop k (probes_of lines))

pub judging-starts : (kinds : List ℕ) (numbers lines : List Float) (count : ℕ) (reach : Reach) → Covers kinds numbers (length kinds) reach → length kinds ≤ 256 → count ≡ length (probes_of lines) → count ≤ 4294967296 → Judging kinds numbers lines count reach 0
judging-starts kinds numbers lines count reach covers shapes all few = record { covers = covers; few_shapes = shapes; all = all; few = few; within = omega arith; left = refl }

module _ (kinds : List ℕ) (numbers lines : List Float) (count : ℕ) (reach : Reach) (k : ℕ) (judging : Judging kinds numbers lines count reach k) where
  module _ (more : k < count) (probe : Probe) (read : probe ≡ probe_from (drop (6 * k) lines)) (r : Result (Unit {0}) LineFault) (says : many_of r ≡ of_line k (line_judged kinds numbers probe)) where
    here : lines_judged 0 kinds numbers (probes_of lines) ≡ (many_of r >> lines_judged (k + 1) kinds numbers (drop (k + 1) (probes_of lines)))
    here =
        judging.left ∙ left_here kinds numbers lines k probe read (omega (arith, judging.all))
        ∙ ap (λ o. o >> lines_judged (k + 1) kinds numbers (drop (k + 1) (probes_of lines))) (sym says)

    pub judging-wrong : (f : LineFault) → r ≡ Err f → (q : Result (Unit {0}) LineFault) → q ≡ Err f → many_of q ≡ lines_judged 0 kinds numbers (probes_of lines)
    judging-wrong f e q g = ap many_of g ∙ sym (rw e at here)

    pub judging-on : (u : Unit {0}) → r ≡ Ok u → Judging kinds numbers lines count reach (k + 1)
    judging-on u e = record { covers = judging.covers; few_shapes = judging.few_shapes; all = judging.all; few = judging.few; within = omega arith; left = rw e at here }

  pub judging-ends : count ≤ k → gives tt ≡ lines_judged 0 kinds numbers (probes_of lines)
  judging-ends h = sym (judging.left ∙ left-none kinds numbers lines k (omega (arith, judging.all)))
