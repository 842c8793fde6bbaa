-- The exits of the loop over what is gathered, and of the jobs.
use mathlib.Core.Path.{◌≡◌, refl, sym, ap, ◌∙◌}
use Prim.Native.Nat.{ℕ, ◌+◌, ◌*◌, ◌<◌, ◌≤◌}
use native.Mathlib.Omega.{arith}
use mathlib.Core.Bool.{Bool}
use mathlib.Core.List.{List}
use lib.ListN.{length, drop, get_or}
use Rattle.std.proofs.Common.{Option, Some, None, Result, Ok, Err}
use lib.Dec.{leb}
use lib.IntN.{ℤ}
use lib.Ieee.{Float}
use Rattle.std.specs.Result.{IsErrAnd}
use Rattle.outcome.specs.Outcome.{given, refused, need}
use Rattle.outcome.specs.Refusing.{number_of}
use Rattle.outcome.specs.Refusing.{fault as fault_at}
use Rattle.outcome.specs.declared.Fault.{Fault}
use Rattle.outcome.specs.declared.Reason.{Reason}
use Rattle.cross_cuts.specs.Cuts.{Cut, fault, faultless, answered}
use Rattle.cross_cuts.specs.Keys.{cut_of, Held, Adds, Going, Ends}
use Rattle.cross_cuts.specs.declared.Met.{Met}
use Rattle.cross_cuts.proofs.GatherLaws.{going_fault, going_on, going_ends}
use Rattle.cross_answer.specs.Answer.{MadeLists, made_lists, Crossed}
use Rattle.cross_answer.specs.declared.Counts.{Counts}
use Rattle.cross_answer.proofs.GiveLaws.{refusing, says_err, refusal, fault-refused}
use Rattle.cross_balls.specs.Balls.{ball_cuts, crossing_balls}
use Rattle.cross_balls.proofs.LentLaws.{length-cuts}
use Rattle.std.specs.Int.{div_ceil}
use Rattle.cross_shapes.specs.Shapes.{shape_cut}
use Rattle.cross_shapes.specs.declared.Probe.{Probe}
use Rattle.cross_shapes.specs.declared.Shape.{Shape}
use Rattle.cross_line.specs.Lent.{shape_from}
use Rattle.cross_line.proofs.LentLaws.{cut_at}
use Rattle.cross_line.specs.Crossing.{good_probe, shape_cuts, crossing_shapes}
use Rattle.cross_line.specs.Making.{Meets, Gatherable}

-- ---- the loop
pub held_starts : {n : ℕ} {bytes keys : List ℕ} → Gatherable n bytes keys → Held (length bytes) bytes keys 0 0
held_starts g = record { starts_sized = refl; keys_sized = g.twice; some = omega arith; few = omega arith }

module _ (gives : ℕ → Option Met → Type 0) (w n : ℕ) where
  abbrev pub Gone : List ℕ → List ℕ → ℕ → ℕ → Type 0
  Gone bytes keys i m = (number : ℕ) (cuts : List Cut) → n ≡ length cuts → Meets gives cuts → Going w number cuts bytes keys i m

  module _ {bytes keys : List ℕ} {i m : ℕ} (going : Gone bytes keys i m) where
    pub gone_fault : (r : Option Met) → i < n → r ≡ None → gives i r → (number : ℕ) (cuts : List Cut) → n ≡ length cuts → Meets gives cuts → Ends w number cuts bytes keys (Err i)
    gone_fault r more is none number cuts counted meets =
        let here : i < length cuts = omega (arith, counted) in
        going_fault number cuts bytes keys i m (going number cuts counted meets) here (cut_of r) (meets i r here none) (ap cut_of is)

    pub gone_on : (r : Option Met) (met : Met) (bytes' keys' : List ℕ) (k : ℕ) → Held w bytes keys i m → i < n → r ≡ Some met → gives i r → Adds (length bytes) (cut_of (Some met)) bytes keys i m bytes' keys' k
        → Held w bytes' keys' (i + 1) k × Gone bytes' keys' (i + 1) k
    gone_on r met bytes' keys' k held more is some adds-here = (adds.held, goes)
      where
        adds : Adds w (cut_of r) bytes keys i m bytes' keys' k
        adds = rw is (rw held.starts_sized at adds-here)

        goes : Gone bytes' keys' (i + 1) k
        goes number cuts counted meets =
            let here : i < length cuts = omega (arith, counted) in
            going_on number cuts bytes keys i m (going number cuts counted meets) here (cut_of r) (meets i r here some) bytes' keys' k adds

    pub gone_ends : n ≤ i → (number : ℕ) (cuts : List Cut) → n ≡ length cuts → Meets gives cuts → Ends w number cuts bytes keys (Ok m)
    gone_ends done number cuts counted meets = going_ends number cuts bytes keys i m (going number cuts counted meets) (omega (arith, counted))

pub all_held : {w n : ℕ} {bytes keys : List ℕ} {i m : ℕ} → Held w bytes keys i m → i ≤ n → n ≤ i → Held (length bytes) bytes keys n m
all_held {w} {n} {bytes} {keys} {i} {m} held up down =
    let e : i ≡ n = omega arith in
    rw (held.starts_sized) (rw (← e) held)

-- ---- what both jobs answer
pub at-fault : (all : List Cut) (s : List ℕ) (p : List ℤ) (h : List ℕ) (reason : Reason) (i : ℕ) (f : Fault) → f ≡ fault_at reason i → faultless (number_of reason) 0 all ≡ refused (number_of reason) i
    → Crossed (answered (number_of reason) all (length s) (length p) (length h)) (made_lists s p h) (Err f) (made_lists s p h)
at-fault all s p h reason i f e first = rw e (refusal _ (made_lists s p h) (Err (fault_at reason i)) (fault_at reason i) (fault-refused (number_of reason) all _ _ _ i first) refl)

-- ---- the job of a drawing
pub shape_met : (probe : Probe) (kinds : List ℕ) (numbers : List Float) (i : ℕ) (met : Option Met) (shape : Shape) → i < length kinds → shape ≡ shape_from (get_or kinds i 0) (drop (6 * i) numbers)
    → cut_of met ≡ shape_cut probe shape → cut_of met ≡ get_or (shape_cuts probe kinds numbers) i fault
shape_met probe kinds numbers i met shape more read meets = meets ∙ ap (shape_cut probe) read ∙ sym (cut_at probe kinds numbers i more)

module _ (probe : Probe) (kinds : List ℕ) (numbers : List Float) (s : List ℕ) (p : List ℤ) (h : List ℕ) where
  module _ (a : Result Counts Fault) (f : Fault) (is : IsErrAnd a (λ e. e ≡ f)) where
    pub too_many_shapes : refusing f ≡ need (leb (length kinds) 256) 16 256 → Crossed (crossing_shapes probe kinds numbers (length s) (length p) (length h)) (made_lists s p h) a (made_lists s p h)
    unfolding crossing_shapes
    too_many_shapes e = refusal _ (made_lists s p h) a f (rw (← e)) (says_err a f is)

    pub bad_line : {u : Unit {0}} → given u ≡ need (leb (length kinds) 256) 16 256 → (w : Bool) → w ≡ good_probe probe → refusing f ≡ need w 16 65535
        → Crossed (crossing_shapes probe kinds numbers (length s) (length p) (length h)) (made_lists s p h) a (made_lists s p h)
    unfolding crossing_shapes
    bad_line few w says e = refusal _ (made_lists s p h) a f (rw (← few, ← says, ← e)) (says_err a f is)

  pub shapes_answered : {u v : Unit {0}} → given u ≡ need (leb (length kinds) 256) 16 256 → (w : Bool) → w ≡ good_probe probe → given v ≡ need w 16 65535
      → (a : Result Counts Fault) (after : MadeLists) → Crossed (answered 16 (shape_cuts probe kinds numbers) (length s) (length p) (length h)) (made_lists s p h) a after
      → Crossed (crossing_shapes probe kinds numbers (length s) (length p) (length h)) (made_lists s p h) a after
  unfolding crossing_shapes
  shapes_answered few w says good a after c = rw (← few, ← says, ← good) c

-- ---- and of balls
pub balls_counted : (bs : List ℤ) (n : ℕ) → n ≡ div_ceil (length bs) 4 → n ≡ length (ball_cuts bs)
balls_counted bs n e = omega (arith, e, length-cuts bs)

module _ (bs : List ℤ) (s : List ℕ) (p : List ℤ) (h : List ℕ) (n : ℕ) (counted : n ≡ length (ball_cuts bs)) where
  pub too_many_balls : (a : Result Counts Fault) (f : Fault) → IsErrAnd a (λ e. e ≡ f) → refusing f ≡ need (leb n 256) 18 256
      → Crossed (crossing_balls bs (length s) (length p) (length h)) (made_lists s p h) a (made_lists s p h)
  unfolding crossing_balls
  too_many_balls a f is e = refusal _ (made_lists s p h) a f (rw (← counted, ← e)) (says_err a f is)

  pub balls_answered : {u : Unit {0}} → given u ≡ need (leb n 256) 18 256 → (a : Result Counts Fault) (after : MadeLists)
      → Crossed (answered 18 (ball_cuts bs) (length s) (length p) (length h)) (made_lists s p h) a after → Crossed (crossing_balls bs (length s) (length p) (length h)) (made_lists s p h) a after
  unfolding crossing_balls
  balls_answered few a after c = rw (← counted, ← few) c
