-- The pass from its first block to its end.
use Prim.Native.Nat.{ℕ, ◌+◌, ◌*◌, ◌/◌, ◌≤◌}
use native.Mathlib.Omega.{arith}
use mathlib.Core.Path.{◌≡◌, refl, sym, ap, ◌∙◌}
use mathlib.Core.Bool.{Bool, true, false, ◌||◌, true≢false}
use mathlib.Core.List.{List, []}
use mathlib.Core.Option.{Option, none}
use Rattle.std.proofs.Common.{Result, Ok}
use lib.Dec.{ltb}
use lib.IntN.{ℤ}
use lib.ListN.{length, replicate}
use Rattle.formula.specs.Formula.{Formula}
use Rattle.formula.specs.States.{outside}
use Rattle.lines.specs.Lines.{LineLists, line_lists, row_count, Wall, Edge, walls}
use Rattle.lines.specs.AtIndex.{Accepted}
use Rattle.lines.proofs.Items.{accepted-whole, accepted-bytes}
use Rattle.lines.proofs.PassLaws.{pass_start, pass_end, pass_room}
use Rattle.line_checking.specs.Verdicts.{verdict, Judged}
use Rattle.outcome.specs.declared.Fault.{Fault}
use Rattle.line_lists.specs.Block.{wide, columns}
use Rattle.line_words.specs.declared.Arranged.{Arranged}
use Rattle.line_columns.specs.Planning.{WholeRows, NextInside}
use Rattle.line_columns.proofs.CursorLaws.{cursor_first, first-left, cursor_some, cursor_over, air_first}
use Rattle.line_blocks.specs.Blocks.{Sized, left_of, PassingAt, Going, BlockAsk, SaidOf, Begun, CanPass, FewCodes, CallMade}
use Rattle.line_blocks.specs.declared.Call.{Call}
use Rattle.line_blocks.specs.declared.Pass.{Pass}

pub said-first : (names : ℕ) (rows : List ℕ) (count : ℕ) (air : Bool) → WholeRows names rows count → SaidOf air rows → air ≡ true → NextInside names rows 0 count
said-first names rows count air w s e = air_first names rows count (s.so e) w.are

-- ---- its beginning

module _ {table : List ℕ} {arranged : Arranged} {names : ℕ} {air : Bool} {c : LineLists} {words : List ℕ} (can : CanPass table arranged names air c words) where
  module _ {p : Pass} (b : Begun names c.rows p) where
    pub going_start : Going table arranged names c words p
    going_start = record { evaluable = can.evaluable; standing = can.standing; taken = can.taken; cursor = rw b.crossing (cursor_first names c can.taken p.cursor.q b.line) }

    pub sized-start : Sized (replicate columns 0) (replicate wide 0) (replicate (2 * columns) 0) p.numbered
    sized-start = record { plan = record { cols = refl; lasts = refl }; events_sized = refl; said = record { are = λ e. absurd (true≢false (sym e ∙ b.numbered)) } }

    pub passing_start : (f : Formula) → PassingAt f names c p words none []
    passing_start f =
        record {
          state = outside;
          passed = rw (b.crossing, ← first-left names c can.taken p.cursor.q b.line) (pass_start f names c can.taken.judged_so);
          entered = λ h. record { kept = λ e. absurd (true≢false (sym e ∙ b.onward)); none = λ e s k. refl };
        }

module _ {table : List ℕ} {arranged : Arranged} {names : ℕ} {air : Bool} {rows ls : List ℕ} {ps : List ℤ} {ss : List ℕ} {words : List ℕ} (can : CanPass table arranged names air (line_lists rows ls ps ss) words) where
  pub pass_whole : (count : ℕ) → count ≡ row_count names rows → WholeRows names rows count
  pass_whole count is = let ok = can.taken in record { some = ok.some; are = is; whole = rw is (accepted-whole ok); bytes = accepted-bytes ok }

  pub pass_said : SaidOf air rows
  pass_said = can.said

-- ---- whether a column is left

module _ {table : List ℕ} {arranged : Arranged} {names : ℕ} {c : LineLists} {words : List ℕ} {p : Pass} (g : Going table arranged names c words p) (count : ℕ) (counted : count ≡ row_count names c.rows) (t : Bool) (is : t ≡ (ltb p.cursor.i (length c.lines) || ltb p.cursor.q count)) where
  pub going_ask : t ≡ true → BlockAsk table arranged names c words p
  going_ask yes-left =
      let e : (ltb p.cursor.i (length c.lines) || ltb p.cursor.q (row_count names c.rows)) ≡ true = rw counted at (sym is ∙ yes-left) in
      record { going = g; left = cursor_some names c g.taken p.cursor.i p.cursor.q g.cursor e }

  pub passing_end : (f : Formula) (from : Option Edge) (done : List Wall) → t ≡ false → PassingAt f names c p words from done → walls f names c ≡ done
  passing_end f from done none_left q =
      let e : (ltb p.cursor.i (length c.lines) || ltb p.cursor.q (row_count names c.rows)) ≡ false = rw counted at (sym is ∙ none_left) in
      pass_end f names c done q.state from (left_of names c p) q.passed (cursor_over names c g.taken p.cursor.i p.cursor.q e)

-- half the crossings, rounded down, and one more for each row, are as many walls as there can be
pub passing_room : {table : List ℕ} {arranged : Arranged} {names : ℕ} {c : LineLists} {words : List ℕ} {p : Pass} → Going table arranged names c words p → (f : Formula) (from : Option Edge) (done : List Wall) → PassingAt f names c p words from done
    → length done ≤ length c.lines / 2 + row_count names c.rows
passing_room {names = names} {c = c} {p = p} g f from done q = pass_room f names c done q.state from (left_of names c p) q.passed g.taken.judged_so

-- ---- the formula arranged

module _ {codes : List ℕ} {names : ℕ} {air : Bool} {c : LineLists} {table : List ℕ} {call : Call} {words : List ℕ} (ok : FewCodes codes names) (m : CallMade codes names air c.rows table call) (taken : Accepted names c) (said : SaidOf air c.rows) where
  can_pass : (256 + call.arranged.rows) * wide ≤ length words → CanPass table call.arranged call.names call.air c words
  can_pass room =
      rw (m.named, m.said)
      (record {
        evaluable = record { workable = m.workable; room = room };
        standing = record { formula = ok.formula; stands = rw ok.are at m.stands; over = ok.over };
        taken = taken;
        said = said;
      })

  pub few_rows : call.arranged.rows ≤ 16 → length words ≡ 272 * wide → CanPass table call.arranged call.names call.air c words
  few_rows few long = can_pass (omega (arith, few, long))

  pub all-rows : length words ≡ 938 * wide + 1 → CanPass table call.arranged call.names call.air c words
  all-rows long = can_pass (omega (arith, m.workable.enough, long))

-- ---- the judgement

-- what a verdict tells of the judgement it meets
pub verdict-told : {v w : Result Bool Fault} {o : _} → verdict v ≡ o → v ≡ w → o ≡ verdict w
verdict-told e q = sym e ∙ ap verdict q

module _ {names : ℕ} {rows ls : List ℕ} {ps : List ℤ} {ss : List ℕ} {v : Result Bool Fault} {air : Bool} (j : Judged names (line_lists rows ls ps ss) v) (is : v ≡ Ok air) where
  pub lists-accepted : {codes : List ℕ} → FewCodes codes names → Accepted names (line_lists rows ls ps ss)
  lists-accepted ok = record { some = ok.some_names; few = ok.few_names; judged_so = verdict-told j.is is }

  pub lists-said : SaidOf air rows
  lists-said = record { so = λ e. j.air (is ∙ ap (λ x. Ok x) e) }
