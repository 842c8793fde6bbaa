-- A word of a block, said to be of crossings alone.
use Prim.Native.Nat.{ℕ, ◌+◌, ◌*◌, ◌≤◌, ◌<◌}
use native.Mathlib.Omega.{arith}
use mathlib.Core.Path.{◌≡◌, sym}
use mathlib.Core.Bool.{Bool, true}
use mathlib.Core.List.{List}
use borrow.Author.Tests.{lt-leb}
use mir.Syntax.{w64}
use mir.Val.{Fits}
use lib.IntN.{ℤ}
use lib.ListN.{length, get_or}
use Rattle.lines.specs.AtIndex.{group_ends_at}
use Rattle.line_lists.specs.Block.{cell, columns, SaidAlone}
use Rattle.line_events.specs.Events.{ends_in}
use Rattle.line_events.specs.Noted.{WordPart, AllHold, SweptAlone}
use Rattle.line_events.specs.declared.Found.{Found}
use Rattle.line_sweeping.specs.Sweeping.{Sweepable, Swept}
use Rattle.line_sweeping.proofs.BitLaws.{cell_word}

pub said-less : {ls cols : List ℕ} {a n : ℕ} {told : Bool} (e : ℕ) → SaidAlone ls cols a n told → e ≤ n → SaidAlone ls cols a e told
said-less e s h = record { are = λ t. record { are = λ j l. (s.are t).are j (omega arith) }; there = λ t. omega (arith, s.there t) }

pub said_there : {ls cols : List ℕ} {a n : ℕ} {told : Bool} → SaidAlone ls cols a n told → told ≡ true → a + n ≤ length ls
said_there s t = s.there t

pub said_fits : {ls cols : List ℕ} {a e : ℕ} {told : Bool} → SaidAlone ls cols a e told → told ≡ true → Fits w64 (length ls) → Fits w64 (a + e)
said_fits s t l = omega (arith, s.there t)

pub said_fits_word : {ls cols : List ℕ} {a k e : ℕ} {told : Bool} → SaidAlone ls cols a e told → WordPart k e → told ≡ true → Fits w64 (length ls) → Fits w64 (a + 64 * k)
said_fits_word s p t l = omega (arith, s.there t, p.some)

pub part_long : {ls : List ℕ} {ps : List ℤ} {a k e : ℕ} {cols row lasts : List ℕ} → Sweepable ls ps a e cols row lasts → WordPart k e → length ps ≡ length ls
part_long {k = k} b p = (b.there (64 * k) p.some).long

ends-alone : (ls : List ℕ) (ps : List ℤ) (a : ℕ) (cols : List ℕ) (c : ℕ) → get_or cols c 0 ≡ c → c < columns → group_ends_at ls ps (a + c) ≡ true → ends_in ls ps a cols c ≡ true
unfolding ends_in
ends-alone ls ps a cols c is narrow ends = rw (is, lt-leb columns c narrow) ends

pub part_alone : {ls : List ℕ} {ps : List ℤ} {a k e : ℕ} {cols row lasts : List ℕ} {metal told all : Bool} {events events' : List ℕ} {f f' : Found} → WordPart k e → Sweepable ls ps a e cols row lasts → SaidAlone ls cols a e told → told ≡ true → AllHold (group_ends_at ls ps) (a + 64 * k) (a + e) all → all ≡ true → Swept ls ps a cols row lasts metal (64 * k) events f → SweptAlone (get_or row k 0) (get_or lasts k 0) k e events f events' f'
    → Swept ls ps a cols row lasts metal e events' f'
part_alone {ls} {ps} {a} {k} {e} {cols} {row} {lasts} {metal} part block said t ends u old new =
    new.swept (ends_in ls ps a cols) (cell row) (cell lasts) metal
    (record {
      alone = λ c lo hi. ends-alone ls ps a cols c ((said.are t).are c hi) (block.there c hi).narrow (ends.each u (a + c) (omega arith) (omega arith));
      word = λ b h. sym (cell_word row k b h);
      line_ends = λ b h. sym (cell_word lasts k b h);
    })
    old
