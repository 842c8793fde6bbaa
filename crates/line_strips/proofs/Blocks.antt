-- The words of a block, one after another.
use Prim.Native.Nat.{ℕ, ◌+◌, ◌-◌, ◌*◌, ◌/◌, ◌≤◌, ◌<◌}
use mathlib.Core.Path.{◌≡◌, refl, sym, ◌∙◌}
use mathlib.Core.Bool.{Bool}
use mathlib.Core.List.{List}
use native.Mathlib.Omega.{arith}
use lib.ListN.{length}
use Rattle.formula.specs.States.{State}
use Rattle.lines.specs.Lines.{LineLists}
use Rattle.line_lists.specs.Block.{wide, columns, cell, planned}
use Rattle.line_strips.specs.Strips.{on, flips_at, leaving, Filled}
use Rattle.line_strips.specs.Filling.{Fillable, flips_of, InWord, Laid, Apart, Blank, Right, Lays, Opens, Begins, Starts, Advances, Fills}
use Rattle.line_strips.proofs.Stores.{same?}

blank-apart : (names k : ℕ) (ws ws' : List ℕ) (m : ℕ) → Apart names k ws ws' → Blank names m ws → m ≤ 64 * (k + 1) → Blank names (64 * (k + 1)) ws'
blank-apart names k ws ws' m a b h = record { off = λ s j n l c. a.other s j n c (λ q. omega arith) ∙ b.off s j n (omega arith) c }

-- ---- a word more
module _ (names : ℕ) (flips : ℕ → State) (last : ℕ → Bool) (n k m : ℕ) (w : InWord n k m) (few : n ≤ columns) where
  laid_right : (ws₁ ws₂ : List ℕ) (first : State) → Right names flips last first n (64 * k) ws₁ → Lays names flips last k 0 m ws₁ ws₂ → Laid names flips last first k 0 ws₁ → Right names flips last first n (64 * (k + 1)) ws₂
  laid_right ws₁ ws₂ first r l o = record { is = go }
    where
      go : (s j : ℕ) → s < names → j < n → j < 64 * (k + 1) → on ws₂ s j ≡ leaving flips last first j s
      go s j h c d =
          same? (j / 64) k
          (λ q.
          let z : 64 * k + (j - 64 * k) ≡ j = omega arith in
          rw z at ((l.laid first o).done s (j - 64 * k) h (omega (arith, w.all j c (omega arith)))))
          (λ q. l.apart.other s j h (omega arith) q ∙ r.is s j h c (omega arith))

  pub word_advances : (ws ws₁ ws₂ : List ℕ) → Blank names (64 * k) ws → Opens names flips last k ws ws₁ → Lays names flips last k 0 m ws₁ ws₂ → Advances names flips last n k (k + 1) ws ws₂
  word_advances ws ws₁ ws₂ blank o l =
      record {
        long = l.apart.long ∙ o.apart.long;
        blank = blank-apart names k ws₁ ws₂ (64 * (k + 1)) l.apart (blank-apart names k ws ws₁ (64 * k) o.apart blank (omega arith)) (omega arith);
        right = λ first r.
            laid_right ws₁ ws₂ first (record { is = λ s j h c d. o.apart.other s j h (omega arith) (λ q. omega arith) ∙ r.is s j h c d }) l (o.opened first n (omega (arith, w.within)) r);
      }

-- ---- the first word
pub word_starts : (names : ℕ) (flips : ℕ → State) (last : ℕ → Bool) (going_on : Bool) (n m : ℕ) (ws ws₁ ws₂ : List ℕ) → Begins names last going_on ws ws₁ → Lays names flips last 0 0 m ws₁ ws₂ → InWord n 0 m → n ≤ columns → Starts names flips last going_on n ws ws₂
word_starts names flips last going_on n m ws ws₁ ws₂ b l w few =
    record {
      long = l.apart.long ∙ b.long;
      blank = blank-apart names 0 ws₁ ws₂ 64 l.apart b.blank (omega arith);
      right = λ first entered. laid_right names flips last n 0 m w few ws₁ ws₂ first (record { is = λ s j h c d. absurd (omega arith) }) l (b.opened flips first entered);
    }

-- ---- all words
pub record Filling (names : ℕ) (flips : ℕ → State) (last : ℕ → Bool) (n k : ℕ) (ws ws' : List ℕ) : Type 0 where
  pub some : 1 ≤ k
  pub far : 64 * k ≤ columns + 63
  pub room : 256 * wide ≤ length ws'
  pub advances : Advances names flips last n 1 k ws ws'

pub filling_none : (names : ℕ) (flips : ℕ → State) (last : ℕ → Bool) (going_on : Bool) (rows shapes cols lasts : List ℕ) (a n : ℕ) (told : Bool) (ws ws₁ : List ℕ) → Starts names flips last going_on n ws ws₁ → Fillable names rows shapes cols lasts a n told ws → Filling names flips last n 1 ws₁ ws₁
filling_none names flips last going_on rows shapes cols lasts a n told ws ws₁ s f =
    record {
      some = omega arith;
      far = omega arith;
      room = omega (arith, s.long, f.room);
      advances = record { long = refl; blank = s.blank; right = λ first r. r };
    }

pub filling_more : (names : ℕ) (flips : ℕ → State) (last : ℕ → Bool) (n k : ℕ) (ws ws₁ ws₂ : List ℕ) → Filling names flips last n k ws ws₁ → Advances names flips last n k (k + 1) ws₁ ws₂ → 64 * k < n → n ≤ columns → Filling names flips last n (k + 1) ws ws₂
filling_more names flips last n k ws ws₁ ws₂ f a h few =
    record {
      some = omega arith;
      far = omega arith;
      room = omega (arith, a.long, f.room);
      advances = record { long = a.long ∙ f.advances.long; blank = a.blank; right = λ first r. a.right first (f.advances.right first r) };
    }

-- what a later word needs
pub fillable_on : (names : ℕ) (rows shapes cols lasts : List ℕ) (a n : ℕ) (told : Bool) (ws ws' : List ℕ) → Fillable names rows shapes cols lasts a n told ws → 256 * wide ≤ length ws' → Fillable names rows shapes cols lasts a n told ws'
fillable_on names rows shapes cols lasts a n told ws ws' f h = record { legible = f.legible; alone = f.alone; lasts_long = f.lasts_long; some = f.some; room = h }

pub filling_blank : (names : ℕ) (flips : ℕ → State) (last : ℕ → Bool) (n k : ℕ) (ws ws' : List ℕ) → Filling names flips last n k ws ws' → Blank names (64 * k) ws'
filling_blank names flips last n k ws ws' f = f.advances.blank

-- The shapes that flip are the same by lists that say the same.
flips_same : (names : ℕ) (c : LineLists) (rows shapes cols lasts : List ℕ) (a : ℕ) → c.rows ≡ rows → c.shapes ≡ shapes → flips_of names rows shapes cols a ≡ flips_at names c a (planned cols lasts)
unfolding flips_of flips_at
flips_same names c rows shapes cols lasts a r s = rw (sym r, sym s)

pub fills : (names : ℕ) (rows shapes cols lasts : List ℕ) (a n k : ℕ) (going_on : Bool) (ws ws₁ ws₂ : List ℕ) → Starts names (flips_of names rows shapes cols a) (cell lasts) going_on n ws ws₁ → Filling names (flips_of names rows shapes cols a) (cell lasts) n k ws₁ ws₂ → n ≤ 64 * k → Fills names rows shapes cols lasts a n going_on ws ws₂
fills names rows shapes cols lasts a n k going_on ws ws₁ ws₂ s f far =
    record {
      long = f.advances.long ∙ s.long;
      filled = λ c first r t entered. rw (flips_same names c rows shapes cols lasts a r t) at (done first (f.advances.right first (s.right first entered)));
    }
  where
    done : (first : State) → Right names (flips_of names rows shapes cols a) (cell lasts) first n (64 * k) ws₂ → Filled names (flips_of names rows shapes cols a) (cell lasts) first ws₂ n
    done first r = record { is = λ j s h m. r.is s j m h (omega arith) }
