-- Where a list is cut, and when all that follows is on later lines.
use Prim.Native.Nat.{ℕ, zero, suc, ◌+◌, ◌*◌, ◌<◌, ◌≤◌}
use native.Mathlib.Omega.{arith}
use mathlib.Core.Path.{◌≡◌, refl}
use mathlib.Core.Bool.{Bool, true, false}
use mathlib.Core.List.{List, [], ◌∷◌, map}
use borrow.Author.Tests.{ltb-true, ltb-false}
use lib.Dec.{ltb}
use lib.IntN.{ℤ}
use lib.ListN.{length, drop}
use Rattle.lines.specs.Lines.{LineLists, crossings}
use Rattle.lines.proofs.Crossings.{Sorted, Kept, kept_line, later-line}
use Rattle.line_cuts.specs.Cuts.{lowered, cut_index, AllBelow}
use Rattle.line_cuts.specs.Places.{FirstFrom, Between, CutAt}

-- ---- there is always a place to cut

pub index_on : (r l : ℕ) (ls : List ℕ) → ltb l r ≡ true → cut_index r (l ∷ ls) ≡ suc (cut_index r ls)
unfolding cut_index
index_on r l ls e = rw (e, cut_index)

pub index-off : (r l : ℕ) (ls : List ℕ) → ltb l r ≡ false → cut_index r (l ∷ ls) ≡ 0
unfolding cut_index
index-off r l ls e = rw (e, cut_index)

pub index-none : (r : ℕ) → cut_index r [] ≡ 0
unfolding cut_index
index-none r = refl

pub cut-between : (r : ℕ) (ls : List ℕ) → AllBelow 4294967296 ls → Between r (cut_index r ls) ls
cut-between r [] h = rw (index-none r) (record { within = omega arith; before = tt; there = tt; numbers = tt })
cut-between r (l ∷ ls) h = by (ltb l r) refl (cut-between r ls h.1)
  where
    by : (t : Bool) → ltb l r ≡ t → Between r (cut_index r ls) ls → Between r (cut_index r (l ∷ ls)) (l ∷ ls)
    by true e b = rw (index_on r l ls e) (record { within = omega (arith, b.within); before = (ltb-true l r e, b.before); there = b.there; numbers = b.numbers })
    by false e b = rw (index-off r l ls e) (record { within = omega arith; before = tt; there = ltb-false l r e; numbers = h })

pub cut_there : (names r : ℕ) (c : LineLists) → r * names ≤ length c.rows → AllBelow 4294967296 c.lines → CutAt names r (cut_index r c.lines) c
cut_there names r c h n = record { rows_there = h; between = cut-between r c.lines n }

-- ---- all on line r or later ones

abbrev pub AllFrom : ℕ → List ℕ → Type 0
AllFrom r [] = Unit {0}
AllFrom r (l ∷ ls) = (r ≤ l) × AllFrom r ls

abbrev Rise : List ℕ → Type 0
Rise [] = Unit {0}
Rise (l ∷ ls) = FirstFrom l ls × Rise ls

rise_drop : (i : ℕ) (ls : List ℕ) → Rise ls → Rise (drop i ls)
rise_drop zero ls h = h
rise_drop (suc i) [] h = tt
rise_drop (suc i) (l ∷ ls) h = rise_drop i ls h.1

rise_from : (r : ℕ) (ls : List ℕ) → FirstFrom r ls → Rise ls → AllFrom r ls
rise_from r [] f h = tt
rise_from r (l ∷ ls) f h = (f, rise_from r ls (on ls h.0) h.1)
  where
    on : (ms : List ℕ) → FirstFrom l ms → FirstFrom r ms
    on [] g = tt
    on (m ∷ ms) g = omega arith

-- of entries that rise the lines do
sorted_rise : (ls : List ℕ) (ps : List ℤ) (ss : List ℕ) → length ps ≡ length ls → length ss ≡ length ls → Sorted (crossings ls ps ss) → Rise ls
sorted_rise [] ps ss e f so = tt
sorted_rise (l ∷ ls) [] ss e f so = let z : ⊥ = omega arith in absurd z
sorted_rise (l ∷ ls) (p ∷ ps) [] e f so = let z : ⊥ = omega arith in absurd z
sorted_rise (l ∷ []) (p ∷ ps) (s ∷ ss) e f so = (tt, tt)
sorted_rise (l ∷ m ∷ ls) (p ∷ []) (s ∷ ss) e f so = let z : ⊥ = omega arith in absurd z
sorted_rise (l ∷ m ∷ ls) (p ∷ q ∷ ps) (s ∷ []) e f so = let z : ⊥ = omega arith in absurd z
sorted_rise (l ∷ m ∷ ls) (p ∷ q ∷ ps) (s ∷ t ∷ ss) e f so =
    (later-line (record { line = l; at = p; shape = s }) (record { line = m; at = q; shape = t }) so.0, sorted_rise (m ∷ ls) (q ∷ ps) (t ∷ ss) (omega arith) (omega arith) so.1)

pub sorted_from : (r i : ℕ) (ls : List ℕ) (ps : List ℤ) (ss : List ℕ) → Between r i ls → length ps ≡ length ls → length ss ≡ length ls → Sorted (crossings ls ps ss) → AllFrom r (drop i ls)
sorted_from r i ls ps ss b e f so = rise_from r (drop i ls) b.there (rise_drop i ls (sorted_rise ls ps ss e f so))

-- a number that is below r has no row when lowered
pub lowered-from : (r rows : ℕ) → r + rows ≤ 4294967296 → (ls : List ℕ) (ps : List ℤ) (ss : List ℕ) → AllBelow 4294967296 ls → length ps ≡ length ls → length ss ≡ length ls
    → Kept rows (crossings (map (lowered r) ls) ps ss) → AllFrom r ls
lowered-from r rows few [] ps ss n e f k = tt
lowered-from r rows few (l ∷ ls) [] ss n e f k = let z : ⊥ = omega arith in absurd z
lowered-from r rows few (l ∷ ls) (p ∷ ps) [] n e f k = let z : ⊥ = omega arith in absurd z
lowered-from r rows few (l ∷ ls) (p ∷ ps) (s ∷ ss) n e f k =
    let small : l < 4294967296 = n.0 in
    let kept : lowered r l < rows = kept_line rows (record { line = lowered r l; at = p; shape = s }) k.0 in
    (omega arith, lowered-from r rows few ls ps ss n.1 (omega arith) (omega arith) k.1)

pub raised_again : (r : ℕ) (ls : List ℕ) → AllBelow 4294967296 ls → AllFrom r ls → map (λ l. r + l) (map (lowered r) ls) ≡ ls
raised_again r [] n h = refl
raised_again r (l ∷ ls) n h =
    let small : l < 4294967296 = n.0 in
    let k : r ≤ l = h.0 in
    let e : r + lowered r l ≡ l = omega arith in
    rw (e, raised_again r ls n.1 h.1)
