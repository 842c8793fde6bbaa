-- Sheets of names A, B, C, .. and a formula, among them the worked sheet of document 01: what the computed cases are about.
use Rattle.std.specs.Prelude.{ℕ, zero, suc, ◌/◌, ◌%◌, List, [], ◌∷◌, ◌++◌, ℤ, pos, length, replicate}
use Rattle.formula.specs.Formula.{union, difference, Formula, leaf, node, postfix}

-- ---- A sheet of n names and a formula, as bytes

abbrev pub two : ℕ → List ℕ
two n = n / 256 ∷ n % 256 ∷ []

abbrev pub field : ℕ → List ℕ → List ℕ
field tag bytes = tag ∷ (two (length bytes) ++ bytes)

abbrev pub names : ℕ → ℕ → List ℕ
names letter zero = []
names letter (suc n) = field 2 (letter ∷ []) ++ names (suc letter) n

abbrev pub codes : List ℕ → List ℕ
codes [] = []
codes (c ∷ cs) = two c ++ codes cs

abbrev pub sheet : ℕ → Formula → List ℕ
sheet n f = field 1 (two 1) ++ (names 65 n ++ field 3 (codes (postfix f)))

abbrev pub A : Formula
A = leaf 0

abbrev pub B : Formula
B = leaf 1

abbrev pub C : Formula
C = leaf 2

abbrev pub D : Formula
D = leaf 3

abbrev pub E : Formula
E = leaf 4

abbrev pub worked : List ℕ
worked = sheet 3 (node difference A (node union B C))

-- ---- Lent lists, with room for 12 entries each

abbrev pub room : ℕ
room = 12

abbrev pub lent_numbers : List ℕ
lent_numbers = replicate room 0

abbrev pub lent_places : List ℤ
lent_places = replicate room (pos 0)
