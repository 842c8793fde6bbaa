-- What reading a sheet gives, alone or beside a fittings sheet: document 01, 'The sheet' and 'Order of reading', and document 02, K7 and K10.
-- A sheet is the list of its bytes.
use Rattle.std.specs.Prelude.{ℕ, zero, suc, ◌+◌, ◌-◌, ◌*◌, ◌%◌, List, [], ◌∷◌, ◌++◌, Bool, true, false, cond, not, ◌&&◌, ◌||◌, length, get_or, take, drop, ltb, leb, eqb}
use Rattle.std.proofs.Math.Option.{Option, none, some}
use Rattle.outcome.specs.Outcome.{Outcome, given, refused, need, ◌>>=◌, ◌>>◌, part, of_fittings}
use Rattle.formula.specs.Formula.{Op, Formula, leaf, node, postfix, prefix}
use Rattle.formula.specs.Codes.{operation}

-- The sheets of a call: the customer's sheet alone, or a fittings sheet and the customer's.
pub data Sheets : Type 0 where
  alone : List ℕ → Sheets
  beside : List ℕ → List ℕ → Sheets

-- As a call brings them: a flag says whether there is a fittings sheet, since an empty one is an input like any other.
abbrev pub sheets_of : Bool → List ℕ → List ℕ → Sheets
sheets_of true f s = beside f s
sheets_of false f s = alone s

abbrev pub own_sheet : Sheets → List ℕ
own_sheet (alone s) = s
own_sheet (beside f s) = s

-- What they hold: the customer's edition; the k-th name, from 0, names shape k, the fittings' names first, the customer's after them; the formula stands in the
-- bytes of the customer's sheet from `first` up to `past`.
pub record Sheet : Type 0 where
  pub edition : ℕ
  pub names : List (List ℕ)
  pub formula : Formula
  pub first : ℕ
  pub past : ℕ

-- The numbers of the page. A fittings sheet stays at edition 1; the customer's may have edition 2.
abbrev pub fittings_edition : ℕ
fittings_edition = 1

abbrev pub last_edition : ℕ
last_edition = 2

abbrev pub most_names : ℕ
most_names = 256

abbrev pub longest_name : ℕ
longest_name = 32

abbrev pub longest_formula : ℕ
longest_formula = 4094

-- What reading a sheet's fields depends on besides its bytes: the names of the fittings sheet beside it, and what its header said.
pub record Setting : Type 0 where
  pub fittings : List (List ℕ)
  pub edition : ℕ

-- The setting of a fittings sheet.
abbrev pub unaided : Setting
unaided = record { fittings = []; edition = fittings_edition }

-- ---- Fields: a one-byte tag, a two-byte length (high byte first), then that many bytes

abbrev pub two_bytes_at : List ℕ → ℕ → ℕ
two_bytes_at s at = get_or s at 0 * 256 + get_or s (at + 1) 0

-- The bytes from an offset up to another.
abbrev pub between : List ℕ → ℕ → ℕ → List ℕ
between s first past = take (past - first) (drop first s)

-- Of the field whose tag is at an offset: its length, the offset past it, its bytes.
unfoldable pub length_at : List ℕ → ℕ → ℕ
length_at s at = two_bytes_at s (at + 1)

unfoldable pub past_at : List ℕ → ℕ → ℕ
past_at s at = at + 3 + length_at s at

unfoldable pub bytes_at : List ℕ → ℕ → List ℕ
bytes_at s at = take (length_at s at) (drop (at + 3) s)

-- What a field is: a name, its bytes and the offset past them; the formula, its first offset and the one past its end; the end.
pub data Field : Type 0 where
  name_field : List ℕ → ℕ → Field
  formula_field : Formula → ℕ → ℕ → Field
  end_field : Field

-- ---- Names

-- Each byte 0x21 to 0x7E.
unfoldable pub all_good : List ℕ → Bool
all_good [] = true
all_good (x ∷ xs) = (leb 0x21 x && leb x 0x7E) && all_good xs

-- Names are equal when all their bytes are.
unfoldable pub same : List ℕ → List ℕ → Bool
same [] [] = true
same [] (y ∷ ys) = false
same (x ∷ xs) [] = false
same (x ∷ xs) (y ∷ ys) = eqb x y && same xs ys

unfoldable pub taken : List (List ℕ) → List ℕ → Bool
taken [] x = false
taken (y ∷ ys) x = same y x || taken ys x

-- ---- The formula, n being the number of names

-- Two bytes a code, high byte first.
unfoldable pub codes_of : List ℕ → List ℕ
codes_of [] = []
codes_of (h ∷ []) = []
codes_of (h ∷ l ∷ bytes) = (h * 256 + l) ∷ codes_of bytes

-- Edition 1, in postfix order. The operands that wait stand last one first. An operation joins the last two: the earlier one is the left one.
-- An unknown code, or an operation with fewer than two operands waiting, is 7, at the offset of the code.
abbrev pub joined : ℕ → Option Op → List Formula → Outcome (List Formula)
joined at none fs = refused 7 at
joined at (some o) [] = refused 7 at
joined at (some o) (r ∷ []) = refused 7 at
joined at (some o) (r ∷ l ∷ fs) = given (node o l r ∷ fs)

-- Codes below the number of names are leaves.
abbrev pub one_code : ℕ → ℕ → ℕ → List Formula → Outcome (List Formula)
one_code n at c fs = cond (ltb c n) (given (leaf c ∷ fs)) (joined at (operation c) fs)

-- Codes are judged left to right.
unfoldable pub all_codes : ℕ → ℕ → List ℕ → List Formula → Outcome (List Formula)
all_codes n at [] fs = given fs
all_codes n at (c ∷ cs) fs = one_code n at c fs >>= all_codes n (at + 2) cs

-- If the end leaves other than one operand, 7, at the tag.
abbrev pub only_one : ℕ → List Formula → Outcome Formula
only_one tag [] = refused 7 tag
only_one tag (f ∷ []) = given f
only_one tag (f ∷ g ∷ fs) = refused 7 tag

-- The formula of the codes, the first of which stands at offset `first`.
unfoldable pub formula_of : ℕ → ℕ → ℕ → List ℕ → Outcome Formula
formula_of n tag first cs = all_codes n first cs [] >>= only_one tag

-- Edition 2: operation, left operand, right operand. The formulas that follow stand next one first, and an operation joins the next two.
-- The clauses for fewer never decide: `proofs/CodesFirst.antt`.
abbrev pub joined_first : ℕ → Op → List Formula → Outcome (List Formula)
joined_first at o [] = refused 7 at
joined_first at o (l ∷ []) = refused 7 at
joined_first at o (l ∷ r ∷ fs) = given (node o l r ∷ fs)

-- Each operand is a whole formula of the same kind: after an operation two more are to come, which `on` reads with the k others.
abbrev pub operated : ℕ → Option Op → (ℕ → Outcome (List Formula)) → ℕ → Outcome (List Formula)
operated at none on k = refused 7 at
operated at (some o) on k = on (suc (suc k)) >>= joined_first at o

abbrev pub one_first : ℕ → ℕ → ℕ → (ℕ → Outcome (List Formula)) → ℕ → Outcome (List Formula)
one_first n at c on k = elim (ltb c n) [ true ↦ part (λ fs. leaf c ∷ fs) (on k) | false ↦ operated at (operation c) on k ]

-- The last argument says how many formulas are still to come. A formula that ends incomplete is 7, at the tag; a code after the formula is
-- complete is 7, at the offset of the code, as an unknown one is.
unfoldable pub all_first : ℕ → ℕ → ℕ → List ℕ → ℕ → Outcome (List Formula)
all_first n tag at [] zero = given []
all_first n tag at [] (suc k) = refused 7 tag
all_first n tag at (c ∷ cs) zero = refused 7 at
all_first n tag at (c ∷ cs) (suc k) = one_first n at c (all_first n tag (at + 2) cs) k

unfoldable pub formula_first : ℕ → ℕ → ℕ → List ℕ → Outcome Formula
formula_first n tag first cs = all_first n tag first cs 1 >>= only_one tag

-- By the edition.
unfoldable pub formula_in : ℕ → ℕ → ℕ → ℕ → List ℕ → Outcome Formula
formula_in edition n tag first cs = cond (eqb edition 1) (formula_of n tag first cs) (formula_first n tag first cs)

-- A formula's codes in an edition's order.
abbrev pub codes_in : ℕ → Formula → List ℕ
codes_in edition f = cond (eqb edition 1) (postfix f) (prefix f)

-- The formula's tag: 3 in edition 1, and for it 4 in edition 2.
abbrev pub formula_tag : ℕ → ℕ
formula_tag edition = edition + 2

-- ---- Order of reading

-- Tag 1, once and first: the edition, 1 up to the last one that may stand there.
unfoldable pub header : ℕ → List ℕ → Outcome ℕ
header last s = do
  -- is there a tag byte (else 1)
  need (ltb 0 (length s)) 1 (length s)
  -- may this tag stand here (else 2)
  need (eqb (get_or s 0 0) 1) 2 0
  -- are both length bytes there (else 1)
  need (leb 3 (length s)) 1 (length s)
  -- is the length allowed: a header with length wrong is 3
  need (eqb (length_at s 0) 2) 3 0
  -- are the bytes all there (else 1)
  need (leb 5 (length s)) 1 (length s)
  -- are they good: a header with edition wrong is 3
  need (leb 1 (two_bytes_at s 3)) 3 0
  need (leb (two_bytes_at s 3) last) 3 0
  given (two_bytes_at s 3)

-- Tag 2 at an offset, after the names ns.
unfoldable pub name_at : Setting → List ℕ → ℕ → List (List ℕ) → Outcome Field
name_at w s at ns = do
  -- is it not a 257th name (else 6): 6 counts both sheets' names together
  need (ltb (length w.fittings + length ns) most_names) 6 at
  -- are both length bytes there (else 1)
  need (leb (at + 3) (length s)) 1 (length s)
  -- is the length allowed: a name with length wrong is 4
  need (leb 1 (length_at s at)) 4 at
  need (leb (length_at s at) longest_name) 4 at
  -- are the bytes all there (else 1)
  need (leb (past_at s at) (length s)) 1 (length s)
  -- are they good: a name with a byte wrong is 4, one already taken is 5
  need (all_good (bytes_at s at)) 4 at
  need (not (taken ns (bytes_at s at))) 5 at
  -- 17, a customer's name equal to a fitting's, stands directly after 5
  need (not (taken w.fittings (bytes_at s at))) 17 at
  given (name_field (bytes_at s at) (past_at s at))

-- The formula's tag at an offset, after the names ns.
unfoldable pub formula_at : Setting → List ℕ → ℕ → List (List ℕ) → Outcome Field
formula_at w s at ns = do
  -- may this tag stand here: a formula before any name is 2; the customer's names are still one at least
  need (ltb 0 (length ns)) 2 at
  -- are both length bytes there (else 1)
  need (leb (at + 3) (length s)) 1 (length s)
  -- is the length allowed: a formula longer than 4094 is 6; of odd or no length is 7
  need (leb (length_at s at) longest_formula) 6 at
  need (leb 1 (length_at s at)) 7 at
  need (eqb (length_at s at % 2) 0) 7 at
  -- are the bytes all there (else 1)
  need (leb (past_at s at) (length s)) 1 (length s)
  -- are they good: codes are judged left to right; the customer's formula may use both sheets' names
  f ← formula_in w.edition (length w.fittings + length ns) at (at + 3) (codes_of (bytes_at s at))
  given (formula_field f (at + 3) (past_at s at))

-- The field at an offset, after the header and the names ns; the last argument says whether the formula was read already.
unfoldable pub field_at : Setting → List ℕ → ℕ → List (List ℕ) → Bool → Outcome Field
field_at w s at ns true = do
  -- after the formula any further byte is a tag out of place
  need (leb (length s) at) 2 at
  given end_field
field_at w s at ns false = do
  -- is there a tag byte (else 1)
  need (ltb at (length s)) 1 (length s)
  -- may this tag stand here (else 2): tag 4 under edition 1 or tag 3 under edition 2 is 2
  cond (eqb (get_or s at 0) 2) (name_at w s at ns) (cond (eqb (get_or s at 0) (formula_tag w.edition)) (formula_at w s at ns) (refused 2 at))

-- After a field: a name is added, and `on` reads on; the formula is the last one; an end before the formula comes too soon. That last
-- clause never decides: `proofs/Enough.antt`.
abbrev pub onward : Setting → (ℕ → List (List ℕ) → Outcome Sheet) → List ℕ → List (List ℕ) → Field → Outcome Sheet
onward w on s ns (name_field x past) = on past (ns ++ (x ∷ []))
onward w on s ns (formula_field f first past) =
    field_at w s past ns true >> given (record { edition = w.edition; names = w.fittings ++ ns; formula = f; first = first; past = past })
onward w on s ns end_field = refused 1 (length s)

-- The fields from an offset on, after the names ns: at most k of them. The clause for none never decides: `proofs/Enough.antt`.
unfoldable pub fields : Setting → ℕ → List ℕ → ℕ → List (List ℕ) → Outcome Sheet
fields w zero s at ns = refused 6 at
fields w (suc k) s at ns = field_at w s at ns false >>= onward w (fields w k s) s ns

-- The customer's sheet beside the fittings' names: the header, then the fields. 257 are enough, since a 257th name is refused.
unfoldable pub own : List (List ℕ) → List ℕ → Outcome Sheet
own fittings s = do
  said ← header last_edition s
  fields (record { fittings = fittings; edition = said }) (most_names + 1) s 5 []

-- ---- The fittings sheet: the same rules, except that it must end after its names

-- The field at an offset, after the header and the names ns.
unfoldable pub fitting_at : List ℕ → ℕ → List (List ℕ) → Outcome Field
fitting_at s at ns =
    cond (ltb at (length s))
    -- may this tag stand here (else 2)
    (cond (eqb (get_or s at 0) 2) (name_at unaided s at ns) (refused 2 at))
    -- ending before the first name is 1
    (need (ltb 0 (length ns)) 1 (length s) >> given end_field)

-- After a field: a name is added, and `on` reads on; the end is the end. No field is a formula: that
-- clause never decides, `proofs/Enough.antt`.
abbrev pub onward_fitting : (ℕ → List (List ℕ) → Outcome (List (List ℕ))) → ℕ → List (List ℕ) → Field → Outcome (List (List ℕ))
onward_fitting on at ns (name_field x past) = on past (ns ++ (x ∷ []))
onward_fitting on at ns (formula_field f first past) = refused 2 at
onward_fitting on at ns end_field = given ns

-- The names from an offset on, after the names ns: at most k fields. The clause for none never decides: `proofs/Enough.antt`.
unfoldable pub fitting_fields : ℕ → List ℕ → ℕ → List (List ℕ) → Outcome (List (List ℕ))
fitting_fields zero s at ns = refused 6 at
fitting_fields (suc k) s at ns = fitting_at s at ns >>= onward_fitting (fitting_fields k s) at ns

-- A fittings sheet: the header, then 1 to 256 names. 257 fields are enough: the last one is the end.
unfoldable pub fitting_names : List ℕ → Outcome (List (List ℕ))
fitting_names s = do
  header fittings_edition s
  fitting_fields (most_names + 1) s 5 []

-- ---- The sheets of a call: the fittings sheet is judged first

unfoldable pub reading : Sheets → Outcome Sheet
reading (alone s) = own [] s
reading (beside f s) = do
  names ← of_fittings (fitting_names f)
  own names s
