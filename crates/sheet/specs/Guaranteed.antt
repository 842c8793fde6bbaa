-- What sheets that are read guarantee: document 01, 'The sheet', and document 02, K7 and K10.
use Rattle.std.specs.Prelude.{ℕ, ◌+◌, ◌-◌, ◌%◌, ◌≤◌, ◌<◌, ◌≡◌, List, [], ◌++◌, length, get_or}
use Rattle.formula.specs.Formula.{leaves, postfix, Over}
use Rattle.sheet.specs.Sheet.{Sheets, alone, beside, own_sheet, Sheet, last_edition, most_names, longest_name, longest_formula, between, codes_of, codes_in, formula_tag}
use Rattle.sheet.specs.Walk.{walk_end, walk_names}

-- So there are at most 1024 leaves, 2047 formula nodes and 13,062 bytes.
abbrev most_leaves : ℕ
most_leaves = 1024

abbrev most_nodes : ℕ
most_nodes = 2047

abbrev pub most_bytes : ℕ
most_bytes = 13062

-- A name of 1 to 32 bytes, each 0x21 to 0x7E.
pub record GoodName (x : List ℕ) : Type 0 where
  pub some : 1 ≤ length x
  pub few : length x ≤ longest_name
  pub low : (i : ℕ) → i < length x → 0x21 ≤ get_or x i 0
  pub high : (i : ℕ) → i < length x → get_or x i 0 ≤ 0x7E

-- At most 256 names, each of them good, and no two equal.
pub record GoodNames (ns : List (List ℕ)) : Type 0 where
  pub few : length ns ≤ most_names
  pub good : (k : ℕ) → k < length ns → GoodName (get_or ns k [])
  pub unlike : (j k : ℕ) → j < k → k < length ns → get_or ns j [] ≡ get_or ns k [] → ⊥

-- Of the customer's sheet s, beside the fittings' names.
pub record Own (fittings : List (List ℕ)) (s : List ℕ) (r : Sheet) : Type 0 where
  -- edition 1 or 2, in the header's last byte
  pub least_edition : 1 ≤ r.edition
  pub most_edition : r.edition ≤ last_edition
  pub said : get_or s 4 0 ≡ r.edition
  -- 1 to 256 names, those of both sheets together; the customer's still one at least
  pub owned : ℕ
  pub some_names : 1 ≤ owned
  pub good_names : GoodNames r.names
  -- codes below the number of names are leaves
  pub over : Over (length r.names) r.formula
  pub few_leaves : leaves r.formula ≤ most_leaves
  pub few_codes : length (postfix r.formula) ≤ most_nodes
  -- the formula in its edition's order, two bytes a code, high byte first, 2 to 4094 bytes
  pub tagged : get_or s (r.first - 3) 0 ≡ formula_tag r.edition
  pub codes_are : codes_of (between s r.first r.past) ≡ codes_in r.edition r.formula
  pub some_bytes : r.first + 2 ≤ r.past
  pub few_bytes : r.past - r.first ≤ longest_formula
  pub even : (r.past - r.first) % 2 ≡ 0
  -- after the formula there is no further byte
  pub ends : r.past ≡ length s
  pub few_in_all : length s ≤ most_bytes
  -- the fittings' names are numbered first; the customer's are those of the fields from offset 5 on; the formula's field is the next one
  pub names_are : r.names ≡ fittings ++ walk_names s 5 owned
  pub follows : r.first ≡ walk_end s 5 owned + 3

-- Of the fittings sheet f: 1 to 256 names, and nothing after them.
pub record Fitted (f : List ℕ) (names : List (List ℕ)) : Type 0 where
  pub some_names : 1 ≤ length names
  pub good_names : GoodNames names
  pub names_are : names ≡ walk_names f 5 (length names)
  pub ends : walk_end f 5 (length names) ≡ length f

-- The fittings' names of a call's sheets.
abbrev FittingsOf : Sheets → List (List ℕ) → Type 0
FittingsOf (alone s) names = names ≡ []
FittingsOf (beside f s) names = Fitted f names

-- Of a call's sheets.
pub record Guaranteed (c : Sheets) (r : Sheet) : Type 0 where
  pub fittings : List (List ℕ)
  pub fitted : FittingsOf c fittings
  pub own : Own fittings (own_sheet c) r
