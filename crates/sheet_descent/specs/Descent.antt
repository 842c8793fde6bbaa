-- What the descent over a formula's codes, operation first, has found, and what is asked of codes that are judged or put into an array.
use Rattle.std.specs.Prelude.{Option as Answer, Some, None, ℕ, suc, ◌+◌, ◌*◌, ◌%◌, ◌^◌, ◌≤◌, ◌<◌, ◌≡◌, true, false, List, [], ◌∷◌, ◌++◌, length, take, drop, ltb}
use Rattle.std.proofs.Math.Option.{Option, none, some}
use Rattle.outcome.specs.Outcome.{Outcome, given, refused, unfit}
use Rattle.formula.specs.Formula.{Op, first_operation, Formula, postfix, prefix, Over}
use Rattle.formula.specs.Codes.{operation}
use Rattle.sheet.specs.Sheet.{longest_formula, codes_of, all_first, formula_first, formula_in}
use Rattle.sheet_codes.specs.Codes.{CodesFit}

-- A formula's bytes over n names, of which the formula at offset `at` has those up to `past`, and an array with room for its codes after so
-- many that stand in it.
pub record Room (n : ℕ) (bytes array : List ℕ) (at past count : ℕ) : Type 0 where
  pub few_names : n ≤ first_operation
  pub few : length bytes ≤ longest_formula
  pub even : length bytes % 2 ≡ 0
  pub sized : length array ≡ 2048
  pub here : at % 2 ≡ 0
  pub there : past % 2 ≡ 0
  pub near : at ≤ length bytes
  pub within : past ≤ length bytes
  pub behind : 2 * count ≤ at

-- A whole formula stands from `at` up to `next`, and its codes in postfix order were put after the first `count` ones.
pub record IsWhole (n : ℕ) (bytes : List ℕ) (at past : ℕ) (old new : List ℕ) (count next : ℕ) : Type 0 where
  pub formula : Formula
  pub over : Over n formula
  pub codes_are : codes_of (drop at bytes) ≡ prefix formula ++ codes_of (drop next bytes)
  pub next_is : next ≡ at + 2 * length (postfix formula)
  pub within : next ≤ past
  pub written : take (count + length (postfix formula)) new ≡ take count old ++ postfix formula
  pub sized : length new ≡ 2048

-- The code at `place` is wrong, however many formulas are to come.
pub record IsWrong (n : ℕ) (bytes : List ℕ) (at place : ℕ) : Type 0 where
  pub within : place ≤ length bytes
  pub is : (tag first k : ℕ) → all_first n tag (first + at) (codes_of (drop at bytes)) (suc k) ≡ refused 7 (first + place)

-- Where no whole formula stands, 7 stands at the first unknown code, or else at the tag; `on` is where it stands after a code that is known.
abbrev unless_known : ℕ → Option Op → ℕ → ℕ
unless_known at none on = at
unless_known at (some o) on = on

unfoldable pub short_at : ℕ → ℕ → ℕ → List ℕ → ℕ
short_at n tag at [] = tag
short_at n tag at (c ∷ cs) = elim (ltb c n) [ true ↦ short_at n tag (at + 2) cs | false ↦ unless_known at (operation c) (short_at n tag (at + 2) cs) ]

-- No whole formula stands at `at`, where as many formulas are to come after this one as there are codes from `past` on, or more: a code is
-- unknown, or the codes are too few.
pub record EndsEarly (n : ℕ) (bytes : List ℕ) (at past : ℕ) : Type 0 where
  pub is : (tag first k : ℕ) → length bytes ≤ past + 2 * k → all_first n tag (first + at) (codes_of (drop at bytes)) (suc k) ≡ refused 7 (short_at n tag (first + at) (codes_of (drop at bytes)))

-- The first unknown code from `at` on stands at `place`: so for each tag, which `short_at` gives where none is unknown.
pub record FirstUnknown (n : ℕ) (bytes : List ℕ) (at place : ℕ) : Type 0 where
  pub is : (tag first : ℕ) → short_at n tag (first + at) (codes_of (drop at bytes)) ≡ first + place

-- The formula at `at` ends early; and the first unknown code is wrong where as many formulas are to come after this one as there are codes
-- from `past` up to it, or more: however few they are, where it stands no further than `past`.
pub record Fails (n : ℕ) (bytes : List ℕ) (at past : ℕ) : Type 0 where
  pub early : EndsEarly n bytes at past
  pub wrong : (place k : ℕ) → FirstUnknown n bytes at place → place ≤ past + 2 * k → (tag first : ℕ) → all_first n tag (first + at) (codes_of (drop at bytes)) (suc k) ≡ refused 7 (first + place)

-- By cases of the answer: the offset past a whole formula, or none.
abbrev pub Descended : ℕ → List ℕ → ℕ → ℕ → List ℕ → List ℕ → ℕ → Answer ℕ → Type 0
Descended n bytes at past old new count (Some next) = IsWhole n bytes at past old new count next
Descended n bytes at past old new count None = Fails n bytes at past

-- ---- the codes judged, and put into an array

pub record FirstFits (n first : ℕ) (bytes : List ℕ) : Type 0 where
  pub few_names : n ≤ first_operation
  pub few : length bytes ≤ longest_formula
  pub even : length bytes % 2 ≡ 0
  pub near : first + length bytes < 2 ^ 64

-- The codes of the formula that codes judged good give, in postfix order.
abbrev pub in_postfix : Outcome Formula → List ℕ
in_postfix (given f) = postfix f
in_postfix (refused number place) = []
in_postfix (unfit number place) = []

pub record GoodFirst (n : ℕ) (bytes array : List ℕ) : Type 0 where
  pub few_names : n ≤ first_operation
  pub fits : CodesFit bytes array
  pub formula : Formula
  pub is : formula_first n 0 0 (codes_of bytes) ≡ given formula

pub record GoodIn (edition n : ℕ) (bytes array : List ℕ) : Type 0 where
  pub few_names : n ≤ first_operation
  pub fits : CodesFit bytes array
  pub formula : Formula
  pub is : formula_in edition n 0 0 (codes_of bytes) ≡ given formula
