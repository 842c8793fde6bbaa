-- What a job of many lines gives: its answer, or a refusal that says which line it is of.
use Rattle.std.specs.Prelude.{ℕ}
use Rattle.outcome.specs.Outcome.{Outcome, given, refused, unfit}

-- A refusal has its number, its place, and the number of its line: 0 where it is of no line.
pub data OfLines (A : Type 0) : Type 0 where
  gives : A → OfLines A
  refuses : ℕ → ℕ → ℕ → OfLines A

-- Questions in order: the first reason met is the one given.
infixl 10 ◌>>◌
abbrev pub ◌>>◌ : {A B : Type 0} → OfLines A → OfLines B → OfLines B
gives a >> rest = rest
refuses number place line >> rest = refuses number place line

-- What is asked of the line with this number.
abbrev pub of_line : {A : Type 0} → ℕ → Outcome A → OfLines A
of_line line (given a) = gives a
of_line line (refused number place) = refuses number place line
of_line line (unfit number place) = refuses number place line

-- What is asked of no line.
abbrev pub of_none : {A : Type 0} → Outcome A → OfLines A
of_none o = of_line 0 o

-- A part of what is given.
abbrev pub part_of : {A B : Type 0} → (A → B) → OfLines A → OfLines B
part_of f (gives a) = gives (f a)
part_of f (refuses number place line) = refuses number place line

-- The same, whatever the line.
abbrev pub outcome_of : {A : Type 0} → OfLines A → Outcome A
outcome_of (gives a) = given a
outcome_of (refuses number place line) = refused number place
