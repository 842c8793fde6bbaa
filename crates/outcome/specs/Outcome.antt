-- What a job gives: its answer, or a refusal with its number and its place.
use Rattle.std.specs.Prelude.{ℕ, Bool, true, false, leb}

pub data Outcome (A : Type 0) : Type 0 where
  given : A → Outcome A
  refused : ℕ → ℕ → Outcome A
  -- the fittings sheet is refused: the place is one in it
  unfit : ℕ → ℕ → Outcome A

-- Questions in order: the first reason met is the one given.
infixl 10 ◌>>=◌
infixl 10 ◌>>◌
abbrev pub ◌>>=◌ : {A B : Type 0} → Outcome A → (A → Outcome B) → Outcome B
given a >>= f = f a
refused number place >>= f = refused number place
unfit number place >>= f = unfit number place

abbrev pub ◌>>◌ : {A B : Type 0} → Outcome A → Outcome B → Outcome B
given a >> b = b
refused number place >> b = refused number place
unfit number place >> b = unfit number place

-- One question: where the answer is no, the refusal with this number at this place.
abbrev pub need : Bool → ℕ → ℕ → Outcome (Unit {0})
need true number place = given tt
need false number place = refused number place

-- 9, an answer list is too short: the place is the length needed.
abbrev pub room : ℕ → ℕ → Outcome (Unit {0})
room needed long = need (leb needed long) 9 needed

-- A part of what is given.
abbrev pub part : {A B : Type 0} → (A → B) → Outcome A → Outcome B
part f (given a) = given (f a)
part f (refused number place) = refused number place
part f (unfit number place) = unfit number place

-- What is asked of a fittings sheet: its refusals say so.
abbrev pub of_fittings : {A : Type 0} → Outcome A → Outcome A
of_fittings (given a) = given a
of_fittings (refused number place) = unfit number place
of_fittings (unfit number place) = unfit number place
