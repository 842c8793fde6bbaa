-- A formula laid from its end: the operations that wait, the last one in hand and those before it at the array's front behind one entry
-- that means nothing; what is still to be read and to be laid.
use Rattle.std.specs.Prelude.{ℕ, ◌+◌, ◌-◌, ◌*◌, ◌≤◌, ◌<◌, ◌≡◌, List, [], ◌∷◌, ◌++◌, length, get_or, take, drop}
use Rattle.std.proofs.Math.Option.{Option, none, some}
use Rattle.formula.specs.Formula.{Op, first_operation, code, Formula, postfix, prefix, Over}

-- An operation waits for both operands, the right one of which is being laid and the left one not yet read; or for its left one, which is
-- being laid. The innermost operation stands first in a list.
pub data Wait : Type 0 where
  for_both : Op → Formula → Wait
  for_left : Op → Wait

-- Their codes as they stand, the innermost one last.
abbrev pub codes_held : List Wait → List ℕ
codes_held [] = []
codes_held (for_both o l ∷ ws) = codes_held ws ++ (code o ∷ [])
codes_held (for_left o ∷ ws) = codes_held ws ++ ((code o + 4) ∷ [])

-- The codes that are still to be read of their operands.
abbrev pub unread : List Wait → List ℕ
unread [] = []
unread (for_both o l ∷ ws) = unread ws ++ postfix l
unread (for_left o ∷ ws) = unread ws

-- The codes that are still to be laid of them and of their operands.
abbrev pub ahead : List Wait → List ℕ
ahead [] = []
ahead (for_both o l ∷ ws) = ahead ws ++ (code o ∷ prefix l)
ahead (for_left o ∷ ws) = ahead ws ++ (code o ∷ [])

abbrev OverAll : List Wait → Type 0
OverAll [] = Unit {0}
OverAll (for_both o l ∷ ws) = Over first_operation l × OverAll ws
OverAll (for_left o ∷ ws) = OverAll ws

-- The formula that is read next, or none.
abbrev next_postfix : Option Formula → List ℕ
next_postfix none = []
next_postfix (some f) = postfix f

abbrev next_prefix : Option Formula → List ℕ
next_prefix none = []
next_prefix (some f) = prefix f

abbrev OverNext : Option Formula → Type 0
OverNext none = Unit {0}
OverNext (some f) = Over first_operation f

-- With `at` codes to be read, those of `codes`, and so many operations held, the last one in hand, what is still to be laid and what was
-- laid are `all`.
pub record Stands (ws : List Wait) (next : Option Formula) (laid : List ℕ) (held last at : ℕ) (codes all : List ℕ) : Type 0 where
  pub over : OverAll ws
  pub over_next : OverNext next
  pub nothing : ℕ
  pub held_are : take held laid ++ (last ∷ []) ≡ nothing ∷ codes_held ws
  pub left : unread ws ++ next_postfix next ≡ codes
  pub whole : (ahead ws ++ next_prefix next) ++ drop (at + held) laid ≡ all

-- A formula was laid, and the operations before it wait.
pub record Between (laid : List ℕ) (held last at : ℕ) (codes all : List ℕ) : Type 0 where
  pub waits : List Wait
  pub stands : Stands waits none laid held last at codes all

-- A formula is read next, unless nothing waits.
pub record Settled (laid : List ℕ) (held last at : ℕ) (codes all : List ℕ) : Type 0 where
  pub waits : List Wait
  pub next : Option Formula
  pub ends : next ≡ none → waits ≡ []
  pub stands : Stands waits next laid held last at codes all

-- The entry that means nothing stays below all operations' codes, whatever codes are laid: each of k leaves adds 4 to it at most.
pub record Low (laid : List ℕ) (held last k : ℕ) : Type 0 where
  pub small : last < 65536
  pub in_hand : held ≡ 0 → last ≤ 4 * k
  pub at_front : 0 < held → get_or laid 0 0 ≤ 4 * k

pub record Settles (old : List ℕ) (held last : ℕ) (new : List ℕ) (less after at : ℕ) : Type 0 where
  pub long : length new ≡ 2048
  pub fewer : less ≤ held
  pub low : Low new less after (2048 - at)
  pub is : (codes all : List ℕ) → Between old held last at codes all → Settled new less after at codes all
