-- The labels of the dwarf nodes: the rule of each kind, and all labels worked out afresh.
use Rattle.std.specs.Prelude.{ℕ, zero, suc, ◌+◌, ◌*◌, ◌/◌, ◌%◌, Bool, true, false, ◌&&◌, List, [], get_or, eqb}
use Rattle.formula.specs.Formula.{Op, meaning}
use Rattle.formula.specs.States.{State}
use Rattle.contraction.specs.Records.{Side, left, right, Kind, leaf, E, R, S, C, Rec, is_leaf}
use Rattle.contraction.specs.Height.{worked}

-- Leaf, E and S carry a bit.
abbrev pub bit : Bool → ℕ
bit false = 0
bit true = 1

abbrev pub on : ℕ → Bool
on zero = false
on (suc n) = true

-- R and C carry a pair (a, b), listed as 2a + b,
abbrev pub pair : Bool → Bool → ℕ
pair a b = 2 * bit a + bit b

-- meaning: a if the value from below is 1, else b.
abbrev pub pick : ℕ → Bool → Bool
pick p true = on (p / 2)
pick p false = on (p % 2)

-- The operation with v on the raked side and u on the open side.
abbrev pub applied : Side → Op → Bool → Bool → Bool
applied left o v u = meaning o v u
applied right o v u = meaning o u v

-- R from the raked value v: the operation itself, applied with 1 and with 0 on the open side.
abbrev pub raked : Side → Op → Bool → ℕ
raked side o v = pair (applied side o v true) (applied side o v false)

-- A label by kind, from the state of the shape and from the labels x of first and y of second.
-- S picks a or b by its value child. C of (a1,b1) over (a2,b2) is the first pair applied to a2, then to b2.
abbrev pub rule : Kind → Bool → ℕ → ℕ → ℕ
rule leaf inside x y = bit inside
rule (E o) inside x y = bit (meaning o (on x) (on y))
rule (R side o) inside x y = raked side o (on x)
rule S inside x y = bit (pick x (on y))
rule C inside x y = pair (pick x (pick y true)) (pick x (pick y false))

abbrev pub label : State → List ℕ → Rec → ℕ
label state ls r = rule r.kind (state r.first) (get_or ls r.first 0) (get_or ls r.second 0)

-- All labels worked out afresh, in rising order, where `state` says which shapes are inside.
abbrev pub labels : State → List Rec → List ℕ
labels state rs = worked (label state) [] rs

-- The node is a leaf of shape s.
abbrev pub is_of : ℕ → Rec → Bool
is_of s r = is_leaf r.kind && eqb r.first s
