-- What the opinion on their list means, apart from how it is found.
use Rattle.std.specs.Prelude.{ℕ, suc, ◌≤◌, ◌<◌, List, ◌++◌, length, take}
use Rattle.line_opinion.specs.Judging.{Entry, RightFor, Opinion, right, wrong_at}

-- Some right list begins with these entries.
pub record Begins (ours first : List Entry) : Type 0 where
  pub rest : List Entry
  pub is_right : RightFor ours (first ++ rest)

-- Their list is wrong. A right list can begin with the entries before k, and if there is an entry k, none with it too: k is the first such, or the list's length if it only lacks entries.
pub record WrongAt (ours theirs : List Entry) (k : ℕ) : Type 0 where
  pub wrong : RightFor ours theirs → ⊥
  pub within : k ≤ length theirs
  pub before : (j : ℕ) → j ≤ k → Begins ours (take j theirs)
  pub after : k < length theirs → Begins ours (take (suc k) theirs) → ⊥

abbrev pub Means : List Entry → List Entry → Opinion → Type 0
Means ours theirs right = RightFor ours theirs
Means ours theirs (wrong_at k) = WrongAt ours theirs k
