-- Keys of names, which the reader keeps in an array: names with unlike keys are unlike.
use Rattle.std.specs.Prelude.{ℕ, ◌+◌, ◌*◌, ◌%◌, ◌≤◌, ◌<◌, ◌≡◌, Bool, false, cond, ◌||◌, List, [], ◌∷◌, ◌++◌, map, length, take, eqb}
use Rattle.sheet.specs.Sheet.{most_names, taken}
use Rattle.sheet.specs.Walk.{walk_end, walk_names}
use Rattle.sheet_names.specs.declared.Whose.{Whose}
use Rattle.sheet_names.specs.declared.Whose.TheVariants.{Customers, Fittings, Nobodys}

abbrev pub mixed : ℕ → ℕ → ℕ
mixed key x = (key * 16777619 + x) % 4294967296

unfoldable pub key_from : ℕ → List ℕ → ℕ
key_from key [] = key
key_from key (x ∷ xs) = key_from (mixed key x) xs

abbrev pub key_of : List ℕ → ℕ
key_of x = key_from 0 x

unfoldable pub has : List ℕ → ℕ → Bool
has [] key = false
has (k ∷ ks) key = eqb k key || has ks key

-- The array begins with the keys of the names.
pub record Keyed (array : List ℕ) (ns : List (List ℕ)) : Type 0 where
  pub are : take (length ns) array ≡ map key_of ns
  pub sized : length array ≡ most_names

-- The names that are walked, so many from an offset on, are all there.
pub record Walkable (s : List ℕ) (at n : ℕ) : Type 0 where
  pub ends : 0 < n → walk_end s at n ≤ length s

-- So many names of the fittings sheet f and so many of s were read, from offset 5 on in each, and the array has their keys.
pub record NamesRead (f : List ℕ) (m : ℕ) (s : List ℕ) (n : ℕ) (array : List ℕ) : Type 0 where
  pub fittings_there : Walkable f 5 m
  pub there : Walkable s 5 n
  pub few : m + n ≤ most_names
  pub keyed : Keyed array (walk_names f 5 m ++ walk_names s 5 n)

-- Whose name x is already: one of the customer's names ns, or one of the fittings' names fs.
abbrev pub whose_is : List (List ℕ) → List (List ℕ) → List ℕ → Whose
whose_is fs ns x = cond (taken ns x) Customers (cond (taken fs x) Fittings Nobodys)
