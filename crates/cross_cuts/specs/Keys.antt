-- How the code holds one line's crossings: what it meets of a shape, a key for each crossing, and what it has gathered so far.
use Rattle.std.specs.Prelude.{ℕ, ◌+◌, ◌*◌, ◌/◌, ◌%◌, ◌≤◌, ◌≡◌, true, false, List, [], ◌∷◌, ◌++◌, map, ◌≢◌, length, take, drop, get_or, Option, Some, None, Result, Ok, Err}
use Rattle.outcome.specs.Outcome.{given, refused}
use Rattle.cross_ranks.specs.Ranks.{unrank}
use Rattle.cross_cuts.specs.Cuts.{Cut, fault, cut, sound, start_row, LineCrossing, crossed_at, crossings_from, faultless}
use Rattle.cross_cuts.specs.declared.Met.{Met}
use Rattle.cross_cuts.specs.declared.Met.TheVariants.{Never, Once, Twice}

-- What the line has of a shape, by what the code meets: none where the shape is at fault, else no, one or two crossings, each by its rank.
abbrev pub cut_of : Option Met → Cut
cut_of None = fault
cut_of (Some (Never inside)) = cut inside []
cut_of (Some (Once inside a)) = cut inside (unrank a ∷ [])
cut_of (Some (Twice a b)) = cut false (unrank a ∷ unrank b ∷ [])

-- A crossing's key rises as positions do, and at one position as shapes do.
abbrev pub key_of : ℕ → ℕ → ℕ
key_of rank shape = rank * 256 + shape

abbrev pub crossing_of : ℕ → LineCrossing
crossing_of key = crossed_at (unrank (key / 256)) (key % 256)

-- Room for w shapes, a byte and two keys each; i shapes and m crossings are there.
pub record Held (w : ℕ) (starts keys : List ℕ) (i m : ℕ) : Type 0 where
  pub starts_sized : length starts ≡ w
  pub keys_sized : length keys ≡ 2 * w
  pub some : i ≤ w
  pub few : m ≤ 2 * i

-- What is there is what these cuts give.
pub record Gathered (cuts : List Cut) (starts keys : List ℕ) (i m : ℕ) : Type 0 where
  pub all : length cuts ≡ i
  pub started : take i starts ≡ start_row cuts
  pub keyed : map crossing_of (take m keys) ≡ crossings_from 0 cuts

-- One cut more: it is not at fault, and it is there with the others.
pub record Adds (w : ℕ) (c : Cut) (starts keys : List ℕ) (i m : ℕ) (starts' keys' : List ℕ) (n : ℕ) : Type 0 where
  pub faultless_cut : sound c ≡ true
  pub held : Held w starts' keys' (i + 1) n
  pub gathered : (cuts : List Cut) → Gathered cuts starts keys i m → Gathered (cuts ++ (c ∷ [])) starts' keys' (i + 1) n

-- No byte is another than before but that of shape i.
pub record Elsewhere (i : ℕ) (starts starts' : List ℕ) : Type 0 where
  pub same : (j : ℕ) → j ≢ i → get_or starts' j 0 ≡ get_or starts j 0

-- The first i of all the cuts are gathered, and what is left decides which is at fault.
pub record Going (w number : ℕ) (all : List Cut) (starts keys : List ℕ) (i m : ℕ) : Type 0 where
  pub held : Held w starts keys i m
  pub within : i ≤ length all
  pub gathered : Gathered (take i all) starts keys i m
  pub left : faultless number 0 all ≡ faultless number i (drop i all)

-- All of them are gathered, and none is at fault.
pub record Complete (w number : ℕ) (all : List Cut) (starts keys : List ℕ) (n m : ℕ) : Type 0 where
  pub held : Held w starts keys n m
  pub gathered : Gathered all starts keys n m
  pub none : faultless number 0 all ≡ given tt

-- By cases: the first cut at fault, which is refused; or all of them are gathered.
abbrev pub Ends : ℕ → ℕ → List Cut → List ℕ → List ℕ → Result ℕ ℕ → Type 0
Ends w number all starts keys (Err i) = faultless number 0 all ≡ refused number i
Ends w number all starts keys (Ok m) = Complete w number all starts keys (length all) m
