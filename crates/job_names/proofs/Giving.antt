-- The promise of asking for all names, exit by exit.
use Prim.Native.Nat.{ℕ, ◌≤◌, ◌<◌}
use mathlib.Core.Path.{◌≡◌, ◌∙◌}
use mathlib.Core.List.{List, map}
use lib.ListN.{length, length-map}
use borrow.Author.Tests.{le-leb}
use Rattle.outcome.specs.Outcome.{Outcome, given, room, ◌>>◌, ◌>>=◌}
use Rattle.sheet.specs.Sheet.{Sheets, reading}
use Rattle.std.specs.Prelude.{Ok, Err}
use Rattle.outcome.specs.Refusing.{answered}
use Rattle.outcome.specs.declared.Refusal.{Refusal}
use Rattle.outcome.specs.declared.Refusal.TheVariants as refusal
use Rattle.sheet_reading.specs.Reading.{told}
use Rattle.sheet_reading.specs.declared.Read.{Read}
use Rattle.sheet_reading.proofs.Settled.{read_err}
use Rattle.job_name.specs.Naming.{Stand, stand_of}
use Rattle.job_name.specs.Within.{fitted_among, ReadAs}
use Rattle.job_name.proofs.Placing.{asked-after}
use Rattle.job_names.specs.Names.{numbers_below, placing_all, giving_all, naming_all}
use Rattle.job_names.specs.NamedAll.{NameLists, NamedAll}
use Rattle.job_names.specs.Standing.{standing}
use Rattle.job_names.proofs.Listing.{numbers-length}

-- the sheets first
pub asked-all : (c : Sheets) → placing_all c ≡ (reading c >>= λ r. given (map (stand_of c (fitted_among c)) (numbers_below (length r.names))))
unfolding placing_all
asked-all c = asked-after (λ m r. given (map (stand_of c m) (numbers_below (length r.names)))) c

-- ---- a sheet is refused

pub all-refused : (c : Sheets) (e : Refusal) → answered {A = Read} (Err e) ≡ told c → (ss fs ps : List ℕ) → NamedAll (naming_all c (length ss) (length fs) (length ps)) ss fs ps (Err e) ss fs ps
unfolding naming_all
all-refused c (refusal.Refused f) said ss fs ps =
    let h = read_err c (refusal.Refused f) said in
    record { answer = rw (asked-all c, h); lists = record { sheets_list = rw (asked-all c, h); firsts_list = rw (asked-all c, h); pasts_list = rw (asked-all c, h) } }
all-refused c (refusal.Unfit f) said ss fs ps =
    let h = read_err c (refusal.Unfit f) said in
    record { answer = rw (asked-all c, h); lists = record { sheets_list = rw (asked-all c, h); firsts_list = rw (asked-all c, h); pasts_list = rw (asked-all c, h) } }

-- ---- the sheets are read, with so many names

module _ (c : Sheets) (names : ℕ) (r : ReadAs c names) (ss fs ps : List ℕ) where
  abbrev asked : Outcome (List Stand)
  asked = naming_all c (length ss) (length fs) (length ps)

  many : length (standing c names) ≡ names
  unfolding standing
  many = length-map (numbers_below names) (stand_of c (fitted_among c)) ∙ numbers-length names

  then_giving : asked ≡ giving_all (standing c names) (length ss) (length fs) (length ps)
  unfolding naming_all standing
  then_giving = rw (asked-all c, r.read, r.names_are)

  pub asked-lists : asked ≡ (room names (length ss) >> (room names (length fs) >> (room names (length ps) >> given (standing c names))))
  unfolding giving_all
  asked-lists = then_giving ∙ rw many

  pub all-given : names ≤ length ss → names ≤ length fs → names ≤ length ps → (ss' fs' ps' : List ℕ)
      → NameLists (given (standing c names)) ss fs ps ss' fs' ps' → NamedAll asked ss fs ps (Ok names) ss' fs' ps'
  unfolding giving_all
  all-given h i j ss' fs' ps' lists =
      let is : asked ≡ given (standing c names) = then_giving ∙ rw (many, le-leb _ _ h, le-leb _ _ i, le-leb _ _ j) in
      record { answer = rw (is, many); lists = rw is lists }
