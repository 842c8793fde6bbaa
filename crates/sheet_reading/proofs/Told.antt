-- What an answer tells of the reading itself, for the rooms above: its sheet, and that the formula's codes can be put into an array.
use Prim.Native.Nat.{ℕ, ◌-◌, ◌≤◌, ◌<◌}
use native.Mathlib.Omega.{arith}
use mathlib.Core.Path.{◌≡◌, sym, ap}
use mathlib.Core.List.{List}
use lib.ListN.{length, get_or, length-take, length-drop}
use Rattle.outcome.specs.Outcome.{given}
use Rattle.formula.specs.Formula.{first_operation, leaves}
use Rattle.sheet.specs.Sheet.{Sheets, own_sheet, Sheet, between, codes_of, formula_in, codes_in, reading}
use Rattle.sheet.specs.Guaranteed.{Guaranteed}
use Rattle.sheet.proofs.CodesFirst.{codes_in-formula}
use Rattle.sheet.proofs.Names.{walk_on}
use Rattle.sheet.proofs.Guaranteed.{guaranteed}
use Rattle.sheet_reading.specs.Reading.{numbers_of, told}
use Rattle.sheet_codes.specs.Codes.{CodesFit}
use Rattle.sheet_reading.specs.declared.Read.{Read}
use Rattle.outcome.proofs.Questions.{part-given}

pub record Known (c : Sheets) (n l a e : ℕ) : Type 0 where
  pub sheet : Sheet
  pub read : reading c ≡ given sheet
  pub names_are : n ≡ length sheet.names
  pub leaves_are : l ≡ leaves sheet.formula
  pub first_is : a ≡ sheet.first
  pub past_is : e ≡ sheet.past

pub read_known : (c : Sheets) (r : Read) → given r ≡ told c → Known c r.names r.leaves r.first r.past
unfolding told
read_known c r said =
    let g = part-given numbers_of (reading c) r said in
    let h = g.2 in
    record { sheet = g.0; read = g.1; names_are = ap (λ (x : Read). x.names) (sym h); leaves_are = ap (λ (x : Read). x.leaves) (sym h); first_is = ap (λ (x : Read). x.first) (sym h); past_is = ap (λ (x : Read). x.past) (sym h) }

-- ---- the formula's bytes

module _ (c : Sheets) (n l first past : ℕ) (known : Known c n l first past) where
  pub known_facts : Guaranteed c known.sheet
  known_facts = guaranteed c known.sheet known.read

  pub formula-ordered : first ≤ past
  formula-ordered = omega (arith, known.first_is, known.past_is, known_facts.own.some_bytes)

  pub formula-inside : past ≤ length (own_sheet c)
  formula-inside = omega (arith, known.past_is, known_facts.own.ends)

  formula-length : length (between (own_sheet c) first past) ≡ past - first
  formula-length = simp (length-take, length-drop) (omega (arith, formula-inside))

  pub formula-fits : (array : List ℕ) → length array ≡ 2048 → CodesFit (between (own_sheet c) first past) array
  formula-fits array sized =
      record {
        few = rw (formula-length, known.first_is, known.past_is) known_facts.own.few_bytes;
        even = rw (formula-length, known.first_is, known.past_is) known_facts.own.even;
        sized = sized;
      }

  formula-codes : codes_of (between (own_sheet c) first past) ≡ codes_in known.sheet.edition known.sheet.formula
  formula-codes = rw (known.first_is, known.past_is) known_facts.own.codes_are

  pub header_there : 4 < length (own_sheet c)
  header_there = omega (arith, known_facts.own.ends, known_facts.own.some_bytes, known_facts.own.follows, walk_on (own_sheet c) 5 known_facts.own.owned)

  pub few_names : n ≤ 256
  few_names = omega (arith, known.names_are, known_facts.own.good_names.few)

  -- the codes, judged in the order of the edition that the header says, give the formula
  pub formula-said : formula_in (get_or (own_sheet c) 4 0) n 0 0 (codes_of (between (own_sheet c) first past)) ≡ given known.sheet.formula
  formula-said =
      let few : n ≤ first_operation = omega (arith, few_names) in
      rw (formula-codes, known_facts.own.said) (codes_in-formula known.sheet.edition n few 0 0 known.sheet.formula (rw known.names_are known_facts.own.over))
