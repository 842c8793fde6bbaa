-- Requests K7, K10 and K11, computed of the definitions: what moves and questions for names give, and how they are refused.
use mathlib.Core.Path.{refl}
use Rattle.sheet.specs.Sheet.{length_at, past_at, bytes_at, all_good, same, taken, codes_of, all_codes, formula_of, all_first, formula_first, formula_in, header, name_at, formula_at, field_at, fields, own, fitting_at, fitting_fields, fitting_names, reading}
use Rattle.sheet.specs.Walk.{walk_end}
use Rattle.sheet_laying.specs.Bytes.{code_bytes}
use Rattle.job_move.specs.Moving.{moved, has_exclusive, before_exclusive, moving}
use Rattle.job_name.specs.Naming.{naming}
use Rattle.job_names.specs.Names.{numbers_below, placing_all, giving_all, naming_all}
use Rattle.demands.specs.SheetCases.{All, table}

pub sheets_hold : All table
unfolding moving moved has_exclusive before_exclusive code_bytes naming naming_all giving_all placing_all numbers_below walk_end reading own fields field_at fitting_names fitting_fields fitting_at header name_at formula_at formula_of formula_first formula_in all_codes all_first codes_of taken same all_good bytes_at past_at length_at
sheets_hold = (refl, (refl, (refl, (refl, (refl, (refl, (refl, (refl, (refl, (refl, (refl, (refl, (refl, (refl, (refl, (refl, (refl, (refl, tt))))))))))))))))))
