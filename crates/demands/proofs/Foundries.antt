-- Request K8 on the worked sheet, computed of the definitions: what each of two foundries gets.
use mathlib.Core.Path.{refl}
use Rattle.formula.specs.States.{times}
use Rattle.sheet.specs.Sheet.{length_at, past_at, bytes_at, all_good, same, taken, codes_of, all_codes, formula_of, formula_in, header, name_at, formula_at, field_at, fields, own, reading}
use Rattle.accepting.specs.Accepting.{accepted}
use Rattle.job_run.specs.Running.{toggling}
use Rattle.job_both.specs.Sharing.{sharing, serving}
use Rattle.demands.specs.Foundries.{All, calls}

pub calls_hold : All calls
unfolding sharing serving toggling accepted reading own fields field_at header name_at formula_at formula_of formula_in all_codes codes_of taken same all_good bytes_at past_at length_at times
calls_hold = ((refl, refl), ((refl, refl), ((refl, refl), ((refl, refl), ((refl, refl), tt)))))
