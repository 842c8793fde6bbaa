-- The cases that document 01 marks P, computed of the definitions themselves: one table under a single statement.
use mathlib.Core.Path.{refl}
use Rattle.formula.specs.States.{times}
use Rattle.sheet.specs.Sheet.{length_at, past_at, bytes_at, all_good, same, taken, codes_of, all_codes, formula_of, formula_in, header, name_at, formula_at, field_at, fields, own, reading}
use Rattle.accepting.specs.Accepting.{accepted}
use Rattle.lines.specs.Lines as lines
use Rattle.lines.specs.Lines.{crossed, bits, ordered, lowest_from, shape_at, walls_on, crossings_on, walls_from, classified}
use Rattle.job_build.specs.Building.{giving, building}
use Rattle.job_run.specs.Running.{toggling, running}
use Rattle.job_classify.specs.Classifying.{classifying}
use Rattle.line_opinion.specs.Judging.{opinion_from, judgement}
use Rattle.job_judge.specs.Judging.{judging}
use Rattle.demands.specs.Table.{All, table}

pub table-holds : All table
unfolding building giving running toggling classifying judging judgement opinion_from accepted reading own fields field_at header name_at formula_at formula_of formula_in all_codes codes_of taken same all_good bytes_at past_at length_at times classified lines.judged bits ordered crossed lowest_from shape_at walls_on crossings_on walls_from
table-holds = (refl, (refl, (refl, (refl, (refl, (refl, (refl, (refl, (refl, (refl, (refl, (refl, (refl, (refl, (refl, (refl, (refl, (refl, (refl, (refl, (refl, (refl, (refl, tt)))))))))))))))))))))))
