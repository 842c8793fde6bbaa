-- Request K13 on the worked sheet, computed of the definitions: what runs with edits give, and how edits are refused.
use mathlib.Core.Path.{◌≡◌, refl}
use mathlib.Core.List.{[], ◌∷◌}
use Rattle.outcome.specs.Outcome.{refused}
use Rattle.formula.specs.States.{times}
use Rattle.sheet.specs.Sheet.{alone, length_at, past_at, bytes_at, all_good, same, taken, codes_of, all_codes, formula_of, formula_in, header, name_at, formula_at, field_at, fields, own, reading}
use Rattle.accepting.specs.Accepting.{accepted}
use Rattle.edits.specs.Edits.{apart, node_at}
use Rattle.job_edit.specs.Editing.{lists, lending, editing, running_edited}
use Rattle.demands.specs.Worked.{worked, lent_numbers}
use Rattle.demands.specs.EditCases.{All, calls}

pub edits_hold : All calls
unfolding running_edited editing lending node_at apart accepted reading own fields field_at header name_at formula_at formula_of formula_in all_codes codes_of taken same all_good bytes_at past_at length_at times
edits_hold = (refl, (refl, (refl, (refl, (refl, (refl, (refl, (refl, (refl, (refl, tt))))))))))

-- The edits' counts stand last in the order of 9.
pub edits_room : running_edited (alone worked) [] (0 ∷ []) (4 ∷ []) (0xFFF2 ∷ []) (lists lent_numbers lent_numbers lent_numbers []) ≡ refused 9 1
unfolding running_edited editing lending node_at apart accepted reading own fields field_at header name_at formula_at formula_of formula_in all_codes codes_of taken same all_good bytes_at past_at length_at times
edits_room = refl
