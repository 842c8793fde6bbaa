-- The promise of asking for all names: the paper's numbers and values for each case of the answer, and the lent lists after the call.
use Rattle.std.specs.Prelude.{Result, ℕ, ◌≡◌, List, map, length}
use Rattle.outcome.specs.Outcome.{Outcome, part}
use Rattle.outcome.specs.Refusing.{answered}
use Rattle.outcome.specs.declared.Refusal.{Refusal}
use Rattle.outcome.specs.Lent.{after_call}
use Rattle.job_name.specs.Naming.{Stand, stand}

-- Of a name: the sheet that holds it, its first offset and the one past its end.
abbrev pub sheet_in : Stand → ℕ
sheet_in (stand which first past) = which

abbrev pub first_in : Stand → ℕ
first_in (stand which first past) = first

abbrev pub past_in : Stand → ℕ
past_in (stand which first past) = past

-- Of the job's outcome and the lists as lent: the lists after the call.
pub record NameLists (o : Outcome (List Stand)) (sheets firsts pasts sheets' firsts' pasts' : List ℕ) : Type 0 where
  pub sheets_list : sheets' ≡ after_call (part (map sheet_in) o) sheets
  pub firsts_list : firsts' ≡ after_call (part (map first_in) o) firsts
  pub pasts_list : pasts' ≡ after_call (part (map past_in) o) pasts

-- And the answer r: the number of names.
pub record NamedAll (o : Outcome (List Stand)) (sheets firsts pasts : List ℕ) (r : Result ℕ Refusal) (sheets' firsts' pasts' : List ℕ) : Type 0 where
  pub answer : answered r ≡ part length o
  pub lists : NameLists o sheets firsts pasts sheets' firsts' pasts'
