-- The promise of a call for two foundries: each one's answer and its three lent lists after the call.
use Rattle.std.specs.Prelude.{ℕ, List, length}
use Rattle.outcome.specs.Outcome.{Outcome}
use Rattle.sheet.specs.Sheet.{Sheets, Sheet}
use Rattle.outcome.specs.Refusing.{answered}
use Rattle.job_run.specs.Ran.{Ran}
use Rattle.job_both.specs.Sharing.{sharing, serving}
use Rattle.job_both.specs.declared.BothAnswer.{BothAnswer}

-- The answer lists that a foundry lends.
pub record Lists : Type 0 where
  pub roots : List ℕ
  pub counts : List ℕ
  pub labels : List ℕ

abbrev pub lists : List ℕ → List ℕ → List ℕ → Lists
lists rs cs ls = record { roots = rs; counts = cs; labels = ls }

-- Of what goes to both, a foundry's toggles and its lists as lent: what its answer says, which is one of a toggle run, and its lists after the call.
pub record Served (shared : Outcome Sheet) (toggles : List ℕ) (lent : Lists) (said : Outcome ℕ) (after : Lists) : Type 0 where
  pub ran : Ran (serving shared toggles (length lent.roots) (length lent.counts) (length lent.labels)) lent.roots lent.counts lent.labels said after.roots after.counts after.labels

pub record Shared (c : Sheets) (order first second : List ℕ) (lent₁ lent₂ : Lists) (r : BothAnswer) (after₁ after₂ : Lists) : Type 0 where
  pub to_first : Served (sharing c order first second) first lent₁ (answered r.first) after₁
  pub to_second : Served (sharing c order first second) second lent₂ (answered r.second) after₂
