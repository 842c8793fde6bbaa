use mathlib.Core.Path.{refl, ◌∙◌}
use borrow.Author.Rules.{rules}
use Rattle.edit_run.proofs.RunLaws.{running-start, running-on, edited-runs}
use Rattle.edit_run.proofs.run_edited.Goals as goal

pub loop-j-init : goal.loop-j-init
loop-j-init c = record { running = search running-start; kinds_alone = record { firsts = refl; seconds = refl; as_many = refl } }

pub act-k-requires-clause-can_act : goal.act-k-requires-clause-can_act
act-k-requires-clause-can_act c = rw (c.loop-j.invariant.kinds_alone.firsts, c.loop-j.invariant.kinds_alone.seconds) c.loop-j.invariant.running.can

pub loop-j-preserved : goal.loop-j-preserved
loop-j-preserved c =
    record {
      running =
          let done = rw (c.loop-j.invariant.kinds_alone.firsts, c.loop-j.invariant.kinds_alone.seconds) at c.act-k.ensures.acted in
          running-on c.loop-j.invariant.running (search rules) (search rules) (search rules) (search rules) done;
      kinds_alone =
          record {
            firsts = c.act-k.ensures.kinds_alone.firsts ∙ c.loop-j.invariant.kinds_alone.firsts;
            seconds = c.act-k.ensures.kinds_alone.seconds ∙ c.loop-j.invariant.kinds_alone.seconds;
            as_many = c.act-k.ensures.kinds_alone.as_many ∙ c.loop-j.invariant.kinds_alone.as_many;
          };
    }

pub returns-clause-runs : goal.returns-clause-runs
returns-clause-runs c = search edited-runs
