-- `job_run::run_toggles` meets its contract: the toggles and the answer lists are judged, then the run is given.
use mathlib.Core.Path.{refl}
use Rattle.job_run.proofs.RunLaws.{run_room, run_given}
use Rattle.job_run.proofs.run_toggles.Goals as goal

pub run_tree-requires : goal.run_tree-requires
run_tree-requires c =
    run_room c.args.toggles.now c.args.roots.now c.args.counts.now c.args.labels.now c.requires.0 c.requires.1
    (c.in_ok-all_named.ensures.so refl) (c.in_ok-room.ensures.so refl) (c.in_ok-room-2.ensures.so refl) (c.in_ok-room-3.ensures.so refl)

pub returns : goal.returns
returns c =
    run_given c.args.names c.args.built.nodes c.args.toggles.now c.args.roots.now c.args.counts.now c.args.labels.now (c.in_ok-all_named.ensures.so refl)
    c.args.records.now.kinds c.args.records.now.firsts c.args.records.now.seconds c.args.built.leaves
    (c.in_ok-room.ensures.so refl) (c.in_ok-room-2.ensures.so refl) (c.in_ok-room-3.ensures.so refl)
    c.run_tree.new.roots c.run_tree.new.counts c.run_tree.new.labels c.run_tree.ensures
