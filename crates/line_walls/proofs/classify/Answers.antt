-- The judgement refuses, or the lists are good: then 9 for the five lists, or the walls.
use Rattle.std.proofs.lemmas.Result.{err_from_is_err_and}
use Rattle.line_blocks.proofs.PassLaws.{lists-accepted, lists-said}
use Rattle.line_walls.proofs.JobLaws.{job-refused, room-refused, room_there, job-given}
use native.Mathlib.Omega.{arith}
use Rattle.lines.proofs.Items.{accepted_few}
use Rattle.line_walls.proofs.classify.Goals as goal

pub returns-in_err-air-clause-done : goal.returns-in_err-air-clause-done
returns-in_err-air-clause-done c = let p = err_from_is_err_and c.from_residual.result c.from_residual.ensures.1 in rw (p.1, p.2) (job-refused c.judge.ensures c.in_err-air.was)

pub overflow_add-need : goal.overflow_add-need
overflow_add-need c =
    let good = lists-accepted c.judge.ensures c.in_ok-air.was c.requires in
    omega (arith, accepted_few good)

pub returns-in_err-room-clause-done : goal.returns-in_err-room-clause-done
returns-in_err-room-clause-done c =
    let p = err_from_is_err_and c.from_residual-in_err-room.result c.from_residual-in_err-room.ensures.1 in
    rw (p.1, p.2) (room-refused (lists-accepted c.judge.ensures c.in_ok-air.was c.requires) c.room.ensures c.in_err-room.was)

pub write-requires : goal.write-requires
write-requires c = (c.requires, lists-accepted c.judge.ensures c.in_ok-air.was c.requires, lists-said c.judge.ensures c.in_ok-air.was, room_there _ c.room.ensures c.in_ok-room.was)

pub returns-clause-done : goal.returns-clause-done
returns-clause-done c = job-given (lists-accepted c.judge.ensures c.in_ok-air.was c.requires) c.room.ensures c.in_ok-room.was c.write.ensures.given
