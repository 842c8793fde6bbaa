-- The first crossing, and those after it.
use Rattle.line_columns.proofs.WordLaws.{crossings_put}
use Prim.Native.Nat.{◌+◌, ◌-◌, ◌≤◌}
use native.Mathlib.Omega.{arith}
use borrow.Author.Rules.{rules}
use Rattle.line_columns.proofs.crossings.Goals as goal

pub returns : goal.returns
returns c =
    let room : c.args.at.next.i + c.min.result - c.args.at.next.i ≤ c.args.end - c.args.at.next.c = omega (arith, c.min.ensures) in
    search (crossings_put, room, rules)
