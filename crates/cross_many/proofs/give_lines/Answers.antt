-- `cross_many::give_lines` meets its contract: 9 for the first list that is too short, or all are written.
use Prim.Native.Nat.{ℕ, min}
use mathlib.Core.Path.{ap, ◌∙◌}
use lib.ListN.{length}
use Rattle.cross_many.proofs.ManyLaws.{room_short, short_rows, short_crossings, all_fit, all_held}
use borrow.Author.Rules.{rules}
use Rattle.cross_many.proofs.give_lines.Goals as goal

pub returns-in_err-room : goal.returns-in_err-room
returns-in_err-room c =
    let q = c.requires.kinds_len_bound in
    let s = room_short _ _ _ _ c.room.ensures.asked c.in_err-room.was in
    short_rows _ _ _ _ _ _ _ q.0 _ q.1 q.2 c.requires.lines_value _ (s.1 _ (search rules)) s.0

pub returns-in_err-room-2 : goal.returns-in_err-room-2
returns-in_err-room-2 c =
    let q = c.requires.kinds_len_bound in
    let s = room_short _ _ _ _ c.room-2.ensures.asked c.in_err-room-2.was in
    short_crossings _ _ _ _ _ _ _ q.0 _ q.1 q.2 c.requires.lines_value (c.in_ok-room.ensures.so (search rules)) _ _ (c.min-room.ensures ∙ ap (λ (x : ℕ). min x (length c.args.shapes.now)) c.min.ensures) c.wanted.ensures _ (s.1 _ (search rules)) s.0

pub write_lines-crossings-requires-clause-fits : goal.write_lines-crossings-requires-clause-fits
write_lines-crossings-requires-clause-fits c =
    all_fit _ _ _ _ _ _ _ _ _ c.wanted.ensures (c.in_ok-room-2.ensures.so (search rules)) (c.min-room.ensures ∙ ap (λ (x : ℕ). min x (length c.args.shapes.now)) c.min.ensures) _ c.requires.kinds_len_bound.1 (c.in_ok-room.ensures.so (search rules))

pub returns : goal.returns
returns c =
    let q = c.requires.kinds_len_bound in
    all_held _ _ _ _ _ _ _ q.0 _ q.1 q.2 c.requires.lines_value (c.in_ok-room.ensures.so (search rules)) _ _ (c.min-room.ensures ∙ ap (λ (x : ℕ). min x (length c.args.shapes.now)) c.min.ensures) c.wanted.ensures (c.in_ok-room-2.ensures.so (search rules)) _ _ _ _ _ c.write_lines-crossings.ensures
