-- `cross_kept::pair_axes` meets its contract: filling the second axis leaves the first as it is.
use mathlib.Core.Path.{ap, ◌∙◌}
use Rattle.cross_kept.specs.Keeping.{starts_at, along_of}
use Rattle.cross_kept.proofs.KeepLaws.{one_fillable, one_near, other_near, other_fillable, pair_follows}
use Rattle.cross_kept.proofs.pair_axes.Goals as goal

pub fill-requires : goal.fill-requires
fill-requires c =
    one_fillable c.requires _ _ _ (c.start-one.ensures ∙ ap starts_at c.first-first.ensures) (c.start-other.ensures ∙ ap starts_at c.second-second.ensures) _ _ (c.along-on_one.ensures ∙ ap (along_of c.args.probe) c.first-first.ensures)
    (c.along-on_other.ensures ∙ ap (along_of c.args.probe) c.second-second.ensures)

pub fill-requires-2 : goal.fill-requires-2
fill-requires-2 c =
    other_fillable c.requires _ _ _ (c.start-one.ensures ∙ ap starts_at c.first-first.ensures) (c.start-other.ensures ∙ ap starts_at c.second-second.ensures) _ _ (c.along-on_one.ensures ∙ ap (along_of c.args.probe) c.first-first.ensures)
    (c.along-on_other.ensures ∙ ap (along_of c.args.probe) c.second-second.ensures) c.fill.ensures

pub pair-requires : goal.pair-requires
pair-requires c =
    let e = c.start-one.ensures ∙ ap starts_at c.first-first.ensures in
    let f = c.start-other.ensures ∙ ap starts_at c.second-second.ensures in
    let a = c.along-on_one.ensures ∙ ap (along_of c.args.probe) c.first-first.ensures in
    let b = c.along-on_other.ensures ∙ ap (along_of c.args.probe) c.second-second.ensures in
    (one_near c.requires _ _ _ e f _ _ a b, other_near c.requires _ _ _ e f _ _ a b, c.requires.few)

pub returns : goal.returns
returns c =
    pair_follows c.requires _ _ _ (c.start-one.ensures ∙ ap starts_at c.first-first.ensures) (c.start-other.ensures ∙ ap starts_at c.second-second.ensures) _ _ (c.along-on_one.ensures ∙ ap (along_of c.args.probe) c.first-first.ensures)
    (c.along-on_other.ensures ∙ ap (along_of c.args.probe) c.second-second.ensures) c.fill.ensures c.fill-2.ensures c.pair.ensures _ _ c.leave-left.ensures
