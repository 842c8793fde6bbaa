-- The answer lists filled from the front, and a run one toggle at a time.
use Prim.Native.Nat.{ℕ, suc, ◌+◌, ◌-◌, ◌<◌, ◌≤◌}
use native.Mathlib.Numerals.{add-one}
use native.Mathlib.Omega.{arith}
use mathlib.Core.Path.{◌≡◌, refl, sym, ap, ◌∙◌}
use mathlib.Core.List.{List, [], ◌∷◌, ◌++◌}
use lib.ListN.{length, get_or, take, drop, set, length-append, length-set}
use lib.Seq.{drop-cons, set-append_seam, append_snoc, take-suc, take_all, length-take-le, get_or-take}
use Rattle.outcome.specs.Lent.{filled}
use Rattle.contraction.specs.Records.{Rec}
use Rattle.contraction.specs.Height.{last}
use Rattle.contraction.proofs.Worked.{last_is}
use Rattle.toggle_passes.specs.Reworking.{steps}
use Rattle.toggles.specs.Toggles.{answers, toggle, toggle_each}
use Rattle.toggles.proofs.Runs.{length-roots, length-counts}
use Rattle.toggle_run.specs.Ran.{ToggleRoom}
use Rattle.toggle_run.specs.Tables.{RunDone}

filled_more : (xs old : List ℕ) (x i : ℕ) → length xs ≡ i → i < length old → set (filled xs old) i x ≡ filled (xs ++ (x ∷ [])) old
filled_more xs old x i e h =
    let l : length (xs ++ (x ∷ [])) ≡ suc (length xs) = omega (arith, length-append xs (x ∷ [])) in
    rw (← e, drop-cons old (length xs) 0 (omega arith), l) (set-append_seam xs (get_or old (length xs) 0) (drop (suc (length xs)) old) x ∙ sym (append_snoc xs x (drop (suc (length xs)) old)))

-- one toggle more
each_snoc : (rs : List Rec) (ss ls : List ℕ) (s : ℕ) → toggle_each rs ls (ss ++ (s ∷ []))
    ≡ answers ((toggle_each rs ls ss).roots ++ (last (toggle rs s (toggle_each rs ls ss).final).labels ∷ [])) ((toggle_each rs ls ss).counts ++ ((toggle rs s (toggle_each rs ls ss).final).count ∷ [])) (toggle rs s (toggle_each rs ls ss).final).labels
each_snoc rs [] ls s = refl
each_snoc rs (t ∷ ss) ls s =
    let one = toggle rs t ls in
    ap (λ a. answers (last one.labels ∷ a.roots) (one.count ∷ a.counts) a.final) (each_snoc rs ss one.labels s)

-- a toggle's shape is one of 256
pub shape-below : {ss roots counts : List ℕ} {s : ℕ} (j : ℕ) → ToggleRoom ss roots counts → s ≡ get_or ss j 0 → s < 256
shape-below j room e = omega (arith, e, room.named j)

-- the first i toggles done
pub record Running (rs : List Rec) (ls ss roots counts : List ℕ) (i : ℕ) (ls' roots' counts' : List ℕ) : Type 0 where
  pub within : i ≤ length ss
  pub roots_long : length roots' ≡ length roots
  pub counts_long : length counts' ≡ length counts
  pub so : RunDone rs ls (take i ss) roots counts ls' roots' counts'

pub running-start : (rs : List Rec) (ls ss roots counts : List ℕ) → Running rs ls ss roots counts 0 ls roots counts
running-start rs ls ss roots counts =
    record { within = omega arith; roots_long = refl; counts_long = refl; so = record { labels_are = refl; roots_are = refl; counts_are = refl } }

module _ {rs : List Rec} {ls ss roots counts : List ℕ} {i : ℕ} {ls' roots' counts' : List ℕ} (room : ToggleRoom ss roots counts)
    (g : Running rs ls ss roots counts i ls' roots' counts') where
  taken : length (take i ss) ≡ i
  taken = length-take-le i ss g.within

  pub count_room : i < length ss → i < length counts'
  count_room h = omega (arith, g.counts_long, room.for_counts)

  pub root_room : i < length ss → i < length roots'
  root_room h = omega (arith, g.roots_long, room.for_roots)

  pub running_more : {ms : List ℕ} {n x s : ℕ} → i < length ss → s ≡ get_or ss i 0 → steps ms n ≡ toggle rs s ls' → x ≡ last ms
      → Running rs ls ss roots counts (i + 1) ms (set roots' i x) (set counts' i n)
  running_more {ms} {n} {x} {s} h e t b =
      let so_far = toggle_each rs ls (take i ss) in
      let t' : toggle rs (get_or ss i 0) so_far.final ≡ steps ms n = rw (← e, ← g.so.labels_are) (sym t) in
      let more : toggle_each rs ls (take (suc i) ss) ≡ answers (so_far.roots ++ (last ms ∷ [])) (so_far.counts ++ (n ∷ [])) ms =
      ap (toggle_each rs ls) (take-suc ss i 0 h) ∙ each_snoc rs (take i ss) ls (get_or ss i 0) ∙ rw t' in
      record {
        within = omega arith;
        roots_long = simp length-set g.roots_long;
        counts_long = simp length-set g.counts_long;
        so =
            rw (add-one i)
            record {
              labels_are = sym (ap (λ a. a.final) more);
              roots_are =
                  ap (λ l. set l i x) g.so.roots_are
                  ∙ filled_more so_far.roots roots x i (length-roots rs ls (take i ss) ∙ taken) (omega (arith, room.for_roots))
                  ∙ ap (λ y. filled (so_far.roots ++ (y ∷ [])) roots) b ∙ ap (λ a. filled a.roots roots) (sym more);
              counts_are =
                  ap (λ l. set l i n) g.so.counts_are
                  ∙ filled_more so_far.counts counts n i (length-counts rs ls (take i ss) ∙ taken) (omega (arith, room.for_counts))
                  ∙ ap (λ a. filled a.counts counts) (sym more);
            };
      }

  pub running_end : length ss ≤ i → RunDone rs ls ss roots counts ls' roots' counts'
  running_end h = rw (take_all i ss h) at g.so

-- the last of the first entries
pub last-take : (xs : List ℕ) {m : ℕ} (n : ℕ) → length xs ≡ m → 0 < n → n ≤ m → get_or xs (n - 1) 0 ≡ last (take n xs)
last-take xs n e h l = sym (last_is (take n xs) (n - 1) (omega (arith, length-take-le n xs (omega arith))) ∙ get_or-take n xs (n - 1) 0 (omega arith))
