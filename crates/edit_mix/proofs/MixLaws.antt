-- Edits and toggles act: an edit whose moment has come, a toggle where none is there, and what is left when all have acted.
use Prim.Native.Nat.{ℕ, suc, ◌+◌, ◌-◌, ◌<◌, ◌≤◌}
use native.Mathlib.Numerals.{add-one}
use native.Mathlib.Omega.{arith}
use mathlib.Core.Path.{◌≡◌, refl, sym, ap, ap₂, ◌∙◌}
use mathlib.Core.Bool.{Bool, true, false}
use mathlib.Core.List.{List, [], ◌∷◌, ◌++◌}
use Rattle.std.proofs.Common.{Option, Some, None}
use lib.Dec.{ltb}
use borrow.Author.Tests.{ltb-true, ltb-false}
use lib.ListN.{length, get_or, set, take, drop, drop_of_length-le}
use lib.Seq.{sets, drop-cons, take-suc, take_all, length-take-le}
use Rattle.formula.specs.Formula.{Formula, inside}
use Rattle.formula.specs.States.{toggled_by}
use Rattle.contraction.specs.Rounds.{dwarf}
use Rattle.contraction.specs.Height.{last}
use Rattle.contraction.specs.Entries.{recs}
use Rattle.labels.specs.Labels.{bit, labels}
use Rattle.labels.specs.Linked.{Chains}
use Rattle.labels.specs.declared.Size.{Size}
use Rattle.labels.proofs.Root.{root_label}
use Rattle.labels.proofs.Held.{held_records, held_shaped}
use Rattle.toggle_passes.specs.Reworking.{Steps, steps}
use Rattle.toggles.specs.Toggles.{toggle}
use Rattle.toggles.proofs.Runs.{toggle_more}
use Rattle.toggle_run.specs.Ran.{ToggleRoom}
use Rattle.edit_labels.specs.Edited.{Editable, EditDone}
use Rattle.edit_labels.proofs.ArrayLaws.{chains_kept}
use Rattle.edit_moments.specs.Edits.{edited_by, edit_counts}
use Rattle.edit_moments.specs.Listed.{Rises}
use Rattle.edit_moments.specs.Waiting.{Readable, Due, Later, NextSays, Desk, desk, waiting, At}
use Rattle.edit_moments.specs.declared.Next.{Next}
use Rattle.edit_moments.proofs.Lists.{waiting_none, by_later}
use Rattle.edit_moments.proofs.ActLaws.{can_edit, can_operate, acted_now, readable, all-later}
use Rattle.edit_mix.specs.Edits.{roots_after, counts_after}
use Rattle.edit_mix.specs.declared.Toggled.{Toggled}
use Rattle.edit_mix.specs.Acting.{plan, CanToggle, ToggleDone, CanAct, can_act, Told, Acted, has_acted, MixLeft}

-- ---- one toggle, where every edit that waits is of a later moment
module _ {d : Desk} {f : Formula} {toggles lent : List ℕ} {i k : ℕ} {ks ls counts : List ℕ} (a : At d (plan f toggles lent) i k ks ls counts)
    (later : Rises (suc i) (waiting d k)) (h : i < length toggles) where
  -- the formula as edited by then
  ripe : edited_by (length (take i toggles)) (waiting d 0) f ≡ a.now
  ripe =
      ap (λ n. edited_by n (waiting d 0) f) (length-take-le i toggles (omega arith)) ∙ a.left i (omega arith) ∙ by_later i (waiting d k) a.now later

  one_more : take (suc i) toggles ≡ take i toggles ++ (get_or toggles i 0 ∷ [])
  one_more = take-suc toggles i 0 h

  module _ (ls' : List ℕ) {s n : ℕ} (is : s ≡ get_or toggles i 0) (long : length ls' ≡ 3072)
      (worked : steps (take d.size.nodes ls') n ≡ toggle (recs ks d.firsts d.seconds 0 d.size.nodes) s (take d.size.nodes ls)) where
    steps_are : steps (take d.size.nodes ls') n ≡ toggle (dwarf a.now) (get_or toggles i 0) (labels (toggled_by (take i toggles)) (dwarf a.now))
    steps_are = worked ∙ rw (held_records ks d.firsts d.seconds d.size.leaves d.size.nodes a.now a.holds, is, a.labels_are)

    labels_now : take d.size.nodes ls' ≡ labels (toggled_by (take i toggles ++ (get_or toggles i 0 ∷ []))) (dwarf a.now)
    labels_now = ap (λ (x : Steps). x.labels) steps_are ∙ toggle_more a.now (take i toggles) (get_or toggles i 0)

    toggled : At d (plan f toggles lent) (i + 1) k ks ls' counts
    toggled =
        rw (add-one i)
        record {
          now = a.now;
          ruled = a.ruled;
          listed = a.listed;
          holds = a.holds;
          ups = a.ups;
          placed = a.placed;
          long = long;
          labels_are = labels_now ∙ ap (λ ts. labels (toggled_by ts) (dwarf a.now)) (sym one_more);
          within = a.within;
          operated = a.operated;
          left = λ m l. a.left m (omega arith);
          waits = later;
          room = a.room;
          counted = a.counted;
        }

    told : {roots₀ counts₀ roots answers : List ℕ} {x : ℕ} → x ≡ last (take d.size.nodes ls') → Told d f toggles i roots₀ counts₀ roots answers
        → Told d f toggles (i + 1) roots₀ counts₀ (set roots i x) (set answers i n)
    told {roots = roots} {answers = answers} {x = x} root t =
        let es = waiting d 0 in
        let s' = get_or toggles i 0 in
        let rest = drop (suc i) toggles in
        let is-root : x ≡ bit (inside (edited_by (length (take i toggles)) es f) (toggled_by (take i toggles ++ (s' ∷ [])))) =
        root ∙ ap last labels_now ∙ root_label a.now (toggled_by (take i toggles ++ (s' ∷ []))) ∙ ap (λ g. bit (inside g (toggled_by (take i toggles ++ (s' ∷ []))))) (sym ripe) in
        let is-count : n ≡ (toggle (dwarf (edited_by (length (take i toggles)) es f)) s' (labels (toggled_by (take i toggles)) (dwarf (edited_by (length (take i toggles)) es f)))).count =
        ap (λ (y : Steps). y.count) steps_are ∙ ap (λ g. (toggle (dwarf g) s' (labels (toggled_by (take i toggles)) (dwarf g))).count) (sym ripe) in
        rw (add-one i)
        record {
          roots_so =
              t.roots_so ∙ ap (λ ss. sets roots i (roots_after f es (take i toggles) ss)) (drop-cons toggles i 0 h)
              ∙ ap₂ (λ y ts. sets (set roots i y) (suc i) (roots_after f es ts rest)) (sym is-root) (sym one_more);
          counts_so =
              t.counts_so ∙ ap (λ ss. sets answers i (counts_after f es (take i toggles) ss)) (drop-cons toggles i 0 h)
              ∙ ap₂ (λ y ts. sets (set answers i y) (suc i) (counts_after f es ts rest)) (sym is-count) (sym one_more);
        }

-- ---- one act
module _ {d : Desk} {toggles : List ℕ} {j k : ℕ} {ks ls roots counts edits : List ℕ} where
  formula_of_lem : CanAct d toggles j k ks ls roots counts edits → Formula
  formula_of_lem (can_act f lent a chains room few within) = f

  lent_of : CanAct d toggles j k ks ls roots counts edits → List ℕ
  lent_of (can_act f lent a chains room few within) = lent

  at_of : (c : CanAct d toggles j k ks ls roots counts edits) → At d (plan (formula_of_lem c) toggles (lent_of c)) (j - k) k ks ls edits
  unfolding formula_of_lem lent_of
  at_of (can_act f lent a chains room few within) = a

  chains_of : CanAct d toggles j k ks ls roots counts edits → Chains ks d.firsts d.seconds d.size.leaves d.size.nodes d.links
  chains_of (can_act f lent a chains room few within) = chains

  room_of : CanAct d toggles j k ks ls roots counts edits → ToggleRoom toggles roots counts
  room_of (can_act f lent a chains room few within) = room

  few_of : CanAct d toggles j k ks ls roots counts edits → k ≤ j
  few_of (can_act f lent a chains room few within) = few

  within_of : CanAct d toggles j k ks ls roots counts edits → j - k ≤ length toggles
  within_of (can_act f lent a chains room few within) = within

  module _ (c : CanAct d toggles j k ks ls roots counts edits) where
    -- where no edit's moment has come, a toggle is there
    toggle_there : j < length toggles + length d.moments → Later d.moments k (j - k) → j - k < length toggles
    toggle_there more none = go (ltb k (length d.moments)) refl
      where
        go : (b : Bool) → ltb k (length d.moments) ≡ b → j - k < length toggles
        go true e = let h = ltb-true k (length d.moments) e in omega (arith, none.so h, (at_of c).listed.in_time k h)
        go false e = omega (arith, ltb-false k (length d.moments) e, (at_of c).within, few_of c)

    edited-on : {e o n : ℕ} {ks' ls' : List ℕ} → Due d.moments d.positions d.codes d.places k (j - k) e o
        → EditDone ks d.firsts d.seconds d.size.leaves d.size.nodes d.links ls e o ks' ls' n
        → Acted d toggles j k (k + 1) ks ls roots counts edits ks' ls' roots counts (set edits k n)
    edited-on due x =
        let same : j + 1 - (k + 1) ≡ j - k = omega arith in
        has_acted (omega (arith, few_of c)) (rw same (within_of c))
        (λ f lent a. rw same (acted_now a due.here due x))
        (λ f lent roots₀ counts₀ a told-so. rw same told-so)

    toggled_on : j < length toggles + length d.moments → Later d.moments k (j - k) → (ls' : List ℕ) {r : Toggled} → ToggleDone ks d.firsts d.seconds d.size toggles (j - k) ls ls' r
        → Acted d toggles j k k ks ls roots counts edits ks ls' (set roots (j - k) r.root) (set counts (j - k) r.count) edits
    toggled_on more none ls' t =
        let h = toggle_there more none in
        let next : j + 1 - k ≡ j - k + 1 = omega (arith, few_of c) in
        has_acted (omega (arith, few_of c)) (rw next (omega arith))
        (λ f lent a. rw next (toggled a (all-later a none) h ls' refl t.long t.is))
        (λ f lent roots₀ counts₀ a told-so. rw next (told a (all-later a none) h ls' refl t.long t.is t.root_is told-so))

-- ---- the same as the function meets it
module _ {rules fs xs : List ℕ} {size : Size} {links places ms ps cs toggles : List ℕ} {j k : ℕ} {ks ls roots counts edits : List ℕ}
    (c : CanAct (desk rules fs xs size links places ms ps cs) toggles j k ks ls roots counts edits) where
  pub edits_few : k ≤ j
  edits_few = few_of c

  pub act_readable : Readable ms ps cs k
  act_readable = readable (at_of c)

  module _ {r : Option Next} (says : NextSays ms ps cs places k (j - k) r) where
    module _ {w : Next} (is : r ≡ Some w) where
      due : Due ms ps cs places k (j - k) w.node w.operation
      due = rw is at says

      pub act_edits : Editable rules ks fs xs size.leaves size.nodes links ls w.node
      act_edits = can_edit (at_of c) due.here due

      pub act_operates : w.operation < 4
      act_operates = can_operate (at_of c) due.here due

      pub edit-room : k < length edits
      edit-room = omega (arith, due.here, (at_of c).room)

      pub act_edited : {n : ℕ} {ks' ls' : List ℕ} → EditDone ks fs xs size.leaves size.nodes links ls w.node w.operation ks' ls' n
          → Acted (desk rules fs xs size links places ms ps cs) toggles j k (k + 1) ks ls roots counts edits ks' ls' roots counts (set edits k n)
      act_edited x = edited-on c due x

    module _ (is : r ≡ None) (more : j < length toggles + length ms) where
      later : Later ms k (j - k)
      later = rw is at says

      pub act_toggles : CanToggle rules ks fs xs size links ls toggles (j - k)
      act_toggles =
          let a = at_of c in
          let shaped = held_shaped ks fs xs size.leaves size.nodes a.now a.holds in
          record {
            can =
                record {
                  ruled = a.ruled;
                  ready = record { linked = record { shaped = shaped; ups = a.ups }; chains = chains_of c };
                  long = a.long;
                  shape = (room_of c).named (j - k);
                };
            here = toggle_there c more later;
            some = shaped.some;
            room = shaped.room;
          }

      pub root_room : j - k < length roots
      root_room = omega (arith, toggle_there c more later, (room_of c).for_roots)

      pub count_room : j - k < length counts
      count_room = omega (arith, toggle_there c more later, (room_of c).for_counts)

      pub act_toggled : (ls' : List ℕ) {t : Toggled} → ToggleDone ks fs xs size toggles (j - k) ls ls' t
          → Acted (desk rules fs xs size links places ms ps cs) toggles j k k ks ls roots counts edits ks ls' (set roots (j - k) t.root) (set counts (j - k) t.count) edits
      act_toggled ls' done = toggled_on c more later ls' done

-- ---- the acts one after the other: what they begin with,
pub data Begins (d : Desk) (toggles ks ls roots counts edits : List ℕ) : Type 0 where
  begins : (f : Formula) → At d (plan f toggles edits) 0 0 ks ls edits → Chains ks d.firsts d.seconds d.size.leaves d.size.nodes d.links → ToggleRoom toggles roots counts
      → Begins d toggles ks ls roots counts edits

-- and of j acts k were edits
module _ (d : Desk) (toggles ks₀ ls₀ roots₀ counts₀ edits₀ : List ℕ) where
  pub record Mixing (j k : ℕ) (ks ls roots counts edits : List ℕ) : Type 0 where
    pub from : Begins d toggles ks₀ ls₀ roots₀ counts₀ edits₀
    pub few : k ≤ j
    pub within : j - k ≤ length toggles
    pub total : j ≤ length toggles + length d.moments
    pub roots_long : length roots ≡ length roots₀
    pub counts_long : length counts ≡ length counts₀
    pub edits_long : length edits ≡ length edits₀
    pub so : (f : Formula) → At d (plan f toggles edits₀) 0 0 ks₀ ls₀ edits₀ → At d (plan f toggles edits₀) (j - k) k ks ls edits × Told d f toggles (j - k) roots₀ counts₀ roots counts

module _ {d : Desk} {toggles ks₀ ls₀ roots₀ counts₀ edits₀ : List ℕ} where
  pub mixing_start : (f : Formula) → At d (plan f toggles edits₀) 0 0 ks₀ ls₀ edits₀ → Chains ks₀ d.firsts d.seconds d.size.leaves d.size.nodes d.links
      → ToggleRoom toggles roots₀ counts₀ → Mixing d toggles ks₀ ls₀ roots₀ counts₀ edits₀ 0 0 ks₀ ls₀ roots₀ counts₀ edits₀
  mixing_start f a chains room =
      record {
        from = begins f a chains room;
        few = omega arith;
        within = omega arith;
        total = omega arith;
        roots_long = refl;
        counts_long = refl;
        edits_long = refl;
        so = λ f a. (a, record { roots_so = refl; counts_so = refl });
      }

  module _ {j k : ℕ} {ks ls roots counts edits : List ℕ} (g : Mixing d toggles ks₀ ls₀ roots₀ counts₀ edits₀ j k ks ls roots counts edits) where
    pub mixing_act : CanAct d toggles j k ks ls roots counts edits
    mixing_act = go g.from
      where
        go : Begins d toggles ks₀ ls₀ roots₀ counts₀ edits₀ → CanAct d toggles j k ks ls roots counts edits
        go (begins f a chains room) =
            let b = (g.so f a).0 in
            can_act f edits₀ b
            (chains_kept ks₀ ks d.firsts d.seconds d.size.leaves d.size.nodes d.links
            (held_shaped ks₀ d.firsts d.seconds d.size.leaves d.size.nodes a.now a.holds)
            (held_shaped ks d.firsts d.seconds d.size.leaves d.size.nodes b.now b.holds) chains)
            record {
              named = room.named;
              for_roots = omega (arith, room.for_roots, g.roots_long);
              for_counts = omega (arith, room.for_counts, g.counts_long);
            }
            g.few g.within

    pub mixing_on : {r : ℕ} {ks' ls' roots' counts' edits' : List ℕ} → j < length toggles + length d.moments
        → length roots' ≡ length roots → length counts' ≡ length counts → length edits' ≡ length edits → Acted d toggles j k r ks ls roots counts edits ks' ls' roots' counts' edits'
        → Mixing d toggles ks₀ ls₀ roots₀ counts₀ edits₀ (j + 1) r ks' ls' roots' counts' edits'
    mixing_on more a b c (has_acted few within at told) =
        record {
          from = g.from;
          few = few;
          within = within;
          total = omega arith;
          roots_long = a ∙ g.roots_long;
          counts_long = b ∙ g.counts_long;
          edits_long = c ∙ g.edits_long;
          so = λ f x. let w = g.so f x in (at f edits₀ w.0, told f edits₀ roots₀ counts₀ w.0 w.1);
        }

    -- all toggles and edits have acted
    pub mixing_end : length toggles + length d.moments ≤ j → (f : Formula) → At d (plan f toggles edits₀) 0 0 ks₀ ls₀ edits₀
        → MixLeft d f toggles roots₀ counts₀ edits₀ ls roots counts edits
    mixing_end end f a =
        let b = (g.so f a).0 in
        let t = (g.so f a).1 in
        let i = j - k in
        let last-edit : length d.moments ≤ k = omega (arith, b.within, g.within, g.few) in
        let none : waiting d k ≡ [] = waiting_none d b.listed k last-edit in
        let last-toggle : i ≡ length toggles = omega (arith, b.within, g.within, g.few) in
        let past : length toggles ≤ i = omega arith in
        let all : take i toggles ≡ toggles = take_all i toggles past in
        let out : drop i toggles ≡ [] = drop_of_length-le toggles past in
        let es = waiting d 0 in
        record {
          roots_are = sym (t.roots_so ∙ ap (λ ss. sets roots i (roots_after f es (take i toggles) ss)) out);
          counts_are = sym (t.counts_so ∙ ap (λ ss. sets counts i (counts_after f es (take i toggles) ss)) out);
          labels_are =
              b.labels_are
              ∙ ap₂ (λ ts e. labels (toggled_by ts) (dwarf e)) all
              (sym (ap (λ m. edited_by m es f) (sym last-toggle) ∙ b.left i (omega arith) ∙ ap (λ e. edited_by i e b.now) none));
          edits_are = sym (b.counted ∙ ap (λ e. sets edits k (edit_counts toggles b.now e)) none);
        }
