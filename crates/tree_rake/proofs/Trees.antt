-- The steps over the tokens of a tree come to rake on the tree.
use Prim.Native.Nat.{ℕ, ◌+◌}
use native.Mathlib.Nat.{add-zero}
use native.Mathlib.Omega.{arith}
use mathlib.Core.Path.{◌≡◌, refl, sym, ap, ◌∙◌}
use mathlib.Core.Bool.{false}
use mathlib.Core.List.{List, [], ◌∷◌, ◌++◌, map, foldl, foldl-append, append-nil, append_assoc}
use mathlib.Core.Option.{Option, none, some}
use lib.ListN.{length, length-append}
use Rattle.formula.specs.Formula.{Op, index}
use Rattle.contraction.specs.Records.{Rec}
use Rattle.contraction.specs.Entries.{Entry, entry_of}
use Rattle.contraction.proofs.EntryLaws.{entries-append}
use Rattle.contraction.specs.Rounds.{Work, tip, one, two, tip_of, one_remains, rake_one, rake_two, rakes, left_one, left_two, raked}
use Rattle.tree_tokens.specs.Tokens.{Token, bare, single, double, flat}
use Rattle.tree_rake.specs.Raking.{Raking, on_single, on_double, rake_token}

-- what rake leaves of a node, by what its children were
abbrev left_single : ℕ → Option ℕ → ℕ → Token
left_single d (some v) n = bare n
left_single d none n = single d

abbrev left_double : ℕ → Option ℕ → Option ℕ → ℕ → Token
left_double o (some a) (some b) n = bare n
left_double o (some a) none n = single n
left_double o none (some b) n = single n
left_double o none none n = double o

-- what it puts out for an operand: nothing for a leaf
abbrev written : Work → ℕ → List Token
written (tip d) n = []
written (one d c) n = flat (raked (one d c) n)
written (two o l r) n = flat (raked (two o l r) n)

one_written : (d : ℕ) (c : Work) (n m : ℕ) → flat (left_one d (tip_of c) (raked c n) m) ≡ written c n ++ (left_single d (tip_of c) m ∷ [])
one_written d (tip v) n m = refl
one_written d (one e c) n m = refl
one_written d (two o l r) n m = refl

two-written : (o : Op) (l r : Work) (n k m : ℕ)
    → flat (left_two o (tip_of l) (tip_of r) (raked l n) (raked r k) m) ≡ written l n ++ (written r k ++ (left_double (index o) (tip_of l) (tip_of r) m ∷ []))
two-written o (tip a) (tip b) n k m = refl
two-written o (tip a) (one d c) n k m = refl
two-written o (tip a) (two e c d) n k m = refl
two-written o (one d c) (tip b) n k m = refl
two-written o (two e c d) (tip b) n k m = refl
two-written o (one d c) (one f g) n k m = refl
two-written o (one d c) (two e f g) n k m = refl
two-written o (two e c d) (one f g) n k m = refl
two-written o (two e c d) (two h f g) n k m = refl

-- a step at a node puts a token out and makes the node's records
abbrev settled : Token → List Rec → List (Option ℕ) → Raking → Raking
settled t rs st σ = record { stack = none ∷ st; out = σ.out ++ (t ∷ []); made = σ.made ++ map entry_of rs; next = σ.next + length rs }

on_single-settled : (d : ℕ) (a : Option ℕ) (st : List (Option ℕ)) (σ : Raking) → on_single d σ (a ∷ st) ≡ settled (left_single d a σ.next) (rake_one d a) st σ
on_single-settled d (some v) st σ = refl
on_single-settled d none st σ = rw (append-nil σ.made, add-zero σ.next)

on_double-settled : (o : Op) (a b : Option ℕ) (st : List (Option ℕ)) (σ : Raking)
    → on_double (index o) σ (b ∷ a ∷ st) ≡ settled (left_double (index o) a b σ.next) (rake_two o a b) st σ
on_double-settled o (some a) (some b) st σ = refl
on_double-settled o (some a) none st σ = refl
on_double-settled o none (some b) st σ = refl
on_double-settled o none none st σ = rw (append-nil σ.made, add-zero σ.next)

-- a tree is done
abbrev done : Work → Raking → Raking
done w σ = record { stack = tip_of w ∷ σ.stack; out = σ.out ++ written w σ.next; made = σ.made ++ map entry_of (rakes w); next = σ.next + length (rakes w) }

same : (s : List (Option ℕ)) {a b : List Token} {c d : List Entry} {n m : ℕ} → a ≡ b → c ≡ d → n ≡ m
    → ◌≡◌ {A = Raking} (record { stack = s; out = a; made = c; next = n }) (record { stack = s; out = b; made = d; next = m })
same s p q e = rw (p, q, e)

one-done : (d : ℕ) (c : Work) (σ : Raking) → on_single d (done c σ) (tip_of c ∷ σ.stack) ≡ done (one d c) σ
one-done d c σ =
    let n = σ.next in
    on_single-settled d (tip_of c) σ.stack (done c σ)
    ∙ same _ (append_assoc σ.out (written c n) _ ∙ ap (λ z. σ.out ++ z) (sym (one_written d c n _))) (entries-append σ.made (rakes c) (rake_one d (tip_of c)))
    (omega (arith, length-append (rakes c) (rake_one d (tip_of c))))

two-done : (o : Op) (l r : Work) (σ : Raking) → on_double (index o) (done r (done l σ)) (tip_of r ∷ tip_of l ∷ σ.stack) ≡ done (two o l r) σ
two-done o l r σ =
    let n = σ.next in
    let k = n + length (rakes l) in
    let t = rake_two o (tip_of l) (tip_of r) in
    on_double-settled o (tip_of l) (tip_of r) σ.stack (done r (done l σ))
    ∙ same _
    (append_assoc (σ.out ++ written l n) (written r k) _ ∙ append_assoc σ.out (written l n) _ ∙ ap (λ z. σ.out ++ z) (sym (two-written o l r n k _)))
    (entries-append (σ.made ++ map entry_of (rakes l)) (rakes r) t ∙ entries-append σ.made (rakes l) (rakes r ++ t))
    (omega (arith, length-append (rakes l) (rakes r ++ t), length-append (rakes r) t))

run_tree : (w : Work) (σ : Raking) → foldl rake_token σ (flat w) ≡ done w σ
run_tree (tip d) σ = rw (append-nil σ.out, append-nil σ.made, add-zero σ.next)
run_tree (one d c) σ = rw (foldl-append, run_tree c σ) (one-done d c σ)
run_tree (two o l r) σ = rw (foldl-append, foldl-append, run_tree l σ, run_tree r) (two-done o l r σ)

-- the whole pass over a tree that is no single leaf
whole : (w : Work) (n : ℕ) → one_remains w ≡ false → written w n ≡ flat (raked w n)
whole (tip d) n e = let z : ◌≡◌ {A = ℕ} 0 1 = cc in absurd (omega arith)
whole (one d c) n e = refl
whole (two o l r) n e = refl

module _ (w : Work) (rs : List Entry) (n : ℕ) (many : one_remains w ≡ false) {ts : List Token} {σ : Raking} (e : ts ≡ flat w)
    (ran : σ ≡ foldl rake_token (record { stack = []; out = []; made = rs; next = n }) ts) where
  ran_done : σ ≡ done w (record { stack = []; out = []; made = rs; next = n })
  ran_done = (rw e at ran) ∙ run_tree w _

  pub raked_tree : σ.out ≡ flat (raked w n)
  raked_tree = ap (λ (s : Raking). s.out) ran_done ∙ whole w n many

  pub raked_records : σ.made ≡ rs ++ map entry_of (rakes w)
  raked_records = ap (λ (s : Raking). s.made) ran_done
