-- Laws of what the arrays hold: how many tokens, what a number says, and one token or one record more.
use Prim.Native.Nat.{ℕ, zero, suc, ◌+◌, ◌-◌, ◌≤◌, ◌<◌}
use native.Mathlib.Nat.{zero-add}
use native.Mathlib.Numerals.{add-one}
use native.Mathlib.Omega.{arith}
use mathlib.Core.Path.{◌≡◌, refl, sym, ap, ◌∙◌}
use mathlib.Core.List.{List, [], ◌∷◌, ◌++◌, map, map-append}
use mathlib.Core.Option.{none, some}
use borrow.Author.Tests.{lt-ltb, le-ltb, eq-eqb, ne_eqb}
use lib.ListN.{length, get_or, set, take, length-append, length-map}
use Rattle.std.proofs.lemmas.List.{take_all}
use lib.Seq.{take-suc, take-suc-set, length-take-le, get_or-set_same, get_or-set_other}
use Rattle.formula.specs.Formula.{index}
use Rattle.contraction.specs.Rounds.{Work, tip, one, two, nodes}
use Rattle.contraction.specs.Entries.{entry, entries}
use Rattle.contraction.proofs.EntryLaws.{entries_none, entries-last, entries_next}
use Rattle.contraction.specs.declared.Records.{Records}
use Rattle.tree_tokens.specs.Tokens.{bare, single, double, flat, decode, present, toks, entries_in}

-- as many tokens as nodes
length-flat : (w : Work) → length (flat w) ≡ nodes w
length-flat (tip d) = refl
length-flat (one d c) = omega (arith, length-append (flat c) (single d ∷ []), length-flat c)
length-flat (two o l r) =
    omega (arith, length-append (flat l) (flat r ++ (double (index o) ∷ [])), length-append (flat r) (double (index o) ∷ []), length-flat l, length-flat r)

-- what a number says
pub decode-bare : (t : ℕ) → t < 4096 → decode t ≡ bare t
decode-bare t h = rw (lt-ltb t 4096 h)

pub decode-single : (t : ℕ) → 4096 ≤ t → t < 0xFFF0 → decode t ≡ single (t - 4096)
decode-single t h l = rw (le-ltb t 4096 h, lt-ltb t 0xFFF0 l)

pub decode-double : (t : ℕ) → 0xFFF0 ≤ t → decode t ≡ double (t - 0xFFF0)
decode-double t h = rw (le-ltb t 4096 (omega arith), le-ltb t 0xFFF0 h)

pub decode-new : (d : ℕ) → d < 3072 → decode (4096 + d) ≡ single d
decode-new d h = decode-single (4096 + d) (omega arith) (omega arith) ∙ ap single (omega arith)

pub present-none : (x : ℕ) → x ≡ 65535 → present x ≡ none
present-none x h = rw (eq-eqb x 65535 h)

pub present_some : (x : ℕ) → (x ≡ 65535 → ⊥) → present x ≡ some x
present_some x h = rw (ne_eqb x 65535 h)

-- the first n tokens, and one more
length-toks : (l : List ℕ) (n : ℕ) → n ≤ length l → length (toks l n) ≡ n
length-toks l n h = length-map (take n l) decode ∙ length-take-le n l h

pub toks-nodes : (w : Work) (l : List ℕ) (n : ℕ) → toks l n ≡ flat w → n ≤ length l → nodes w ≡ n
toks-nodes w l n e h = sym (length-flat w) ∙ ap length (sym e) ∙ length-toks l n h

pub toks_put : (l : List ℕ) (n v : ℕ) → n < length l → toks (set l n v) (n + 1) ≡ toks l n ++ (decode v ∷ [])
toks_put l n v h = rw (add-one, take-suc-set l n v h) (map-append decode (take n l) (v ∷ []))

pub toks-next : (l : List ℕ) (n : ℕ) → n < length l → toks l (n + 1) ≡ toks l n ++ (decode (get_or l n 0) ∷ [])
toks-next l n h = rw (add-one, take-suc l n 0) (map-append decode (take n l) (get_or l n 0 ∷ []))

pub toks-all : (l : List ℕ) (n : ℕ) → length l ≤ n → toks l n ≡ map decode l
toks-all l n h = ap (map decode) (take_all n l h)

-- the first n records, and one more
entries_keep : (ks fs ss : List ℕ) (i k f s n : ℕ) → n ≤ i → entries (set ks i k) (set fs i f) (set ss i s) 0 n ≡ entries ks fs ss 0 n
entries_keep ks fs ss i k f s zero h = entries_none (set ks i k) (set fs i f) (set ss i s) 0 ∙ sym (entries_none ks fs ss 0)
entries_keep ks fs ss i k f s (suc n) h =
    rw (
      entries-last (set ks i k) (set fs i f) (set ss i s) n 0,
      entries-last ks fs ss n 0,
      zero-add n,
      entries_keep ks fs ss i k f s n (omega arith),
      get_or-set_other ks i n k 0 (omega arith),
      get_or-set_other fs i n f 0 (omega arith),
      get_or-set_other ss i n s 0 (omega arith),
    )

pub entries_put : (rs : Records) (k f s n : ℕ) → n < length rs.kinds → n < length rs.firsts → n < length rs.seconds
    → entries_in (record { kinds = set rs.kinds n k; firsts = set rs.firsts n f; seconds = set rs.seconds n s }) (n + 1) ≡ entries_in rs n ++ (entry k f s ∷ [])
entries_put rs k f s n hk hf hs =
    let ks = rs.kinds in
    let fs = rs.firsts in
    let ss = rs.seconds in
    entries_next (set ks n k) (set fs n f) (set ss n s) n
    ∙ rw (entries_keep ks fs ss n k f s n (omega arith), get_or-set_same ks n k 0 hk, get_or-set_same fs n f 0 hf, get_or-set_same ss n s 0 hs)
