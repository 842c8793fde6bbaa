-- A name more of a sheet, whatever it is read beside: where it ends, and its key put into the array.
use Prim.Native.Nat.{ℕ, suc, ◌+◌, ◌≤◌, ◌<◌}
use native.Mathlib.Omega.{arith}
use native.Mathlib.Numerals.{add-one}
use mathlib.Core.Path.{◌≡◌, sym, ap, ◌∙◌}
use mathlib.Core.List.{List, [], ◌∷◌, ◌++◌, map, map-append, append_assoc}
use lib.ListN.{length, take, set, length-set, length-append}
use lib.Seq.{take-suc-set}
use Rattle.sheet.specs.Sheet.{Setting, name_field, between, past_at, bytes_at}
use Rattle.sheet.specs.Walk.{walk_end, walk_names}
use Rattle.sheet_names.specs.Keys.{key_of, Keyed}
use Rattle.sheet.proofs.Names.{walk_length, walk_names_more, walk_end_more}
use Rattle.sheet.proofs.Fields.{IsName}

module _ (w : Setting) (s : List ℕ) (at n a e : ℕ) (it : IsName w s at (walk_names s 5 n) (name_field (between s a e) e)) where
  bytes : between s a e ≡ bytes_at s at
  bytes = let h = it.is in cc h

  past : e ≡ past_at s at
  past = let h = it.is in cc h

  pub named-inside : e ≤ length s
  named-inside = omega (arith, it.inside, past)

  pub named-room : length w.fittings + n < 256
  named-room = omega (arith, it.room, walk_length s 5 n)

  module _ (here : at ≡ walk_end s 5 n) where
    pub named_more : walk_names s 5 (n + 1) ≡ walk_names s 5 n ++ (between s a e ∷ [])
    named_more = rw (add-one n, walk_names_more s 5 n, ← here, bytes)

    pub named_here : e ≡ walk_end s 5 (n + 1)
    named_here = past ∙ rw (add-one n, walk_end_more s 5 n, ← here)

    -- fs are the names whose keys come first
    pub named_keyed : (fs : List (List ℕ)) (m : ℕ) → length fs ≡ m → (ks : List ℕ) (k : ℕ) → m + n < 256 → Keyed ks (fs ++ walk_names s 5 n) → k ≡ key_of (between s a e)
        → Keyed (set ks (m + n) k) (fs ++ walk_names s 5 (n + 1))
    named_keyed fs m len ks k few keyed key =
        let room : m + n < length ks = omega (arith, few, keyed.sized) in
        let before : length (fs ++ walk_names s 5 n) ≡ m + n = length-append fs (walk_names s 5 n) ∙ rw (len, walk_length s 5 n) in
        let after : length (fs ++ walk_names s 5 (n + 1)) ≡ suc (m + n) = length-append fs (walk_names s 5 (n + 1)) ∙ rw (len, walk_length s 5 (n + 1)) (omega arith) in
        record {
          are =
              ap (λ (i : ℕ). take i (set ks (m + n) k)) after
              ∙ take-suc-set ks (m + n) k room
              ∙ ap (λ (x : List ℕ). x ++ (k ∷ [])) (ap (λ (i : ℕ). take i ks) (sym before) ∙ keyed.are)
              ∙ rw key (sym (map-append key_of (fs ++ walk_names s 5 n) (between s a e ∷ [])))
              ∙ ap (map key_of) (append_assoc fs (walk_names s 5 n) (between s a e ∷ []))
              ∙ ap (λ (ns : List (List ℕ)). map key_of (fs ++ ns)) (sym named_more);
          sized = length-set ks (m + n) k ∙ keyed.sized;
        }
