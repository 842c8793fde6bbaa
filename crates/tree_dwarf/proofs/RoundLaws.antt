-- Rounds: how many nodes and records they leave, and where they have come to.
use Prim.Native.Nat.{ℕ, zero, suc, ◌+◌, ◌-◌, ◌≤◌, ◌<◌}
use native.Mathlib.Omega.{arith}
use mathlib.Core.Path.{◌≡◌, refl, sym, ap, ◌∙◌}
use mathlib.Core.Bool.{false}
use mathlib.Core.List.{List, [], ◌++◌, map, append-nil}
use mathlib.Core.Option.{Option, none, some}
use lib.ListN.{length, take, length-append, length-map}
use Rattle.formula.specs.Formula.{Op}
use Rattle.contraction.specs.Records.{Rec}
use Rattle.contraction.specs.Rounds.{Work, tip, one, two, nodes, tip_of, one_remains, rake_one, rake_two, rakes, left_one, left_two, raked}
use Rattle.contraction.specs.Rounds.{compresses, compressed, round_makes, round_leaves, made, rounds}
use Rattle.contraction.proofs.Counts.{compressed-nodes, nodes_pos}
use Rattle.contraction.proofs.Rounds.{fewer}
use Rattle.contraction.specs.Entries.{Entry, entry_of}
use Rattle.contraction.specs.declared.Records.{Records}
use Rattle.contraction.specs.declared.TheConstants.{CODES, NODES}
use Rattle.tree_tokens.specs.Tokens.{flat, toks, entries_in, Leaves}
use Rattle.tree_tokens.specs.declared.Extent.{Extent}
use Rattle.contraction.proofs.EntryLaws.{entries-append, length-entries}
use Rattle.tree_tokens.proofs.TokensLaws.{toks-nodes}
use Rattle.tree_rake.specs.Raking.{RakedTo}
use Rattle.tree_compress.specs.Pairing.{CompressedTo}
use Rattle.tree_dwarf.specs.Building.{Rooted, RoundTo, Contracted, ContractedTo}

-- ---- a step makes no more records than it takes nodes away
one-room : (d : ℕ) (v : Option ℕ) (c' : Work) (n m k : ℕ) → m + nodes c' ≤ k → m + length (rake_one d v) + nodes (left_one d v c' n) ≤ suc k
one-room d (some v) c' n m k h = omega (arith, nodes_pos c')
one-room d none c' n m k h = omega arith

two-room : (o : Op) (a b : Option ℕ) (l' r' : Work) (n m p k q : ℕ) → m + nodes l' ≤ k → p + nodes r' ≤ q
    → m + (p + length (rake_two o a b)) + nodes (left_two o a b l' r' n) ≤ suc (k + q)
two-room o (some a) (some b) l' r' n m p k q g h = omega (arith, nodes_pos l', nodes_pos r')
two-room o (some a) none l' r' n m p k q g h = omega (arith, nodes_pos l')
two-room o none (some b) l' r' n m p k q g h = omega (arith, nodes_pos r')
two-room o none none l' r' n m p k q g h = omega arith

raked-room : (w : Work) (n : ℕ) → length (rakes w) + nodes (raked w n) ≤ nodes w
raked-room (tip d) n = omega arith
raked-room (one d c) n =
    omega (arith, one-room d (tip_of c) (raked c n) (n + length (rakes c)) (length (rakes c)) (nodes c) (raked-room c n), length-append (rakes c) (rake_one d (tip_of c)))
raked-room (two o l r) n =
    let k = n + length (rakes l) in
    let t = rake_two o (tip_of l) (tip_of r) in
    omega (
      arith,
      two-room o (tip_of l) (tip_of r) (raked l n) (raked r k) (k + length (rakes r)) (length (rakes l)) (length (rakes r)) (nodes l) (nodes r) (raked-room l n) (raked-room r k),
      length-append (rakes l) (rakes r ++ t),
      length-append (rakes r) t,
    )

round_room : (w : Work) (n : ℕ) → length (round_makes w n) + nodes (round_leaves w n) ≤ nodes w
round_room w n =
    omega (arith, raked-room w n, compressed-nodes (raked w n) (n + length (rakes w)), length-append (rakes w) (compresses (raked w n)))

more_remain : (w : Work) → 1 < nodes w → one_remains w ≡ false
more_remain (tip d) h = absurd (omega arith)
more_remain (one d c) h = refl
more_remain (two o l r) h = refl

-- ---- one round of the definition, and none at the end
made_round : (k : ℕ) (w : Work) (n : ℕ) → one_remains w ≡ false → made (suc k) w n ≡ round_makes w n ++ made k (round_leaves w n) (n + length (round_makes w n))
made_round k w n e = rw (e, made)

rounds_round : (k : ℕ) (w : Work) (n : ℕ) → one_remains w ≡ false → rounds (suc k) w n ≡ suc (rounds k (round_leaves w n) (n + length (round_makes w n)))
rounds_round k w n e = rw (e, rounds)

end_made : (k : ℕ) (w : Work) (n : ℕ) → nodes w ≤ 1 → made k w n ≡ []
end_made zero w n h = refl
end_made (suc k) (tip d) n h = refl
end_made (suc k) (one d c) n h = absurd (omega (arith, nodes_pos c))
end_made (suc k) (two o l r) n h = absurd (omega (arith, nodes_pos l, nodes_pos r))

end_rounds : (k : ℕ) (w : Work) (n : ℕ) → nodes w ≤ 1 → rounds k w n ≡ 0
end_rounds zero w n h = refl
end_rounds (suc k) (tip d) n h = refl
end_rounds (suc k) (one d c) n h = absurd (omega (arith, nodes_pos c))
end_rounds (suc k) (two o l r) n h = absurd (omega (arith, nodes_pos l, nodes_pos r))

-- ---- what a step leaves
module _ {w : Work} {found : List Entry} {ms : List Rec} {out : List ℕ} {rs : Records} {r : Extent} (left : Leaves w found ms out rs r) where
  pub leaves-next : r.next ≡ length found + length ms
  leaves-next = sym (length-entries rs.kinds rs.firsts rs.seconds r.next 0) ∙ ap length left.records ∙ length-append found (map entry_of ms) ∙ ap (λ k. length found + k) (length-map ms entry_of)

  leaves-nodes : r.at ≤ length out → nodes w ≡ r.at
  leaves-nodes h = toks-nodes w out r.at left.tree h

-- ---- rake and then compress
round_fewer : (w : Work) (n : ℕ) → 1 < nodes w → nodes (round_leaves w n) < nodes w
round_fewer w n h = omega (arith, fewer w n (nodes w - 2) (omega arith))

module _ (w : Work) (n : ℕ) {found : List Entry} (known : length found ≡ n) {b : List ℕ} {rs : Records} {m : Extent}
    (after-rake : Leaves (raked w n) found (rakes w) b rs m) where
  rake_room : m.at ≤ length b → m.next + m.at ≤ n + nodes w
  rake_room h = omega (arith, leaves-next after-rake, leaves-nodes after-rake h, raked-room w n)

  module _ {a' : List ℕ} {rs' : Records} {r : Extent}
      (after : Leaves (compressed (raked w n) m.next) (entries_in rs m.next) (compresses (raked w n)) a' rs' r) where
    after_round : Leaves (round_leaves w n) found (round_makes w n) a' rs' r
    after_round = record {
      tree = after.tree ∙ ap (λ z. flat (compressed (raked w n) z)) (omega (arith, leaves-next after-rake));
      records = after.records ∙ ap (λ z. z ++ map entry_of (compresses (raked w n))) after-rake.records ∙ entries-append found (rakes w) _;
    }

    after-room : r.at ≤ length a' → r.next + r.at ≤ n + nodes w
    after-room h = omega (arith, leaves-next after_round, leaves-nodes after_round h, round_room w n)

    after_fewer : r.at ≤ length a' → 1 < nodes w → r.at < nodes w
    after_fewer h many = omega (arith, leaves-nodes after_round h, round_fewer w n many)

-- ---- what rake and compress leave is a round's
module _ {a : List ℕ} {m : Extent} {found : Records} {b : List ℕ} {rs : Records} {q : Extent} (by-rake : RakedTo (take m.at a) m.next found b rs q) (given : Rooted a m) (many : 1 < m.at)
    (full : length a ≡ 2048) (long : length b ≡ 2048) (least : q.at ≤ m.at) where
  nodes_are : (w : Work) → toks a m.at ≡ flat w → nodes w ≡ m.at
  nodes_are w e = toks-nodes w a m.at e (omega (arith, given.few))

  left_by_rake : (w : Work) → toks a m.at ≡ flat w → Leaves (raked w m.next) (entries_in found m.next) (rakes w) b rs q
  left_by_rake w e = by-rake.leaves w e (more_remain w (omega (arith, nodes_are w e)))

  known : length (entries_in found m.next) ≡ m.next
  known = length-entries found.kinds found.firsts found.seconds m.next 0

  pub compress_room : q.next + q.at ≤ 3072
  compress_room =
      let w = given.tree in
      omega (arith, nodes_are w given.is, rake_room w m.next known (left_by_rake w given.is) (omega (arith, given.few)), given.room)

  pub round_to : {a' : List ℕ} {rs' : Records} {r : Extent} → CompressedTo (take q.at b) q.next rs a' rs' r → length a' ≡ 2048 → r.at ≤ q.at
      → RoundTo a m found a' rs' r
  round_to {r = r} by-compress full' less =
      let w = given.tree in
      let l = left_by_rake w given.is in
      let k = by-compress.leaves (raked w m.next) l.tree in
      let n-is = nodes_are w given.is in
      let inside : r.at ≤ 2048 = omega (arith, given.few) in
      record {
        many = many;
        fewer = omega (arith, after_fewer w m.next known l k (omega arith) (omega arith));
        room = omega (arith, after-room w m.next known l k (omega arith));
        leaves = λ v e. let h = left_by_rake v e in after_round v m.next known h (by-compress.leaves (raked v m.next) h.tree);
      }

-- ---- where the rounds have come to, of a tree w₀: what is left to do comes to the whole
pub record Along (w₀ : Work) (n₀ : ℕ) (found : List Entry) (a : List ℕ) (left : ℕ) (sofar : List Entry) (count many : ℕ) : Type 0 where
  pub tree : Work
  pub most : ℕ
  pub enough : left ≤ most
  pub tokens : toks a left ≡ flat tree
  pub all_made : sofar ++ map entry_of (made most tree count) ≡ found ++ map entry_of (made (nodes w₀) w₀ n₀)
  pub all_rounds : many + rounds most tree count ≡ rounds (nodes w₀) w₀ n₀

module _ {w₀ : Work} {n₀ : ℕ} {found : List Entry} (a : List ℕ) (left : ℕ) (sofar : List Entry) (count many : ℕ) (t : Along w₀ n₀ found a left sofar count many) (h : left ≤ length a) where
  along_round : (a' : List ℕ) (rs : Records) (r : Extent) → Leaves (round_leaves t.tree count) sofar (round_makes t.tree count) a' rs r → length sofar ≡ count
      → 1 < left → r.at < left → Along w₀ n₀ found a' r.at (entries_in rs r.next) r.next (many + 1)
  along_round a' rs r l c big less = go t.most refl
    where
      remain : one_remains t.tree ≡ false
      remain = more_remain t.tree (omega (arith, toks-nodes t.tree a left t.tokens h))

      next_is : r.next ≡ count + length (round_makes t.tree count)
      next_is = omega (arith, leaves-next l)

      go : (k : ℕ) → t.most ≡ k → Along w₀ n₀ found a' r.at (entries_in rs r.next) r.next (many + 1)
      go zero q = absurd (omega (arith, t.enough))
      go (suc k) q = record {
        tree = round_leaves t.tree count;
        most = k;
        enough = omega (arith, t.enough);
        tokens = l.tree;
        all_made =
            ap (λ z. z ++ map entry_of (made k (round_leaves t.tree count) r.next)) l.records
            ∙ entries-append sofar (round_makes t.tree count) _
            ∙ ap (λ z. sofar ++ map entry_of (round_makes t.tree count ++ made k (round_leaves t.tree count) z)) next_is
            ∙ ap (λ z. sofar ++ map entry_of z) (sym (made_round k t.tree count remain))
            ∙ ap (λ z. sofar ++ map entry_of (made z t.tree count)) (sym q)
            ∙ t.all_made;
        all_rounds =
            ap (λ z. many + 1 + rounds k (round_leaves t.tree count) z) next_is
            ∙ omega (arith, rounds_round k t.tree count remain, ap (λ z. rounds z t.tree count) q, t.all_rounds);
      }

  along_end : left ≤ 1 → Contracted w₀ n₀ found sofar many
  along_end small =
      let few : nodes t.tree ≤ 1 = omega (arith, toks-nodes t.tree a left t.tokens h) in
      record {
        records = sym (append-nil sofar) ∙ ap (λ z. sofar ++ map entry_of z) (sym (end_made t.most t.tree count few)) ∙ t.all_made;
        rounds_are = omega (arith, end_rounds t.most t.tree count few, t.all_rounds);
      }

-- ---- the loop: of any tree that the tokens are of, what is left to do comes to the whole
pub record Contracting (a₀ : List ℕ) (m₀ : Extent) (found : Records) (a : List ℕ) (rs : Records) (m : Extent) (many : ℕ) : Type 0 where
  pub few : m.at ≤ CODES
  pub room : m.next + m.at ≤ NODES
  pub rounds_few : many + m.at ≤ CODES
  pub full : length a ≡ CODES
  pub along : (w : Work) → toks a₀ m₀.at ≡ flat w → Along w m₀.next (entries_in found m₀.next) a m.at (entries_in rs m.next) m.next many

pub contracting_start : {a : List ℕ} {rs : Records} {m : Extent} → length a ≡ 2048 → Rooted a m → Contracting a m rs a rs m 0
contracting_start {a} {m = m} full given =
    record {
      few = given.few;
      room = given.room;
      rounds_few = omega (arith, given.few);
      full = full;
      along = λ w e.
          record {
            tree = w;
            most = nodes w;
            enough = omega (arith, toks-nodes w a m.at e (omega (arith, given.few)));
            tokens = e;
            all_made = refl;
            all_rounds = omega arith;
          };
    }

module _ {a₀ : List ℕ} {m₀ : Extent} {found : Records} {a : List ℕ} {rs : Records} {m : Extent} {many : ℕ} (now : Contracting a₀ m₀ found a rs m many) where
  pub contracting_rooted : Rooted a₀ m₀ → Rooted a m
  contracting_rooted given = let t = now.along given.tree given.is in record { few = now.few; room = now.room; tree = t.tree; is = t.tokens }

  pub contracting_more : {a' : List ℕ} {rs' : Records} {r : Extent} → length a' ≡ CODES → RoundTo a m rs a' rs' r → Contracting a₀ m₀ found a' rs' r (many + 1)
  contracting_more {a'} {rs'} {r} full to =
      record {
        few = omega (arith, to.fewer, now.few);
        room = omega (arith, to.room, now.room);
        rounds_few = omega (arith, to.fewer, now.rounds_few);
        full = full;
        along = λ w e.
            let t = now.along w e in
            along_round a m.at _ m.next many t (omega (arith, now.few, now.full)) a' rs' r (to.leaves t.tree t.tokens) (length-entries rs.kinds rs.firsts rs.seconds m.next 0) to.many to.fewer;
      }

  pub contracting_end : m.at ≤ 1 → ContractedTo a₀ m₀ found rs m.next many
  contracting_end h =
      record {
        few = omega (arith, now.room);
        contracted = λ w e. along_end a m.at _ m.next many (now.along w e) (omega (arith, now.few, now.full)) h;
      }
