-- Walls put into the answer lists, some and then more.
use Prim.Native.Nat.{ℕ, suc, ◌+◌, ◌≤◌}
use native.Mathlib.Omega.{arith}
use mathlib.Core.Path.{◌≡◌, refl, sym, ap, ◌∙◌}
use mathlib.Core.List.{List, [], ◌∷◌, ◌++◌, map}
use lib.ListN.{length, drop, set, length-map, length-drop, length-append}
use lib.Seq.{sets, sets-eq, length-sets, drop-drop, take_at, drop_at}
use Rattle.outcome.specs.Lent.{filled}
use Rattle.lines.specs.Lines.{AnswerLists, Wall}
use Rattle.line_writing.specs.declared.lists.WallLists.{WallLists}
use Rattle.line_writing.specs.Lists.{SameLists}
use Rattle.line_writing.specs.Writing.{Put, SameLengths, HasRoom, Written}

-- ---- one list

map_app : {A B : Type 0} (f : A → B) (a b : List A) → map f (a ++ b) ≡ map f a ++ map f b
map_app f [] b = refl
map_app f (x ∷ a) b = ap {B = List _} (λ r. f x ∷ r) (map_app f a b)

sets_app : {A : Type 0} (xs ys l : List A) (k : ℕ) → sets (sets l k xs) (k + length xs) ys ≡ sets l k (xs ++ ys)
sets_app [] ys l k = let z : k + 0 ≡ k = omega arith in rw z
sets_app (x ∷ xs) ys l k =
    let z : k + suc (length xs) ≡ suc k + length xs = omega arith in
    ap (λ (n : ℕ). sets (sets (set l k x) (suc k) xs) n ys) z ∙ sets_app xs ys (set l k x) (suc k)

sets_more : {A : Type 0} (f : Wall → A) (new more : List Wall) (k : ℕ) (l m n : List A) → m ≡ sets l k (map f new) → n ≡ sets m (k + length new) (map f more) → n ≡ sets l k (map f (new ++ more))
sets_more f new more k l m n a b = b ∙ rw (a, map_app f new more, ← length-map new f) (sets_app (map f new) (map f more) l k)

-- behind the entries given, more of them
filled_sets : {A : Type 0} (xs ys l : List A) → length xs + length ys ≤ length l → sets (filled xs l) (length xs) ys ≡ filled (xs ++ ys) l
filled_sets xs ys l h =
    let n : ℕ = length xs in
    let room : n + length ys ≤ length (filled xs l) = omega (arith, length-append xs (drop n l), length-drop n l) in
    let far : drop (n + length ys) (filled xs l) ≡ drop (n + length ys) l = sym (drop-drop (length ys) n (filled xs l)) ∙ ap (drop (length ys)) (drop_at xs (drop n l) n refl) ∙ drop-drop (length ys) n l in
    sets-eq ys (filled xs l) n room
    ∙ ap (λ (r : List _). r ++ ys ++ drop (n + length ys) (filled xs l)) (take_at xs (drop n l) n refl)
    ∙ ap (λ (r : List _). xs ++ ys ++ r) far
    ∙ ap (λ (k : ℕ). (xs ++ ys) ++ drop k l) (sym (length-append xs ys))

filled_more : {A : Type 0} (f : Wall → A) (done new : List Wall) (k : ℕ) (l m n : List A) → k ≡ length done → k + length new ≤ length l → m ≡ filled (map f done) l → n ≡ sets m k (map f new) → n ≡ filled (map f (done ++ new)) l
filled_more f done new k l m n is h a b =
    let e : k ≡ length (map f done) = is ∙ sym (length-map done f) in
    let room : length (map f done) + length (map f new) ≤ length l = omega (arith, length-map new f, length-map done f) in
    b ∙ rw (a, e, map_app f done new) (filled_sets (map f done) (map f new) l room)

-- ---- the five

pub put_none : {k : ℕ} {lent : AnswerLists} → Put [] k lent lent
put_none = record { lines = refl; starts = refl; ends = refl; start_shapes = refl; end_shapes = refl }

pub put_more : {new more : List Wall} {k : ℕ} {lent then after : AnswerLists} → Put new k lent then → Put more (k + length new) then after → Put (new ++ more) k lent after
put_more {new} {more} {k} a b =
    record {
      lines = sets_more _ new more k _ _ _ a.lines b.lines;
      starts = sets_more _ new more k _ _ _ a.starts b.starts;
      ends = sets_more _ new more k _ _ _ a.ends b.ends;
      start_shapes = sets_more _ new more k _ _ _ a.start_shapes b.start_shapes;
      end_shapes = sets_more _ new more k _ _ _ a.end_shapes b.end_shapes;
    }

pub put_same : {new : List Wall} {k : ℕ} {lent after : AnswerLists} → Put new k lent after → SameLengths lent after
put_same p =
    record {
      lines = rw (p.lines, length-sets);
      starts = rw (p.starts, length-sets);
      ends = rw (p.ends, length-sets);
      start_shapes = rw (p.start_shapes, length-sets);
      end_shapes = rw (p.end_shapes, length-sets);
    }

pub same_none : {lent : AnswerLists} → SameLengths lent lent
same_none = record { lines = refl; starts = refl; ends = refl; start_shapes = refl; end_shapes = refl }

pub same_more : {lent then after : AnswerLists} → SameLengths lent then → SameLengths then after → SameLengths lent after
same_more a b =
    record {
      lines = b.lines ∙ a.lines;
      starts = b.starts ∙ a.starts;
      ends = b.ends ∙ a.ends;
      start_shapes = b.start_shapes ∙ a.start_shapes;
      end_shapes = b.end_shapes ∙ a.end_shapes;
    }

pub room-same : {n m : ℕ} {lent after : AnswerLists} → SameLengths lent after → m ≤ n → HasRoom n lent → HasRoom m after
room-same s h r =
    record {
      lines = omega (arith, s.lines, r.lines);
      starts = omega (arith, s.starts, r.starts);
      ends = omega (arith, s.ends, r.ends);
      start_shapes = omega (arith, s.start_shapes, r.start_shapes);
      end_shapes = omega (arith, s.end_shapes, r.end_shapes);
    }

pub room_back : {n : ℕ} {lent after : AnswerLists} → SameLengths lent after → HasRoom n after → HasRoom n lent
room_back s r =
    record {
      lines = rw s.lines at r.lines;
      starts = rw s.starts at r.starts;
      ends = rw s.ends at r.ends;
      start_shapes = rw s.start_shapes at r.start_shapes;
      end_shapes = rw s.end_shapes at r.end_shapes;
    }

pub written_none : {lent : AnswerLists} → Written [] lent 0 lent
written_none = record { count = refl; lines = refl; starts = refl; ends = refl; start_shapes = refl; end_shapes = refl }

pub written_more : {done new : List Wall} {k k' : ℕ} {lent then after : AnswerLists} → Written done lent k then → k' ≡ k + length new → HasRoom k' lent → Put new k then after → Written (done ++ new) lent k' after
written_more {done} {new} {k} {k'} w is room p =
    record {
      count = omega (arith, is, w.count, length-append done new);
      lines = filled_more _ done new k _ _ _ w.count (omega (arith, is, room.lines)) w.lines p.lines;
      starts = filled_more _ done new k _ _ _ w.count (omega (arith, is, room.starts)) w.starts p.starts;
      ends = filled_more _ done new k _ _ _ w.count (omega (arith, is, room.ends)) w.ends p.ends;
      start_shapes = filled_more _ done new k _ _ _ w.count (omega (arith, is, room.start_shapes)) w.start_shapes p.start_shapes;
      end_shapes = filled_more _ done new k _ _ _ w.count (omega (arith, is, room.end_shapes)) w.end_shapes p.end_shapes;
    }

-- the lists that were lent, step by step
pub lists_none : {w : WallLists} → SameLists w w
lists_none = record { lines = refl; starts = refl; ends = refl; start_shapes = refl; end_shapes = refl }

pub lists_more : {u v w : WallLists} → SameLists u v → SameLists v w → SameLists u w
lists_more a b = record { lines = b.lines ∙ a.lines; starts = b.starts ∙ a.starts; ends = b.ends ∙ a.ends; start_shapes = b.start_shapes ∙ a.start_shapes; end_shapes = b.end_shapes ∙ a.end_shapes }
