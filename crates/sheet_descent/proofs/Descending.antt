-- The descent over the codes, operation first: what one code more, and one operand more, adds.
use Prim.Native.Nat.{ℕ, suc, ◌+◌, ◌-◌, ◌*◌, ◌/◌, ◌^◌, ◌≤◌, ◌<◌}
use native.Mathlib.Omega.{arith}
use native.Mathlib.Numerals.{add-one}
use native.Mathlib.Nat.{add_assoc}
use mathlib.Core.Path.{◌≡◌, refl, sym, ap, ◌∙◌}
use mathlib.Core.Bool.{true, false}
use mathlib.Core.List.{List, [], ◌∷◌, ◌++◌, append_assoc}
use mathlib.Core.Option.{some}
use lib.ListN.{length, take, drop, set, length-set, length-append}
use lib.Seq.{take-suc-set}
use Rattle.outcome.specs.Outcome.{refused, ◌>>=◌, part}
use Rattle.formula.specs.Formula.{Op, code, leaf, node, postfix, prefix}
use Rattle.formula.proofs.Laws.{length-prefix}
use Rattle.formula.specs.Codes.{is_operation, operation}
use Rattle.formula.proofs.Codes.{operation_which, operation-code}
use Rattle.sheet.specs.Sheet.{two_bytes_at, codes_of, joined_first, all_first}
use Rattle.sheet.proofs.CodesFirst.{first-operation, first_unknown, first-prefix}
use Rattle.sheet_codes.proofs.CodeSteps.{codes_more}
use Rattle.sheet_descent.specs.Descent.{Room, IsWhole, IsWrong, EndsEarly, FirstUnknown, Fails, short_at}
use Rattle.sheet_descent.proofs.Short.{none_other, some_operation, short-operation, short_unknown, short-prefix, few_bytes, unknown_met}

-- What `None` says of the first unknown code, where that stands no further than `past`.
pub fails-wrong : (n : ℕ) (p : List ℕ) (at past place : ℕ) → past ≤ length p → Fails n p at past → FirstUnknown n p at place → place ≤ past → IsWrong n p at place
fails-wrong n p at past place within w u near = record { within = omega arith; is = λ tag first k. w.wrong place k u (omega arith) tag first }

pub right-falls : (p : List ℕ) (at past mid t : ℕ) → length p - at ≡ t → at < past → past ≤ length p → at + 2 ≤ mid → length p - mid < t
right-falls p at past mid t e more within after = omega arith

-- ---- one code

module _ (n : ℕ) (p old : List ℕ) (at past count : ℕ) (room : Room n p old at past count) where
  pub ends-early : past ≤ at → EndsEarly n p at past
  ends-early h = record { is = λ tag first k few. few_bytes p n tag (first + at) at k (omega (arith, h, few)) }

  pub ends_fails : past ≤ at → Fails n p at past
  ends_fails h =
      record {
        early = ends-early h;
        wrong = λ place k u near tag first. unknown_met (codes_of (drop at p)) n tag (first + at) (first + place) k (λ t. u.is t first) (omega (arith, h, near));
      }

  pub room-two : at < past → at + 1 < length p
  room-two more = omega (arith, room.there, room.here, room.within)

  pub room-code : at < past → count < 2048
  room-code more = let few : length p ≤ 4094 = room.few in omega (arith, room.behind, room.within)

  pub past_two : at < past → 2 ≤ past
  past_two more = omega (arith, room.there)

  module _ (more : at < past) (c : ℕ) (is : c ≡ two_bytes_at p at) where
    codes-here : codes_of (drop at p) ≡ c ∷ codes_of (drop (at + 2) p)
    codes-here = codes_more p at (room-two more) ∙ ap (λ (x : ℕ). x ∷ codes_of (drop (at + 2) p)) (sym is)

    pub leaf-whole : c < n → IsWhole n p at past old (set old count c) count (at + 2)
    leaf-whole h =
        let there : count < length old = omega (arith, room-code more, room.sized) in
        (record {
          formula = leaf c;
          over = h;
          codes_are = codes-here;
          next_is = refl;
          within = omega (arith, room.there, room.here);
          written = rw (add-one count) (take-suc-set old count c there);
          sized = length-set old count c ∙ room.sized;
        })

    pub wrong_here : n ≤ c → is_operation c ≡ false → IsWrong n p at at
    wrong_here h e = record { within = omega (arith, more, room.within); is = λ tag first k. rw codes-here (first_unknown n tag (first + at) c (codes_of (drop (at + 2) p)) k h (none_other c e)) }

    short_here : n ≤ c → is_operation c ≡ false → (tag first : ℕ) → short_at n tag (first + at) (codes_of (drop at p)) ≡ first + at
    short_here h e tag first = rw codes-here (short_unknown n tag (first + at) c (codes_of (drop (at + 2) p)) h (none_other c e))

    pub early_here : n ≤ c → is_operation c ≡ false → EndsEarly n p at past
    early_here h e = record { is = λ tag first k few. (wrong_here h e).is tag first k ∙ rw (short_here h e tag first) }

    pub fails_here : n ≤ c → is_operation c ≡ false → Fails n p at past
    fails_here h e =
        record {
          early = early_here h e;
          wrong = λ place k u near tag first. (wrong_here h e).is tag first k ∙ ap (refused 7) (sym (short_here h e tag first) ∙ u.is tag first);
        }

    -- ---- an operation, and its left operand

    pub left-room : Room n p old (at + 2) (past - 2) count
    left-room =
        record {
          few_names = room.few_names;
          few = room.few;
          even = room.even;
          sized = room.sized;
          here = omega (arith, room.here);
          there = omega (arith, room.there);
          near = omega (arith, room-two more);
          within = omega (arith, room.within);
          behind = omega (arith, room.behind);
        }

    module _ (above : n ≤ c) (operates : is_operation c ≡ true) where
      abbrev op : Op
      op = (some_operation c operates).0

      op_is : operation c ≡ some op
      op_is = (some_operation c operates).1

      on : (tag first k : ℕ) → all_first n tag (first + at) (codes_of (drop at p)) (suc k) ≡ (all_first n tag (first + (at + 2)) (codes_of (drop (at + 2) p)) (suc (suc k)) >>= joined_first (first + at) op)
      on tag first k = rw (codes-here, ← add_assoc first at 2) (first-operation n tag (first + at) c (codes_of (drop (at + 2) p)) k op above op_is)

      short_on : (tag first : ℕ) → short_at n tag (first + at) (codes_of (drop at p)) ≡ short_at n tag (first + (at + 2)) (codes_of (drop (at + 2) p))
      short_on tag first = rw (codes-here, ← add_assoc first at 2) (short-operation n tag (first + at) c (codes_of (drop (at + 2) p)) op above op_is)

      pub left-early : EndsEarly n p (at + 2) (past - 2) → EndsEarly n p at past
      left-early w = record { is = λ tag first k few. on tag first k ∙ rw (w.is tag first (suc k) (omega (arith, few)), short_on tag first) }

      pub left-wrong : (q : ℕ) → IsWrong n p (at + 2) q → IsWrong n p at q
      left-wrong q w = record { within = w.within; is = λ tag first k. on tag first k ∙ rw (w.is tag first (suc k)) }

      pub left_fails : Fails n p (at + 2) (past - 2) → Fails n p at past
      left_fails w =
          record {
            early = left-early w.early;
            wrong = λ place k u near tag first.
                let v : FirstUnknown n p (at + 2) place = record { is = λ t f. sym (short_on t f) ∙ u.is t f } in
                on tag first k ∙ rw (w.wrong place (suc k) v (omega (arith, near)) tag first);
          }

      module _ (mids : List ℕ) (mid : ℕ) (left : IsWhole n p (at + 2) (past - 2) old mids count mid) where
        mid_at : (first : ℕ) → first + (at + 2) + 2 * length (prefix left.formula) ≡ first + mid
        mid_at first = omega (arith, left.next_is, length-prefix left.formula)

        -- after the left operand the right one is to come
        past-left : (tag first k : ℕ)
            → all_first n tag (first + (at + 2)) (codes_of (drop (at + 2) p)) (suc (suc k)) ≡ part (λ fs. left.formula ∷ fs) (all_first n tag (first + mid) (codes_of (drop mid p)) (suc k))
        past-left tag first k =
            let f = left.formula in
            rw left.codes_are (first-prefix n room.few_names tag f (first + (at + 2)) (codes_of (drop mid p)) (suc k) left.over)
            ∙ ap (λ (i : ℕ). part (λ fs. f ∷ fs) (all_first n tag i (codes_of (drop mid p)) (suc k))) (mid_at first)

        short-past-left : (tag first : ℕ) → short_at n tag (first + (at + 2)) (codes_of (drop (at + 2) p)) ≡ short_at n tag (first + mid) (codes_of (drop mid p))
        short-past-left tag first =
            let f = left.formula in
            rw left.codes_are (short-prefix n room.few_names tag f (first + (at + 2)) (codes_of (drop mid p)) left.over)
            ∙ ap (λ (i : ℕ). short_at n tag i (codes_of (drop mid p))) (mid_at first)

        pub right-early : EndsEarly n p mid past → EndsEarly n p at past
        right-early w =
            record { is = λ tag first k few. on tag first k ∙ rw (past-left tag first k, w.is tag first k few, short_on tag first, short-past-left tag first) }

        pub right-wrong : (q : ℕ) → IsWrong n p mid q → IsWrong n p at q
        right-wrong q w = record { within = w.within; is = λ tag first k. on tag first k ∙ rw (past-left tag first k, w.is tag first k) }

        pub right_fails : Fails n p mid past → Fails n p at past
        right_fails w =
            record {
              early = right-early w.early;
              wrong = λ place k u near tag first.
                  let v : FirstUnknown n p mid place = record { is = λ t f. sym (short-past-left t f) ∙ sym (short_on t f) ∙ u.is t f } in
                  on tag first k ∙ rw (past-left tag first k, w.wrong place k v near tag first);
            }

        module _ (lefts : ℕ) (lefts-is : lefts ≡ count + (mid - (at + 2)) / 2) where
          lefts_are : lefts ≡ count + length (postfix left.formula)
          lefts_are = omega (arith, lefts-is, left.next_is)

          pub right-room : Room n p mids mid past lefts
          right-room =
              record {
                few_names = room.few_names;
                few = room.few;
                even = room.even;
                sized = left.sized;
                here = omega (arith, room.here, left.next_is);
                there = room.there;
                near = omega (arith, left.within, room.within);
                within = room.within;
                behind = omega (arith, room.behind, left.next_is, lefts_are);
              }

          module _ (news : List ℕ) (next : ℕ) (right : IsWhole n p mid past mids news lefts next) where
            module _ (both : ℕ) (both_is : both ≡ lefts + (next - mid) / 2) where
              both_are : both ≡ lefts + length (postfix right.formula)
              both_are = omega (arith, both_is, right.next_is)

              pub both_room : both < 2048
              both_room = let few : length p ≤ 4094 = room.few in omega (arith, both_are, lefts_are, room.behind, room.within, right.within, left.next_is, right.next_is)

              pub both_twice : both * 2 < 2 ^ 64
              both_twice = omega (arith, both_room)

              both_written : take both news ≡ (take count old ++ postfix left.formula) ++ postfix right.formula
              both_written =
                  ap (λ (k : ℕ). take k news) both_are
                  ∙ right.written
                  ∙ ap (λ (k : ℕ). take k mids ++ postfix right.formula) lefts_are
                  ∙ ap (λ (xs : List ℕ). xs ++ postfix right.formula) left.written

              pub both_whole : IsWhole n p at past old (set news both c) count next
              both_whole =
                  let l = left.formula in
                  let r = right.formula in
                  let is_code : c ≡ code op = operation-code c op (operation_which c) op_is in
                  let there : both < length news = omega (arith, both_room, right.sized) in
                  let many : length (postfix (node op l r)) ≡ length (postfix l) + (length (postfix r) + 1) = simp length-append refl in
                  let all : count + length (postfix (node op l r)) ≡ suc both = omega (arith, many, both_are, lefts_are) in
                  (record {
                    formula = node op l r;
                    over = (left.over, right.over);
                    codes_are =
                        codes-here
                        ∙ ap (λ (x : ℕ). x ∷ codes_of (drop (at + 2) p)) is_code
                        ∙ ap (λ (xs : List ℕ). code op ∷ xs)
                        (left.codes_are ∙ ap (λ (xs : List ℕ). prefix l ++ xs) right.codes_are ∙ sym (append_assoc (prefix l) (prefix r) (codes_of (drop next p))));
                    next_is = omega (arith, many, left.next_is, right.next_is);
                    within = right.within;
                    written =
                        ap (λ (i : ℕ). take i (set news both c)) all
                        ∙ take-suc-set news both c there
                        ∙ ap (λ (xs : List ℕ). xs ++ (c ∷ [])) both_written
                        ∙ ap (λ (x : ℕ). ((take count old ++ postfix l) ++ postfix r) ++ (x ∷ [])) is_code
                        ∙ simp append_assoc refl;
                    sized = length-set news both c ∙ right.sized;
                  })
