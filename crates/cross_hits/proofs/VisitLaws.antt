-- The shapes of a block that may be crossed, gathered one after another; those between them are passed.
use mathlib.Core.Path.{◌≡◌, refl, ◌∙◌, subst}
use mathlib.Core.Bool.{false}
use mathlib.Core.List.{List, []}
use Prim.Native.Nat.{ℕ, ◌+◌, ◌-◌, ◌<◌, ◌≤◌}
use native.Mathlib.Omega.{arith}
use lib.ListN.{length, get_or}
use lib.Ieee.{Float}
use Rattle.word_bits.specs.Words.{bit}
use Rattle.word_bits.specs.Lowest.{Lowest, Others}
use Rattle.word_bits.proofs.Walk.{Rest, rest-starts, rest_up, rest-here, rest-none, rest-on, rest-ends}
use Rattle.cross_cuts.specs.Cuts.{Cut, fault, cut}
use Rattle.cross_cuts.specs.Keys.{cut_of, Held, Adds, Elsewhere, Going}
use Rattle.cross_cuts.specs.declared.Met.{Met}
use Rattle.std.proofs.Common.{Option, None, Ok, Err}
use Rattle.cross_cuts.proofs.GatherLaws.{going_fault, going_on, going_past}
use Rattle.cross_shapes.specs.declared.Probe.{Probe}
use Rattle.cross_hits.specs.Hits.{MetAt, Begun, Clear, Reached}
use Rattle.cross_hits.specs.declared.Alone.{Alone}
use Rattle.cross_hits.specs.declared.Block.{Block}

-- ---- how far the block is walked, and room for what is next
pub record Walked (block : Block) (bytes keys : List ℕ) (rest m : ℕ) : Type 0 where
  pub done : ℕ
  pub walked : Rest block.hits rest done
  pub held : Held 256 bytes keys (block.start + done) m

pub walk_starts : {block : Block} {bytes keys : List ℕ} → Held 256 bytes keys block.start block.count → Walked block bytes keys block.hits block.count
walk_starts {block} {bytes} {keys} held = record {
  done = 0;
  walked = rest-starts;
  held = let e : block.start ≡ block.start + 0 = omega arith in subst (λ (i : ℕ). Held 256 bytes keys i block.count) e held;
}

module _ {block : Block} {bytes keys : List ℕ} {rest m z : ℕ} (at : Walked block bytes keys rest m) (low : Lowest rest z) (inside : block.start + block.size ≤ 256) (more : z < block.size) where
  -- by as many bytes as there are
  pub walk_held : Held (length bytes) bytes keys (block.start + z) m
  walk_held =
      let up = rest_up at.walked low in
      let s = at.held.starts_sized in
      record { starts_sized = refl; keys_sized = omega (arith, s, at.held.keys_sized); some = omega (arith, s); few = omega (arith, at.held.few) }

  pub walk_here : block.start + z < length bytes
  walk_here = omega (arith, at.held.starts_sized)

  pub walk_on : {c : Cut} {bytes' keys' : List ℕ} {n r : ℕ} → Adds (length bytes) c bytes keys (block.start + z) m bytes' keys' n → Others rest r → Walked block bytes' keys' r n
  walk_on {c} {bytes'} {keys'} {n} adds others =
      let next : block.start + z + 1 ≡ block.start + (z + 1) = omega arith in
      record { done = z + 1; walked = rest-on at.walked low others; held = subst (λ (i : ℕ). Held 256 bytes' keys' i n) next (rw at.held.starts_sized at adds.held) }

-- ---- what is gathered
pub record Visiting (probe : Probe) (cuts : List Cut) (alone : Alone) (halves : List ℕ) (lows : List Float) (lessers greaters bytes₀ keys₀ : List ℕ) (block : Block) (bytes keys : List ℕ) (rest m : ℕ) : Type 0 where
  pub begun : Begun probe cuts alone halves lows lessers greaters bytes₀ keys₀ block
  pub done : ℕ
  pub short : done ≤ block.size
  pub walked : Rest block.hits rest done
  pub going : Going 256 16 cuts bytes keys (block.start + done) m
  pub clear : Clear halves bytes (block.start + done) (length cuts)

abbrev pub Visits : Probe → Alone → List ℕ → List Float → List ℕ → List ℕ → List ℕ → List ℕ → Block → List ℕ → List ℕ → ℕ → ℕ → Type 0
Visits probe alone halves lows lessers greaters bytes₀ keys₀ block bytes keys rest m =
    (cuts : List Cut) → Begun probe cuts alone halves lows lessers greaters bytes₀ keys₀ block → Visiting probe cuts alone halves lows lessers greaters bytes₀ keys₀ block bytes keys rest m

module _ {probe : Probe} {alone : Alone} {halves : List ℕ} {lows : List Float} {lessers greaters bytes₀ keys₀ : List ℕ} {block : Block} where
  pub visit_starts : Visits probe alone halves lows lessers greaters bytes₀ keys₀ block bytes₀ keys₀ block.hits block.count
  visit_starts cuts begun =
      let e : block.start ≡ block.start + 0 = omega arith in
      record {
        begun = begun;
        done = 0;
        short = omega arith;
        walked = rest-starts;
        going = subst (λ (i : ℕ). Going 256 16 cuts bytes₀ keys₀ i block.count) e begun.going;
        clear = subst (λ (i : ℕ). Clear halves bytes₀ i (length cuts)) e begun.clear;
      }

  module _ {cuts : List Cut} {bytes keys : List ℕ} {rest m : ℕ} (at : Visiting probe cuts alone halves lows lessers greaters bytes₀ keys₀ block bytes keys rest m) where
    -- up to a shape before which the bits are off
    past : (z : ℕ) → at.done ≤ z → z ≤ block.size → ((c : ℕ) → at.done ≤ c → c < z → bit block.hits c ≡ false) → Going 256 16 cuts bytes keys (block.start + z) m
    past z up short off =
        let b = at.begun in
        let w = b.within in
        let e : block.start + at.done + (z - at.done) ≡ block.start + z = omega arith in
        subst (λ (i : ℕ). Going 256 16 cuts bytes keys i m) e
        (going_past 16 cuts bytes keys b.few m (block.start + at.done) (z - at.done) at.going (omega arith)
        (λ j h l.
        let c = j - block.start in
        let i : block.start + c ≡ j = omega arith in
        let p = b.told.off c (omega arith) (off c (omega arith) (omega arith)) in
        let q = subst (λ (k : ℕ). (get_or halves k 0 ≡ 0) × (get_or cuts k fault ≡ cut false [])) i p in
        (q.1, at.clear.zero j h (omega arith) q.0)))

    visit_ends : ((c : ℕ) → at.done ≤ c → c < block.size → bit block.hits c ≡ false) → Reached cuts halves bytes keys (block.start + block.size) (Ok m)
    visit_ends off =
        let s = at.short in
        (past block.size s (omega arith) off, record { zero = λ j h l z. at.clear.zero j (omega arith) l z })

    module _ {z : ℕ} (low : Lowest rest z) (more : z < block.size) {c : Cut} (says : MetAt probe cuts alone halves lows lessers greaters (block.start + z) → c ≡ get_or cuts (block.start + z) fault) where
      here : Going 256 16 cuts bytes keys (block.start + z) m
      here = past z (rest_up at.walked low) (omega arith) (rest-none at.walked low)

      inside : block.start + z < length cuts
      inside = let w = at.begun.within in omega arith

      is : c ≡ get_or cuts (block.start + z) fault
      is = says (at.begun.told.on z more (rest-here at.walked low))

      pub visit_fault : c ≡ fault → Reached cuts halves bytes keys (block.start + block.size) (Err (block.start + z))
      visit_fault e = going_fault 16 cuts bytes keys (block.start + z) m here inside c is e

      pub visit_on : {bytes' keys' : List ℕ} {n r : ℕ} → Adds (length bytes) c bytes keys (block.start + z) m bytes' keys' n → Elsewhere (block.start + z) bytes bytes' → Others rest r
          → Visiting probe cuts alone halves lows lessers greaters bytes₀ keys₀ block bytes' keys' r n
      visit_on {bytes'} {keys'} {n} adds elsewhere others =
          let next : block.start + z + 1 ≡ block.start + (z + 1) = omega arith in
          let up = rest_up at.walked low in
          let in_all : Adds 256 c bytes keys (block.start + z) m bytes' keys' n = rw at.going.held.starts_sized at adds in
          record {
            begun = at.begun;
            done = z + 1;
            short = omega arith;
            walked = rest-on at.walked low others;
            going = subst (λ (i : ℕ). Going 256 16 cuts bytes' keys' i n) next (going_on 16 cuts bytes keys (block.start + z) m here inside c is bytes' keys' n in_all);
            clear = record { zero = λ j h l z'. elsewhere.same j (λ q. omega arith) ∙ at.clear.zero j (omega arith) l z' };
          }

  -- no bit that is on is left in the block
  pub visit_last : {bytes keys : List ℕ} {rest m z : ℕ} → Visits probe alone halves lows lessers greaters bytes₀ keys₀ block bytes keys rest m → Lowest rest z → block.size ≤ z
      → (cuts : List Cut) → Begun probe cuts alone halves lows lessers greaters bytes₀ keys₀ block → Reached cuts halves bytes keys (block.start + block.size) (Ok m)
  visit_last visits low past cuts begun =
      let at = visits cuts begun in
      visit_ends at (λ c h l. rest-none at.walked low c h (omega arith))

  pub visit_none : {bytes keys : List ℕ} {rest m : ℕ} → Visits probe alone halves lows lessers greaters bytes₀ keys₀ block bytes keys rest m → rest ≡ 0
      → (cuts : List Cut) → Begun probe cuts alone halves lows lessers greaters bytes₀ keys₀ block → Reached cuts halves bytes keys (block.start + block.size) (Ok m)
  visit_none visits e cuts begun =
      let at = visits cuts begun in
      visit_ends at (λ c h l. rest-ends (subst (λ (r : ℕ). Rest block.hits r at.done) e at.walked) c h)
