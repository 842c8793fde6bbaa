-- Their list gone through wall by wall: what is needed next, and how far their entries give it.
use Rattle.std.specs.Prelude.{ℕ, ◌≡◌, Result, Ok, Err, List, ◌++◌, pos, drop, get_or, length}
use Rattle.line_opinion.specs.Judging.{Entry, TheirLists, their_lists, theirs, wrong_at, opinion_from}
use Rattle.line_opinion.specs.declared.entries.Entries.{Entries}
use Rattle.line_opinion.specs.declared.Need.{Need}

pub record SameLength (t : TheirLists) : Type 0 where
  pub starts : length t.starts ≡ length t.lines
  pub ends : length t.ends ≡ length t.lines

-- the lists that entries stand in
abbrev pub lists_of : Entries → TheirLists
lists_of e = their_lists e.lines.now e.starts.now e.ends.now

-- their j-th entry
abbrev pub entry_at : TheirLists → ℕ → Entry
entry_at t j = record { line = get_or t.lines j 0; start = get_or t.starts j (pos 0); end = get_or t.ends j (pos 0) }

abbrev pub needed : Need → Entry
needed v = record { line = v.line; start = v.from; end = v.to }

-- some walls of ours compared from their entry j on: they are whole before entry k, or no right list has entry k; whatever walls vs follow
abbrev AteTo : TheirLists → ℕ → List Entry → Result ℕ ℕ → List Entry → Type 0
AteTo t j ours (Ok k) vs = opinion_from j (ours ++ vs) (drop j (theirs t)) ≡ opinion_from k vs (drop k (theirs t))
AteTo t j ours (Err k) vs = opinion_from j (ours ++ vs) (drop j (theirs t)) ≡ wrong_at k

pub record Ate (t : TheirLists) (j : ℕ) (ours : List Entry) (r : Result ℕ ℕ) : Type 0 where
  pub to : (vs : List Entry) → AteTo t j ours r vs
