-- What is kept in a run with edits: the arrays hold the tree of the formula as edited so far, and the edits that wait decide what comes.
use Rattle.std.specs.Prelude.{ℕ, ◌-◌, ◌<◌, ◌≤◌, ◌≡◌, List, length, get_or, take, drop, Option, Some, None}
use Rattle.std.proofs.lemmas.List.Edits.{sets}
use Rattle.formula.specs.Formula.{first_operation, Formula}
use Rattle.formula.specs.States.{toggled_by}
use Rattle.contraction.specs.Rounds.{dwarf}
use Rattle.labels.specs.Labels.{labels}
use Rattle.labels.specs.Arrays.{Holds}
use Rattle.labels.specs.Linked.{Rules, Parents}
use Rattle.labels.specs.declared.Size.{Size}
use Rattle.edit_places.specs.Places.{Places}
use Rattle.edit_moments.specs.declared.Next.{Next}
use Rattle.edit_moments.specs.Edits.{Edit, edits_of, edited_by, edit_counts}
use Rattle.edit_moments.specs.Listed.{Operations, Rises, Listed}

-- Edit k can be looked at, if it is there.
pub record Readable (moments positions codes : List ℕ) (k : ℕ) : Type 0 where
  pub position : k < length moments → k < length positions
  pub small : k < length moments → get_or positions k 0 < 2048
  pub code : k < length moments → k < length codes
  pub low : k < length moments → first_operation ≤ get_or codes k 0

-- Edit k is there, and i toggles are as many as its moment says or more: its node and its operation;
pub record Due (moments positions codes places : List ℕ) (k i node operation : ℕ) : Type 0 where
  pub here : k < length moments
  pub come : get_or moments k 0 ≤ i
  pub node_is : node ≡ get_or places (get_or positions k 0) 0
  pub operation_is : operation ≡ get_or codes k 0 - first_operation

-- or it is not there, or of a later moment.
pub record Later (moments : List ℕ) (k i : ℕ) : Type 0 where
  pub so : k < length moments → i < get_or moments k 0

abbrev pub NextSays : List ℕ → List ℕ → List ℕ → List ℕ → ℕ → ℕ → Option Next → Type 0
NextSays moments positions codes places k i (Some e) = Due moments positions codes places k i e.node e.operation
NextSays moments positions codes places k i None = Later moments k i

-- The lists that stay as they are while edits act.
pub record Desk : Type 0 where
  pub rules : List ℕ
  pub firsts : List ℕ
  pub seconds : List ℕ
  pub size : Size
  pub links : List ℕ
  pub places : List ℕ
  pub moments : List ℕ
  pub positions : List ℕ
  pub codes : List ℕ

abbrev pub desk : List ℕ → List ℕ → List ℕ → Size → List ℕ → List ℕ → List ℕ → List ℕ → List ℕ → Desk
desk rules firsts seconds size links places moments positions codes =
    record {
      rules = rules;
      firsts = firsts;
      seconds = seconds;
      size = size;
      links = links;
      places = places;
      moments = moments;
      positions = positions;
      codes = codes;
    }

-- The edits that wait at number k.
abbrev pub waiting : Desk → ℕ → List Edit
waiting d k = drop k (edits_of d.moments d.positions d.codes)

-- What a run was given: the sheet's formula, the toggles, the list for the edits' counts as lent.
pub record Plan : Type 0 where
  pub formula : Formula
  pub toggles : List ℕ
  pub lent : List ℕ

-- After i toggles and k edits: the arrays hold the formula as edited so far, and the edits that wait decide what comes.
pub record At (d : Desk) (p : Plan) (i k : ℕ) (ks ls counts : List ℕ) : Type 0 where
  pub now : Formula
  pub ruled : Rules d.rules
  pub listed : Listed d.moments d.positions d.codes (length p.toggles)
  pub holds : Holds ks d.firsts d.seconds d.size.leaves d.size.nodes now
  pub ups : Parents ks d.firsts d.seconds d.size.nodes d.links
  pub placed : Places now d.places
  pub long : length ls ≡ 3072
  pub labels_are : take d.size.nodes ls ≡ labels (toggled_by (take i p.toggles)) (dwarf now)
  pub within : k ≤ length d.moments
  pub operated : Operations now (waiting d k)
  pub left : (m : ℕ) → i ≤ m → edited_by m (waiting d 0) p.formula ≡ edited_by m (waiting d k) now
  pub waits : Rises i (waiting d k)
  pub room : length d.moments ≤ length counts
  pub counted : sets p.lent 0 (edit_counts p.toggles p.formula (waiting d 0)) ≡ sets counts k (edit_counts p.toggles now (waiting d k))
