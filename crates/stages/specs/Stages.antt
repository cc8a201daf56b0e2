-- What a stage keeps, over its own pipe ends alone: the ends of its inputs, and those of its
-- branches that somebody reads.
--
-- An item goes to each open branch before the next one does, as tee writes each byte to all of its
-- files (POSIX.1-2017 XCU tee). A branch whose reader has hung up is closed, and the others go on.
use Rattle.std.specs.Prelude.{◌≡◌, ℕ, ◌≤◌, ◌^◌, ◌⊎◌, Bool, true, false, not, List, [], ◌++◌, length}
use Rattle.std.specs.Prelude.{map, Option, Some, None, slice_index_or}
use Rattle.std.specs.List.{All, AllByRecursion, AllZip, concat}
use mathlib.Core.List.{IsPrefix}
use Rattle.machine.specs.Pieces.{IsPieceLong}
use Rattle.machine.specs.Items.{bytes_of, has_close, IsTidy}
use Rattle.machine.specs.Whole.{StreamAnswer}
use Rattle.machine.specs.Law.{Shown, IsLawful, IsEmptyOn}
use Rattle.machine.specs.Makes.{Makes, after}
use Rattle.machine.specs.declared.piece.Item.{Item}
use Rattle.machine.specs.declared.piece.Item.TheVariants.{Bytes, Close}
use Rattle.machine.specs.declared.protocol.Want.{Want}
use Rattle.machine.specs.declared.protocol.Want.TheVariants.{Finished}
use Rattle.bounded_pipe.specs.Sizes.{item_size}
use Rattle.bounded_pipe.specs.Ends.{Writing, Reading}
use Rattle.bounded_pipe.specs.Pipes.{items_put, items_taken, bytes_put, is_closed}
use Rattle.splice_tee.specs.BranchStates.{is_open}
use Rattle.splice_tee.specs.declared.branches.Served.{Served}
use Rattle.splice_tee.specs.declared.branches.Served.TheVariants.{Lacks, Has, Gone}
use Rattle.run_types.specs.declared.node_state.NodeFault.{NodeFault}
use Rattle.run_types.specs.declared.node_state.NodeFault.TheVariants.{CountTooLarge}
use Rattle.run_types.specs.declared.node_state.NodeState.{NodeState}
use Rattle.run_types.specs.declared.node_state.NodeState.TheVariants.{Running, Ended, Broken}
use Rattle.run_types.specs.declared.node_state.NodeState.TheVariants.{Failed}

-- a stage, without its pipe ends
pub record StagePart : Type 0 where
  pub state : NodeState
  pub machine : Shown
  -- whether it has hung up its inputs
  pub hung_up : Bool
  -- whether each branch has the front item
  pub served : List Served
  -- the item that is being put
  pub front : Option Item
  -- the pieces that come after it
  pub owed : List (List ℕ)

-- what was taken on the input j
abbrev pub taken_on : List Reading → ℕ → List Item
taken_on ins j = slice_index_or (map items_taken ins) j []

-- its bytes
abbrev pub bytes_on : List Reading → ℕ → List ℕ
bytes_on ins j = bytes_of (taken_on ins j)

-- whether Close was taken on it
abbrev pub ended_on : List Reading → ℕ → Bool
ended_on ins j = has_close (taken_on ins j)

-- the bytes of the front item
abbrev pub front_bytes : Option Item → List ℕ
front_bytes None = []
front_bytes (Some (Bytes piece)) = piece
front_bytes (Some Close) = []

-- the number of bytes of the front item
abbrev pub front_size : Option Item → ℕ
front_size None = 0
front_size (Some item) = item_size item

-- whether the front item is Close
abbrev pub is_close : Option Item → Bool
is_close None = false
is_close (Some (Bytes piece)) = false
is_close (Some Close) = true

-- whether a branch has Close: it has the front item, and that is Close
abbrev pub has_end : Option Item → Served → Bool
has_end front Lacks = false
has_end front Has = is_close front
has_end front Gone = false

-- a branch can have the front item only if there is one
abbrev pub HasFront : List ℕ → Option Item → List ℕ → Writing → Type 0
HasFront made None owed w = ⊥
HasFront made (Some item) owed w = bytes_put w ++ owed ≡ made

-- On an open branch the bytes that were put, then those owed to it, are what was made. On a closed
-- one the bytes that were put are a prefix of what was made.
abbrev pub BytesAre : List ℕ → Option Item → List ℕ → Writing → Served → Type 0
BytesAre made front owed w Lacks = bytes_put w ++ (front_bytes front ++ owed) ≡ made
BytesAre made front owed w Has = HasFront made front owed w
BytesAre made front owed w Gone = IsPrefix (bytes_put w) made

-- A branch, if the stage has made these bytes, and these are owed after the front item. It is gone
-- if its end has noted the hang-up.
pub record BranchKeeps (block : ℕ) (made : List ℕ) (front : Option Item) (owed : List ℕ)
    (w : Writing) (s : Served) : Type 0 where
  pub bytes : BytesAre made front owed w s
  pub noted : w.noted ≡ not (is_open s)
  pub close : is_closed w ≡ has_end front s
  pub tidy : IsTidy block (items_put w)

-- The front item is a piece of 1 to block bytes, or Close if the machine has finished and no piece
-- is owed.
abbrev pub FrontIs : ℕ → Want → List (List ℕ) → Option Item → Type 0
FrontIs block want owed None = Unit {0}
FrontIs block want owed (Some (Bytes piece)) = IsPieceLong block piece
FrontIs block want owed (Some Close) = (want ≡ Finished) × (owed ≡ [])

-- no branch is open: the end of each has noted the hang-up
abbrev pub AllDropped : List Writing → Type 0
AllDropped outs = AllByRecursion (λ w. w.noted ≡ true) outs

-- Close was put on each open branch
abbrev pub AllClosed : List Writing → Type 0
AllClosed outs = AllByRecursion (λ w. w.noted ≡ false → is_closed w ≡ true) outs

-- Whatever is still to come, the answer to all of it is what was made, followed by what the machine
-- would still put out; and what was made is on the branches. The inputs are hung up all or none,
-- and only if the machine has finished or no branch is open.
pub record StageKeeps (block : ℕ) (answer : StreamAnswer) (x : StagePart) (ins : List Reading)
    (outs : List Writing) : Type 0 where
  pub made : List ℕ
  pub makes : Makes answer x.machine (ended_on ins) (bytes_on ins) made
  pub lawful : IsLawful x.machine
  pub inputs : x.machine.inputs ≡ length ins
  pub branches : AllZip (BranchKeeps block made x.front (concat x.owed)) outs x.served
  pub front : FrontIs block x.machine.wanted x.owed x.front
  pub owed : All (IsPieceLong block) x.owed
  pub together : AllByRecursion (λ r. r.hung_up ≡ x.hung_up) ins
  pub hung_up : x.hung_up ≡ true → (x.machine.wanted ≡ Finished) ⊎ AllDropped outs

-- A branch of a failed stage: Close was not put, and the bytes that were put are a prefix of the
-- answer, whatever is still to come on the inputs whose Close was not taken.
pub record BranchFailed (block : ℕ) (answer : StreamAnswer) (ins : List Reading) (w : Writing)
    (s : Served) : Type 0 where
  pub unclosed : is_closed w ≡ false
  pub bytes : (ys : ℕ → List ℕ) → IsEmptyOn (ended_on ins) ys
      → IsPrefix (bytes_put w) (answer (after (bytes_on ins) ys)).out
  pub noted : w.noted ≡ not (is_open s)
  pub tidy : IsTidy block (items_put w)

-- Whatever is still to come on the inputs whose Close was not taken, the answer has a count above
-- 2^63 - 1.
abbrev pub IsCountTooLarge : StreamAnswer → List Reading → Type 0
IsCountTooLarge answer ins = (ys : ℕ → List ℕ) → IsEmptyOn (ended_on ins) ys
    → 2 ^ 63 ≤ (answer (after (bytes_on ins) ys)).count

-- A failed stage.
pub record StageFailed (block : ℕ) (answer : StreamAnswer) (fault : NodeFault) (x : StagePart)
    (ins : List Reading) (outs : List Writing) : Type 0 where
  pub branches : AllZip (BranchFailed block answer ins) outs x.served
  pub count : fault ≡ CountTooLarge → IsCountTooLarge answer ins

-- The case of a stage in this state. It has ended if its inputs are hung up and each open branch
-- has Close, and broken if its inputs are hung up and no branch is open.
abbrev pub StageCase : ℕ → (StreamAnswer) → StagePart → NodeState → List Reading → List Writing
    → Type 0
StageCase block answer x Running ins outs = StageKeeps block answer x ins outs
StageCase block answer x Ended ins outs = StageKeeps block answer x ins outs × (x.hung_up ≡ true)
    × AllClosed outs
StageCase block answer x Broken ins outs = StageKeeps block answer x ins outs × (x.hung_up ≡ true)
    × AllDropped outs
StageCase block answer x (Failed fault) ins outs = StageFailed block answer fault x ins outs
