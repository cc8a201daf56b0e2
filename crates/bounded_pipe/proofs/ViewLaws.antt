-- What the two ends show of the bytes that they count, and of a ring that was pushed to or popped.
use Rattle.std.proofs.Common.{◌≡◌, ℕ, List, Bool, Option, Some, None, IfSome, refl, arith}
use Rattle.std.specs.Prelude.{sum}
use Rattle.std.specs.declared.alloc.Global.{Global}
use Rattle.rtrb.specs.Ends.{SameRing}
use Rattle.rtrb.specs.Ring.{sent, received}
use Rattle.rtrb.specs.declared.AnyItems.{AnyItems}
use Rattle.rtrb.specs.declared.consumer.Consumer.{Consumer}
use Rattle.rtrb.specs.declared.end.End.{End}
use Rattle.rtrb.specs.declared.producer.Producer.{Producer}
use Rattle.machine.specs.declared.piece.Item.{Item}
use Rattle.bounded_pipe.specs.Sizes.{size_of}
use Rattle.bounded_pipe.specs.inner.Counts.{Counts, Tells}
use Rattle.bounded_pipe.specs.Ends.{IsCounted, IsTold}
use Rattle.bounded_pipe.specs.Names.{PipeName, RingName, ring_name}
use Rattle.bounded_pipe.specs.inner.Rings.{writing, reading}
use Rattle.bounded_pipe.proofs.SizeLaws.{size_of_append}

pub if_some_as : {X : Type 0} (P Q : X → Type 0) (o : Option X) → ((x : X) → P x → Q x) → IfSome o P
    → IfSome o Q
if_some_as P Q None h p = tt
if_some_as P Q (Some x) h p = h x p

-- the same ring has the same name
pub same_name : {T : Type 0} (a b : End T Global AnyItems) → SameRing a b
    → ring_name b ≡ ring_name a
same_name a b same = rw (same.0, same.1, same.2) refl

abbrev pub pipe_name : RingName → RingName → RingName → List Item → PipeName
pipe_name items marks numbers before =
    record { items = items; marks = marks; numbers = numbers; before = before }

-- so have pipes over the same rings
pub same_pipe : (a b c x y z : RingName) (before : List Item) → x ≡ a → y ≡ b → z ≡ c →
    pipe_name x y z before ≡ pipe_name a b c before
same_pipe a b c x y z before e f g = cc

-- what is counted shows so
pub counted_view : {Mark : Type 0} (items : Producer Item Global AnyItems)
    (marks : Consumer Mark Global AnyItems) (numbers : Consumer ℕ Global AnyItems)
    (limit count excess : ℕ) (before : List Item) (noted : Bool) →
    Counts (size_of (sent items)) limit count (sum (received numbers)) excess
    → IsCounted (writing items marks numbers limit count before noted)
counted_view items marks numbers limit count excess before noted c = record {
  within = c.within;
  covers = let s = size_of_append before (sent items) in omega (arith, s, c.covers);
}

pub told_view : {Mark : Type 0} (items : Consumer Item Global AnyItems)
    (marks : Producer Mark Global AnyItems) (numbers : Producer ℕ Global AnyItems) (untold : ℕ)
    (before : List Item) (hung_up : Bool) →
    Tells (size_of (received items)) (sum (sent numbers)) untold
    → IsTold (reading items marks numbers untold before hung_up)
told_view items marks numbers untold before hung_up t =
    let s = size_of_append before (received items) in
    omega (arith, s, t.least)
