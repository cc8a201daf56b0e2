-- The name of a pipe. Its two ends have the same name, and by it each is known to be an end of that
-- pipe, wherever it was lent (a pipe has one end to write to and one to read from: POSIX.1-2017 XSH
-- pipe; pipe(7)).
use Rattle.std.specs.Prelude.{List}
use denote.RawPtr.{Ptr}
use Rattle.std.specs.declared.alloc.Global.{Global}
use Rattle.rtrb.specs.Shared.{Names}
use Rattle.rtrb.specs.declared.end.End.{End}
use Rattle.rtrb.specs.declared.AnyItems.{AnyItems}
use Rattle.machine.specs.declared.piece.Item.{Item}

-- the name of a ring: where it is in memory, and what its two ends call it
pub record RingName : Type 0 where
  pub words : Ptr
  pub slots : Ptr
  pub names : Names

-- the name of the ring that this is an end of
abbrev pub ring_name : {T : Type 0} → End T Global AnyItems → RingName
ring_name e = record { words = e.words; slots = e.slots; names = e.names }

-- The name of a pipe: that of its ring of items, of its ring for the hang-up mark and of its ring
-- of numbers; and the items that were taken before it got these rings. Both ends have recorded the
-- same ones. That no two pipes have one name is not proved, and nothing needs it.
pub record PipeName : Type 0 where
  pub items : RingName
  pub marks : RingName
  pub numbers : RingName
  pub before : List Item
