-- What can happen on a pipe: an item is put, an item is taken, the reader hangs up, the writer
-- notes it. Each is done by one end alone, and changes one list or one mark of that end's record
-- (POSIX.1-2017 XSH write, read, close). To tell a number of bytes, or to receive one, is no event.
use Rattle.std.specs.Prelude.{◌≡◌, ℕ, [], ◌∷◌, ◌++◌, true}
use Rattle.machine.specs.declared.piece.Item.{Item}
use Rattle.bounded_pipe.specs.Ends.{Writing, Reading, IsCounted, IsTold}

-- the writer put this item after all that it had put
pub record Puts (item : Item) (old new : Writing) : Type 0 where
  pub pipe : new.pipe ≡ old.pipe
  pub capacity : new.capacity ≡ old.capacity
  pub limit : new.limit ≡ old.limit
  pub put : new.put ≡ old.put ++ item ∷ []
  pub noted : new.noted ≡ old.noted
  pub counted : IsCounted old → IsCounted new

-- the writer noted that the reader hung up
pub record Notes (old new : Writing) : Type 0 where
  pub pipe : new.pipe ≡ old.pipe
  pub capacity : new.capacity ≡ old.capacity
  pub limit : new.limit ≡ old.limit
  pub put : new.put ≡ old.put
  pub noted : new.noted ≡ true
  pub counted : IsCounted old → IsCounted new

-- the reader took this item, after all that it had taken
pub record Takes (item : Item) (old new : Reading) : Type 0 where
  pub pipe : new.pipe ≡ old.pipe
  pub taken : new.taken ≡ old.taken ++ item ∷ []
  pub hung_up : new.hung_up ≡ old.hung_up
  pub told : IsTold old → IsTold new

-- the reader hung up
pub record HangsUp (old new : Reading) : Type 0 where
  pub pipe : new.pipe ≡ old.pipe
  pub taken : new.taken ≡ old.taken
  pub hung_up : new.hung_up ≡ true
  pub told : IsTold old → IsTold new

-- the writer did nothing, but it may have seen more of what the reader did, and received a number
pub record SameWriting (old new : Writing) : Type 0 where
  pub pipe : new.pipe ≡ old.pipe
  pub capacity : new.capacity ≡ old.capacity
  pub limit : new.limit ≡ old.limit
  pub put : new.put ≡ old.put
  pub noted : new.noted ≡ old.noted
  pub counted : IsCounted old → IsCounted new

-- the reader did nothing, but it may have seen more of what the writer did, and told a number
pub record SameReading (old new : Reading) : Type 0 where
  pub pipe : new.pipe ≡ old.pipe
  pub taken : new.taken ≡ old.taken
  pub hung_up : new.hung_up ≡ old.hung_up
  pub told : IsTold old → IsTold new

-- The writing end has the same record, but its pipe may have new rings.
pub record StillWriting (old new : Writing) : Type 0 where
  pub limit : new.limit ≡ old.limit
  pub put : new.put ≡ old.put
  pub noted : new.noted ≡ old.noted

-- The reading end has the same record, but its pipe may have new rings.
pub record StillReading (old new : Reading) : Type 0 where
  pub taken : new.taken ≡ old.taken
  pub hung_up : new.hung_up ≡ old.hung_up

-- The pipe got new rings with room for this many items. The items taken so far are now those that
-- both ends recorded before these rings. Nothing was put, taken, hung up or noted.
pub record Regrows (room : ℕ) (w w' : Writing) (r r' : Reading) : Type 0 where
  pub capacity : w'.capacity ≡ room
  pub limit : w'.limit ≡ w.limit
  pub before : w'.pipe.before ≡ r.taken
  pub put : w'.put ≡ w.put
  pub taken : r'.taken ≡ r.taken
  pub noted : w'.noted ≡ w.noted
  pub hung_up : r'.hung_up ≡ r.hung_up
