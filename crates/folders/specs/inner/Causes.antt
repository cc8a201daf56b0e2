-- Which call failed, if a run of calls for several outputs fails.
use Rattle.std.specs.Prelude.{◌≡◌, ◌⊎◌, ℕ, List, [], ◌∷◌, take, slice_get, Option, Some, None, Result, Ok, Err, ⊤}
use Rattle.folders.specs.inner.Calls.{Call, Failures, after_fault, Creates, Appends, Stores, MovesFile, Removes, StoresNames}
use Rattle.folders.specs.declared.fault.CallFault.{CallFault}
use Rattle.folders.specs.declared.fault.OutputFault.{OutputFault}
use Rattle.folders.specs.declared.fault.PlaceFault.{PlaceFault}
use Rattle.folders.specs.declared.fault.PlaceFault.TheVariants.{NotStored, NotRenamed, NamesNotStored}
use Rattle.folders.specs.declared.fault.NotPlaced.{NotPlaced}
use Rattle.folders.specs.declared.fault.WriteFault.{WriteFault}
use Rattle.folders.specs.declared.fault.WriteFault.TheVariants.{NotMade, NotWritten}
use Rattle.folders.specs.declared.output.Output.{Output}

-- the calls for an output
abbrev pub store_of : Output → Call
store_of o = Stores o.new

abbrev pub rename_of : Output → Call
rename_of o = MovesFile o.new o.place

abbrev pub removal_of : Output → Call
removal_of o = Removes o.new

-- the call for the output of this number failed, and no other did
abbrev pub IsFailureOf : (Output → Call) → List Output → OutputFault → (old new : Failures) → Type 0
IsFailureOf call os fault old new = (o : Output) × (slice_get os fault.output ≡ Some o)
    × (new ≡ after_fault (call o) fault.why old)

-- no call failed at Ok, and at Err just the one that is named
abbrev pub HasCause : (Output → Call) → List Output → Result ⊤ OutputFault → (old new : Failures) → Type 0
HasCause call os (Ok _) old new = new ≡ old
HasCause call os (Err fault) old new = IsFailureOf call os fault old new

-- the call that this fault names failed, and no other did
abbrev pub IsPlaceFailure : List Output → PlaceFault → (old new : Failures) → Type 0
IsPlaceFailure os (NotStored fault) old new = IsFailureOf store_of os fault old new
IsPlaceFailure os (NotRenamed fault) old new = IsFailureOf rename_of os fault old new
IsPlaceFailure os (NamesNotStored why) old new = new ≡ after_fault StoresNames why old

-- no call failed at Ok, and at Err just the one that is named
abbrev pub HasPlaceCause : List Output → Result ⊤ PlaceFault → (old new : Failures) → Type 0
HasPlaceCause os (Ok _) old new = new ≡ old
HasPlaceCause os (Err fault) old new = IsPlaceFailure os fault old new

-- the removal of some of these new files failed, once at most for each, in order
abbrev pub AreRemovals : List Output → (old new : Failures) → Type 0
AreRemovals [] old new = new ≡ old
AreRemovals (o ∷ os) old new = (mid : Failures)
    × ((mid ≡ old) ⊎ ((why : CallFault) × (mid ≡ after_fault (removal_of o) why old)))
    × AreRemovals os mid new

-- The removal of the new file that is named failed, and none of a later one. If none is named, no
-- removal failed.
abbrev pub HasLeft : List Output → Option OutputFault → (old new : Failures) → Type 0
HasLeft os None old new = new ≡ old
HasLeft os (Some fault) old new = (mid : Failures)
    × AreRemovals (take fault.output os) old mid × IsFailureOf removal_of os fault mid new

-- No call failed at Ok. At Err the one that is named failed, and then removals of new files.
abbrev pub HasCauseAndLeft : List Output → Result ⊤ NotPlaced → (old new : Failures) → Type 0
HasCauseAndLeft os (Ok _) old new = new ≡ old
HasCauseAndLeft os (Err e) old new =
    (mid : Failures) × IsPlaceFailure os e.fault old mid × HasLeft os e.left mid new

-- this fault is of a rename
abbrev pub IsOfRename : PlaceFault → Type 0
IsOfRename (NotStored fault) = ⊥
IsOfRename (NotRenamed fault) = ⊤
IsOfRename (NamesNotStored why) = ⊥

-- this fault is of a rename, or of the store of the names
abbrev pub IsOfPlacing : PlaceFault → Type 0
IsOfPlacing (NotStored fault) = ⊥
IsOfPlacing (NotRenamed fault) = ⊤
IsOfPlacing (NamesNotStored why) = ⊤

-- no call failed at Ok, and at Err just the one that is named
abbrev pub HasWriteCause : (name : List ℕ) → Result ⊤ WriteFault → (old new : Failures) → Type 0
HasWriteCause name (Ok _) old new = new ≡ old
HasWriteCause name (Err (NotMade why)) old new = new ≡ after_fault (Creates name) why old
HasWriteCause name (Err (NotWritten why)) old new = new ≡ after_fault (Appends name) why old
