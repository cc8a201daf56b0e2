-- A folder in memory: what it shows follows from the calls that it has done, in their order. Of what
-- a call touches a power loss may leave anything until it is stored.
use Rattle.std.specs.Prelude.{◌≡◌, ◌≢◌, ◌⊎◌, ◌≤◌, ℕ, suc, List, [], ◌∷◌, ◌++◌, map, bytes_eq}
use Rattle.std.specs.Prelude.{Option, Some, None, option_map, if◌then◌else◌, Result, Ok, Err, IsTrue, Bool, ⊤}
use Rattle.folders.specs.inner.Calls.{Call, Failures, Creates, Appends, Stores, MovesFile, Removes, StoresNames}
use Rattle.folders.specs.inner.Folder.{View, FolderShown, Shows, IsEntry}
use Rattle.folders.specs.inner.Outputs.{renamed}
use Rattle.folders.specs.declared.call.FolderCall.{FolderCall}
use Rattle.folders.specs.declared.call.FolderCall.TheVariants.{Create, Append, Store, Rename, Remove, StoreNames}
use Rattle.folders.specs.declared.fault.CallFault.{CallFault}
use Rattle.folders.specs.declared.memory.MemoryFolder.{MemoryFolder}

-- the call, without bytes
abbrev pub call_of : FolderCall → Call
call_of (Create name) = Creates name
call_of (Append name bytes) = Appends name
call_of (Store name) = Stores name
call_of (Rename from to) = MovesFile from to
call_of (Remove name) = Removes name
call_of StoreNames = StoresNames

-- ---- what is seen

-- no name means a file
abbrev pub no_file : View
no_file n = None

-- this name holds this now
abbrev pub with_name : (name : List ℕ) → Option (List ℕ) → View → View
with_name name c view n = if bytes_eq n name then c else view n

-- what each name holds after a call
abbrev pub view_after : FolderCall → View → View
view_after (Create name) view = with_name name (Some []) view
view_after (Append name bytes) view = with_name name (option_map (λ b. b ++ bytes) (view name)) view
view_after (Store name) view = view
view_after (Rename from to) view = renamed from to view
view_after (Remove name) view = with_name name None view
view_after StoreNames view = view

-- what each name holds after these calls
abbrev pub viewed : List FolderCall → View → View
viewed [] view = view
viewed (call ∷ calls) view = viewed calls (view_after call view)

-- ---- what a power loss may leave

-- what it may leave of a name after a call
abbrev pub may_after : FolderCall → FolderShown → List ℕ → Option (List ℕ) → Type 0
may_after (Create name) s n c = (n ≡ name) ⊎ s.may_hold n c
may_after (Append name bytes) s n c = (n ≡ name) ⊎ s.may_hold n c
may_after (Store name) s n c = s.may_hold n c
may_after (Rename from to) s n c =
    s.may_hold n c ⊎ ((n ≡ from) ⊎ ((n ≡ to) × IsEntry s from c))
may_after (Remove name) s n c = (n ≡ name) ⊎ s.may_hold n c
may_after StoreNames s n c = s.may_hold n c × IsEntry s n c

-- which bytes it may leave of the file that a name means after a call
abbrev pub bytes_after : FolderCall → FolderShown → List ℕ → List ℕ → Type 0
bytes_after (Create name) s n b = (n ≡ name) ⊎ s.bytes_of n b
bytes_after (Append name bytes) s n b = (n ≡ name) ⊎ s.bytes_of n b
bytes_after (Store name) s n b = s.bytes_of n b × (n ≡ name → s.seen name ≡ Some b)
bytes_after (Rename from to) s n b = ((n ≡ to) × s.bytes_of from b) ⊎ ((n ≢ to) × s.bytes_of n b)
bytes_after (Remove name) s n b = (n ≡ name) ⊎ s.bytes_of n b
bytes_after StoreNames s n b = s.bytes_of n b

-- ---- moments

-- what is shown after a call, one moment later
abbrev pub after : FolderCall → FolderShown → FolderShown
after call s = record {
  seen = view_after call s.seen;
  may_hold = may_after call s;
  bytes_of = bytes_after call s;
  moment = suc s.moment;
  seen_since = λ t v. Shows (view_after call s.seen) v ⊎ ((t ≤ s.moment) × s.seen_since t v);
  left_since = λ t n c. may_after call s n c ⊎ ((t ≤ s.moment) × s.left_since t n c);
  failures = s.failures;
}

-- what an empty folder shows at first
abbrev pub empty : FolderShown
empty = record {
  seen = no_file;
  may_hold = λ n c. c ≡ None;
  bytes_of = λ n b. ⊥;
  moment = 0;
  seen_since = λ t v. Shows no_file v;
  left_since = λ t n c. c ≡ None;
  failures = record { refused = []; no_memory = 0 };
}

-- what is shown after these calls
abbrev pub played : List FolderCall → FolderShown → FolderShown
played [] s = s
played (call ∷ calls) s = played calls (after call s)

-- the same, with these failures
abbrev pub failing : Failures → FolderShown → FolderShown
failing failures s = record s { failures = failures }

abbrev pub failures_of : MemoryFolder → Failures
failures_of m = record { refused = map call_of m.refused.items; no_memory = m.no_memory }

abbrev pub shown_by : MemoryFolder → FolderShown
shown_by m = failing (failures_of m) (played m.calls.items empty)

-- A possible call was done at Ok. At Err none was.
abbrev pub Does : FolderCall → (is_possible : Bool) → Result ⊤ CallFault → (old new : MemoryFolder) → Type 0
Does call is_possible (Ok _) old new =
    IsTrue is_possible × (new.calls.items ≡ old.calls.items ++ call ∷ [])
Does call is_possible (Err _) old new = new.calls.items ≡ old.calls.items
