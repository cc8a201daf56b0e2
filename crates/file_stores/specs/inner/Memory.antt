-- Files that are kept in memory: what each holds, by its name.
use Rattle.std.specs.Prelude.{◌≡◌, ◌≢◌, ℕ, ◌<◌, ◌≤◌, ◌↔◌, Bool, true, false, List, [], ◌∷◌, ◌++◌}
use Rattle.std.specs.Prelude.{take, drop, slice_index_or, slice_set, slice_get, Option, Some, None}
use Rattle.std.specs.Prelude.{unwrap_or, bytes_eq, if◌then◌else◌, Result, IfOk, OnErr, IsErr}
use Rattle.std.specs.Prelude.{IsTrue, is_some, length, min}
use Rattle.std.specs.List.{find, list_any}
use Rattle.std.specs.Option.{option_map}
use Rattle.machine.specs.FrontLines.{first_lines}
use Rattle.collector.specs.Files.{FilesShown, one_more}
use Rattle.run_types.specs.declared.names.InName.{InName}
use Rattle.run_types.specs.declared.names.InName.TheVariants as in_names
use Rattle.run_types.specs.declared.names.OutName.{OutName}
use Rattle.run_types.specs.declared.names.OutName.TheVariants as out_names
use Rattle.run_types.specs.Destinations.{Destination, StandardOutput, FileOf}
use Rattle.collector.specs.declared.names.Opening.{Opening}
use Rattle.collector.specs.declared.names.Opening.TheVariants as opening
use Rattle.collector.specs.InputEnds.{left_out_too}
use Rattle.collector.specs.declared.needed.LeftOut.{LeftOut}
use Rattle.collector.specs.declared.needed.LeftOut.TheVariants.{Nothing}
use Rattle.collector.specs.declared.needed.NeededEnd.{NeededEnd}
use Rattle.file_stores.specs.declared.calls.Calls.{Calls}
use Rattle.file_stores.specs.inner.Ends.{end_of}
use Rattle.file_stores.specs.inner.Opened.{OpenedInput, OpenedOutput, read_log, read_count, read_on}
use Rattle.file_stores.specs.inner.Opened.{written_log}
use Rattle.file_stores.specs.inner.Counts.{one_call, is_failing}

-- a file: its name, and what it holds
pub record Stored : Type 0 where
  pub name : List ℕ
  pub bytes : List ℕ

-- what the file of this name holds, if there is one; names are compared byte for byte
abbrev pub content_of : List Stored → List ℕ → Option (List ℕ)
content_of files name = option_map (λ f. f.bytes) (find (λ f. bytes_eq f.name name) files)

-- what it holds if what it held is kept, or forgotten, and these bytes are put after it
abbrev pub held_with : Option (List ℕ) → Bool → List ℕ → List ℕ
held_with held keep bytes = (if keep then unwrap_or held [] else []) ++ bytes

-- the file of this name holds these bytes, and every other file what it held
pub record Holds (name bytes : List ℕ) (old new : List Stored) : Type 0 where
  pub content : content_of new name ≡ Some bytes
  pub others : (other : List ℕ) → other ≢ name → content_of new other ≡ content_of old other

-- Files in memory: what each holds; the standard input and output; the names that no opening is to
-- be given; the openings so far; what is open; the failures; and the reads and writes so far. If
-- outputs are held back, also what each file holds in its place until they are put there.
pub record MemoryShown : Type 0 where
  pub contents : List Stored
  pub input : List ℕ
  pub output : List ℕ
  pub forbidden : List (List ℕ)
  pub openings : List Opening
  pub inputs : List OpenedInput
  pub outputs : List OpenedOutput
  pub failures : ℕ
  pub reads : Calls
  pub writes : Calls
  pub former : Option (List Stored)

-- what an output writes to that has this name, or none
abbrev pub destination_to : Option (List ℕ) → Destination
destination_to None = StandardOutput
destination_to (Some name) = FileOf name

-- what a destination holds
abbrev pub held_by : MemoryShown → Destination → Option (List ℕ)
held_by m StandardOutput = Some m.output
held_by m (FileOf name) = content_of m.contents name

-- what files in memory show, as any files do
abbrev pub shown_files : MemoryShown → FilesShown
shown_files m = record {
  openings = m.openings;
  inputs = λ file. option_map read_log (slice_get m.inputs file);
  outputs = λ file. option_map (λ o. written_log o.taken) (slice_get m.outputs file);
  targets = λ file. option_map (λ o. destination_to o.target) (slice_get m.outputs file);
  contents = held_by m;
  standard_input = Some m.input;
  held = λ file. option_map (λ i. i.content) (slice_get m.inputs file);
  left_out = λ file. unwrap_or (option_map (λ i. i.left) (slice_get m.inputs file)) Nothing;
  failures = m.failures;
  held_back = is_some m.former;
  in_place = λ name. content_of (unwrap_or m.former m.contents) name;
}

-- whether no opening is given this name
abbrev pub is_forbidden : MemoryShown → List ℕ → Bool
is_forbidden m name = list_any (λ word. bytes_eq word name) m.forbidden

-- what an input of this name gives: nothing if it is forbidden, or was neither added nor opened for
-- output
abbrev pub input_content : MemoryShown → InName → Option (List ℕ)
input_content m in_names.Standard = Some m.input
input_content m (in_names.File name) = if is_forbidden m name then None
    else content_of m.contents name

-- whether an output of this name is refused
abbrev pub is_output_refused : MemoryShown → OutName → Bool
is_output_refused m out_names.Standard = false
is_output_refused m (out_names.File name append) = is_forbidden m name

-- the name of the file that an output writes to
abbrev pub target_of : OutName → Option (List ℕ)
target_of out_names.Standard = None
target_of (out_names.File name append) = Some name

-- An input was opened: it has a copy of what its file holds now, and nothing of it has been read.
pub record OpensContent (name : InName) (file : ℕ) (old new : MemoryShown) : Type 0 where
  pub content : List ℕ
  pub held : input_content old name ≡ Some content
  pub number : file ≡ length old.inputs
  pub after : new ≡ record old {
    openings = old.openings ++ opening.Input name (Some file) ∷ [];
    inputs = old.inputs ++ record { content = content; at = 0; at_end = false; left = Nothing } ∷ [];
  }

-- what an opening for output does to the files: it empties the file, or keeps what it holds; a new
-- one is empty
abbrev pub Prepares : OutName → List Stored → List Stored → Type 0
Prepares out_names.Standard old new = new ≡ old
Prepares (out_names.File name append) old new =
    Holds name (held_with (content_of old name) append []) old new

-- an output was opened
pub record OpensTarget (name : OutName) (file : ℕ) (old new : MemoryShown) : Type 0 where
  pub allowed : is_output_refused old name ≡ false
  pub number : file ≡ length old.outputs
  pub contents : Prepares name old.contents new.contents
  pub after : new ≡ record old {
    contents = new.contents;
    openings = old.openings ++ opening.Output name (Some file) ∷ [];
    outputs = old.outputs ++ record { target = target_of name; taken = [] } ∷ [];
  }

-- What was written grew by these bytes, and nothing else: the standard output, or what the file of
-- this name holds.
abbrev pub Grows : Option (List ℕ) → List ℕ → List Stored → List ℕ → List Stored → List ℕ → Type 0
Grows None bytes files output files' output' = (output' ≡ output ++ bytes) × (files' ≡ files)
Grows (Some name) bytes files output files' output' = (output' ≡ output)
    × Holds name (held_with (content_of files name) true bytes) files files'

-- an opening was refused
abbrev pub with_opening : Opening → MemoryShown → MemoryShown
with_opening given m = record m { openings = m.openings ++ given ∷ [] }

-- the open input of this number
abbrev pub open_input : MemoryShown → ℕ → OpenedInput
open_input m file = slice_index_or m.inputs file (record { content = []; at = 0; at_end = false; left = Nothing })

-- the open output of this number
abbrev pub open_output : MemoryShown → ℕ → OpenedOutput
open_output m file = slice_index_or m.outputs file (record { target = None; taken = [] })

-- An open input keeps this part, and this was left out of it. Nothing else changed, and its file
-- holds what it held.
pub record KeepsInMemory (file : ℕ) (kept : List ℕ) (left : LeftOut) (old new : MemoryShown) :
    Type 0 where
  pub within : file < length old.inputs
  pub after : new ≡ record old {
    inputs = slice_set old.inputs file (record (open_input old file) {
      content = kept;
      left = left;
    });
  }

-- an open input keeps the end that is needed; and the first lines, this many
abbrev pub LeavesOutInMemory : ℕ → NeededEnd → MemoryShown → MemoryShown → Type 0
LeavesOutInMemory file needed old new =
    KeepsInMemory file (end_of needed (open_input old file).content)
    (left_out_too (open_input old file).left needed) old new

abbrev pub LeavesRestInMemory : ℕ → ℕ → MemoryShown → MemoryShown → Type 0
LeavesRestInMemory file n old new =
    KeepsInMemory file (first_lines n (open_input old file).content) (open_input old file).left old
    new

-- A read returned this many bytes of an open input, the next ones: as many as there are, there is
-- room for, and one read returns.
pub record ReadsContent (file count : ℕ) (room given : List ℕ) (old new : MemoryShown) : Type 0
  where
    pub within : file < length old.inputs
    pub counted : count ≡ read_count (open_input old file) (length room) old.reads.most
    pub filled : given
        ≡ take count (drop (open_input old file).at (open_input old file).content)
        ++ drop count room
    pub after : new ≡ record old {
      reads = one_call old.reads;
      inputs = slice_set old.inputs file (read_on (open_input old file) (length room) count);
    }

-- A write took these bytes: they come after what was written to its file.
pub record WritesContent (file : ℕ) (bytes : List ℕ) (old new : MemoryShown) : Type 0 where
  pub within : file < length old.outputs
  pub grows : Grows (open_output old file).target bytes old.contents old.output new.contents
      new.output
  pub after : new ≡ record old {
    contents = new.contents;
    output = new.output;
    writes = one_call old.writes;
    outputs =
        slice_set old.outputs file
        (record (open_output old file) { taken = (open_output old file).taken ++ bytes });
  }

-- What a call of `read` did. It gave the next bytes, or it was a call that is to fail, and then
-- nothing but the counts of reads and failures changed.
pub record ReadsInMemory {E : Type 0} (file : ℕ) (result : Result ℕ E) (room given : List ℕ)
    (old new : MemoryShown) : Type 0 where
  pub gives : IfOk result (λ count. ReadsContent file count room given old new)
  -- one read may return at least one byte
  pub most : 1 ≤ old.reads.most
  pub fails : IsErr result ↔ IsTrue (is_failing old.reads)
  pub rest : OnErr result
      ((new ≡ record old {
        reads = one_call old.reads;
        failures = one_more old.failures;
      })
      × (given ≡ room))

-- What a call of `write` did. It took as many of the bytes as one write takes, or it failed, and
-- then nothing but the counts of writes and failures changed. A call that is to fail did.
pub record WritesInMemory {E : Type 0} (file : ℕ) (result : Result ℕ E) (bytes : List ℕ)
    (old new : MemoryShown) : Type 0 where
  pub takes : IfOk result
      (λ count. (count ≡ min (length bytes) old.writes.most)
      × WritesContent file (take count bytes) old new)
  pub fails : IsTrue (is_failing old.writes) → IsErr result
  pub rest : OnErr result
      (new ≡ record old {
        writes = one_call old.writes;
        failures = one_more old.failures;
      })
