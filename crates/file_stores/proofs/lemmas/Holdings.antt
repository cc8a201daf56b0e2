-- What destinations hold, of files in memory.
use Rattle.std.proofs.Common.{◌≡◌, ◌≢◌, ℕ, zero, suc, ◌<◌, ◌≤◌, ◌⊎◌, inl, inr, Bool, true, false}
use Rattle.std.proofs.Common.{List, [], ◌∷◌, ◌++◌, length, take, Option, Some, None, Result, Ok}
use Rattle.std.proofs.Common.{Err, OnErr, IfOk, IsSome, unwrap_or, refl, sym, ap, ◌∙◌, subst}
use Rattle.std.proofs.Common.{append-nil, ⊎_elim, arith}
use Rattle.std.specs.Prelude.{slice_set, slice_get, min, if◌then◌else◌}
use Rattle.std.specs.Option.{option_map}
use Rattle.collector.specs.Files.{ReadLog, nothing_read, Reads, ReadsGoOn, ReadsOnly, ReadOnInHeld}
use Rattle.collector.specs.Files.{SameHeld, OpensHeld, OpensDestination, WritesOnly, content_for}
use Rattle.collector.specs.Files.{WriteLog, nothing_written, reads_of, writes_of, left_of, one_more}
use Rattle.collector.specs.declared.needed.LeftOut.{LeftOut}
use Rattle.collector.specs.declared.needed.LeftOut.TheVariants.{Nothing}
use Rattle.collector.specs.declared.opening.IoFailed.{IoFailed}
use Rattle.collector.proofs.Logs.{grows_none}
use Rattle.collector.proofs.TouchLaws.{in_held_same}
use Rattle.run_types.specs.declared.names.InName.{InName}
use Rattle.run_types.specs.declared.names.InName.TheVariants as in_names
use Rattle.run_types.specs.declared.names.OutName.{OutName}
use Rattle.run_types.specs.declared.names.OutName.TheVariants as out_names
use Rattle.run_types.specs.Destinations.{Destination, StandardOutput, FileOf}
use Rattle.file_stores.specs.inner.Opened.{OpenedInput, OpenedOutput, read_log, read_on, IsWithin}
use Rattle.file_stores.specs.inner.Opened.{written_log}
use Rattle.file_stores.specs.inner.Counts.{one_call}
use Rattle.file_stores.specs.inner.Memory.{Stored, MemoryShown, content_of, held_by, held_with}
use Rattle.file_stores.specs.inner.Memory.{destination_to, target_of, shown_files, open_input}
use Rattle.file_stores.specs.inner.Memory.{open_output, is_forbidden, input_content, Grows}
use Rattle.file_stores.specs.inner.Memory.{OpensContent, OpensTarget, ReadsContent, WritesContent}
use Rattle.file_stores.proofs.lemmas.FormerLaws.{same_places}
use Rattle.file_stores.proofs.lemmas.Numbers.{log_new, log_at, log_set, log_set_same}
use Rattle.file_stores.proofs.lemmas.Numbers.{log_set_others}
use Rattle.file_stores.proofs.lemmas.MemoryLaws.{reads_told, reads_in_held}

-- ---- an opening

destination_is : (m : MemoryShown) (target : Option (List ℕ))
    → (shown_files
    (record m { outputs = m.outputs ++ record { target = target; taken = [] } ∷ [] })).targets
    (length m.outputs) ≡ Some (destination_to target)
destination_is m target = log_new (λ (o : OpenedOutput). destination_to o.target) m.outputs
    (record { target = target; taken = [] })

module _ (file : ℕ) (old new : MemoryShown) where
  target_is : (name : OutName) → OpensTarget name file old new
      → (shown_files new).targets file ≡ Some (destination_to (target_of name))
  target_is name t = ap (λ (m : MemoryShown). (shown_files m).targets file) t.after
      ∙ (ap
      (λ (k : ℕ).
      (shown_files
      (record old {
        outputs = old.outputs ++ record {
          target = target_of name;
          taken =
              [];
        } ∷ [];
      })).targets k) t.number ∙ destination_is old (target_of name))

  same_output : (name : OutName) → OpensTarget name file old new → new.output ≡ old.output
  same_output name t = ap (λ (m : MemoryShown). m.output) t.after

  other_standard : OpensTarget out_names.Standard file old new → (d : Destination)
      → d ≢ StandardOutput → held_by new d ≡ held_by old d
  other_standard t StandardOutput ne = absurd (ne refl)
  other_standard t (FileOf name) ne = ap (λ (files : List Stored). content_of files name) t.contents

  other_file : (name : List ℕ) (append : Bool)
      → OpensTarget (out_names.File name append) file old new → (d : Destination) → d ≢ FileOf name
      → held_by new d ≡ held_by old d
  other_file name append t StandardOutput ne =
      ap (λ (l : List ℕ). Some l) (same_output (out_names.File name append) t)
  other_file name append t (FileOf other) ne =
      let c = t.contents in
      c.others other (λ e. ne (ap (λ (l : List ℕ). FileOf l) e))

  pub opens_destination : (name : OutName) → OpensTarget name file old new
      → OpensDestination name file (shown_files old) (shown_files new)
  opens_destination out_names.Standard t = record {
    target = target_is out_names.Standard t;
    content = ap (λ (l : List ℕ). Some l) (same_output out_names.Standard t);
    others = other_standard t;
  }
  opens_destination (out_names.File name append) t = record {
    target = target_is (out_names.File name append) t;
    content =
        let c = t.contents in
        c.content ∙ ap (λ (l : List ℕ). Some l)
        (append-nil (left_of append (content_of old.contents name)));
    others = other_file name append t;
  }

-- a name that may be opened means the file of that name
not_forbidden : (forbidden : Bool) (held : Option (List ℕ)) (content : List ℕ)
    → (if forbidden then None else held) ≡ Some content → held ≡ Some content
not_forbidden true held content e = absurd (cc e)
not_forbidden false held content e = e

held_for : (m : MemoryShown) (name : InName) (content : List ℕ)
    → input_content m name ≡ Some content → content_for (shown_files m) name ≡ Some content
held_for m in_names.Standard content e = e
held_for m (in_names.File name) content e =
    not_forbidden (is_forbidden m name) (content_of m.contents name) content e

pub opens_held : (file : ℕ) (old new : MemoryShown) (name : InName) → OpensContent name file old new
    → OpensHeld name file (shown_files old) (shown_files new)
opens_held file old new name t = record {
  content = t.content;
  given = held_for old name t.content t.held;
  held = ap (λ (m : MemoryShown). (shown_files m).held file) t.after
      ∙ (ap (λ (k : ℕ). option_map (λ (i : OpenedInput). i.content)
      (slice_get (old.inputs ++ record { content = t.content; at = 0; at_end = false; left = Nothing } ∷ []) k))
      t.number
      ∙ log_new (λ (i : OpenedInput). i.content) old.inputs
      (record { content = t.content; at = 0; at_end = false; left = Nothing }));
}

-- ---- a write

module _ (file : ℕ) (bytes : List ℕ) (old : MemoryShown) (contents' : List Stored)
    (output' : List ℕ) (within : file < length old.outputs)
    (grows : Grows (open_output old file).target bytes old.contents old.output contents'
    output') where
  abbrev own : OpenedOutput
  own = open_output old file

  abbrev grown : OpenedOutput
  grown = record own { taken = own.taken ++ bytes }

  abbrev later : MemoryShown
  later = record old {
    contents = contents';
    output = output';
    writes =
        one_call old.writes;
    outputs = slice_set old.outputs file grown;
  }

  log_before : writes_of (shown_files old) file ≡ own.taken
  log_before = ap (λ (l : Option WriteLog). (unwrap_or l nothing_written).bytes)
      (log_at (λ (o : OpenedOutput). written_log o.taken) old.outputs file
      (record { target = None; taken = [] }) within)

  now_taken : (shown_files later).outputs file ≡ Some (written_log (own.taken ++ bytes))
  now_taken = log_set (λ (o : OpenedOutput). written_log o.taken) old.outputs file grown within

  log_later : writes_of (shown_files later) file ≡ writes_of (shown_files old) file ++ bytes
  log_later = ap (λ (l : Option WriteLog). (unwrap_or l nothing_written).bytes) now_taken
      ∙ ap (λ (l : List ℕ). l ++ bytes) (sym log_before)

  target_before : (shown_files old).targets file ≡ Some (destination_to own.target)
  target_before = log_at (λ (o : OpenedOutput). destination_to o.target) old.outputs file
      (record { target = None; taken = [] }) within

  targets_are : (k : ℕ) → (shown_files later).targets k ≡ (shown_files old).targets k
  targets_are k = log_set_same (λ (o : OpenedOutput). destination_to o.target) old.outputs file
      grown (record { target = None; taken = [] }) within refl k

  -- what it writes to has these bytes more
  grown_held : (target : Option (List ℕ)) (held : List ℕ)
      → Grows target bytes old.contents old.output contents' output' →
      held_by old (destination_to target) ≡ Some held
      → held_by later (destination_to target) ≡ Some (held ++ bytes)
  grown_held None held g was =
      let e : old.output ≡ held = cc in
      ap (λ (l : List ℕ). Some l) (g.0 ∙ ap (λ (l : List ℕ). l ++ bytes) e)
  grown_held (Some name) held g was =
      let h = g.1 in
      h.content ∙ ap (λ (o : Option (List ℕ)). Some (held_with o true bytes)) was

  other_held : (target : Option (List ℕ)) (d : Destination)
      → Grows target bytes old.contents old.output contents' output'
      → (destination_to target ≡ d → ⊥) → held_by later d ≡ held_by old d
  other_held None StandardOutput g ne = absurd (ne refl)
  other_held None (FileOf name) g ne = ap (λ (files : List Stored). content_of files name) g.1
  other_held (Some name) StandardOutput g ne = ap (λ (l : List ℕ). Some l) g.0
  other_held (Some name) (FileOf other) g ne =
      let h = g.1 in
      h.others other (λ e. ne (ap (λ (l : List ℕ). FileOf l) (sym e)))

  destination_of_own : (d : Destination) → (shown_files old).targets file ≡ Some d
      → d ≡ destination_to own.target
  destination_of_own d t = let e = target_before in cc

  pub writes_later : WritesOnly file (shown_files old) (shown_files later)
      × (writes_of (shown_files later) file ≡ writes_of (shown_files old) file ++ bytes)
  writes_later = (
    record {
      openings = refl;
      still = subst (λ (l : Option WriteLog). IsSome l) (sym now_taken) refl;
      grows = record {
        more = bytes;
        log = log_later;
        content = λ d held t was. let e = destination_of_own d t in
            subst (λ (x : Destination). held_by later x ≡ Some (held ++ bytes)) (sym e)
            (grown_held own.target held grows
            (subst (λ (x : Destination). held_by old x ≡ Some held) e was));
      };
      inputs = λ k. refl;
      outputs = λ k ne. log_set_others (λ (o : OpenedOutput). written_log o.taken) old.outputs file grown k ne;
      targets = targets_are;
      held = record { standard_input = refl; held = λ k. refl; left_out = λ k. refl };
      others = λ d ne. other_held own.target d grows
          (λ e. ne (target_before ∙ ap (λ (x : Destination). Some x) e));
      places = same_places old later refl;
    },
    log_later,
  )

-- what a write that took these bytes leaves
pub writes_content : (file : ℕ) (bytes : List ℕ) (old new : MemoryShown)
    → WritesContent file bytes old new →
    WritesOnly file (shown_files old) (shown_files new)
    × (writes_of (shown_files new) file ≡ writes_of (shown_files old) file ++ bytes)
writes_content file bytes old new w =
    subst (λ (m : MemoryShown). WritesOnly file (shown_files old) (shown_files m)
    × (writes_of (shown_files m) file ≡ writes_of (shown_files old) file ++ bytes))
    (sym w.after)
    (writes_later file bytes old new.contents new.output w.within w.grows)

-- the same files, though what was read, or what failed, is not the same
pub same_held : (a b : MemoryShown) → b.contents ≡ a.contents → b.output ≡ a.output
    → (d : Destination) → held_by b d ≡ held_by a d
same_held a b contents output StandardOutput = ap (λ (l : List ℕ). Some l) output
same_held a b contents output (FileOf name) =
    ap (λ (files : List Stored). content_of files name) contents

-- the same inputs, and the same standard input
held_same : (a b : MemoryShown) → b.input ≡ a.input → b.inputs ≡ a.inputs
    → SameHeld (shown_files a) (shown_files b)
held_same a b input inputs = record {
  standard_input = ap (λ (l : List ℕ). Some l) input;
  held = λ k. ap (λ (l : List OpenedInput). option_map (λ (i : OpenedInput). i.content)
      (slice_get l k)) inputs;
  left_out = λ k. ap (λ (l : List OpenedInput). unwrap_or (option_map
      (λ (i : OpenedInput). i.left) (slice_get l k)) Nothing) inputs;
}

-- what a write leaves that failed
write_failed : (file : ℕ) (old new : MemoryShown) → IsSome ((shown_files old).outputs file)
    → new.contents ≡ old.contents → new.input ≡ old.input → new.output ≡ old.output
    → new.openings ≡ old.openings → new.inputs ≡ old.inputs → new.outputs ≡ old.outputs
    → new.former ≡ old.former →
    WritesOnly file (shown_files old) (shown_files new)
write_failed file old new open_ contents input output openings inputs outputs former =
    let took : (k : ℕ) → (shown_files new).outputs k ≡ (shown_files old).outputs k =
    λ k. ap (λ (l : List OpenedOutput). option_map (λ (o : OpenedOutput). written_log o.taken)
    (slice_get l k)) outputs in
    record {
      openings = openings;
      still = subst (λ (l : Option WriteLog). IsSome l) (sym (took file)) open_;
      grows = grows_none file (shown_files old) (shown_files new)
          (ap (λ (l : Option WriteLog). (unwrap_or l nothing_written).bytes) (took file))
          (λ d t. same_held old new contents output d);
      inputs = λ k. ap (λ (l : List OpenedInput). option_map read_log (slice_get l k)) inputs;
      outputs = λ k ne. took k;
      targets =
          λ k. ap (λ (l : List OpenedOutput). option_map
          (λ (o : OpenedOutput). destination_to o.target) (slice_get l k)) outputs;
      held = held_same old new input inputs;
      others = λ d ne. same_held old new contents output d;
      places = same_places old new former;
    }

-- what any write leaves
pub writes_only : (file : ℕ) (from : List ℕ) (old new : MemoryShown) (result : Result ℕ IoFailed)
    → IsSome ((shown_files old).outputs file) →
    IfOk result (λ count. (count ≡ min (length from) old.writes.most)
    × WritesContent file (take count from) old new) →
    OnErr result (new ≡ record old {
      writes = one_call old.writes;
      failures =
          one_more old.failures;
    }) →
    WritesOnly file (shown_files old) (shown_files new)
writes_only file from old new (Ok count) open_ ok err =
    let both = writes_content file (take count from) old new ok.1 in
    both.0
writes_only file from old new (Err e) open_ ok err = write_failed file old new open_
    (ap (λ (m : MemoryShown). m.contents) err) (ap (λ (m : MemoryShown). m.input) err)
    (ap (λ (m : MemoryShown). m.output) err) (ap (λ (m : MemoryShown). m.openings) err)
    (ap (λ (m : MemoryShown). m.inputs) err) (ap (λ (m : MemoryShown). m.outputs) err)
    (ap (λ (m : MemoryShown). m.former) err)

-- ---- a read

log_is : (a b : ReadLog) → b.bytes ≡ a.bytes → b.at_end ≡ a.at_end → b ≡ a
log_is a b bytes at_end = ap (λ (l : List ℕ). record { bytes = l; at_end = b.at_end }) bytes
    ∙ ap (λ (e : Bool). record { bytes = a.bytes; at_end = e }) at_end

some_or_none : (n : ℕ) → (0 < n) ⊎ (n ≡ 0)
some_or_none zero = inr refl
some_or_none (suc n) = inl (omega arith)

-- after the end the log stays
reads_ended : (room : ℕ) (given : List ℕ) (old new : ReadLog) → Reads room given old new
    → old.at_end ≡ true → new ≡ old
reads_ended room given old new r e =
    let none = r.after e in
    log_is old new (r.bytes ∙ (ap (λ (l : List ℕ). old.bytes ++ l) none ∙ append-nil old.bytes))
    (⊎_elim (λ some. r.end some none ∙ sym e) (λ full. r.goes_on (inr full)) (some_or_none room))

pub reads_go_on : (room : ℕ) (given : List ℕ) (old new : ReadLog) → Reads room given old new
    → ReadsGoOn old new
reads_go_on room given old new r =
    record { bytes = (given, sym r.bytes); ended = reads_ended room given old new r }

same_log : (a b : ReadLog) → b ≡ a → ReadsGoOn a b
same_log a b e =
    record {
      bytes = ([], append-nil a.bytes ∙ sym (ap (λ (l : ReadLog). l.bytes) e));
      ended =
          λ _. e;
    }

-- what a read leaves
read_leaves : (file : ℕ) (old new : MemoryShown)
    → ReadsGoOn (reads_of (shown_files old) file) (reads_of (shown_files new) file)
    → SameHeld (shown_files old) (shown_files new) →
    ReadOnInHeld file (shown_files old) (shown_files new) → IsSome ((shown_files new).inputs file) →
    ((k : ℕ) → k ≢ file → (shown_files new).inputs k ≡ (shown_files old).inputs k)
    → new.contents ≡ old.contents → new.output ≡ old.output → new.openings ≡ old.openings
    → new.outputs ≡ old.outputs → new.former ≡ old.former →
    ReadsOnly file (shown_files old) (shown_files new)
read_leaves file old new on held in_held still others contents output openings outputs former =
    record {
      openings = openings;
      still = still;
      goes_on = on;
      inputs = others;
      outputs = λ k. ap (λ (l : List OpenedOutput). option_map (λ (o : OpenedOutput). written_log o.taken)
          (slice_get l k)) outputs;
      contents = record {
        targets = λ k. ap (λ (l : List OpenedOutput). option_map
            (λ (o : OpenedOutput). destination_to o.target) (slice_get l k)) outputs;
        contents = λ d. same_held old new contents output d;
        places = same_places old new former;
      };
      held = held;
      reads = in_held;
    }

-- what the inputs held is as it was
held_after : (file count : ℕ) (room given : List ℕ) (old new : MemoryShown)
    → ReadsContent file count room given old new → SameHeld (shown_files old) (shown_files new)
held_after file count room given old new r = record {
  standard_input = ap (λ (m : MemoryShown). Some m.input) r.after;
  held = λ k. ap (λ (m : MemoryShown). (shown_files m).held k) r.after
      ∙ log_set_same (λ (i : OpenedInput). i.content) old.inputs file
      (read_on (open_input old file) (length room) count)
      (record { content = []; at = 0; at_end = false; left = Nothing }) r.within refl k;
  left_out = λ k. ap (λ (m : MemoryShown). (shown_files m).left_out k) r.after
      ∙ ap (λ (o : Option LeftOut). unwrap_or o Nothing)
      (log_set_same (λ (i : OpenedInput). i.left) old.inputs file
      (read_on (open_input old file) (length room) count)
      (record { content = []; at = 0; at_end = false; left = Nothing }) r.within refl k);
}

read_given : (file count : ℕ) (room given : List ℕ) (old new : MemoryShown)
    → ReadsContent file count room given old new → IsWithin (open_input old file)
    → 1 ≤ old.reads.most → ReadsOnly file (shown_files old) (shown_files new)
read_given file count room given old new r within most =
    let at : (k : ℕ) → (shown_files new).inputs k ≡ option_map read_log
    (slice_get (slice_set old.inputs file (read_on (open_input old file) (length room) count))
    k) =
    λ k. ap (λ (m : MemoryShown). (shown_files m).inputs k) r.after in
    let own = log_set read_log old.inputs file
    (read_on (open_input old file) (length room) count) r.within in
    read_leaves file old new
    (reads_go_on (length given) (take count given) (reads_of (shown_files old) file)
    (reads_of (shown_files new) file) (reads_told file count room given old new r within))
    (held_after file count room given old new r)
    (reads_in_held file count room given old new r within most)
    (subst (λ (l : Option ReadLog). IsSome l) (sym (at file ∙ own)) refl)
    (λ k ne. at k ∙ log_set_others read_log old.inputs file
    (read_on (open_input old file) (length room) count) k ne)
    (ap (λ (m : MemoryShown). m.contents) r.after) (ap (λ (m : MemoryShown). m.output) r.after)
    (ap (λ (m : MemoryShown). m.openings) r.after) (ap (λ (m : MemoryShown). m.outputs) r.after)
    (ap (λ (m : MemoryShown). m.former) r.after)

-- what any read leaves
pub reads_only : (file : ℕ) (room given : List ℕ) (old new : MemoryShown)
    (result : Result ℕ IoFailed) → IsSome ((shown_files old).inputs file) →
    IfOk result (λ count. ReadsContent file count room given old new)
    → IfOk result (λ count. IsWithin (open_input old file)) → 1 ≤ old.reads.most →
    OnErr result
    ((new ≡ record old { reads = one_call old.reads; failures = one_more old.failures })
    × (given ≡ room)) →
    ReadsOnly file (shown_files old) (shown_files new)
reads_only file room given old new (Ok count) open_ ok within most err =
    read_given file count room given old new ok within most
reads_only file room given old new (Err e) open_ ok within most err =
    let at : (k : ℕ) → (shown_files new).inputs k ≡ (shown_files old).inputs k =
    λ k. ap (λ (m : MemoryShown). (shown_files m).inputs k) err.0 in
    read_leaves file old new
    (same_log (reads_of (shown_files old) file) (reads_of (shown_files new) file)
    (ap (λ (l : Option ReadLog). unwrap_or l nothing_read) (at file)))
    (held_same old new (ap (λ (m : MemoryShown). m.input) err.0)
    (ap (λ (m : MemoryShown). m.inputs) err.0))
    (in_held_same file (shown_files old) (shown_files new)
    (ap (λ (l : Option ReadLog). unwrap_or l nothing_read) (at file)))
    (subst (λ (l : Option ReadLog). IsSome l) (sym (at file)) open_)
    (λ k ne. at k)
    (ap (λ (m : MemoryShown). m.contents) err.0) (ap (λ (m : MemoryShown). m.output) err.0)
    (ap (λ (m : MemoryShown). m.openings) err.0) (ap (λ (m : MemoryShown). m.outputs) err.0)
    (ap (λ (m : MemoryShown). m.former) err.0)
