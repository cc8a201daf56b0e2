-- Files in memory do what any files do.
use Rattle.std.proofs.Common.{◌≡◌, ◌≢◌, Some, ℕ, ◌+◌, ◌-◌, ◌<◌, ◌≤◌, ◌⊎◌, ◌||◌, ◌&&◌, ◌==◌, nat_lt}
use Rattle.std.proofs.Common.{Bool, true, false, List, [], ◌∷◌, ◌++◌, length, take, drop, Option}
use Rattle.std.proofs.Common.{unwrap_or, min, refl, sym, ap, ◌∙◌, subst, ⊎_elim, inl, inr}
use Rattle.std.proofs.Common.{length-append, length-drop, length-take, arith}
use Rattle.std.proofs.lemmas.List.{take_at, take-append-drop, take_all}
use Rattle.std.proofs.Math.Seq.{take-add}
use Rattle.std.proofs.lemmas.Bool.Decides.{nat_tests}
use Rattle.collector.specs.Files.{SameContents}
use Rattle.collector.specs.Files.{ReadLog, Reads, AreReadsOf, ReadOnInHeld, reads_of, nothing_read}
use Rattle.file_stores.specs.inner.Opened.{OpenedInput, read_log, read_count, read_on, IsWithin}
use Rattle.file_stores.specs.inner.Memory.{MemoryShown, shown_files, open_input, ReadsContent}
use Rattle.file_stores.specs.inner.Memory.{KeepsInMemory}
use Rattle.collector.specs.InputEnds.{IsHeldFirst, IsHeldLeft, IsLeftOf, LeavesOut, LeavesRest}
use Rattle.machine.specs.FrontLines.{first_lines}
use Rattle.collector.specs.InputEnds.{left_out_too}
use Rattle.collector.specs.declared.needed.LeftOut.{LeftOut}
use Rattle.collector.specs.declared.needed.LeftOut.TheVariants.{Nothing}
use Rattle.collector.specs.declared.needed.NeededEnd.{NeededEnd}
use Rattle.file_stores.proofs.lemmas.FormerLaws.{same_places}
use Rattle.file_stores.proofs.lemmas.Numbers.{log_set, log_set_others, log_set_same, log_at}

-- a read of an open input
read_given : (i : OpenedInput) (room given : List ℕ) (count most : ℕ) → IsWithin i
    → count ≡ read_count i (length room) most
    → given ≡ take count (drop i.at i.content) ++ drop count room →
    (length given ≡ length room) × (take count given ≡ take count (drop i.at i.content))
    × (length (take count given) ≡ count) × (count ≤ length i.content - i.at)
read_given i room given count most within counted filled =
    let lengths : count ≤ length room = omega (arith, counted) in
    let rest : count ≤ length i.content - i.at = omega (arith, counted) in
    let left : length (take count (drop i.at i.content)) ≡ count =
    length-take count (drop i.at i.content) ∙ omega (arith, rest, length-drop i.at i.content) in
    let same : take count given ≡ take count (drop i.at i.content) = ap (take count) filled
    ∙ take_at (take count (drop i.at i.content)) (drop count room) count left in
    let whole : length given ≡ length room = ap (λ (l : List ℕ). length l) filled
    ∙ (length-append (take count (drop i.at i.content)) (drop count room)
    ∙ omega (arith, left, length-drop count room, lengths)) in
    (whole, same, ap (λ (l : List ℕ). length l) same ∙ left, rest)

-- a read that has room and gives nothing gives the end
at_the_end : (at_end : Bool) (room count : ℕ) → 0 < room → count ≡ 0
    → (at_end || (nat_lt 0 room && count == 0)) ≡ true
at_the_end true room count h e = refl
at_the_end false room count h e = grind (arith, nat_tests)

-- another does not
not_at_the_end : (at_end : Bool) (room count : ℕ) → (0 < count) ⊎ (room ≡ 0)
    → (at_end || (nat_lt 0 room && count == 0)) ≡ at_end
not_at_the_end true room count h = refl
not_at_the_end false room count h = grind (arith, nat_tests)

no_member : (xs : List ℕ) → length xs ≡ 0 → xs ≡ []
no_member [] e = refl
no_member (x ∷ xs) e = absurd (omega arith)

pub reads_next : (i : OpenedInput) (room given : List ℕ) (count most : ℕ) → IsWithin i
    → count ≡ read_count i (length room) most
    → given ≡ take count (drop i.at i.content) ++ drop count room →
    Reads (length given) (take count given) (read_log i) (read_log (read_on i (length room) count))
reads_next i room given count most within counted filled =
    let facts = read_given i room given count most within counted filled in
    record {
      bytes = take-add i.at count i.content ∙ ap (λ l. take i.at i.content ++ l) (sym facts.1);
      end = λ some none. at_the_end i.at_end (length room) count (omega (arith, facts.0, some))
          (sym facts.2 ∙ ap (λ (l : List ℕ). length l) none);
      goes_on = λ h. not_at_the_end i.at_end (length room) count
          (⊎_elim (λ more. inl (omega (arith, facts.2, more)))
          (λ full. inr (sym facts.0 ∙ full)) h);
      after = λ ended. no_member (take count given)
          (omega (arith, facts.2, facts.3, within.spent ended));
    }

-- the log after a read
log_later : (file count : ℕ) (room given : List ℕ) (old new : MemoryShown)
    → ReadsContent file count room given old new →
    reads_of (shown_files new) file ≡ read_log (read_on (open_input old file) (length room) count)
log_later file count room given old new r =
    ap (λ (m : MemoryShown). reads_of (shown_files m) file) r.after
    ∙ ap (λ (o : Option ReadLog). unwrap_or o nothing_read)
    (log_set read_log old.inputs file
    (read_on (open_input old file) (length room) count) r.within)

pub reads_told : (file count : ℕ) (room given : List ℕ) (old new : MemoryShown)
    → ReadsContent file count room given old new → IsWithin (open_input old file) →
    Reads (length given) (take count given) (reads_of (shown_files old) file)
    (reads_of (shown_files new) file)
reads_told file count room given old new r within =
    let before : reads_of (shown_files old) file ≡ read_log (open_input old file) =
    ap (λ (o : Option ReadLog). unwrap_or o nothing_read)
    (log_at read_log old.inputs file (record { content = []; at = 0; at_end = false; left = Nothing })
    r.within) in
    rw (before, log_later file count room given old new r)
    (reads_next (open_input old file) room given count old.reads.most within r.counted r.filled)

-- ---- what an input held

-- a read gives the end only if nothing is left
spent_on : (at_end : Bool) (at size room count most : ℕ) → 1 ≤ most → at ≤ size
    → (at_end ≡ true → at ≡ size) → count ≡ min (min room most) (size - at)
    → (at_end || (nat_lt 0 room && count == 0)) ≡ true → at + count ≡ size
spent_on true at size room count most some within spent counted e =
    let whole : at ≡ size = spent refl in
    omega (arith, whole, counted)
spent_on false at size room count most some within spent counted e =
    let none : (0 < room) × (count ≡ 0) = grind (arith, nat_tests) in
    omega (arith, none.0, none.1, some, within, counted)

-- a read goes to the end of the content, or not as far
within_on : (i : OpenedInput) (room count most : ℕ) → IsWithin i → 1 ≤ most
    → count ≡ read_count i room most → IsWithin (read_on i room count)
within_on i room count most within some counted = record {
  at = omega (arith, counted, within.at);
  spent = λ e. spent_on i.at_end i.at (length i.content) room count most some within.at within.spent
      counted e;
}

-- what the reads gave is of the content
are_reads : (i : OpenedInput) → IsWithin i → AreReadsOf i.content (read_log i)
are_reads i within = record {
  begins = (drop i.at i.content, take-append-drop i.at i.content);
  whole = λ e. let spent = within.spent e in take_all i.at i.content (omega (arith, spent));
}

-- so an input is read on in what it held
pub reads_in_held : (file count : ℕ) (room given : List ℕ) (old new : MemoryShown)
    → ReadsContent file count room given old new → IsWithin (open_input old file)
    → 1 ≤ old.reads.most →
    ReadOnInHeld file (shown_files old) (shown_files new)
reads_in_held file count room given old new r within some content is was =
    let i : OpenedInput = open_input old file in
    let held : i.content ≡ content =
    cc (
      log_at (λ (x : OpenedInput). x.content) old.inputs file
          (record { content = []; at = 0; at_end = false; left = Nothing }) r.within,
      is,
    ) in
    subst (λ (l : List ℕ). AreReadsOf l (reads_of (shown_files new) file)) held
    (subst (λ (l : ReadLog). AreReadsOf i.content l)
    (sym (log_later file count room given old new r))
    (are_reads (read_on i (length room) count)
    (within_on i (length room) count old.reads.most within some r.counted)))

-- ---- a part that is left out

module _ (file : ℕ) (kept : List ℕ) (note : LeftOut) (old new : MemoryShown)
    (l : KeepsInMemory file kept note old new) where
  abbrev own : OpenedInput
  own = open_input old file

  abbrev ended : OpenedInput
  ended = record own { content = kept; left = note }

  same_log : own.at ≡ 0 → (k : ℕ) → (shown_files new).inputs k ≡ (shown_files old).inputs k
  same_log first k =
      ap (λ (m : MemoryShown). (shown_files m).inputs k) l.after
      ∙ log_set_same read_log old.inputs file ended
      (record { content = []; at = 0; at_end = false; left = Nothing }) l.within
      (ap (λ (n : ℕ). record { bytes = take n ended.content; at_end = own.at_end }) first
      ∙ ap (λ (n : ℕ). record { bytes = take n own.content; at_end = own.at_end }) (sym first))
      k

  other_held : (k : ℕ) → k ≢ file → (shown_files new).held k ≡ (shown_files old).held k
  other_held k ne =
      ap (λ (m : MemoryShown). (shown_files m).held k) l.after
      ∙ log_set_others (λ (i : OpenedInput). i.content) old.inputs file ended k ne

  held_before : (shown_files old).held file ≡ Some own.content
  held_before = log_at (λ (i : OpenedInput). i.content) old.inputs file
      (record { content = []; at = 0; at_end = false; left = Nothing }) l.within

  held_after : (shown_files new).held file ≡ Some kept
  held_after = ap (λ (m : MemoryShown). (shown_files m).held file) l.after
      ∙ log_set (λ (i : OpenedInput). i.content) old.inputs file ended l.within

  other_left : (k : ℕ) → k ≢ file → (shown_files new).left_out k ≡ (shown_files old).left_out k
  other_left k ne =
      ap (λ (m : MemoryShown). (shown_files m).left_out k) l.after
      ∙ ap (λ (o : Option LeftOut). unwrap_or o Nothing)
      (log_set_others (λ (i : OpenedInput). i.left) old.inputs file ended k ne)

  left_before : (shown_files old).left_out file ≡ own.left
  left_before = ap (λ (o : Option LeftOut). unwrap_or o Nothing)
      (log_at (λ (i : OpenedInput). i.left) old.inputs file
      (record { content = []; at = 0; at_end = false; left = Nothing }) l.within)

  left_after : (shown_files new).left_out file ≡ note
  left_after = ap (λ (m : MemoryShown). (shown_files m).left_out file) l.after
      ∙ ap (λ (o : Option LeftOut). unwrap_or o Nothing)
      (log_set (λ (i : OpenedInput). i.left) old.inputs file ended l.within)

  same_contents : SameContents (shown_files old) (shown_files new)
  same_contents = record {
    targets = λ k. ap (λ (m : MemoryShown). (shown_files m).targets k) l.after;
    contents = λ d. ap (λ (m : MemoryShown). (shown_files m).contents d) l.after;
    places = same_places old new (ap (λ (m : MemoryShown). m.former) l.after);
  }

  pub leaves_out : (needed : NeededEnd) → own.at ≡ 0 → IsLeftOf needed own.content kept
      → note ≡ left_out_too own.left needed
      → LeavesOut file needed (shown_files old) (shown_files new)
  leaves_out needed first left noted = record {
    openings = ap (λ (m : MemoryShown). m.openings) l.after;
    inputs = same_log first;
    outputs = λ k. ap (λ (m : MemoryShown). (shown_files m).outputs k) l.after;
    contents = same_contents;
    standard_input = ap (λ (m : MemoryShown). (shown_files m).standard_input) l.after;
    others = other_held;
    left = subst (λ (h : Option (List ℕ)). IsHeldLeft needed h ((shown_files new).held file))
        (sym held_before)
        (subst (λ (h : Option (List ℕ)). IsHeldLeft needed (Some own.content) h) (sym held_after)
        left);
    noted = inl (left_after ∙ (noted
        ∙ ap (λ (n : LeftOut). left_out_too n needed) (sym left_before)));
    left_out = other_left;
    failures = ap (λ (m : MemoryShown). m.failures) l.after;
  }

  same_left : note ≡ own.left → (k : ℕ) → (shown_files new).left_out k
      ≡ (shown_files old).left_out k
  same_left same k = ap (λ (m : MemoryShown). (shown_files m).left_out k) l.after
      ∙ ap (λ (o : Option LeftOut). unwrap_or o Nothing)
      (log_set_same (λ (i : OpenedInput). i.left) old.inputs file ended
      (record { content = []; at = 0; at_end = false; left = Nothing }) l.within same k)

  pub leaves_rest : (n : ℕ) → own.at ≡ 0 → kept ≡ first_lines n own.content → note ≡ own.left
      → LeavesRest file n (shown_files old) (shown_files new)
  leaves_rest n first front same = record {
    openings = ap (λ (m : MemoryShown). m.openings) l.after;
    inputs = same_log first;
    outputs = λ k. ap (λ (m : MemoryShown). (shown_files m).outputs k) l.after;
    contents = same_contents;
    standard_input = ap (λ (m : MemoryShown). (shown_files m).standard_input) l.after;
    others = other_held;
    first = subst (λ (h : Option (List ℕ)). IsHeldFirst n h ((shown_files new).held file))
        (sym held_before)
        (subst (λ (h : Option (List ℕ)). IsHeldFirst n (Some own.content) h) (sym held_after) front);
    left_out = same_left same;
    failures = ap (λ (m : MemoryShown). m.failures) l.after;
  }

-- nothing was read of an input of which no read is known
pub unread_own : (file : ℕ) (m : MemoryShown) → file < length m.inputs
    → reads_of (shown_files m) file ≡ nothing_read → read_log (open_input m file) ≡ nothing_read
unread_own file m within unread =
    sym (ap (λ (o : Option ReadLog). unwrap_or o nothing_read)
    (log_at read_log m.inputs file (record { content = []; at = 0; at_end = false; left = Nothing }) within))
    ∙ unread
