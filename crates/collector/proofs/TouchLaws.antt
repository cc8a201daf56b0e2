-- Runs that touch no files but some: made of steps that do.
use Rattle.std.proofs.Common.{◌≡◌, ℕ, true, List, [], ◌++◌, Option, Some, unwrap_or, refl, sym, ap}
use Rattle.std.proofs.Common.{◌∙◌, subst, append_assoc, append-nil, ⊎_elim}
use Rattle.std.proofs.lemmas.Bool.{cases_eq}
use mathlib.Core.List.{IsPrefix}
use Rattle.run_types.specs.Destinations.{Destination}
use Rattle.collector.specs.Files.{FilesShown, ReadLog, WriteLog, nothing_read, nothing_written}
use Rattle.collector.specs.Files.{SameFiles, SameHeld}
use Rattle.collector.specs.Files.{AreReadsOf, ReadOnInHeld, ReadsOnly, WritesOnly, ReadsGoOn, Grows}
use Rattle.collector.specs.Files.{IsSoleWriter, TouchesOnly, reads_of, writes_of}
use Rattle.collector.proofs.Logs.{grows_none, grows_on, places_none, places_on}

-- ---- logs that go on

prefix_same : (xs ys : List ℕ) → ys ≡ xs → IsPrefix xs ys
prefix_same xs ys e = ([], append-nil xs ∙ sym e)

prefix_on : (xs ys zs : List ℕ) → IsPrefix xs ys → IsPrefix ys zs → IsPrefix xs zs
prefix_on xs ys zs (r, e) (s, f) = (r ++ s, sym (append_assoc xs r s) ∙ (ap (λ l. l ++ s) e ∙ f))

reads_same : (a b : ReadLog) → b ≡ a → ReadsGoOn a b
reads_same a b e =
    record { bytes = prefix_same a.bytes b.bytes (ap (λ (l : ReadLog). l.bytes) e); ended = λ _. e }

reads_on : (a b c : ReadLog) → ReadsGoOn a b → ReadsGoOn b c → ReadsGoOn a c
reads_on a b c g h = record {
  bytes = prefix_on a.bytes b.bytes c.bytes g.bytes h.bytes;
  ended = λ e. let same = g.ended e in
      h.ended (subst (λ (l : ReadLog). l.at_end ≡ true) (sym same) e) ∙ same;
}

log_of : (old new : FilesShown) (file : ℕ) → new.inputs file ≡ old.inputs file
    → reads_of new file ≡ reads_of old file
log_of old new file e = ap (λ (o : Option ReadLog). unwrap_or o nothing_read) e

pub taken_of : (old new : FilesShown) (file : ℕ) → new.outputs file ≡ old.outputs file
    → writes_of new file ≡ writes_of old file
taken_of old new file e = ap (λ (o : Option WriteLog). (unwrap_or o nothing_written).bytes) e

-- ---- what inputs held

pub held_none : (s : FilesShown) → SameHeld s s
held_none s = record { standard_input = refl; held = λ file. refl; left_out = λ file. refl }

pub held_on : (a b c : FilesShown) → SameHeld a b → SameHeld b c → SameHeld a c
held_on a b c g h = record {
  standard_input = h.standard_input
      ∙ g.standard_input;
  held = λ file. h.held file ∙ g.held file;
  left_out = λ file. h.left_out file ∙ g.left_out file;
}

-- a log that did not change
pub in_held_same : (file : ℕ) (old new : FilesShown) → reads_of new file ≡ reads_of old file
    → ReadOnInHeld file old new
in_held_same file old new e content is was =
    subst (λ (l : ReadLog). AreReadsOf content l) (sym e) was

pub in_held_on : (file : ℕ) (a b c : FilesShown) → SameHeld a b → ReadOnInHeld file a b
    → ReadOnInHeld file b c → ReadOnInHeld file a c
in_held_on file a b c same g h content is was = h content (same.held file ∙ is) (g content is was)

module _ (ins outs : ℕ → Type 0) where
  -- nothing changed
  pub touches_none : (old new : FilesShown) → SameFiles old new → TouchesOnly ins outs old new
  touches_none old new h =
      let c = h.contents in
      record {
        openings = h.openings;
        inputs = λ file no. h.inputs file;
        outputs = λ file no. h.outputs file;
        reads = λ file. reads_same (reads_of old file) (reads_of new file)
            (log_of old new file (h.inputs file));
        held = h.held;
        in_held = λ file. in_held_same file old new (log_of old new file (h.inputs file));
        writes = λ file. prefix_same (writes_of old file) (writes_of new file)
            (taken_of old new file (h.outputs file));
        targets = c.targets;
        places = c.places;
        untouched = λ d no. c.contents d;
        grown = λ file d t sole. grows_none file old new (taken_of old new file (h.outputs file))
            (λ e u. c.contents e);
      }

  pub touches_nothing : (old new : FilesShown) → new ≡ old → TouchesOnly ins outs old new
  touches_nothing old new e = subst (λ (f : FilesShown). TouchesOnly ins outs old f) (sym e)
      (touches_none old old
      (record {
        openings = refl;
        inputs = λ file. refl;
        outputs = λ file. refl;
        contents =
            record { targets = λ file. refl; contents = λ d. refl; places = places_none old };
        held =
            held_none old;
      }))

  -- one of the inputs was read
  pub touches_input : (file : ℕ) (old new : FilesShown) → ins file → ReadsOnly file old new
      → TouchesOnly ins outs old new
  touches_input file old new own h =
      let c = h.contents in
      record {
        openings = h.openings;
        inputs = λ other no. h.inputs other (λ e. no (subst ins (sym e) own));
        outputs = λ other no. h.outputs other;
        reads = λ other. ⊎_elim
            (λ e. subst (λ i. ReadsGoOn (reads_of old i) (reads_of new i)) (sym e) h.goes_on)
            (λ ne. reads_same (reads_of old other) (reads_of new other)
            (log_of old new other (h.inputs other ne)))
            (cases_eq other file);
        held = h.held;
        in_held = λ other. ⊎_elim
            (λ e. subst (λ i. ReadOnInHeld i old new) (sym e) h.reads)
            (λ ne. in_held_same other old new (log_of old new other (h.inputs other ne)))
            (cases_eq other file);
        writes = λ other. prefix_same (writes_of old other) (writes_of new other)
            (taken_of old new other (h.outputs other));
        targets = c.targets;
        places = c.places;
        untouched = λ d no. c.contents d;
        grown = λ other d t sole. grows_none other old new
            (taken_of old new other (h.outputs other)) (λ e u. c.contents e);
      }

  grows_front : (file : ℕ) (old new : FilesShown) → Grows file old new
      → IsPrefix (writes_of old file) (writes_of new file)
  grows_front file old new g = (g.more, sym g.log)

  -- an output that another write did not touch, and that alone writes to its destination
  other_grows : (file other : ℕ) (d : Destination) (old new : FilesShown) → outs file
      → WritesOnly file old new → (other ≡ file → ⊥) → old.targets other ≡ Some d
      → IsSoleWriter outs old other d → Grows other old new
  other_grows file other d old new own h ne t sole =
      grows_none other old new (taken_of old new other (h.outputs other ne))
      (λ e u. h.others e (λ v. ne (sym (sole file own (v ∙ (sym u ∙ t))))))

  -- one of the outputs was written
  pub touches_output : (file : ℕ) (old new : FilesShown) → outs file → WritesOnly file old new
      → TouchesOnly ins outs old new
  touches_output file old new own h = record {
    openings = h.openings;
    inputs = λ other no. h.inputs other;
    outputs = λ other no. h.outputs other (λ e. no (subst outs (sym e) own));
    reads = λ other. reads_same (reads_of old other) (reads_of new other)
        (log_of old new other (h.inputs other));
    held = h.held;
    in_held = λ other. in_held_same other old new (log_of old new other (h.inputs other));
    writes = λ other. ⊎_elim
        (λ e. subst (λ i. IsPrefix (writes_of old i) (writes_of new i)) (sym e)
        (grows_front file old new h.grows))
        (λ ne. prefix_same (writes_of old other) (writes_of new other)
        (taken_of old new other (h.outputs other ne)))
        (cases_eq other file);
    targets = h.targets;
    places = h.places;
    untouched = λ d no. h.others d (no file own);
    grown = λ other d t sole. ⊎_elim
        (λ e. subst (λ i. Grows i old new) (sym e) h.grows)
        (λ ne. other_grows file other d old new own h ne t sole)
        (cases_eq other file);
  }

  -- one run, and then another
  pub touches_on : (a b c : FilesShown) → TouchesOnly ins outs a b → TouchesOnly ins outs b c
      → TouchesOnly ins outs a c
  touches_on a b c g h = record {
    openings = h.openings ∙ g.openings;
    inputs = λ file no. h.inputs file no ∙ g.inputs file no;
    outputs = λ file no. h.outputs file no ∙ g.outputs file no;
    reads = λ file. reads_on (reads_of a file) (reads_of b file) (reads_of c file) (g.reads file)
        (h.reads file);
    held = held_on a b c g.held h.held;
    in_held = λ file. in_held_on file a b c g.held (g.in_held file) (h.in_held file);
    writes = λ file. prefix_on (writes_of a file) (writes_of b file) (writes_of c file)
        (g.writes file) (h.writes file);
    targets = λ file. h.targets file ∙ g.targets file;
    places = places_on a b c g.places h.places;
    untouched = λ d no. h.untouched d (λ file own t. no file own (sym (g.targets file) ∙ t))
        ∙ g.untouched d no;
    grown = λ file d t sole. grows_on file a b c (g.targets file) (g.grown file d t sole)
        (h.grown file d (g.targets file ∙ t)
        (λ other own u. sole other own (sym (g.targets other) ∙ u)));
  }

-- files among more files
pub touches_more : (ins outs ins' outs' : ℕ → Type 0) (old new : FilesShown)
    → ((file : ℕ) → ins file → ins' file) → ((file : ℕ) → outs file → outs' file) →
    TouchesOnly ins outs old new → TouchesOnly ins' outs' old new
touches_more ins outs ins' outs' old new i o h = record {
  openings = h.openings;
  inputs = λ file no. h.inputs file (λ own. no (i file own));
  outputs = λ file no. h.outputs file (λ own. no (o file own));
  reads = h.reads;
  held = h.held;
  in_held = h.in_held;
  writes = h.writes;
  targets = h.targets;
  places = h.places;
  untouched = λ d no. h.untouched d (λ file own t. no file (o file own) t);
  grown = λ file d t sole. h.grown file d t (λ other own u. sole other (o other own) u);
}
