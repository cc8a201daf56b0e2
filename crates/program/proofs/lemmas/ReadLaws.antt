-- A file that is read piece by piece, and a script that is given.
use Rattle.std.proofs.Common.{◌≡◌, ℕ, ◌≤◌, true, List, [], ◌++◌, length, IsSome, refl, sym, ap, ◌∙◌}
use Rattle.std.proofs.Common.{subst, append_assoc, append-nil}
use Rattle.collector.specs.Files.{FilesShown, ReadLog, ReadsGoOn, ReadsOnly, reads_of}
use Rattle.collector.proofs.Logs.{places_none, places_on}
use Rattle.collector.proofs.TouchLaws.{held_none, held_on, in_held_same, in_held_on}

same_log : (a : ReadLog) → ReadsGoOn a a
same_log a = record { bytes = ([], append-nil a.bytes); ended = λ _. refl }

log_on : (a b c : ReadLog) → ReadsGoOn a b → ReadsGoOn b c → ReadsGoOn a c
log_on a b c g h =
    let front = g.bytes in
    let more = h.bytes in
    record {
      bytes = (
        front.0 ++ more.0,
        sym (append_assoc a.bytes front.0 more.0)
            ∙ (ap (λ (l : List ℕ). l ++ more.0) front.1 ∙ more.1),
      );
      ended = λ e. let same = g.ended e in
          h.ended (subst (λ (l : ReadLog). l.at_end ≡ true) (sym same) e) ∙ same;
    }

-- no log changed
pub reads_none : (file : ℕ) (s : FilesShown) → IsSome (s.inputs file) → ReadsOnly file s s
reads_none file s still = record {
  openings = refl;
  still = still;
  goes_on = same_log (reads_of s file);
  inputs = λ k own. refl;
  outputs = λ k. refl;
  contents = record { targets = λ k. refl; contents = λ d. refl; places = places_none s };
  held = held_none s;
  reads = in_held_same file s s refl;
}

-- one log changed, and again
pub reads_on : (file : ℕ) (a b c : FilesShown) → ReadsOnly file a b → ReadsOnly file b c
    → ReadsOnly file a c
reads_on file a b c h k =
    let before = h.contents in
    let after = k.contents in
    record {
      openings = k.openings ∙ h.openings;
      still = k.still;
      goes_on = log_on (reads_of a file) (reads_of b file) (reads_of c file) h.goes_on k.goes_on;
      inputs = λ f own. k.inputs f own ∙ h.inputs f own;
      outputs = λ f. k.outputs f ∙ h.outputs f;
      contents = record {
        targets = λ f. after.targets f
            ∙ before.targets f;
        contents = λ d. after.contents d
            ∙ before.contents d;
        places = places_on a b c before.places after.places;
      };
      held = held_on a b c h.held k.held;
      reads = in_held_on file a b c h.held h.reads k.reads;
    }

-- these bytes were read, from the first one on
pub record ReadSoFar (file : ℕ) (text : List ℕ) (first now : FilesShown) : Type 0 where
  pub within : length text ≤ 65537
  pub told : (reads_of now file).bytes ≡ text
  pub only : ReadsOnly file first now
  pub failures : now.failures ≡ first.failures
