-- The moments of a folder in memory are counted.
use Rattle.std.specs.Prelude.{List, [], ◌∷◌}
use mathlib.Core.Logic.{inl}
use Rattle.folders.specs.inner.Folder.{FolderShown, CountsMoments}
use Rattle.folders.specs.inner.Memory.{after, empty, played, shown_by}
use Rattle.folders.specs.declared.call.FolderCall.{FolderCall}
use Rattle.folders.specs.declared.memory.MemoryFolder.{MemoryFolder}
use Rattle.std.proofs.Common.{refl, ⊎_elim, arith}

counts_after : (call : FolderCall) (s : FolderShown) → CountsMoments s → CountsMoments (after call s)
counts_after call s counts = record {
  counts_seen = λ t le. inl (λ n. refl);
  counts_left = λ t n c le now. inl now;
  only_seen = λ v. ⊎_elim (λ shows. shows) (λ past. absurd (omega (arith, past.0)));
  only_left = λ n c. ⊎_elim (λ now. now) (λ past. absurd (omega (arith, past.0)));
}

counts_empty : CountsMoments empty
counts_empty = record {
  counts_seen = λ t le n. refl;
  counts_left = λ t n c le now. now;
  only_seen = λ v shows. shows;
  only_left = λ n c now. now;
}

counts_played : (calls : List FolderCall) (s : FolderShown) → CountsMoments s → CountsMoments (played calls s)
counts_played [] s counts = counts
counts_played (call ∷ calls) s counts = counts_played calls (after call s) (counts_after call s counts)

pub counts_moments : (m : MemoryFolder) → CountsMoments (shown_by m)
counts_moments m =
    let counts = counts_played m.calls.items empty counts_empty in record {
      counts_seen = counts.counts_seen;
      counts_left = counts.counts_left;
      only_seen = counts.only_seen;
      only_left = counts.only_left;
    }
