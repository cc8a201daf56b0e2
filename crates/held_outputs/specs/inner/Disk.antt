-- Calls of a folder that touch no name, and a folder of which contracts know nothing.
use Rattle.std.specs.Prelude.{◌≡◌, ℕ, List, None, [], ⊤, refl}
use Rattle.folders.specs.inner.Folder.{FolderShown, CountsMoments, Keeps, Looks, Loses, Shows}

-- All looks the same, at each moment, and a power loss leaves what it could leave. No call failed.
pub record TouchesNothing (old new : FolderShown) : Type 0 where
  pub keeps : Keeps old new
  pub looks : Looks (Shows old.seen) old new
  pub loses : Loses old new
  pub failures : new.failures ≡ old.failures

-- The folders of the system show nothing to contracts: this is said of them, and nothing follows.
abbrev pub nothing_known : FolderShown
nothing_known = record {
  seen = λ n. None;
  may_hold = λ n c. ⊤;
  bytes_of = λ n b. ⊤;
  moment = 0;
  seen_since = λ t view. (n : List ℕ) → view n ≡ None;
  left_since = λ t n c. ⊤;
  failures = record { refused = []; no_memory = 0 };
}

-- its moments are counted, as the trait asks
abbrev pub nothing_counts : CountsMoments nothing_known
nothing_counts = record {
  counts_seen = λ t le n. refl;
  counts_left = λ t n c le may. may;
  only_seen = λ found seen n. seen n;
  only_left = λ n c left. left;
}
