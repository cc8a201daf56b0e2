-- What has been done when a loop over outputs has come so far.
use Rattle.std.proofs.Common.{◌≡◌, ◌≢◌, ℕ, ◌+◌, List, take, Some, refl, ◌∙◌, arith}
use Rattle.std.specs.Prelude.{slice_get}
use Rattle.folders.specs.inner.Folder.{FolderShown, CountsMoments, Touches, Keeps, IsElsewhere, Looks, Loses, IsStored, LeavesAlone}
use Rattle.folders.specs.inner.Outputs.{IsNoNew, AllStored}
use Rattle.folders.specs.declared.output.Output.{Output}
use Rattle.folders.proofs.Alone.{keeps_none, keeps_more, stored_kept, alone_none, alone_more}
use Rattle.folders.proofs.Lists.{all_at, all_more, all_map}

-- this many of the new files are stored, and nothing else has changed
pub record StoredSoFar (os : List Output) (i : ℕ) (s0 s : FolderShown) : Type 0 where
  pub stored : AllStored (take i os) s
  pub keeps : Keeps s0 s
  pub others : LeavesAlone (IsNoNew os) s0 s
  pub failures : s.failures ≡ s0.failures

pub stored_none : (os : List Output) (s : FolderShown) → CountsMoments s → StoredSoFar os 0 s s
stored_none os s counts = record {
  stored = λ k d within. absurd (omega (arith, within));
  keeps = keeps_none s;
  others = alone_none (IsNoNew os) s counts;
  failures = refl;
}

pub stored_more : (os : List Output) (i : ℕ) (o : Output) (s0 s s' : FolderShown) → slice_get os i ≡ Some o → CountsMoments s
    → StoredSoFar os i s0 s → IsStored o.new s' → Keeps s s' → Touches o.new s s' → Looks (IsElsewhere o.new s.seen) s s' → Loses s s'
    → s'.failures ≡ s.failures → StoredSoFar os (i + 1) s0 s'
stored_more os i o s0 s s' at counts so_far stored keeps touches looks loses failures = record {
  stored = all_more (λ p. IsStored p.new s') os i o at (all_map (take i os) (λ p was. stored_kept keeps p.new was) so_far.stored) stored;
  keeps = keeps_more so_far.keeps keeps;
  others = alone_more counts so_far.others touches looks loses (λ n none. all_at (λ p. n ≢ p.new) os i o at none);
  failures = failures ∙ so_far.failures;
}
