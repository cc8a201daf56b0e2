-- An output of which nothing is out any more: the words of a contract that is not public.
use Rattle.std.specs.Prelude.{◌≡◌, ◌⊎◌, ℕ, [], IsSome}
use Rattle.collector.specs.Files.{FilesShown, SettlesSome, WritesOnly, log_of, one_more, out_of}

-- All that was out of this output is written, or the first bytes of it are, and the write of the
-- others failed. If nothing was out, nothing happened.
pub record SettlesFile (file : ℕ) (old new : FilesShown) : Type 0 where
  pub only : IsSome (old.outputs file) → WritesOnly file old new
  pub log : SettlesSome (log_of old file) (log_of new file)
  pub idle : out_of old file ≡ [] → new ≡ old
  pub failures : (new.failures ≡ old.failures) ⊎ (new.failures ≡ one_more old.failures)
