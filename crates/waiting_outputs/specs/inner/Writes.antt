-- Pieces that are handed over to be written by another thread (POSIX.1-2017 XSH write).
use Rattle.std.specs.Prelude.{◌≡◌, ℕ, ◌≤◌, List, ◌++◌, length, take, Option, None}
use Rattle.std.specs.Io.KnownBytes.{Appends}
use Rattle.collector.specs.Files.{batch_bytes}
use Rattle.collector.specs.declared.batch.Batch.{Batch}
use Rattle.waiting_outputs.specs.declared.done.Done.{Done}
use Rattle.waiting_outputs.specs.declared.output.Answer.{Answer}
use Rattle.waiting_outputs.specs.inner.Outputs.{OutputShown}

-- what is owed an answer: what the file held before, where that is known, and the piece that was
-- handed over
pub record Owed : Type 0 where
  pub before : Option (List ℕ)
  pub bytes : List ℕ

-- a task for a thread: what it owes an answer, and the bytes that it is to write
pub record Tasked : Type 0 where
  pub owed : Owed
  pub batch : Batch

-- The answer to what is owed: that piece came back, and that file, which took the first `count`
-- bytes of it after what it held, each once; all of them unless a write failed.
pub record IsAnswer {F : Type 0} (contents : F → Option (List ℕ)) (done : Done F) (owed : Owed) :
    Type 0 where
  pub count : done.count ≤ length owed.bytes
  pub written : Appends owed.before (contents done.file) (take done.count owed.bytes)
  pub whole : done.error ≡ None → done.count ≡ length owed.bytes
  pub batch : batch_bytes done.batch ≡ owed.bytes

-- An answer was taken: the file holds, after what it held, the bytes of the piece that are counted
-- now, each once; those are all of it unless a write failed.
pub record TakesAnswer (answer : Answer) (old new : OutputShown) : Type 0 where
  pub count : answer.count ≤ length old.out
  pub taken : new.taken ≡ old.taken ++ take answer.count old.out
  pub written : Appends old.holds new.holds (take answer.count old.out)
  pub whole : answer.error ≡ None → answer.count ≡ length old.out
