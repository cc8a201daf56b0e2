-- Outputs of which nothing is out.
use Rattle.std.proofs.Common.{◌≡◌, ℕ, List, [], ◌++◌, Option, Some, None, unwrap_or, refl, sym, ap}
use Rattle.std.proofs.Common.{◌∙◌, append-nil}
use Rattle.std.specs.Option.{option_map}
use Rattle.std.specs.Prelude.{slice_get, IsSome}
use Rattle.collector.specs.Files.{WriteLog, WritesOnly, SettlesAll, log_of, nothing_written}
use Rattle.collector.specs.Files.{out_of}
use Rattle.collector.proofs.Logs.{writes_none}
use Rattle.file_stores.specs.inner.Memory.{MemoryShown, shown_files}
use Rattle.file_stores.specs.inner.Opened.{OpenedOutput, written_log}

out_none : {A : Type 0} (f : A → List ℕ) (o : Option A)
    → (unwrap_or (option_map (λ a. written_log (f a)) o) nothing_written).out ≡ []
out_none f None = refl
out_none f (Some a) = refl

-- nothing is out of files in memory
pub memory_out : (m : MemoryShown) (file : ℕ) → out_of (shown_files m) file ≡ []
memory_out m file = out_none (λ (o : OpenedOutput). o.taken) (slice_get m.outputs file)

-- so there is nothing to settle
settles_none : (log : WriteLog) → log.out ≡ [] → SettlesAll log log
settles_none log none = sym (
    ap (λ (l : List ℕ). record { bytes = log.bytes ++ l; out = [] }) none
    ∙ ap (λ (l : List ℕ). record { bytes = l; out = [] }) (append-nil log.bytes)
    ∙ ap (λ (l : List ℕ). record { bytes = log.bytes; out = l }) (sym none)
    )

pub memory_settles : (m : MemoryShown) (file : ℕ)
    → SettlesAll (log_of (shown_files m) file) (log_of (shown_files m) file)
memory_settles m file = settles_none (log_of (shown_files m) file) (memory_out m file)

pub memory_stays : (m : MemoryShown) (file : ℕ) → IsSome ((shown_files m).outputs file)
    → WritesOnly file (shown_files m) (shown_files m)
memory_stays m file open_ = writes_none file (shown_files m) open_
