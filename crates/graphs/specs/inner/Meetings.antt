-- Writers and readers that share a channel, as the commands that open one FIFO do, or those at both
-- ends of a pipe (POSIX.1-2017 XCU 2.9.2).
use Rattle.std.specs.Prelude.{ℕ, List, None, slice_index_or}
use Rattle.std.specs.List.{Contains}
use Rattle.std.specs.Option.{option_to_list}
use Rattle.graphs.specs.inner.Rows.{links_at}
use Rattle.graphs.specs.declared.pairs.Readers.{Readers}
use Rattle.graphs.specs.declared.pairs.Readers.TheVariants.{Single, Rows}

-- s writes to a channel, and t reads it; each pair has a channel and a thing
abbrev pub Meet : List (ℕ × ℕ) → List (ℕ × ℕ) → ℕ → ℕ → Type 0
Meet writers readers s t = (c : ℕ) × Contains writers (c, s) × Contains readers (c, t)

-- those that read a channel
abbrev pub readers_of : Readers → ℕ → List ℕ
readers_of (Single single) k = option_to_list (slice_index_or single.items k None)
readers_of (Rows rows) k = links_at rows.items k
