-- The files of the host. What the files of their names hold is not told: they show what was opened,
-- what the reads returned and the writes took, and what failed.
use Rattle.std.specs.Prelude.{ℕ, Bool, List, None, slice_get, unwrap_or}
use Rattle.std.specs.Option.{option_map}
use Rattle.collector.specs.Files.{FilesShown, ReadLog, WriteLog, nothing_read}
use Rattle.held_outputs.specs.inner.Holding.{HoldingShown}
use Rattle.collector.specs.declared.needed.LeftOut.{LeftOut}
use Rattle.collector.specs.declared.needed.LeftOut.TheVariants.{Nothing}
use Rattle.collector.specs.declared.names.Opening.{Opening}

-- an open input: what its reads returned, and whether a front of it was left out
pub record HostInputShown : Type 0 where
  pub log : ReadLog
  pub left : LeftOut

-- nothing was read of an input, and nothing was left out
abbrev pub opened_now : HostInputShown
opened_now = record { log = nothing_read; left = Nothing }

-- an open output: what its writes took, and what is out
pub record HostOutputShown : Type 0 where
  pub log : WriteLog

-- the openings so far, each open input, each open output, the failures, whether outputs are held
-- back, and the new files of those that are
pub record HostShown (D : Type 0) : Type 0 where
  pub openings : List Opening
  pub inputs : List HostInputShown
  pub outputs : List HostOutputShown
  pub failures : ℕ
  pub held_back : Bool
  pub holding : HoldingShown D

-- what the files of the host show, as any files do
abbrev pub shown_host : {D : Type 0} → HostShown D → FilesShown
shown_host h = record {
  openings = h.openings;
  inputs = λ file. option_map (λ i. i.log) (slice_get h.inputs file);
  outputs = λ file. option_map (λ o. o.log) (slice_get h.outputs file);
  targets = λ file. None;
  contents = λ d. None;
  standard_input = None;
  held = λ file. None;
  left_out = λ file. unwrap_or (option_map (λ i. i.left) (slice_get h.inputs file)) Nothing;
  failures = h.failures;
  held_back = h.held_back;
  in_place = λ name. None;
}
