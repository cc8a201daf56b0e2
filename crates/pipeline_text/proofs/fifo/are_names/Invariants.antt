use Rattle.std.proofs.Common.{◌≡◌, length}
use Rattle.std.specs.List.{list_all}
use Rattle.pipeline_text.specs.Grammar.{is_name}
use Rattle.pipeline_text.proofs.fifo.are_names.Given as goal

abbrev pub invariant-names : goal.invariant-names
invariant-names l = list_all is_name l.rest ≡ list_all is_name l.names

abbrev pub decreases-names : goal.decreases-names
decreases-names l = length l.rest
