use Rattle.std.proofs.Common.{◌≡◌, take, map}
use Rattle.std.specs.List.{enumerate_from}
use Rattle.commands.specs.PasteWords.{column, first_standard, own_names}
use Rattle.commands.proofs.paste_words.name_inputs.Given as goal

abbrev pub invariant-loop-p : goal.invariant-loop-p
invariant-loop-p l =
    record {
      names : l.names.items ≡ own_names (first_standard l.operands)
          (take l.p l.operands);
      columns : l.columns.items
          ≡ map (column l.operands) (enumerate_from 0 (take l.p l.operands));
    }
