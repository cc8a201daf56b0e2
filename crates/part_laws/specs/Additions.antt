-- Commands that are added to those of a script, each as the filter that its words mean (POSIX.1-2017
-- XCU tr, DESCRIPTION and OPTIONS).
use Rattle.std.specs.Prelude.{ℕ, Bool, not, ◌==◌, List, Some, None, map, if◌then◌else◌}
use Rattle.command_words.specs.Bytes.{is_space}
use Rattle.commands.specs.declared.spec.FilterSpec.{FilterSpec}
use Rattle.commands.specs.declared.spec.FilterSpec.TheVariants as spec
use Rattle.machine.specs.Lines.{newline}
use Rattle.tr_words.specs.Classes.{all_bytes}
use Rattle.tr_words.specs.declared.tr_words.TrSpec.{TrSpec}
use Rattle.part_laws.specs.declared.manner.Addition.{Addition}
use Rattle.part_laws.specs.declared.manner.Addition.TheVariants.{KeepNewlines, MarkWords, Squeeze}

-- the set of the bytes of which this is true
abbrev pub set_where : (ℕ → Bool) → List Bool
set_where is = map is all_bytes

-- the byte that marks a word: `x`
abbrev pub mark : ℕ
mark = 120

-- `tr -cd '\n'` deletes all bytes but newlines
abbrev pub keeps_newlines_alone : TrSpec
keeps_newlines_alone = record {
  table = all_bytes;
  deleted = Some (set_where (λ b. not (b == newline)));
  squeezed = None;
}

-- `tr -cs '[:space:]' '[x*]'` replaces all bytes of a word by one mark
abbrev pub marks_words : TrSpec
marks_words = record {
  table = map (λ b. if is_space b then b else mark) all_bytes;
  deleted = None;
  squeezed = Some (set_where (λ b. b == mark));
}

-- `tr -s` with one byte squeezes runs of that byte
abbrev pub squeezes_byte : ℕ → TrSpec
squeezes_byte byte = record {
  table = all_bytes;
  deleted = None;
  squeezed = Some (set_where (λ b. b == byte));
}

-- the filter of an added command
abbrev pub addition : Addition → FilterSpec
addition KeepNewlines = spec.Tr keeps_newlines_alone
addition MarkWords = spec.Tr marks_words
addition (Squeeze byte) = spec.Tr (squeezes_byte byte)
