use Rattle.std.proofs.Common.{◌≡◌, ◌++◌, drop, map, string_bytes}
use Rattle.command_line.specs.Presets.{bytes_of_texts}
use Rattle.command_line.specs.Words.{text_of_bytes}
use Rattle.command_line.proofs.presets.add_words.Given as goal

abbrev pub invariant-loop-word : goal.invariant-loop-word
invariant-loop-word l = record {
  added : bytes_of_texts l.words.items ++ map (λ word. word.items) (drop l.word-index l.given)
      ≡ bytes_of_texts l.fn.words.items ++ map (λ word. word.items) l.given;
  texts : map (λ word. string_bytes word) l.words.items ++ map text_of_bytes
      (map (λ word. word.items) (drop l.word-index l.given))
      ≡ map (λ word. string_bytes word) l.fn.words.items ++ map text_of_bytes
      (map (λ word. word.items) l.given);
}
