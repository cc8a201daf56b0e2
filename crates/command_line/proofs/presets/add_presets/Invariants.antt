use Rattle.std.proofs.Common.{◌≡◌, ◌++◌, drop, map, not, string_bytes}
use Rattle.std.specs.List.{filter, find}
use Rattle.command_line.specs.Presets.{bytes_of_texts, is_given_too, is_preset, words_of}
use Rattle.command_line.specs.Words.{text_of_bytes}
use Rattle.command_line.proofs.presets.add_presets.Given as goal

abbrev pub invariant-loop-preset : goal.invariant-loop-preset
invariant-loop-preset l = record {
  added : bytes_of_texts l.words.items
      ++ filter (λ word. not (is_given_too (map (λ word. word.items) l.given) word))
      (map (λ word. word.now) (drop l.preset-index l.preset-items))
      ≡ bytes_of_texts l.fn.words.items
      ++ filter (λ word. not (is_given_too (map (λ word. word.items) l.given) word))
      (words_of l.options);
  texts : map (λ word. string_bytes word) l.words.items
      ++ map text_of_bytes
      (filter (λ word. not (is_given_too (map (λ word. word.items) l.given) word))
      (map (λ word. word.now) (drop l.preset-index l.preset-items)))
      ≡ map (λ word. string_bytes word) l.fn.words.items
      ++ map text_of_bytes
      (filter (λ word. not (is_given_too (map (λ word. word.items) l.given) word))
      (words_of l.options));
  known : find (λ word. not (is_preset word))
      (map (λ word. word.now) (drop l.preset-index l.preset-items))
      ≡ find (λ word. not (is_preset word)) (words_of l.options);
}
