use Rattle.std.proofs.Common.{Bool, Global, List, Vec, ℕ, map, not, rules, string_bytes}
use Rattle.std.specs.List.{filter}
use Rattle.command_line.specs.inner.Unknown.{IsFirstUnknown}
use Rattle.command_line.specs.Presets.{Word, bytes_of_texts, is_given_too, words_of}
use Rattle.command_line.specs.Words.{text_of_bytes}
use Rattle.command_line.proofs.lemmas.Presets.{filter_cons, kept_step, known_step, made_cons}
use Rattle.command_line.proofs.lemmas.Presets.{unknown_here}
use Rattle.command_line.proofs.presets.add_presets.Goals as goal

-- the given words do not give the option of a word
abbrev is_kept : List (Vec ℕ Global) → Word → Bool
is_kept given word = not (is_given_too (map (λ word. word.items) given) word)

pub returns-in_err-add_preset-clause-refused : goal.returns-in_err-add_preset-clause-refused
returns-in_err-add_preset-clause-refused c =
    let first : IsFirstUnknown (words_of c.args.options.now) c.in_err-add_preset.field-0.0 =
    unknown_here (words_of c.args.options.now) c.as_slice-preset-items.result.now
    c.loop-preset.preset-index _ c.loop-preset-test.true
    c.loop-preset.invariant.known c.in_err-add_preset.field-0.0
    c.in_err-add_preset.ensures.refused in
    search rules

pub loop-preset-preserved : goal.loop-preset-preserved
loop-preset-preserved c = record {
  added = kept_step (filter (is_kept c.args.given.now)) (filter_cons (is_kept c.args.given.now))
      (bytes_of_texts c.loop-preset.words.items) _ _ c.as_slice-preset-items.result.now
      c.loop-preset.preset-index _ c.loop-preset-test.true
      c.loop-preset.invariant.added c.in_ok-add_preset.ensures.added;
  texts = kept_step (λ words. map text_of_bytes (filter (is_kept c.args.given.now) words))
      (made_cons text_of_bytes (is_kept c.args.given.now))
      (map (λ word. string_bytes word) c.loop-preset.words.items) _ _
      c.as_slice-preset-items.result.now c.loop-preset.preset-index _ c.loop-preset-test.true
      c.loop-preset.invariant.texts c.in_ok-add_preset.ensures.texts;
  known = known_step (words_of c.args.options.now) c.as_slice-preset-items.result.now
      c.loop-preset.preset-index _ c.loop-preset-test.true
      c.loop-preset.invariant.known c.in_ok-add_preset.ensures.known;
}
