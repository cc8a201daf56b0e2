use Rattle.std.proofs.Common.{rules, string_bytes, tests}
use Rattle.std.proofs.lemmas.Iterator.{YieldsList-from_slice, YieldsList-from_map_by}
use Rattle.std.proofs.lemmas.Iterator.Consumers.{map_from_collect}
use Rattle.command_line.proofs.presets.ProcessWords.texts.Goals as goal

pub returns : goal.returns
returns c = map_from_collect _ c.collect.ensures.ran
    (YieldsList-from_map_by _ (λ text. text.now) (λ word. string_bytes word)
    (YieldsList-from_slice c.args.self.now.words.items (cc)) c.map.ensures.closure
    (λ x r q k. search (rules, tests)))
