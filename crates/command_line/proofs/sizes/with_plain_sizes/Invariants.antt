use Rattle.std.proofs.Common.{◌≡◌, ◌++◌, drop, map, string_bytes}
use Rattle.command_line.specs.Sizes.{with_plain_sizes_from, with_plain_sizes}
use Rattle.command_line.proofs.sizes.with_plain_sizes.Given as goal

abbrev pub invariant-loop-word : goal.invariant-loop-word
invariant-loop-word l = map (λ word. string_bytes word) l.whole.items
    ++ with_plain_sizes_from l.place (map (λ word. string_bytes word) (drop l.word-index l.words))
    ≡ with_plain_sizes (map (λ word. string_bytes word) l.words)
