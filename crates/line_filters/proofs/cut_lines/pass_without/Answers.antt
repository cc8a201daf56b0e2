use Rattle.std.proofs.Common.{◌+◌, refl}
use Rattle.line_filters.proofs.lemmas.WholeLaws.{several_without}
use Rattle.line_filters.proofs.cut_lines.pass_without.Goals as goal

pub returns-clause-passed : goal.returns-clause-passed
returns-clause-passed c =
    several_without c.args.ends.now c.pass_several.new.self c.args.contents.now c.part-next.result
    c.args.at (c.args.at + c.min.result) c.args.len c.min.result c.pass_several.result
    c.requires.bytes c.requires.from.0 c.requires.len c.requires.from.1 c.min.ensures refl
    c.part-next.ensures.part
    (c.is_without.ensures c.if-not-is_without-2.false) c.pass_several.ensures
