use Rattle.std.proofs.Common.{◌∙◌, [], arith}
use Rattle.commands.proofs.lemmas.UniqFileLaws.{two_files}
use Rattle.commands.proofs.uniq_words.read_files.Goals as goal

pub returns : goal.returns
returns c =
    let v = c.into_vec-names.result in
    two_files c.args.operands v.items c.from_vec-2.result c.pop.result c.output_of-output.result
    v.len c.into_vec-names.ensures (omega (arith, v.ok)) (omega (arith, c.len-2.ensures))
    (omega (arith, c.len.ensures)) (c.from_vec-2.ensures ∙ c.pop.ensures.rest)
    (c.pop.ensures.value [] (omega (arith, c.len-2.ensures))) c.output_of-output.ensures
