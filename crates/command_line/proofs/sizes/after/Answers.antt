use Rattle.command_line.proofs.lemmas.Sizes.{after_by}
use Rattle.command_line.proofs.sizes.after.Goals as goal

pub returns : goal.returns
returns c = after_by c.args.start.now c.args.word.now c.strip_prefix.result
    c.strip_prefix.ensures.cases
