use Rattle.std.proofs.Common.{refl}
use Rattle.pair_filters.proofs.lemmas.NewLaws.{missing_is}
use Rattle.pair_filters.proofs.paste.is_some_missing.Goals as goal

pub returns : goal.returns
returns c = λ ys. missing_is _ refl refl c.contains.result c.args.inputs.now ys
    c.contains.ensures.value
