use Rattle.std.proofs.Common.{refl}
use Rattle.tr_words.specs.Classes.{all_bytes}
use Rattle.shards.proofs.additions.marks.Goals as goal

pub returns : goal.returns
unfolding all_bytes
returns c = refl
