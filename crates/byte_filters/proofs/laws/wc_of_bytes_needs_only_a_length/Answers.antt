use Rattle.byte_filters.proofs.lemmas.ByteLaws.{bytes_need_a_length}
use Rattle.byte_filters.proofs.laws.wc_of_bytes_needs_only_a_length.Goals as goal

pub returns : goal.returns
returns c = bytes_need_a_length
