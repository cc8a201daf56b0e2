use Rattle.byte_filters.proofs.laws.folds_keep_two_segments.Goals as goal

pub returns : goal.returns
returns c = λ m. (m.segment, m.half)
