use Rattle.bounded_pipe.proofs.Records.{beside_consistent, sees_full, full_once_noted}
use Rattle.bounded_pipe.proofs.laws.beside_each_other.Goals as goal

pub returns-clause-consistent : goal.returns-clause-consistent
returns-clause-consistent c = beside_consistent

pub returns-clause-full : goal.returns-clause-full
returns-clause-full c = sees_full

pub returns-clause-full_once_noted : goal.returns-clause-full_once_noted
returns-clause-full_once_noted c = full_once_noted
