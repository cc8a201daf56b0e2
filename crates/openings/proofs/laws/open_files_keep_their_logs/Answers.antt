use Rattle.openings.proofs.lemmas.MoreOpenings.{logs_kept}
use Rattle.openings.proofs.laws.open_files_keep_their_logs.Goals as goal

pub returns : goal.returns
returns c = logs_kept
