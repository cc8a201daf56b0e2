use Rattle.openings.proofs.lemmas.DestinationLaws.{refused_is_kept}
use Rattle.openings.proofs.laws.a_refused_output_keeps_its_file.Goals as goal

pub returns : goal.returns
returns c = refused_is_kept
