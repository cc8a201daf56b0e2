use Rattle.pair_filters.proofs.lemmas.WantLaws.{pastes_want_open_cells}
use Rattle.pair_filters.proofs.paste_laws.pastes_want_open_cells.Goals as goal

pub returns : goal.returns
returns c = pastes_want_open_cells
