use Rattle.collector.specs.Files.{batch_bytes}
use Rattle.waiting_outputs.proofs.thread.hand.Given as goal

-- what the file holds, and the piece
abbrev pub ghosts-ends : goal.ghosts-ends
ghosts-ends g a = record { debt = record { before = g.F.Write.contents a.file.now; bytes = batch_bytes a.batch.now } }
