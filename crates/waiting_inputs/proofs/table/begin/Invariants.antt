use Rattle.waiting_inputs.proofs.table.begin.Given as goal

-- the bytes that the file has left
abbrev pub ghosts-ends : goal.ghosts-ends
ghosts-ends g a = record { bytes = g.F.Read.remaining a.file.now }
