-- The work of a thread of a run, as contracts see it.
use Rattle.std.specs.Prelude.{ℕ, List, Option, None}
use Rattle.file_stores.specs.declared.served.Work.{Work}
use Rattle.file_stores.specs.declared.served.Work.TheVariants.{Reads, Writes}

-- What an input has left, if a thread reads it. How often a thread that writes will have answered is
-- not known.
abbrev pub left_of_work : {F W : Type 0} → (F → Option (List ℕ)) → Work F W → Option (List ℕ)
left_of_work remaining (Reads file) = remaining file
left_of_work remaining (Writes answered) = None
