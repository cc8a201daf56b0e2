-- The names that were found. No public contract cites this file.
use Rattle.std.specs.Prelude.{ℕ, List, Option, Some, None}
use Rattle.std.specs.Borrow.{Bor}

abbrev pub names_in : Option (Bor (List (List ℕ))) → Option (List (List ℕ))
names_in None = None
names_in (Some names) = Some names.now
