use Rattle.std.proofs.Common.{◌≡◌, ◌==◌, ◌&&◌, ℕ, length}
use Rattle.std.specs.List.{list_any}
use Rattle.tr_words.specs.Expansions.{is_other}
use Rattle.tr_words.specs.declared.class.Class.{Class}
use Rattle.tr_words.proofs.expansion.has_other.Given as goal

abbrev pub invariant-classes : goal.invariant-classes
invariant-classes l =
    let p = λ (q : ℕ × Class). (q.0 == l.place) && is_other q.1 l.class in
    list_any p l.rest ≡ list_any p l.first

abbrev pub decreases-classes : goal.decreases-classes
decreases-classes l = length l.rest
