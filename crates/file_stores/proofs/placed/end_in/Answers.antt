use Rattle.std.proofs.Common.{ℕ, ◌≡◌, ◌∙◌, IfSome, length, ap, sym, subst, ◌-◌}
use Rattle.std.specs.Prelude.{max}
use Rattle.collector.specs.declared.needed.NeededEnd.{NeededEnd}
use Rattle.file_stores.specs.inner.Placed.{HasEndAt}
use Rattle.file_stores.proofs.lemmas.PlacedLaws.{bytes_in_file}
use Rattle.file_stores.proofs.placed.end_in.Goals as goal

pub returns-in-Bytes : goal.returns-in-Bytes
returns-in-Bytes g c =
    let file = g.F.AnyPlace.placed c.args.file.now in
    subst (λ (k : ℕ). IfSome file (λ p. c.args.first ≡ p.at → c.args.size ≡ length p.bytes
    → HasEndAt c.args.needed p k))
    (sym (c.max.ensures ∙ ap (max c.args.first) c.saturating_sub.ensures))
    (subst (λ (n : NeededEnd). IfSome file (λ p. c.args.first ≡ p.at → c.args.size ≡ length p.bytes
    → HasEndAt n p (max c.args.first (c.args.size - c.in-Bytes.count)))) (sym c.in-Bytes.is)
    (bytes_in_file file c.in-Bytes.count c.args.first c.args.size c.requires))
