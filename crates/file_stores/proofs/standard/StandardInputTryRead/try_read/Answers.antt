use Rattle.std.proofs.Common.{◌≡◌, ℕ, ◌<◌, length, take, Option, Some, sym, subst}
use Rattle.std.specs.Io.KnownBytes.{Consumes, IsAtEnd}
use Rattle.std.specs.Io.BufRead.{FillKeeps}
use Rattle.file_stores.specs.inner.Limits.{limited}
use Rattle.file_stores.proofs.lemmas.Limits.{ahead_read}
use Rattle.file_stores.proofs.standard.StandardInputTryRead.try_read.Goals as goal

pub returns-in_ok-fill_buf-in-Some-clause-bytes : goal.returns-in_ok-fill_buf-in-Some-clause-bytes
returns-in_ok-fill_buf-in-Some-clause-bytes g c =
    let shown = c.in_ok-fill_buf-in-Some in
    let old = g.S.Read.remaining c.args.self.now.reader in
    let new = g.S.Read.remaining c.consume.new.self in
    let rested = c.fill_buf.follows.lender-at-none in
    let filled =
    subst (FillKeeps old (g.S.Read.remaining rested) (g.S.BufRead.consumable_len rested))
    shown.was c.fill_buf.follows.holds-at-none in
    let count = c.copy_lines-count.result.0 in
    let copied = c.copy_lines-count.new.into in
    let last = c.lines_after.result in
    subst
    (λ (l : Option ℕ). Consumes (limited l old) (limited (Some last) new) (take count copied)
    × (count ≡ 0 → 0 < length copied → IsAtEnd (limited (Some last) new))) (sym c.in-Some.is)
    (ahead_read shown.field-0.now c.args.into.now copied c.in-Some.lines count
    c.copy_lines-count.result.1 last old (g.S.Read.remaining rested) new
    (g.S.BufRead.consumable_len rested) c.copy_lines-count.ensures shown.ensures.front
    shown.ensures.end filled.0 filled.1 c.consume.ensures.bytes c.lines_after.ensures)
