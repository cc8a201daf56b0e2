use Rattle.std.proofs.Common.{◌-◌, length}
use Rattle.commands.specs.declared.tail_words.Counted.TheVariants.{Lines, Bytes}
use Rattle.line_filters.proofs.lemmas.TailLaws.{skip_lines, skip_all_bytes, skips_as}
use Rattle.line_filters.proofs.skipping.skip_to.Goals as goal

pub returns-in-Lines : goal.returns-in-Lines
returns-in-Lines c =
    skips_as c.args.counted Lines c.args.bytes.now c.args.n c.front_lines.result.0
    c.front_lines.result.1 c.in-Lines.is
    (skip_lines c.args.bytes.now c.args.n c.front_lines.result.0 c.front_lines.result.1
    c.front_lines.ensures)

pub returns-else-n-length : goal.returns-else-n-length
returns-else-n-length c =
    skips_as c.args.counted Bytes c.args.bytes.now c.args.n (length c.args.bytes.now)
    (c.args.n - length c.args.bytes.now) c.in-Bytes.is
    (skip_all_bytes c.args.bytes.now c.args.n c.if-n-length.false)
