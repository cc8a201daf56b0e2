use Rattle.std.proofs.Common.{◌∙◌, List, Some, not, ap, take, drop, arith}
use Rattle.lanes.specs.inner.Gathers.{singled}
use Rattle.lanes.specs.Spans.{in_spans}
use Rattle.lanes.specs.declared.span.Span.{Span}
use Rattle.tr_filter.proofs.lemmas.PressLaws.{chunk_singled}
use Rattle.tr_filter.proofs.squeezing.few_squeezed.Goals as goal

pub returns-clause-left : goal.returns-clause-left
returns-clause-left c =
    let s = c.args.squeezing.now in
    let bytes = c.args.bytes.now in
    let left = c.in_ok-count.ensures.left in
    let gone = not c.stays-gone.result in (
      left.0,
      chunk_singled (Some s.set) s.spans bytes c.single_chunk.new.few c.args.at c.in_ok-count.count
          c.args.last gone (s.same c.if-not-squeezing.false)
          (omega (arith, c.requires.bytes))
          (λ k. (c.type_inv.bytes k).fits)
          (ap not c.stays-gone.ensures)
          (left.1
          ∙ ap (λ (z : List Span). singled (in_spans z) gone (take 64 (drop c.args.at bytes)))
          c.all.ensures),
    )
