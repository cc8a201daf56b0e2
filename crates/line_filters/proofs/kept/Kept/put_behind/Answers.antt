use Rattle.std.proofs.Common.{◌≡◌, ◌∙◌, ◌++◌, ◌∷◌, [], ap, subst, List}
use Rattle.std.specs.List.{All}
use Rattle.std.proofs.lemmas.List.Elements.{All-tail}
use Rattle.machine.specs.Pieces.{contents}
use Rattle.line_filters.specs.declared.held.Held.{Held}
use Rattle.line_filters.specs.KeptParts.{amount_of, kept_bytes}
use Rattle.line_filters.specs.Skips.{skipped}
use Rattle.line_filters.proofs.lemmas.TailLaws.{puts_on}
use Rattle.line_filters.proofs.kept.Kept.put_behind.Goals as goal

pub loop-held-preserved : goal.loop-held-preserved
loop-held-preserved c =
    let k = c.args.self in
    let l = c.loop-held in
    let held = c.in-Some.held in
    let later = c.pop_front.new.self.items in
    let split : l.full.items ≡ held ∷ later = c.in-Some.ensures.items in
    let all = contents c.args.out.now ++ skipped k.counted c.args.skip
    (kept_bytes k.full.items k.last) in
    record {
      put = puts_on k.counted l.left c.in_ok-left.left held.bytes.items
          (kept_bytes later k.last) all l.out c.put_behind.new.out
          (l.invariant.put
          ∙ ap (λ (x : List Held). contents l.out ++ skipped k.counted l.left
          (kept_bytes x k.last)) split) c.in_ok-left.ensures.ok;
      each = All-tail (λ (h : Held). h.amount ≡ amount_of k.counted h.bytes.items) held
          (later ++ k.last ∷ [])
          (subst (λ (x : List Held). All (λ (h : Held). h.amount
          ≡ amount_of k.counted h.bytes.items) (x ++ k.last ∷ [])) split l.invariant.each);
      block = c.in_ok-left.ensures.block ∙ l.invariant.block;
    }
