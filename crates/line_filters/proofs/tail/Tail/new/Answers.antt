use Rattle.line_filters.specs.KeptParts.{kept_bytes}
use Rattle.line_filters.proofs.lemmas.TailLaws.{tail_new_open}
use Rattle.line_filters.proofs.lemmas.KeptLaws.{few_none}
use Rattle.line_filters.proofs.tail.Tail.new.Goals as goal

pub returns : goal.returns
returns c =
    tail_new_open c.new.result.present c.new.result.closed c.args.spec.now.counted
    c.new-2.result.counted c.args.spec.now.origin c.args.spec.now.count c.first_left.result
    (kept_bytes c.new-2.result.full.items c.new-2.result.last) c.args.inputs.now
    c.new.ensures.open c.requires c.new-2.ensures.counted c.first_left.ensures
    c.new-2.ensures.none c.new.ensures.present

pub invariant_of-result : goal.invariant_of-result
invariant_of-result c =
    let k = c.new-2.result in
    record {
      few = λ _. few_none k.counted k.full.items k.last c.first_left.result
          c.new-2.ensures.none;
      none = λ _. c.new-2.ensures.none;
    }
